-- Served turns that have their positions on the uncut run: joined, their quanta, and their steps. Those are no more than the distance, and exactly the
-- distance where no threshold was sent.
use Prim.Native.Nat.{ℕ, ◌+◌, ◌≤◌}
use native.Mathlib.Omega.{arith}
use mathlib.Core.Path.{◌≡◌, sym, subst}
use mathlib.Core.List.{List, [], ◌∷◌, ◌++◌}
use Rattle.plans.specs.Plans.{Plan}
use Rattle.turns.specs.Surveys.{Survey}
use Rattle.cuts.specs.Histories.{ServedTurn, steps_in}
use Rattle.cuts.specs.Uncut.{Placed}
use Rattle.cuts.specs.Unsent.{Unsent, WithinQuantum}

pub unsent_left : (xs ys : List ServedTurn) → Unsent (xs ++ ys) → Unsent xs
unsent_left [] ys u = tt
unsent_left (x ∷ xs) ys u = (u.0, unsent_left xs ys u.1)

pub unsent_right : (xs ys : List ServedTurn) → Unsent (xs ++ ys) → Unsent ys
unsent_right [] ys u = u
unsent_right (x ∷ xs) ys u = unsent_right xs ys u.1

pub unsent_append : (xs ys : List ServedTurn) → Unsent xs → Unsent ys → Unsent (xs ++ ys)
unsent_append [] ys u w = w
unsent_append (x ∷ xs) ys u w = (u.0, unsent_append xs ys u.1 w)

module _ (v : Survey) (q : Plan) where
  pub placed_append : (a b c : ℕ) (xs ys : List ServedTurn) → Placed v q a xs b → Placed v q b ys c → Placed v q a (xs ++ ys) c
  placed_append a b c [] ys p r = subst (λ n. Placed v q n ys c) (sym p) r
  placed_append a b c (x ∷ xs) ys p r = (p.0, (p.1.0, placed_append p.0 b c xs ys p.1.1 r))

  pub placed_within : (a b : ℕ) (xs : List ServedTurn) → Placed v q a xs b → WithinQuantum xs
  placed_within a b [] p = tt
  placed_within a b (x ∷ xs) p = ((p.1.0.least, p.1.0.within), placed_within p.0 b xs p.1.1)

  -- no more steps than the distance
  pub placed_most : (a b : ℕ) (xs : List ServedTurn) → Placed v q a xs b → a + steps_in xs ≤ b
  unfolding steps_in
  placed_most a b [] p = let e : a ≡ b = p in omega arith
  placed_most a b (x ∷ xs) p =
      let l = p.1.0.no_further in
      let r = placed_most p.0 b xs p.1.1 in
      omega arith

  -- as many where no threshold was sent
  pub placed_steps : (a b : ℕ) (xs : List ServedTurn) → Unsent xs → Placed v q a xs b → a + steps_in xs ≡ b
  unfolding steps_in
  placed_steps a b [] u p = let e : a ≡ b = p in omega arith
  placed_steps a b (x ∷ xs) u p =
      let e = p.1.0.as_far u.0 in
      let r = placed_steps p.0 b xs u.1 p.1.1 in
      omega arith

  pub steps_from_start : (b : ℕ) (xs : List ServedTurn) → Unsent xs → Placed v q 0 xs b → b ≡ steps_in xs
  steps_from_start b xs u p = let e = placed_steps 0 b xs u p in omega arith
