-- An owner's steps and what is left make the allowances granted.
use Prim.Native.Nat.{ℕ, ◌+◌, ◌-◌, ◌≤◌}
use native.Mathlib.Omega.{arith}
use mathlib.Core.Path.{◌≡◌, refl, ◌∙◌}
use mathlib.Core.Bool.{Bool, true, false, cond}
use mathlib.Core.List.{List, [], ◌∷◌, ◌++◌}
use lib.Dec.{eqb}
use Rattle.turns.specs.Surveys.{Survey}
use Rattle.turns.specs.declared.TurnEnding.{TurnEnding}
use Rattle.turns.specs.declared.TurnEnding.TheVariants as ending
use Rattle.queues.specs.declared.Entry.{Entry}
use Rattle.queues.specs.ToppingUp.{with_allowance}
use Rattle.queues.specs.Lists.{Queue}
use Rattle.queues.specs.Calls.{MadeCall, lent_to, Deed, turns, after_call, after_calls, deeds, for_owner, granted_by}
use Rattle.queues.specs.Calls.{stepped_by, carried_by, summed, left_in, left_to, Accounts}
use Rattle.queues.proofs.Moving.{Moves, stays, waits, rests, returns, leaves, goes_on_fact, runs_out, call_moves}

module _ (owner : ℕ) where
  left_append : (xs ys : List Entry) → left_in owner (xs ++ ys) ≡ left_in owner xs + left_in owner ys
  unfolding left_in
  left_append [] ys = omega arith
  left_append (e ∷ es) ys = let h = left_append es ys in omega arith

  left_one : (xs : List Entry) (e : Entry) → left_in owner (xs ++ (e ∷ [])) ≡ left_in owner xs + for_owner owner e.owner e.allowance
  unfolding left_in
  left_one xs e = let h = left_append xs (e ∷ []) in omega arith

  left_within : (xs ys : List Entry) (e : Entry) → left_in owner (xs ++ (e ∷ ys)) ≡ left_in owner (xs ++ ys) + for_owner owner e.owner e.allowance
  unfolding left_in
  left_within xs ys e = let h = left_append xs (e ∷ ys) in let g = left_append xs ys in omega arith

  split_for : (o a n : ℕ) → n ≤ a → for_owner owner o a ≡ for_owner owner o n + for_owner owner o (a - n)
  split_for o a n h = by_owner_lem (eqb o owner)
    where
      by_owner_lem : (b : Bool) → cond b a 0 ≡ cond b n 0 + cond b (a - n) 0
      by_owner_lem true = omega arith
      by_owner_lem false = refl

  none_for : (o a : ℕ) → a ≡ 0 → for_owner owner o a ≡ 0
  none_for o a h = by_owner_lem (eqb o owner)
    where
      by_owner_lem : (b : Bool) → cond b a 0 ≡ 0
      by_owner_lem true = h
      by_owner_lem false = refl

  carried_none : (o n left : ℕ) (x : TurnEnding) → (x ≡ ending.Done → ⊥) → carried_by owner (turns o x n left) ≡ 0
  carried_none o n left ending.Done h = absurd (h refl)
  carried_none o n left ending.Spent h = refl
  carried_none o n left ending.Full h = refl
  carried_none o n left (ending.Refused y) h = refl

  -- one call
  one_accounts : {q r : Queue} {d : Deed} → Moves q r d → left_to owner q + granted_by owner d ≡ stepped_by owner d + (left_to owner r + carried_by owner d)
  unfolding left_in
  one_accounts stays = omega arith
  one_accounts {q} (waits e) = let h = left_one q.line e in omega arith
  one_accounts {q} (rests e z) = let h = left_one q.aside e in omega arith
  one_accounts (returns line before behind e n z) =
      let h = left_one line (with_allowance n e) in let g = left_within before behind e in let f = none_for e.owner e.allowance z in omega arith
  one_accounts (leaves e es aside n h) = let f = split_for e.owner e.allowance n h in omega arith
  one_accounts (goes_on_fact e d es aside x n h not_done same left) =
      let f = split_for e.owner e.allowance n h in
      let g : left_in owner (es ++ (d ∷ [])) ≡ left_in owner es + for_owner owner e.owner (e.allowance - n) = left_one es d
      ∙ (λ i. left_in owner es + for_owner owner (same i) (left i)) in
      let c = carried_none e.owner n (e.allowance - n) x not_done in omega arith
  one_accounts (runs_out e d es aside x n h not_done same left z) =
      let f = split_for e.owner e.allowance n h in
      let g : left_in owner (aside ++ (d ∷ [])) ≡ left_in owner aside + for_owner owner e.owner (e.allowance - n) = left_one aside d
      ∙ (λ i. left_in owner aside + for_owner owner (same i) (left i)) in
      let c = carried_none e.owner n (e.allowance - n) x not_done in omega arith

-- any list of calls, by anyone, refused ones included
pub accounts : (v : Survey) (owner : ℕ) (ms : List MadeCall) (q : Queue) → Accounts v q ms owner
unfolding after_calls deeds summed
accounts v owner [] q = omega arith
accounts v owner (m ∷ ms) q =
    let h = one_accounts owner (call_moves v q m m.call) in
    let g = accounts v owner ms (after_call v q (lent_to q m) m.call) in omega arith
