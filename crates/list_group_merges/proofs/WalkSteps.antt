-- One step of the walk from the back over words: which records are left, and where the words of each list then end.
use Prim.Native.Nat.{ℕ, zero, suc, ◌+◌, ◌*◌, ◌-◌, ◌≤◌, ◌<◌}
use native.Mathlib.Omega.{arith}
use native.Mathlib.Nat.{suc-mul}
use mathlib.Core.Path.{◌≡◌, refl, sym, ◌∙◌, ap₂}
use mathlib.Core.List.{List}
use lib.ListN.{take, drop}
use borrow.Author.Tests.{eq-eqb, ne_eqb}
use Rattle.std.specs.declared.cmp.Ordering.{Ordering}
use Rattle.std.specs.declared.cmp.Ordering.TheVariants.{Less, Equal, Greater}
use Rattle.lists.specs.Groups.{totals_width}
use Rattle.list_groups.specs.Keys.{keys_first}
use Rattle.lists.specs.Sides.{side_by}
use Rattle.list_group_merges.specs.MergingBackwards.{by_side, BackWalk, walked, pick_at, sides}
use Rattle.list_group_merges.proofs.BackWalks.{Goes, new, both, old, step_by, walk_goes}

-- ---- which record is the last
pub pick_none : (g : ℕ) (a : List ℕ) (x : ℕ) (b : List ℕ) (y : ℕ) → x ≡ 0 → pick_at g a x b y ≡ Less
unfolding pick_at
pick_none g a x b y e = rw (eq-eqb x 0 e)

pub pick_some : (g : ℕ) (a : List ℕ) (x : ℕ) (b : List ℕ) (y : ℕ) → (x ≡ 0 → ⊥)
    → pick_at g a x b y ≡ side_by keys_first (take g (drop (x - (g + totals_width)) a)) (take g (drop (y - (g + totals_width)) b))
unfolding pick_at
pick_some g a x b y n = rw (ne_eqb x 0 n)

-- ---- where it ends
-- the words of some records
pub mul_small : (i w x : ℕ) → x ≡ i * w → x < w → x ≡ 0
mul_small zero w x e h = omega arith
mul_small (suc i) w x e h = absurd (let s = suc-mul i w in omega arith)

-- the words that are left of each list
abbrev pub old_left : ℕ → Ordering → ℕ → ℕ
old_left g s x = by_side s x (x - (g + totals_width)) (x - (g + totals_width))

abbrev pub new_left : ℕ → Ordering → ℕ → ℕ
new_left g s y = by_side s (y - (g + totals_width)) (y - (g + totals_width)) y

pub record WalkStepped (g : ℕ) (x y i j : ℕ) (s : Ordering) : Type 0 where
  pub p : ℕ
  pub q : ℕ
  pub goes : Goes i j s p q
  pub x_left : old_left g s x ≡ p * (g + totals_width)
  pub y_left : new_left g s y ≡ q * (g + totals_width)
  pub y_there : g + totals_width ≤ y
  pub x_there : (s ≡ Less → ⊥) → g + totals_width ≤ x

module _ (g : ℕ) (a b : List ℕ) (x y : ℕ) where
  pub stepped : (i j : ℕ) → x ≡ i * (g + totals_width) → y ≡ j * (g + totals_width) → 0 < y → (s : Ordering) → pick_at g a x b y ≡ s
      → WalkStepped g x y i j s
  stepped i zero hx hy h s e = absurd (omega arith)
  stepped i (suc q) hx hy h Less e =
      let m = suc-mul q (g + totals_width) in
      record { p = i; q = q; goes = new; x_left = hx; y_left = omega arith; y_there = omega arith; x_there = λ n. absurd (n refl) }
  stepped zero (suc q) hx hy h Equal e =
      absurd (let z = pick_none g a x b y (omega arith) in let c : ◌≡◌ {A = ℕ} 0 1 = cc in omega arith)
  stepped zero (suc q) hx hy h Greater e =
      absurd (let z = pick_none g a x b y (omega arith) in let c : ◌≡◌ {A = ℕ} 0 1 = cc in omega arith)
  stepped (suc p) (suc q) hx hy h Equal e =
      let k = suc-mul p (g + totals_width) in
      let m = suc-mul q (g + totals_width) in
      record { p = p; q = q; goes = both; x_left = omega arith; y_left = omega arith; y_there = omega arith; x_there = λ n. omega arith }
  stepped (suc p) (suc q) hx hy h Greater e =
      let k = suc-mul p (g + totals_width) in
      let m = suc-mul q (g + totals_width) in
      record { p = p; q = suc q; goes = old; x_left = omega arith; y_left = hy; y_there = omega arith; x_there = λ n. omega arith }

  -- the walk there
  pub walk_steps : {R : Type 0} (v : BackWalk R) (i j : ℕ) → x ≡ i * (g + totals_width) → y ≡ j * (g + totals_width) → (s : Ordering)
      → pick_at g a x b y ≡ s → (t : WalkStepped g x y i j s)
      → walked (sides g a b) v i j ≡ step_by v s t.p t.q (walked (sides g a b) v t.p t.q)
  walk_steps v i j hx hy s e t =
      walk_goes (sides g a b) v (ap₂ (λ k l. pick_at g a k b l) (sym hx) (sym hy) ∙ e) t.goes
