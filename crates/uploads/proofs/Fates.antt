-- The fate of a row, by the kinds of its fields and the rows before it.
use Prim.Native.Nat.{ℕ, zero, suc, ◌≤◌, ◌<◌}
use native.Mathlib.Omega.{arith}
use mathlib.Core.Path.{◌≡◌, refl, ◌∙◌}
use mathlib.Core.Bool.{Bool, true, false, cond, not}
use mathlib.Core.Logic.{◌⊎◌, inl, inr}
use mathlib.Core.List.{List}
use lib.Dec.{eqb}
use Rattle.sequences.proofs.Booleans.{absurd_true, Decided, yes, no, decided}
use Rattle.sequences.proofs.Somewhere.{some_at, at_some}
use Rattle.tables.specs.declared.Order.TheVariants.{Spo}
use Rattle.tables.specs.Tables.{fields_of}
use Rattle.uploads.specs.Uploads.{kept_code, wrong_code, repeat_code, kinds_good, same_row, is_repeat, fate_of, is_kept, is_dropped}
use Rattle.uploads.specs.Exactness.{Earlier}
use Rattle.uploads.proofs.SameRows.{same_fields, fields_same, same_good}

-- ---- a fate by its two tests
abbrev fate_by : Bool → Bool → ℕ
fate_by g r = cond g (cond r repeat_code kept_code) wrong_code

by_kept : (g r : Bool) → eqb (fate_by g r) kept_code ≡ true → (g ≡ true) × (r ≡ false)
by_kept true true e = absurd_true e refl
by_kept true false e = (refl, refl)
by_kept false r e = absurd_true e refl

by_wrong : (g r : Bool) → fate_by g r ≡ wrong_code → g ≡ false
by_wrong true true e = absurd (omega arith)
by_wrong true false e = absurd (omega arith)
by_wrong false r e = refl

by_repeat : (g r : Bool) → fate_by g r ≡ repeat_code → (g ≡ true) × (r ≡ true)
by_repeat true true e = (refl, refl)
by_repeat true false e = absurd (omega arith)
by_repeat false r e = absurd (omega arith)

by_dropped : (g r : Bool) → not (eqb (fate_by g r) kept_code) ≡ true → (fate_by g r ≡ wrong_code) ⊎ (fate_by g r ≡ repeat_code)
by_dropped true true e = inr refl
by_dropped true false e = absurd_true e refl
by_dropped false r e = inl refl

module _ (up : List ℕ) (i : ℕ) where
  -- kept: of right kinds, and new
  pub kept_good : is_kept up i ≡ true → kinds_good up i ≡ true
  unfolding fate_of
  kept_good e = (by_kept (kinds_good up i) (is_repeat up i) e).0

  pub kept_new : is_kept up i ≡ true → is_repeat up i ≡ false
  unfolding fate_of
  kept_new e = (by_kept (kinds_good up i) (is_repeat up i) e).1

  new_kept : kinds_good up i ≡ true → is_repeat up i ≡ false → is_kept up i ≡ true
  unfolding fate_of
  new_kept g r = rw (g, r)

  -- wrong, and a repeat
  pub wrong_fate : kinds_good up i ≡ false → fate_of up i ≡ wrong_code
  unfolding fate_of
  wrong_fate g = rw g

  pub fate_wrong : fate_of up i ≡ wrong_code → kinds_good up i ≡ false
  unfolding fate_of
  fate_wrong e = by_wrong (kinds_good up i) (is_repeat up i) e

  pub repeat_fate : kinds_good up i ≡ true → is_repeat up i ≡ true → fate_of up i ≡ repeat_code
  unfolding fate_of
  repeat_fate g r = rw (g, r)

  pub fate_repeat : fate_of up i ≡ repeat_code → (kinds_good up i ≡ true) × (is_repeat up i ≡ true)
  unfolding fate_of
  fate_repeat e = by_repeat (kinds_good up i) (is_repeat up i) e

  pub dropped_code : is_dropped up i ≡ true → (fate_of up i ≡ wrong_code) ⊎ (fate_of up i ≡ repeat_code)
  unfolding fate_of
  dropped_code e = by_dropped (kinds_good up i) (is_repeat up i) e

  -- an earlier row that is the same
  pub earlier : kinds_good up i ≡ true → is_repeat up i ≡ true → Earlier up i
  earlier g r =
      let j = some_at (λ k. same_row up k i) i r in
      let e = same_fields up j.which i j.passes in
      record { first = j.which; before = j.below; right = same_good up j.which i e g; is = e }

  pub earlier_repeats : Earlier up i → is_repeat up i ≡ true
  earlier_repeats e = at_some (λ k. same_row up k i) i e.first e.before (fields_same up e.first i e.is)

-- ---- the first row with the fields of a row of right kinds is kept
pub record First (up : List ℕ) (i : ℕ) : Type 0 where
  pub row : ℕ
  pub early : row ≤ i
  pub passes : is_kept up row ≡ true
  pub is : fields_of Spo up row ≡ fields_of Spo up i

module _ (up : List ℕ) where
  first_below : (n i : ℕ) → i < n → kinds_good up i ≡ true → First up i
  first_below zero i h g = absurd (omega arith)
  first_below (suc n) i h g = go (decided (is_repeat up i)) (first_below n)
    where
      go : Decided (is_repeat up i) → ((j : ℕ) → j < n → kinds_good up j ≡ true → First up j) → First up i
      go (no r) ih = record { row = i; early = omega arith; passes = new_kept up i g r; is = refl }
      go (yes r) ih =
          let e = earlier up i g r in
          let b = e.before in
          let f = ih e.first (omega arith) e.right in
          let l = f.early in
          record { row = f.row; early = omega arith; passes = f.passes; is = f.is ∙ e.is }

  pub first_kept : (i : ℕ) → kinds_good up i ≡ true → First up i
  first_kept i g = first_below (suc i) i (omega arith) g
