-- Marking the followers in the sorted list of the rows of right kinds gives each row its fate.
use Prim.Native.Nat.{ℕ, ◌-◌, ◌≤◌, ◌<◌}
use native.Mathlib.Omega.{arith}
use mathlib.Core.Path.{◌≡◌, sym, ◌∙◌, ap, subst}
use mathlib.Core.Bool.{true, cond}
use mathlib.Core.List.{List}
use lib.ListN.{length, get_or}
use borrow.Author.Tests.{not-true}
use Rattle.sequences.proofs.Booleans.{absurd_true, Decided, yes, no, decided}
use Rattle.sequences.proofs.Neighbours.{neighbour_same, same_neighbour}
use Rattle.sequences.proofs.Somewhere.{each_at, some_at, at_some}
use Rattle.tables.specs.declared.Order.TheVariants.{Spo}
use Rattle.tables.specs.Tables.{column_count, fields_of}
use Rattle.tables.proofs.Columns.{fields_length}
use Rattle.uploads.specs.Uploads.{upload_count, kept_code, wrong_code, repeat_code, kinds_good, same_row, is_repeat, fate_of}
use Rattle.uploads.proofs.SameRows.{same_fields, fields_same, same_good}
use Rattle.upload_fates.specs.Judging.{right_numbers, marked}
use Rattle.upload_fates.proofs.Repeats.{unmarked, marked_at}
use Rattle.upload_fates.proofs.RightNumbers.{right_ascends, right_good, right_stands}

module _ (up : List ℕ) where
  abbrev f : ℕ → List ℕ
  f = fields_of Spo up

  -- `fates` says of each row whether its kinds are right
  module _ (fates : List ℕ) (long : upload_count up ≤ length fates)
      (kinds : (i : ℕ) → i < upload_count up → get_or fates i 0 ≡ cond (kinds_good up i) kept_code wrong_code) where
    pub marked_fates : (i : ℕ) → i < upload_count up
        → get_or (marked up (right_numbers up) fates (length (right_numbers up))) i 0 ≡ fate_of up i
    unfolding fate_of
    marked_fates i h = go (decided (kinds_good up i)) (decided (is_repeat up i))
      where
        go : Decided (kinds_good up i) → Decided (is_repeat up i)
            → get_or (marked up (right_numbers up) fates (length (right_numbers up))) i 0
            ≡ cond (kinds_good up i) (cond (is_repeat up i) repeat_code kept_code) wrong_code
        go (no g) r =
            unmarked up (right_numbers up) fates i (length (right_numbers up))
            (λ q a b w e. absurd_true
            (subst (λ k. kinds_good up k ≡ true) e (each_at (λ x. kinds_good up x ≡ true) (right_numbers up) 0 (right_good up) q b)) g)
            ∙ kinds i h ∙ rw g
        go (yes g) (yes r) =
            let j = some_at (λ k. same_row up k i) i r in
            let below = j.below in
            let e = same_fields up j.which i j.passes in
            let pj = right_stands up j.which (omega arith) (same_good up j.which i e g) in
            let pi = right_stands up i h g in
            let n = same_neighbour f column_count (fields_length Spo up) (right_numbers up) (right_ascends up) pj.place pi.place pj.inside pi.inside
            (omega (arith, pj.is, pi.is)) (ap f pj.is ∙ e ∙ sym (ap f pi.is)) in
            marked_at up (right_numbers up) fates i (length (right_numbers up)) pi.place n.0 pi.inside (rw n.1) pi.is (omega arith)
            ∙ rw (g, r)
        go (yes g) (no r) =
            unmarked up (right_numbers up) fates i (length (right_numbers up))
            (λ q a b w e.
            let n = neighbour_same f column_count (fields_length Spo up) (right_numbers up) (right_ascends up) q a b (not-true _ w) in
            absurd_true (at_some (λ k. same_row up k i) i (get_or (right_numbers up) (q - 1) 0) (omega (arith, n.0, e))
            (fields_same up (get_or (right_numbers up) (q - 1) 0) i (n.1 ∙ ap f e))) r)
            ∙ kinds i h ∙ rw (g, r)
