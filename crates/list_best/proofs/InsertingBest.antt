-- A row put in among the best-of rows at the front of a buffer: it is left out, the list grows by it, or the last row falls out.
use Prim.Native.Nat.{ℕ, suc, ◌+◌, ◌-◌, ◌*◌, ◌/◌, ◌%◌, ◌≤◌, ◌<◌}
use native.Mathlib.Omega.{arith}
use native.Mathlib.Nat.{suc-mul, mul-le-mul, mul-le-mul_right, le_of_mul-le-mul_right, lt_of_mul-lt-mul_right, div-add-mod'}
use mathlib.Core.Path.{◌≡◌, sym, ◌∙◌, ap, ap₂}
use mathlib.Core.List.{List, ◌++◌}
use lib.ListN.{length, take, drop, length-drop, take-append-drop}
use lib.Seq.{take_all, take-take, length-take-le}
use Rattle.sequences.specs.Sequences.{over}
use Rattle.plans.specs.Endings.{most_row_variables, most_best}
use Rattle.lists.specs.Rows.{row_before}
use Rattle.lists.specs.Gathering.{records_in}
use Rattle.lists.specs.Delivering.{with_best}
use Rattle.lists.specs.Moves.{inserted}
use Rattle.list_best_places.specs.Places.{Searchable, row_place}
use Rattle.list_best.specs.BestLists.{TopParts, Insertable}
use Rattle.lists.proofs.Moving.{insert_over, part_of_front}
use Rattle.lists.proofs.Records.{length_records}
use Rattle.list_best_places.proofs.Placing.{place_le}
use Rattle.list_best.proofs.BestWords.{stays, put_in}

-- k rows of an accepted ending are not many words
pub most_words : {k : ℕ} {vs keys : List ℕ} → TopParts k vs keys → k * length vs ≤ most_best * most_row_variables
most_words t = mul-le-mul t.few t.narrow

-- the list with the row
abbrev pub best_with : ℕ → List ℕ → List ℕ → List ℕ → List ℕ → ℕ → List ℕ
best_with k vs keys row buf used = with_best k vs keys (take used buf) row

module _ {k : ℕ} {vs keys row buf : List ℕ} {used : ℕ} (i : Insertable k vs keys row buf used) where
  pub searchable : Searchable vs keys row (take used buf)
  searchable =
      record {
        some = i.parts.some;
        among = i.parts.among;
        width = i.width;
        whole = i.best.whole;
        rising = i.best.rising;
      }

  pub front : length (take used buf) ≡ used
  front = length-take-le used buf i.fit

  -- whole rows, at most k
  size : used ≡ used / length vs * length vs
  size =
      let z : used % length vs ≡ 0 = sym (ap (λ m. m % length vs) front) ∙ i.best.whole in
      omega (arith, div-add-mod' used (length vs))

  few : used / length vs ≤ k
  few = let e = ap (λ m. m / length vs) front in omega (arith, i.best.few)

  place_few : row_place vs keys row (take used buf) ≤ used / length vs
  place_few =
      let e = ap (λ m. m / length vs) front in
      let rows = records_in (length vs) (take used buf) in
      omega (arith, place_le (row_before vs keys) row rows, length_records (length vs) (take used buf))

  -- by the words that code counts: those in front of the place, and those of k rows
  module _ {at most : ℕ} (ea : at ≡ row_place vs keys row (take used buf) * length vs) (em : most ≡ k * length vs) where
    pub at_used : at ≤ used
    at_used = omega (arith, size, mul-le-mul_right (length vs) place_few)

    pub used_most : used ≤ most
    used_most = omega (arith, size, mul-le-mul_right (length vs) few)

    -- it is left out
    pub left_out : most ≤ at → (used ≡ length (best_with k vs keys row buf used)) × (buf ≡ over (best_with k vs keys row buf used) buf)
    left_out l =
        let h : k * length vs ≤ row_place vs keys row (take used buf) * length vs = omega arith in
        let e = stays k vs keys i.parts.some (take used buf) row i.best i.width (le_of_mul-le-mul_right h i.parts.some) in (
          sym (ap length e ∙ front),
          sym (ap (λ x. over x buf) e ∙ ap (λ m. take used buf ++ drop m buf) front ∙ take-append-drop used buf),
        )

    module _ (l : at < most) where
      inside : row_place vs keys row (take used buf) < k
      inside =
          let h : row_place vs keys row (take used buf) * length vs < k * length vs = omega arith in
          lt_of_mul-lt-mul_right (length vs) h

      pub one_fits : at + length vs ≤ most
      one_fits =
          let p = row_place vs keys row (take used buf) in
          omega (arith, suc-mul p (length vs), mul-le-mul_right {m = suc p} {n = k} (length vs) inside)

      at_place : best_with k vs keys row buf used
          ≡ take at (take used buf) ++ (row ++ take (most - length vs - at) (drop at (take used buf)))
      at_place = put_in k vs keys i.parts.some (take used buf) row i.best i.width inside ∙ rw (← ea, ← em)

      -- the same in the buffer, with the words behind it up to e
      in_buffer_lem : (e : ℕ) → at ≤ e → e ≤ used
          → take (most - length vs - at) (drop at (take used buf)) ≡ take (e - at) (drop at (take used buf))
          → (length (best_with k vs keys row buf used) ≡ e + length row)
          × (inserted buf at e row ≡ over (best_with k vs keys row buf used) buf)
      in_buffer_lem e h m q =
          let f = i.fit in
          let r : best_with k vs keys row buf used ≡ take at buf ++ (row ++ take (e - at) (drop at buf)) =
          at_place
          ∙ ap₂ (λ x y. x ++ (row ++ y)) (take-take at used buf at_used) (q ∙ part_of_front buf at e used h m i.fit) in
          let n = insert_over buf row at e h (omega arith) in
          (ap length r ∙ n.0, sym (ap (λ x. over x buf) r ∙ n.1))

      -- the list grows by it
      module _ (u : used < most) where
        next_fits : used + length vs ≤ most
        next_fits =
            let h : used / length vs * length vs < k * length vs = omega (arith, size) in
            let c : used / length vs < k = lt_of_mul-lt-mul_right (length vs) h in
            omega (arith, size, suc-mul (used / length vs) (length vs), mul-le-mul_right {m = suc (used / length vs)} {n = k} (length vs) c)

        grown : (length (best_with k vs keys row buf used) ≡ used + length row)
            × (inserted buf at used row ≡ over (best_with k vs keys row buf used) buf)
        grown =
            let rest = drop at (take used buf) in
            let n : length rest ≡ used - at = length-drop at (take used buf) ∙ ap (λ m. m - at) front in
            let m = next_fits in
            in_buffer_lem used at_used (omega arith)
            (take_all (most - length vs - at) rest (omega arith) ∙ sym (take_all (used - at) rest (omega arith)))

        pub grown_fits : used + length row ≤ length buf
        grown_fits = omega (arith, grown.0, i.room)

        pub grows : {after : List ℕ} → after ≡ inserted buf at used row
            → (used + length vs ≡ length (best_with k vs keys row buf used)) × (after ≡ over (best_with k vs keys row buf used) buf)
        grows e = (omega (arith, grown.0, i.width), e ∙ grown.1)

      -- the last row falls out
      module _ (u : most ≤ used) where
        fallen : (length (best_with k vs keys row buf used) ≡ used - length vs + length row)
            × (inserted buf at (used - length vs) row ≡ over (best_with k vs keys row buf used) buf)
        fallen =
            let n : most - length vs - at ≡ used - length vs - at = omega (arith, used_most) in
            in_buffer_lem (used - length vs) (omega (arith, one_fits)) (omega arith) (ap (λ m. take m (drop at (take used buf))) n)

        pub falls : {after : List ℕ} → after ≡ inserted buf at (used - length vs) row
            → (used ≡ length (best_with k vs keys row buf used)) × (after ≡ over (best_with k vs keys row buf used) buf)
        falls e = (omega (arith, fallen.0, one_fits, i.width), e ∙ fallen.1)
