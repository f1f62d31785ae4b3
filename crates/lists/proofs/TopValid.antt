-- Test 12 passes at every list that a best-of query gathers or merges, and an output with room for k rows holds it.
use Prim.Native.Nat.{ℕ, ◌*◌, ◌/◌, ◌%◌, ◌≤◌}
use native.Mathlib.Omega.{arith}
use native.Mathlib.Nat.{mul-le-mul_right, div-le_of_le-mul}
use native.Mathlib.Decide.{dec_lt}
use mathlib.Core.Path.{◌≡◌, refl, ◌∙◌, ap}
use mathlib.Core.Bool.{Bool, true, not}
use mathlib.Core.List.{List, [], ◌∷◌, ◌++◌, map, flatten}
use lib.ListN.{length, length-map}
use lib.Dec.{eqb}
use borrow.Author.Tests.{eq-eqb, le-leb}
use Rattle.words.specs.Words.{is_value}
use Rattle.words.specs.Bindings.{Bindings}
use Rattle.sequences.specs.Sequences.{all, neighbours}
use Rattle.sequences.proofs.Booleans.{and_left, and_right, and_both}
use Rattle.plans.specs.Endings.{rows, top}
use Rattle.sequences.specs.Sorting.{best_by}
use Rattle.lists.specs.Rows.{project, row_before, ahead}
use Rattle.lists.specs.Gathering.{records_in, gathered, merged, least_output, list_right}
use Rattle.sequences.proofs.Each.{each_append, each_best}
use Rattle.lists.proofs.Leaving.{each_ahead}
use Rattle.lists.proofs.Records.{Wide, wide_append, wide_records, wide_best, wide_project, wide_ahead, records_flatten, records_zero}
use Rattle.lists.proofs.Records.{whole_flatten, length_flatten}
use Rattle.sequences.proofs.Sorting.{Sorted, sorted_best, length_best}
use Rattle.lists.proofs.Values.{AllValues, values_rows, values_flatten, values_records}
use Rattle.lists.proofs.RowOrder.{rows_ordered}
use Rattle.lists.proofs.TopLists.{merged_top}

-- a sorted list does not descend from a row to the next
pub neighbours_sorted : {A : Type 0} (before : A → A → Bool) (xs : List A) → Sorted before xs
    → neighbours (λ x y. not (before y x)) xs ≡ true
unfolding neighbours
neighbours_sorted before [] s = refl
neighbours_sorted before (x ∷ []) s = refl
neighbours_sorted before (x ∷ y ∷ ys) s =
    and_both (not (before y x)) (neighbours (λ x y. not (before y x)) (y ∷ ys)) (ap not s.0.0)
    (neighbours_sorted before (y ∷ ys) s.1)

module _ (k : ℕ) (vs keys : List ℕ) where
  sorted_records : (xs : List (List ℕ)) → Wide (length vs) xs → Sorted (row_before vs keys) xs
      → neighbours (λ x y. not (row_before vs keys y x)) (records_in (length vs) (flatten xs)) ≡ true
  unfolding neighbours
  sorted_records xs h s =
      elim (dec_lt 0 (length vs)) [
        | yes p ↦ ap (neighbours (λ x y. not (row_before vs keys y x))) (records_flatten (length vs) p xs h)
            ∙ neighbours_sorted (row_before vs keys) xs s
        | no p ↦ let z : length vs ≡ 0 = omega arith in
            ap (λ w. neighbours (λ x y. not (row_before vs keys y x)) (records_in w (flatten xs))) z
            ∙ ap (neighbours (λ x y. not (row_before vs keys y x))) (records_zero (flatten xs))
      ]

  -- the best k of whole rows of values
  right_best : (xs : List (List ℕ)) → Wide (length vs) xs → AllValues xs
      → list_right (top k vs keys) (flatten (best_by (row_before vs keys) k xs)) ≡ true
  unfolding list_right
  right_best xs h v =
      let w = length vs in
      let best = best_by (row_before vs keys) k xs in
      let wide = wide_best w (row_before vs keys) k xs h in
      let values = each_best (λ (x : List ℕ). all is_value x ≡ true) (row_before vs keys) k xs v in
      let n = length_flatten w best wide in
      let m = mul-le-mul_right w (length_best (row_before vs keys) k xs) in
      let few : length (flatten best) / w ≤ k = div-le_of_le-mul w (omega arith) in
      let whole = eq-eqb (length (flatten best) % w) 0 (whole_flatten w best wide) in
      rw (whole, values_flatten best values, le-leb (length (flatten best) / w) k few)
      (sorted_records best wide (sorted_best (row_before vs keys) (rows_ordered vs keys) k xs))

  room_best : (xs : List (List ℕ)) → Wide (length vs) xs
      → length (flatten (best_by (row_before vs keys) k xs)) ≤ least_output (top k vs keys)
  room_best xs h =
      let n = length_flatten (length vs) (best_by (row_before vs keys) k xs) (wide_best (length vs) (row_before vs keys) k xs h) in
      let m = mul-le-mul_right (length vs) (length_best (row_before vs keys) k xs) in
      omega arith

  -- ---- a turn's list
  wide_left : (threshold : List ℕ) (bs : List Bindings)
      → Wide (length vs) (ahead (row_before vs keys) threshold (map (project vs) bs))
  wide_left threshold bs = wide_ahead (length vs) (row_before vs keys) threshold (map (project vs) bs) (wide_project vs bs)

  pub right_gathered : (threshold : List ℕ) (bs : List Bindings) → AllValues bs
      → list_right (top k vs keys) (gathered (top k vs keys) threshold bs) ≡ true
  unfolding gathered
  right_gathered threshold bs v =
      right_best (ahead (row_before vs keys) threshold (map (project vs) bs)) (wide_left threshold bs)
      (each_ahead (λ (x : List ℕ). all is_value x ≡ true) (row_before vs keys) threshold (map (project vs) bs)
      (values_rows vs bs v))

  pub room_gathered : (threshold : List ℕ) (bs : List Bindings)
      → length (gathered (top k vs keys) threshold bs) ≤ least_output (top k vs keys)
  unfolding gathered
  room_gathered threshold bs =
      room_best (ahead (row_before vs keys) threshold (map (project vs) bs)) (wide_left threshold bs)

  -- ---- a merged list
  wide_both : (kept list : List ℕ) → Wide (length vs) (records_in (length vs) kept ++ records_in (length vs) list)
  wide_both kept list =
      wide_append (length vs) (records_in (length vs) kept) (records_in (length vs) list) (wide_records (length vs) kept)
      (wide_records (length vs) list)

  right_values : (ws : List ℕ) → list_right (top k vs keys) ws ≡ true → AllValues (records_in (length vs) ws)
  unfolding list_right
  right_values ws p =
      values_records (length vs) ws (and_left (all is_value ws) _ (and_right (eqb (length ws % length vs) 0) _ p))

  pub right_merged : (kept list : List ℕ) → list_right (top k vs keys) kept ≡ true → list_right (top k vs keys) list ≡ true
      → list_right (top k vs keys) (merged (top k vs keys) kept list) ≡ true
  right_merged kept list p q =
      rw (merged_top k vs keys kept list)
      (right_best (records_in (length vs) kept ++ records_in (length vs) list) (wide_both kept list)
      (each_append (λ (x : List ℕ). all is_value x ≡ true) (records_in (length vs) kept) (records_in (length vs) list)
      (right_values kept p) (right_values list q)))

-- the words of a list of rows are as many as its rows, times their width; and one row fits the least output
pub length_rows : (vs threshold : List ℕ) (bs : List Bindings)
    → length (gathered (rows vs) threshold bs) ≡ length bs * length vs
unfolding gathered
length_rows vs threshold bs =
    length_flatten (length vs) (map (project vs) bs) (wide_project vs bs) ∙ ap (λ n. n * length vs) (length-map bs (project vs))

pub one_row_lem : (vs threshold : List ℕ) (b : Bindings)
    → length (gathered (rows vs) threshold (b ∷ [])) ≤ least_output (rows vs)
one_row_lem vs threshold b = omega (arith, length_rows vs threshold (b ∷ []))
