-- Best-of lists merged by putting in the rows of one after the other: each row makes the same of the rest.
use Prim.Native.Nat.{ℕ, ◌+◌, ◌*◌, ◌/◌, ◌%◌, ◌≤◌, ◌<◌}
use native.Mathlib.Omega.{arith}
use native.Mathlib.Decide.{dec_lt}
use native.Mathlib.Nat.{add-mul, mul-le-mul_right, le_of_mul-le-mul_right, div-add-mod'}
use mathlib.Core.Path.{◌≡◌, sym, ◌∙◌, ap, ap₂}
use mathlib.Core.Bool.{Bool}
use mathlib.Core.List.{List, [], ◌∷◌, ◌++◌, flatten, append-nil}
use lib.ListN.{length, take, length-append, length-take}
use lib.Seq.{take_all}
use Rattle.plans.specs.Endings.{top}
use Rattle.sequences.specs.Sorting.{insert_by, insert_all_by, sort_by, best_by}
use Rattle.lists.specs.Rows.{row_before}
use Rattle.lists.specs.Gathering.{records_in, merged}
use Rattle.lists.specs.Delivering.{with_best}
use Rattle.list_best.specs.BestLists.{BestList}
use Rattle.lists.proofs.Records.{wide_append, wide_records, wide_best, length_records, length_flatten, flatten_records, records_nil}
use Rattle.sequences.proofs.Sorting.{Sorted, take_insert_all, sort_append, sort_stays, sorted_insert, sorted_take}
use Rattle.list_best_places.proofs.Placing.{length_insert}
use Rattle.lists.proofs.RowOrder.{rows_ordered}
use Rattle.list_best_places.proofs.RowWords.{records_cons}
use Rattle.lists.proofs.TopLists.{merged_top}
use Rattle.list_best.proofs.BestWords.{best_sorted, best_few, records_new, with_best_lem}
use Rattle.sequences.proofs.Orders.{Ordered}

-- ---- in any order
module _ {A : Type 0} (before : A → A → Bool) where
  length_insert_all : (ys xs : List A) → length (insert_all_by before xs ys) ≡ length xs + length ys
  unfolding insert_all_by
  length_insert_all [] xs = omega arith
  length_insert_all (y ∷ ys) xs =
      omega (arith, length_insert_all ys (insert_by before y xs), length_insert before y xs)

  -- the best k of k rows and more are k, of fewer all
  pub best_length : (k : ℕ) (xs : List A) → (k ≤ length xs → length (best_by before k xs) ≡ k)
      × (length xs ≤ k → length (best_by before k xs) ≡ length xs)
  unfolding best_by sort_by
  best_length k xs =
      let t = length-take k (insert_all_by before [] xs) in
      let n = length_insert_all xs [] in
      (λ h. omega arith, λ h. omega arith)

  -- the first of the later rows may be put in at once
  best_step : Ordered before → (k : ℕ) (xs ys : List A) (y : A) → Sorted before xs
      → best_by before k (xs ++ (y ∷ ys)) ≡ best_by before k (take k (insert_by before y xs) ++ ys)
  unfolding best_by insert_all_by
  best_step o k xs ys y s =
      let new = insert_by before y xs in
      let sorted = sorted_take before k new (sorted_insert before o y xs s) in
      ap (take k) (sort_append before xs (y ∷ ys))
      ∙ ap (λ l. take k (insert_all_by before (insert_by before y l) ys)) (sort_stays before o xs s)
      ∙ sym (take_insert_all before k ys new)
      ∙ sym (ap (take k) (sort_append before (take k new) ys ∙ ap (λ l. insert_all_by before l ys) (sort_stays before o (take k new) sorted)))

-- ---- of words
module _ (k : ℕ) (vs keys : List ℕ) (some : 0 < length vs) (ws : List ℕ) (b : BestList k vs keys ws) where
  -- nothing to merge
  pub merged_nil : merged (top k vs keys) ws [] ≡ ws
  unfolding best_by
  merged_nil =
      let R = records_in (length vs) ws in
      merged_top k vs keys ws []
      ∙ ap (λ l. flatten (best_by (row_before vs keys) k (R ++ l))) (records_nil (length vs))
      ∙ ap (λ l. flatten (best_by (row_before vs keys) k l)) (append-nil R)
      ∙ ap (λ l. flatten (take k l)) (sort_stays (row_before vs keys) (rows_ordered vs keys) R (best_sorted k vs keys some ws b))
      ∙ ap flatten (take_all k R (best_few k vs keys some ws b))
      ∙ flatten_records (length vs) ws b.whole

  -- one row, and the rest
  pub merged_cons : (row rest : List ℕ) → length row ≡ length vs
      → merged (top k vs keys) ws (row ++ rest) ≡ merged (top k vs keys) (with_best k vs keys ws row) rest
  merged_cons row rest h =
      let B = row_before vs keys in
      let R = records_in (length vs) ws in
      let T = records_in (length vs) rest in
      merged_top k vs keys ws (row ++ rest)
      ∙ ap (λ l. flatten (best_by B k (R ++ l))) (records_cons (length vs) some row rest h)
      ∙ ap flatten (best_step B (rows_ordered vs keys) k R T row (best_sorted k vs keys some ws b))
      ∙ sym (merged_top k vs keys (with_best k vs keys ws row) rest
      ∙ ap (λ l. flatten (best_by B k (l ++ T))) (records_new k vs keys some ws row b h))

  -- ---- how many words
  rows_both : (list : List ℕ) → length (records_in (length vs) ws ++ records_in (length vs) list) ≡ length ws / length vs + length list / length vs
  rows_both list =
      length-append (records_in (length vs) ws) (records_in (length vs) list)
      ∙ ap₂ ◌+◌ (length_records (length vs) ws) (length_records (length vs) list)

  merged_length : (list : List ℕ)
      → length (merged (top k vs keys) ws list)
      ≡ length (best_by (row_before vs keys) k (records_in (length vs) ws ++ records_in (length vs) list)) * length vs
  merged_length list =
      let B = row_before vs keys in
      let R = records_in (length vs) ws ++ records_in (length vs) list in
      ap length (merged_top k vs keys ws list)
      ∙ length_flatten (length vs) (best_by B k R) (wide_best (length vs) B k R
      (wide_append (length vs) (records_in (length vs) ws) (records_in (length vs) list) (wide_records (length vs) ws) (wide_records (length vs) list)))

  words_of : length ws ≡ length ws / length vs * length vs
  words_of = omega (arith, div-add-mod' (length ws) (length vs), b.whole)

  both_of : (list : List ℕ) → length list % length vs ≡ 0
      → length ws + length list ≡ (length ws / length vs + length list / length vs) * length vs
  both_of list e =
      omega (arith, words_of, div-add-mod' (length list) (length vs), add-mul (length ws / length vs) (length list / length vs) (length vs))

  -- those of k rows where both lists have as many
  pub merged_most : (list : List ℕ) → length list % length vs ≡ 0 → k * length vs ≤ length ws + length list
      → length (merged (top k vs keys) ws list) ≡ k * length vs
  merged_most list e h =
      let R = records_in (length vs) ws ++ records_in (length vs) list in
      let l : k * length vs ≤ (length ws / length vs + length list / length vs) * length vs = omega (arith, both_of list e) in
      let n = (best_length (row_before vs keys) k R).0 (omega (arith, rows_both list, le_of_mul-le-mul_right l some)) in
      merged_length list ∙ ap (λ n. n * length vs) n

  -- else those of both
  pub merged_all_lem : (list : List ℕ) → length list % length vs ≡ 0 → length ws + length list ≤ k * length vs
      → length (merged (top k vs keys) ws list) ≡ length ws + length list
  merged_all_lem list e h =
      let R = records_in (length vs) ws ++ records_in (length vs) list in
      let l : (length ws / length vs + length list / length vs) * length vs ≤ k * length vs = omega (arith, both_of list e) in
      let n = (best_length (row_before vs keys) k R).1 (omega (arith, rows_both list, le_of_mul-le-mul_right l some)) in
      merged_length list ∙ ap (λ n. n * length vs) (n ∙ rows_both list) ∙ sym (both_of list e)

  -- and never fewer than there were
  pub merged_longer : (list : List ℕ) → length ws ≤ length (merged (top k vs keys) ws list)
  merged_longer list =
      let R = records_in (length vs) ws ++ records_in (length vs) list in
      let l = best_length (row_before vs keys) k R in
      let r = rows_both list in
      let few = b.few in
      let m : length ws / length vs ≤ length (best_by (row_before vs keys) k R) =
      elim (dec_lt k (length R)) [
        | yes h ↦ let n = l.0 (omega arith) in omega arith
        | no h ↦ let n = l.1 (omega arith) in omega arith
      ] in
      omega (arith, words_of, merged_length list, mul-le-mul_right (length vs) m)

-- a list with a row put in is no shorter
pub with_longer : (k : ℕ) (vs keys : List ℕ) → 0 < length vs → (ws row : List ℕ) → BestList k vs keys ws → length row ≡ length vs
    → length ws ≤ length (with_best k vs keys ws row)
with_longer k vs keys some ws row b h =
    let e : merged (top k vs keys) ws row ≡ with_best k vs keys ws row =
    ap (merged (top k vs keys) ws) (sym (append-nil row))
    ∙ merged_cons k vs keys some ws b row [] h
    ∙ merged_nil k vs keys some (with_best k vs keys ws row) (with_best_lem k vs keys some ws row b h) in
    omega (arith, ap length e, merged_longer k vs keys some ws b row)
