-- Best-of lists as words: their rows, and a row put in among them.
use Prim.Native.Nat.{ℕ, suc, ◌+◌, ◌-◌, ◌*◌, ◌≤◌, ◌<◌}
use native.Mathlib.Omega.{arith}
use native.Mathlib.Nat.{add-mul, suc-mul}
use mathlib.Core.Path.{◌≡◌, sym, ◌∙◌, ap, ap₂}
use mathlib.Core.Bool.{not}
use mathlib.Core.List.{List, ◌∷◌, ◌++◌, flatten}
use lib.ListN.{length, take, drop, length-take}
use lib.Seq.{take_all, take-append-le, take-append-add, length-take-le}
use Rattle.sequences.specs.Sequences.{neighbours}
use Rattle.sequences.specs.Sorting.{insert_by}
use Rattle.lists.specs.Rows.{row_before}
use Rattle.lists.specs.Gathering.{records_in}
use Rattle.lists.specs.Delivering.{with_best}
use Rattle.list_best_places.specs.Places.{place_in}
use Rattle.list_best.specs.BestLists.{BestList}
use Rattle.sequences.proofs.Each.{each_take, each_drop}
use Rattle.lists.proofs.Records.{Wide, wide_insert, wide_records, length_records, count_flatten, records_flatten, flatten_records, whole_flatten}
use Rattle.lists.proofs.Records.{flatten_append}
use Rattle.sequences.proofs.Sorting.{Sorted, sorted_take, sorted_insert}
use Rattle.list_best_places.proofs.Placing.{place_le, insert_place, sorted_neighbours}
use Rattle.lists.proofs.RowOrder.{rows_ordered}
use Rattle.list_best_places.proofs.RowWords.{flatten_take, flatten_drop}
use Rattle.lists.proofs.TopValid.{neighbours_sorted}

module _ (k : ℕ) (vs keys : List ℕ) (some : 0 < length vs) where
  -- ---- the rows of a best-of list, and back
  pub best_sorted : (ws : List ℕ) → BestList k vs keys ws → Sorted (row_before vs keys) (records_in (length vs) ws)
  best_sorted ws b = sorted_neighbours (row_before vs keys) (rows_ordered vs keys) (records_in (length vs) ws) b.rising

  pub best_few : (ws : List ℕ) → BestList k vs keys ws → length (records_in (length vs) ws) ≤ k
  best_few ws b = rw (length_records (length vs) ws) b.few

  pub best_rows_lem : (xs : List (List ℕ)) → Wide (length vs) xs → length xs ≤ k → Sorted (row_before vs keys) xs
      → BestList k vs keys (flatten xs)
  best_rows_lem xs h l s =
      record {
        whole = whole_flatten (length vs) xs h;
        few = rw (count_flatten (length vs) some xs h) l;
        rising = ap (neighbours (λ x y. not (row_before vs keys y x))) (records_flatten (length vs) some xs h)
            ∙ neighbours_sorted (row_before vs keys) xs s;
      }

  -- ---- a row put in
  module _ (ws row : List ℕ) (b : BestList k vs keys ws) (width : length row ≡ length vs) where
    abbrev old : List (List ℕ)
    old = records_in (length vs) ws

    abbrev new : List (List ℕ)
    new = take k (insert_by (row_before vs keys) row old)

    pub wide_new : Wide (length vs) new
    wide_new =
        each_take (λ (x : List ℕ). length x ≡ length vs) k (insert_by (row_before vs keys) row old)
        (wide_insert (length vs) (row_before vs keys) row old width (wide_records (length vs) ws))

    pub sorted_new : Sorted (row_before vs keys) new
    sorted_new =
        sorted_take (row_before vs keys) k (insert_by (row_before vs keys) row old)
        (sorted_insert (row_before vs keys) (rows_ordered vs keys) row old (best_sorted ws b))

    -- the list with it is a best-of list again, and its rows are those
    pub with_best_lem : BestList k vs keys (with_best k vs keys ws row)
    with_best_lem = best_rows_lem new wide_new (omega (arith, length-take k (insert_by (row_before vs keys) row old))) sorted_new

    pub records_new : records_in (length vs) (with_best k vs keys ws row) ≡ new
    records_new = records_flatten (length vs) some new wide_new

    -- ---- where its words stand
    abbrev place : ℕ
    place = place_in (row_before vs keys) row old

    placed : insert_by (row_before vs keys) row old ≡ take place old ++ (row ∷ drop place old)
    placed = insert_place (row_before vs keys) row old

    size : length (take place old) ≡ place
    size = length-take-le place old (place_le (row_before vs keys) row old)

    words : flatten old ≡ ws
    words = flatten_records (length vs) ws b.whole

    -- past the k-th row: the list stays
    pub stays : k ≤ place → with_best k vs keys ws row ≡ ws
    stays l =
        let n = size in
        let m = place_le (row_before vs keys) row old in
        let f = best_few ws b in
        ap (λ x. flatten (take k x)) placed
        ∙ ap flatten (take-append-le k (take place old) (row ∷ drop place old) (omega arith) ∙ ap (take k) (take_all place old (omega arith))
        ∙ take_all k old f)
        ∙ words

    -- the words of the rows that are left behind it, up to k in all
    left : place < k → (k - suc place) * length vs ≡ k * length vs - length vs - place * length vs
    left l =
        let back : k - suc place + suc place ≡ k = omega arith in
        let sum = sym (add-mul (k - suc place) (suc place) (length vs)) ∙ ap (λ n. n * length vs) back in
        omega (arith, sum, suc-mul place (length vs))

    behind : place < k
        → flatten (take (k - suc place) (drop place old))
        ≡ take (k * length vs - length vs - place * length vs) (drop (place * length vs) ws)
    behind l =
        flatten_take (length vs) (k - suc place) (drop place old)
        (each_drop (λ (x : List ℕ). length x ≡ length vs) place old (wide_records (length vs) ws))
        ∙ ap₂ take (left l) (flatten_drop (length vs) place old (wide_records (length vs) ws) ∙ ap (drop (place * length vs)) words)

    -- else it stands at its place, and the words behind it are cut at k rows
    pub put_in : place < k
        → with_best k vs keys ws row
        ≡ take (place * length vs) ws ++ (row ++ take (k * length vs - length vs - place * length vs) (drop (place * length vs) ws))
    unfolding flatten
    put_in l =
        let split : k ≡ length (take place old) + suc (k - suc place) = omega (arith, size) in
        ap (λ x. flatten (take k x)) placed
        ∙ ap (λ n. flatten (take n (take place old ++ (row ∷ drop place old)))) split
        ∙ ap flatten (take-append-add (take place old) (row ∷ drop place old) (suc (k - suc place)))
        ∙ flatten_append (take place old) (row ∷ take (k - suc place) (drop place old))
        ∙ ap₂ (λ x y. x ++ (row ++ y))
        (flatten_take (length vs) place old (wide_records (length vs) ws) ∙ ap (take (place * length vs)) words) (behind l)
