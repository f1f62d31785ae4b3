-- Lists gathered turn by turn: a row query's are joined end to end, a best-of query's are merged, whatever thresholds were
-- sent, as long as each leaves out none of the best k.
use Prim.Native.Nat.{ℕ, ◌≤◌, ◌<◌}
use mathlib.Core.Path.{◌≡◌, refl, sym, ◌∙◌, ap, ap₂}
use mathlib.Core.List.{List, [], ◌∷◌, ◌++◌, map, flatten, map-append}
use lib.ListN.{length}
use Rattle.words.specs.Bindings.{Bindings}
use Rattle.plans.specs.Endings.{Ending, rows, top, group, registers}
use Rattle.sequences.specs.Sorting.{best_by}
use Rattle.lists.specs.Rows.{project, row_before, ahead}
use Rattle.lists.specs.Gathering.{records_in, gathered, merged}
use Rattle.lists.proofs.Leaving.{ahead_all, ahead_row, ahead_none}
use Rattle.lists.proofs.Records.{Wide, wide_project, wide_best, wide_ahead, records_flatten, flatten_append}
use Rattle.sequences.proofs.Sorting.{best_none, best_left, best_right}
use Rattle.lists.proofs.Counts.{count}
use Rattle.lists.proofs.Thresholds.{up_to, best_before}
use Rattle.lists.proofs.RowOrder.{rows_ordered}

-- a threshold leaves out none of the best k: it is absent, or k of the rows delivered before it do not come after it
abbrev pub Fine : Ending → List Bindings → List ℕ → Type 0
Fine (rows vs) bs threshold = Unit {0}
Fine (top k vs keys) bs [] = Unit {0}
Fine (top k vs keys) bs (w ∷ ws) = k ≤ count (up_to (row_before vs keys) (w ∷ ws)) (map (project vs) bs)
Fine (group vs m) bs threshold = Unit {0}
Fine (registers v) bs threshold = Unit {0}

pub fine_none : (e : Ending) (bs : List Bindings) → Fine e bs []
fine_none (rows vs) bs = tt
fine_none (top k vs keys) bs = tt
fine_none (group vs m) bs = tt
fine_none (registers v) bs = tt

-- ---- rows, joined end to end
pub rows_join : (vs : List ℕ) (xs ys : List Bindings) (threshold : List ℕ)
    → gathered (rows vs) [] xs ++ gathered (rows vs) threshold ys ≡ gathered (rows vs) [] (xs ++ ys)
unfolding gathered
rows_join vs xs ys threshold =
    sym (ap flatten (map-append (project vs) xs ys) ∙ flatten_append (map (project vs) xs) (map (project vs) ys))

pub rows_none : (vs threshold : List ℕ) → gathered (rows vs) threshold [] ≡ []
unfolding gathered flatten
rows_none vs threshold = refl

-- ---- best-of lists
module _ (k : ℕ) (vs keys : List ℕ) where
  -- the best of both, kept rows first among equals
  pub merged_top : (kept list : List ℕ)
      → merged (top k vs keys) kept list
      ≡ flatten (best_by (row_before vs keys) k (records_in (length vs) kept ++ records_in (length vs) list))
  unfolding merged
  merged_top kept list = refl

  -- the rows of a turn's list
  abbrev pub best_rows : List ℕ → List Bindings → List (List ℕ)
  best_rows threshold bs = best_by (row_before vs keys) k (ahead (row_before vs keys) threshold (map (project vs) bs))

  pub wide_rows : (threshold : List ℕ) (bs : List Bindings) → Wide (length vs) (best_rows threshold bs)
  wide_rows threshold bs =
      let all = map (project vs) bs in
      wide_best (length vs) (row_before vs keys) k (ahead (row_before vs keys) threshold all)
      (wide_ahead (length vs) (row_before vs keys) threshold all (wide_project vs bs))

  pub top_none : (threshold : List ℕ) → gathered (top k vs keys) threshold [] ≡ []
  unfolding gathered flatten
  top_none threshold = rw (ahead_none (row_before vs keys) threshold, best_none (row_before vs keys) k)

  -- with such a threshold, the best of all rows are those of the rows that it leaves
  best_fine : (threshold : List ℕ) (xs ys : List Bindings) → Fine (top k vs keys) xs threshold
      → best_by (row_before vs keys) k (map (project vs) xs ++ ahead (row_before vs keys) threshold (map (project vs) ys))
      ≡ best_by (row_before vs keys) k (map (project vs) xs ++ map (project vs) ys)
  best_fine [] xs ys f = rw (ahead_all (row_before vs keys) (map (project vs) ys))
  best_fine (w ∷ ws) xs ys f =
      rw (ahead_row (row_before vs keys) w ws (map (project vs) ys))
      (best_before (row_before vs keys) (rows_ordered vs keys) (w ∷ ws) k (map (project vs) xs) (map (project vs) ys) f)

  module _ (some : 0 < length vs) where
    -- a turn's list, read back
    pub records_gathered : (threshold : List ℕ) (bs : List Bindings)
        → records_in (length vs) (gathered (top k vs keys) threshold bs) ≡ best_rows threshold bs
    unfolding gathered
    records_gathered threshold bs = records_flatten (length vs) some (best_rows threshold bs) (wide_rows threshold bs)

    -- the kept list of the earlier rows, merged with a turn's list of the later ones, is the list of both
    pub merge_top : (threshold : List ℕ) (xs ys : List Bindings) → Fine (top k vs keys) xs threshold
        → merged (top k vs keys) (gathered (top k vs keys) [] xs) (gathered (top k vs keys) threshold ys)
        ≡ gathered (top k vs keys) [] (xs ++ ys)
    unfolding gathered
    merge_top threshold xs ys f =
        let B = row_before vs keys in
        let o = rows_ordered vs keys in
        let X = map (project vs) xs in
        let Y = ahead B threshold (map (project vs) ys) in
        merged_top (gathered (top k vs keys) [] xs) (gathered (top k vs keys) threshold ys)
        ∙ ap flatten
        (ap₂ (λ a b. best_by B k (a ++ b)) (records_gathered [] xs ∙ ap (best_by B k) (ahead_all B X))
        (records_gathered threshold ys)
        ∙ best_left B o k X (best_by B k Y)
        ∙ best_right B o k X Y
        ∙ best_fine threshold xs ys f
        ∙ ap (best_by B k) (sym (map-append (project vs) xs ys) ∙ sym (ahead_all B (map (project vs) (xs ++ ys)))))
