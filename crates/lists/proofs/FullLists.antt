-- A threshold that is the last row of a full list, merged out of some earlier turns' lists, whatever thresholds those turns
-- had, leaves out none of the best k: k of the rows delivered by then do not come after it.
use Prim.Native.Nat.{ℕ, suc, ◌*◌, ◌≤◌, ◌<◌}
use native.Mathlib.Omega.{arith}
use native.Mathlib.Nat.{eq_of_mul-eq-mul_right}
use mathlib.Core.Path.{◌≡◌, refl, sym, ◌∙◌, ap, ap₂, subst}
use mathlib.Core.Bool.{Bool}
use mathlib.Core.List.{List, [], ◌∷◌, ◌++◌, map, flatten, foldl, append-nil, append_assoc, map-append}
use lib.ListN.{length, get_or, get_or-map}
use Rattle.words.specs.Bindings.{Bindings}
use Rattle.words.specs.Words.{variable, word, rising_kind}
use Rattle.words.specs.Computing as words
use Rattle.plans.specs.Endings.{Ending, rows, top, group, registers}
use Rattle.sequences.specs.Sorting.{best_by}
use Rattle.lists.specs.Rows.{project, row_before, ahead}
use Rattle.lists.specs.Gathering.{width, records_in, gathered, merged}
use Rattle.lists.specs.Thresholds.{merged_all, last_row, chosen_from, LastOfFull, Sent, absent, row}
use Rattle.lists.specs.Computing as lists
use Rattle.lists.proofs.Records.{Wide, wide_append, wide_records, wide_best, records_flatten, records_nil, length_flatten}
use Rattle.sequences.proofs.Sorting.{Sorted, sorted_best, best_none, best_left}
use Rattle.lists.proofs.Counts.{count, count_append, count_best, count_ahead}
use Rattle.lists.proofs.Chosen.{count_chosen}
use Rattle.lists.proofs.Thresholds.{up_to}
use Rattle.lists.proofs.LastRows.{last_of, last_row_lem, all_up_to}
use Rattle.lists.proofs.RowOrder.{rows_ordered}
use Rattle.lists.proofs.TopLists.{Fine, fine_none, merged_top, records_gathered}

-- ---- turns: each with the threshold it was sent and the rows of its steps
abbrev pub lists_of : Ending → List (List ℕ × List Bindings) → List (List ℕ)
lists_of e turns = map (λ t. gathered e t.0 t.1) turns

abbrev pub delivered_by : List (List ℕ × List Bindings) → List Bindings
delivered_by turns = flatten (map (λ t. t.1) turns)

-- the rows of some lists
abbrev pub rows_in : ℕ → List (List ℕ) → List (List ℕ)
rows_in w lists = flatten (map (records_in w) lists)

module _ (k : ℕ) (vs keys : List ℕ) (some : 0 < length vs) where
  wide_all : (ls : List (List ℕ)) → Wide (length vs) (rows_in (length vs) ls)
  unfolding flatten
  wide_all [] = tt
  wide_all (l ∷ ls) =
      wide_append (length vs) (records_in (length vs) l) (rows_in (length vs) ls) (wide_records (length vs) l) (wide_all ls)

  merged_from : (ls R : List (List ℕ)) → Wide (length vs) R
      → foldl (merged (top k vs keys)) (flatten (best_by (row_before vs keys) k R)) ls
      ≡ flatten (best_by (row_before vs keys) k (R ++ rows_in (length vs) ls))
  unfolding flatten
  merged_from [] R h = ap (λ l. flatten (best_by (row_before vs keys) k l)) (sym (append-nil R))
  merged_from (l ∷ ls) R h =
      let w = length vs in
      let B = row_before vs keys in
      let L = records_in (length vs) l in
      ap (λ a. foldl (merged (top k vs keys)) a ls)
      (merged_top k vs keys (flatten (best_by B k R)) l
      ∙ ap (λ x. flatten (best_by B k (x ++ L))) (records_flatten w some (best_by B k R) (wide_best w B k R h))
      ∙ ap flatten (best_left B (rows_ordered vs keys) k R L))
      ∙ merged_from ls (R ++ L) (wide_append w R L h (wide_records w l))
      ∙ ap (λ x. flatten (best_by B k x)) (append_assoc R L (rows_in (length vs) ls))

  -- lists merged one after the other are the best k of all their rows
  pub merged_all_lem : (ls : List (List ℕ))
      → merged_all (top k vs keys) ls ≡ flatten (best_by (row_before vs keys) k (rows_in (length vs) ls))
  unfolding flatten
  merged_all_lem ls =
      ap (λ a. foldl (merged (top k vs keys)) a ls) (sym (ap flatten (best_none (row_before vs keys) k))) ∙ merged_from ls [] tt

  -- if k rows are merged, k of all the rows are up to the last of them
  pub full_count : (ls : List (List ℕ)) (threshold : List ℕ)
      → length (merged_all (top k vs keys) ls) ≡ k * length vs
      → threshold ≡ last_row (top k vs keys) (merged_all (top k vs keys) ls)
      → k ≤ count (up_to (row_before vs keys) threshold) (rows_in (length vs) ls)
  full_count ls threshold full last = go M refl
    where
      M : List (List ℕ)
      M = best_by (row_before vs keys) k (rows_in (length vs) ls)

      wide : Wide (length vs) M
      wide = wide_best (length vs) (row_before vs keys) k (rows_in (length vs) ls) (wide_all ls)

      sorted : Sorted (row_before vs keys) M
      sorted = sorted_best (row_before vs keys) (rows_ordered vs keys) k (rows_in (length vs) ls)

      long : length M ≡ k
      long =
          eq_of_mul-eq-mul_right (length vs) some (length M) k
          (sym (length_flatten (length vs) M wide) ∙ ap length (sym (merged_all_lem ls)) ∙ full)

      go : (R : List (List ℕ)) → M ≡ R → k ≤ count (up_to (row_before vs keys) threshold) (rows_in (length vs) ls)
      go [] q = let l : length M ≡ 0 = ap length q in omega (arith, long)
      go (r ∷ rs) q =
          let l : length M ≡ suc (length rs) = ap length q in
          let s : Sorted (row_before vs keys) (r ∷ rs) = subst (Sorted (row_before vs keys)) q sorted in
          let w : Wide (length vs) (r ∷ rs) = subst (Wide (length vs)) q wide in
          let t : threshold ≡ last_of r rs =
          last ∙ ap (last_row (top k vs keys)) (merged_all_lem ls ∙ ap flatten q) ∙ last_row_lem (length vs) r rs w in
          let c : count (up_to (row_before vs keys) threshold) (r ∷ rs) ≡ suc (length rs) =
          ap (λ y. count (up_to (row_before vs keys) y) (r ∷ rs)) t ∙ all_up_to (row_before vs keys) (rows_ordered vs keys) r rs s in
          let d = count_best (up_to (row_before vs keys) threshold) (row_before vs keys) k (rows_in (length vs) ls) in
          let f = ap (count (up_to (row_before vs keys) threshold)) q in
          omega (arith, long)

  -- a turn's list holds no more than its rows, whatever its threshold
  pub list_count : (f : List ℕ → Bool) (threshold : List ℕ) (bs : List Bindings)
      → count f (records_in (length vs) (gathered (top k vs keys) threshold bs)) ≤ count f (map (project vs) bs)
  list_count f threshold bs =
      let B = row_before vs keys in
      let all = map (project vs) bs in
      let r = ap (count f) (records_gathered k vs keys some threshold bs) in
      omega (arith, count_best f B k (ahead B threshold all), count_ahead f B threshold all)

  turns_count : (f : List ℕ → Bool) (turns : List (List ℕ × List Bindings))
      → count f (rows_in (length vs) (lists_of (top k vs keys) turns)) ≤ count f (map (project vs) (delivered_by turns))
  unfolding flatten
  turns_count f [] = omega arith
  turns_count f (t ∷ turns) =
      let L = records_in (length vs) (gathered (top k vs keys) t.0 t.1) in
      let m = ap (count f) (map-append (project vs) t.1 (delivered_by turns)) in
      let i = turns_count f turns in
      let j = list_count f t.0 t.1 in
      let a = count_append f L (rows_in (length vs) (lists_of (top k vs keys) turns)) in
      let b = count_append f (map (project vs) t.1) (map (project vs) (delivered_by turns)) in
      omega arith

  -- the rows of the chosen lists are chosen rows
  chosen_rows : (lists : List (List ℕ)) (chosen : List ℕ)
      → map (records_in (length vs)) (chosen_from lists chosen) ≡ map (λ i. get_or (map (records_in (length vs)) lists) i []) chosen
  chosen_rows lists [] = refl
  chosen_rows lists (i ∷ is) =
      ap₂ ◌∷◌
      (sym (get_or-map (records_in (length vs)) lists i [])
      ∙ ap (get_or (map (records_in (length vs)) lists) i) (records_nil (length vs)))
      (chosen_rows lists is)

  by_count : (bs : List Bindings) (threshold : List ℕ)
      → k ≤ count (up_to (row_before vs keys) threshold) (map (project vs) bs) → Fine (top k vs keys) bs threshold
  by_count bs [] h = tt
  by_count bs (w ∷ ws) h = h

  pub last_fine : (turns : List (List ℕ × List Bindings)) (threshold : List ℕ)
      → LastOfFull (top k vs keys) (lists_of (top k vs keys) turns) threshold
      → Fine (top k vs keys) (delivered_by turns) threshold
  last_fine turns threshold x =
      let f = up_to (row_before vs keys) threshold in
      let lists = lists_of (top k vs keys) turns in
      let a = full_count (chosen_from lists x.chosen) threshold x.full x.last in
      let b = ap (λ l. count f (flatten l)) (chosen_rows lists x.chosen) in
      let c = count_chosen f x.chosen (map (records_in (length vs)) lists) x.once in
      let d = turns_count f turns in
      by_count (delivered_by turns) threshold (omega arith)

-- a threshold sent as it may be leaves out none of the best k, of any ending that has some words in a record
pub sent_fine : (e : Ending) → 0 < width e → (turns : List (List ℕ × List Bindings)) (threshold : List ℕ)
    → Sent e (lists_of e turns) threshold → Fine e (delivered_by turns) threshold
sent_fine e h turns threshold absent = fine_none e (delivered_by turns)
sent_fine (rows vs) h turns threshold (row x) = tt
sent_fine (top k vs keys) h turns threshold (row x) = last_fine k vs keys h turns threshold x
sent_fine (group vs m) h turns threshold (row x) = tt
sent_fine (registers v) h turns threshold (row x) = tt

-- such a threshold is there: of a full list of one row
pub sent_met : Sent (top 1 (variable 0 ∷ []) (word rising_kind 0 ∷ [])) ((5 ∷ []) ∷ []) (5 ∷ [])
unfolding words.computing lists.computing flatten
sent_met = row (record { chosen = 0 ∷ []; there = refl; once = refl; full = refl; last = refl })
