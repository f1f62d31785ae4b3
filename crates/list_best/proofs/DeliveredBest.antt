-- The best-of list of some delivered rows with one row more is that of all of them; and what taking up a row asks of a list holds of
-- every list that was gathered.
use Prim.Native.Nat.{ℕ, ◌≤◌, ◌<◌}
use mathlib.Core.Path.{◌≡◌, refl, sym, ◌∙◌, ap, subst}
use mathlib.Core.Bool.{Bool, true, false, ◌&&◌}
use mathlib.Core.List.{List, [], ◌∷◌, ◌++◌, map, flatten, append-nil, map-append}
use lib.ListN.{length, take}
use borrow.Author.Tests.{le-leb}
use Rattle.words.specs.Bindings.{Bindings}
use Rattle.sequences.specs.Sequences.{all, keep, distinct}
use Rattle.sequences.proofs.Booleans.{absurd_true, and_right, Decided, yes, no, decided}
use Rattle.plans.specs.Endings.{top, key_among, ending_right}
use Rattle.plans.proofs.Bounds.{TopForm}
use Rattle.sequences.specs.Sorting.{insert_by, insert_all_by, sort_by, best_by}
use Rattle.lists.specs.Rows.{project, row_before, ahead}
use Rattle.lists.specs.Gathering.{gathered, least_output, threshold_right}
use Rattle.lists.specs.Delivering.{is_ahead, with_row}
use Rattle.std.specs.Prelude.{Some}
use Rattle.lists.specs.Putting.{Taken, Listed}
use Rattle.list_best.specs.BestLists.{TopParts, BestList, Deliverable}
use Rattle.lists.proofs.Leaving.{ahead_all, ahead_row}
use Rattle.lists.proofs.Counts.{keep_append}
use Rattle.sequences.proofs.Sorting.{take_insert, sort_append, sorted_best, length_best}
use Rattle.lists.proofs.RowOrder.{rows_ordered}
use Rattle.lists.proofs.TopLists.{best_rows, wide_rows, records_gathered}
use Rattle.list_best.proofs.BestWords.{best_rows_lem}
use Rattle.list_best.proofs.DeliveringBest.{taken_up, left_behind, with_room_lem}

-- ---- the rows that a threshold leaves, with one more
module _ (before : List ℕ → List ℕ → Bool) (x : List ℕ) (xs : List (List ℕ)) where
  ahead_more : (threshold : List ℕ) → is_ahead before threshold x ≡ true
      → ahead before threshold (xs ++ (x ∷ [])) ≡ ahead before threshold xs ++ (x ∷ [])
  unfolding keep
  ahead_more [] e = ahead_all before (xs ++ (x ∷ [])) ∙ sym (ap (λ l. l ++ (x ∷ [])) (ahead_all before xs))
  ahead_more (w ∷ ws) e =
      let one : keep (λ y. before y (w ∷ ws)) (x ∷ []) ≡ x ∷ [] = rw e in
      ahead_row before w ws (xs ++ (x ∷ []))
      ∙ keep_append (λ y. before y (w ∷ ws)) xs (x ∷ [])
      ∙ ap (λ l. keep (λ y. before y (w ∷ ws)) xs ++ l) one
      ∙ sym (ap (λ l. l ++ (x ∷ [])) (ahead_row before w ws xs))

  ahead_less : (threshold : List ℕ) → is_ahead before threshold x ≡ false
      → ahead before threshold (xs ++ (x ∷ [])) ≡ ahead before threshold xs
  unfolding keep
  ahead_less [] e = absurd_true refl e
  ahead_less (w ∷ ws) e =
      let none : keep (λ y. before y (w ∷ ws)) (x ∷ []) ≡ [] = rw e in
      ahead_row before w ws (xs ++ (x ∷ []))
      ∙ keep_append (λ y. before y (w ∷ ws)) xs (x ∷ [])
      ∙ ap (λ l. keep (λ y. before y (w ∷ ws)) xs ++ l) none
      ∙ append-nil (keep (λ y. before y (w ∷ ws)) xs)
      ∙ sym (ahead_row before w ws xs)

-- the best k with one more
best_more : {A : Type 0} (before : A → A → Bool) (k : ℕ) (x : A) (xs : List A)
    → take k (insert_by before x (best_by before k xs)) ≡ best_by before k (xs ++ (x ∷ []))
unfolding best_by insert_all_by
best_more before k x xs = take_insert before k x (sort_by before xs) ∙ sym (ap (take k) (sort_append before xs (x ∷ [])))

-- ---- best-of lists
module _ (k : ℕ) (vs keys : List ℕ) (some : 0 < length vs) (threshold : List ℕ) (bs : List Bindings) where
  pub delivered_top : (b : Bindings)
      → with_row (top k vs keys) threshold (gathered (top k vs keys) threshold bs) b
      ≡ gathered (top k vs keys) threshold (bs ++ (b ∷ []))
  unfolding gathered
  delivered_top b = go (decided (is_ahead (row_before vs keys) threshold (project vs b)))
    where
      B : List ℕ → List ℕ → Bool
      B = row_before vs keys

      list : List ℕ
      list = gathered (top k vs keys) threshold bs

      -- the rows that the threshold leaves, of all
      left : List (List ℕ)
      left = ahead B threshold (map (project vs) (bs ++ (b ∷ [])))

      split : left ≡ ahead B threshold (map (project vs) bs ++ (project vs b ∷ []))
      split = ap (ahead B threshold) (map-append (project vs) bs (b ∷ []))

      go : Decided (is_ahead B threshold (project vs b))
          → with_row (top k vs keys) threshold list b ≡ flatten (best_by B k left)
      go (yes e) =
          taken_up k vs keys threshold list b e
          ∙ ap (λ x. flatten (take k (insert_by B (project vs b) x))) (records_gathered k vs keys some threshold bs)
          ∙ ap flatten (best_more B k (project vs b) (ahead B threshold (map (project vs) bs)))
          ∙ sym (ap (λ x. flatten (best_by B k x)) (split ∙ ahead_more B (project vs b) (map (project vs) bs) threshold e))
      go (no e) =
          left_behind k vs keys threshold list b e
          ∙ sym (ap (λ x. flatten (best_by B k x)) (split ∙ ahead_less B (project vs b) (map (project vs) bs) threshold e))

  -- a gathered list is a best-of list
  pub gathered_best : BestList k vs keys (gathered (top k vs keys) threshold bs)
  unfolding gathered
  gathered_best =
      best_rows_lem k vs keys some (best_rows k vs keys threshold bs) (wide_rows k vs keys threshold bs)
      (length_best (row_before vs keys) k (ahead (row_before vs keys) threshold (map (project vs) bs)))
      (sorted_best (row_before vs keys) (rows_ordered vs keys) k (ahead (row_before vs keys) threshold (map (project vs) bs)))

-- ---- what the tests of a turn leave
pub top_parts : (bound : ℕ → Bool) (k : ℕ) (vs keys : List ℕ) → TopForm k vs keys → ending_right bound (top k vs keys) ≡ true
    → TopParts k vs keys
unfolding ending_right
top_parts bound k vs keys f e =
    record {
      some = f.row.least;
      narrow = f.row.most;
      few = f.most;
      among = and_right (all bound vs && distinct vs) (all (key_among vs) keys) e;
    }

-- where the front of an output is the list of the rows so far, one more may be taken up
pub deliverable : {k : ℕ} {vs keys threshold out : List ℕ} {used : ℕ} → TopParts k vs keys
    → threshold_right (top k vs keys) threshold ≡ true → least_output (top k vs keys) ≤ length out → used ≤ length out
    → (bs : List Bindings) → take used out ≡ gathered (top k vs keys) threshold bs → Deliverable k vs keys threshold out used
deliverable {k} {vs} {keys} {threshold} p s r f bs e =
    record {
      parts = p;
      sent = s;
      fit = f;
      best = subst (BestList k vs keys) (sym e) (gathered_best k vs keys p.some threshold bs);
      room = r;
    }

-- and the output has room for it: a best-of list is never full
pub never_full : {k : ℕ} {vs keys threshold out : List ℕ} {used : ℕ} → Deliverable k vs keys threshold out used → (b : Bindings)
    → {after : List ℕ} {r : ℕ} → Listed (with_row (top k vs keys) threshold (take used out) b) out after r
    → Taken (with_row (top k vs keys) threshold (take used out) b) out after (Some r)
never_full {k} {vs} {keys} {threshold} {out} {used} d b l =
    let t = le-leb (length (with_row (top k vs keys) threshold (take used out) b)) (length out) (with_room_lem d b) in
    (ap Some l.0 ∙ rw t, l.1 ∙ rw t)
