-- Elements of which no two are equal: so it is of their parts, of those that are kept, of the best of them, and of turns' lists.
use Prim.Native.Nat.{ℕ, zero, suc, ◌<◌}
use mathlib.Core.Path.{refl, sym, subst}
use mathlib.Core.Bool.{Bool, true, false, cond}
use mathlib.Core.List.{List, [], ◌∷◌, ◌++◌, map, map-append, flatten, append-nil}
use mathlib.Core.List.Permᴰ
use mathlib.Core.List.{Permᴰ}
use lib.ListN.{length, take}
use Rattle.words.specs.Bindings.{Bindings}
use Rattle.sequences.specs.Sequences.{keep}
use Rattle.sequences.specs.Sorting.{insert_by, insert_all_by, sort_by, best_by}
use Rattle.sequences.proofs.Booleans.{Decided, yes, no, decided}
use Rattle.sequences.proofs.Orders.{Ordered}
use Rattle.sequences.proofs.Inserting.{insert_nil, insert_here, insert_later}
use Rattle.sequences.proofs.Each.{Each, each_append, each_take, each_keep, each_best}
use Rattle.sequences.proofs.EachMore.{each_weaken, each_left, each_right}
use Rattle.plans.specs.Endings.{top}
use Rattle.lists.specs.Rows.{project, row_before, ahead}
use Rattle.lists.specs.Gathering.{records_in, gathered}
use Rattle.lists.proofs.Leaving.{ahead_all, ahead_row, each_ahead}
use Rattle.lists.proofs.FullLists.{lists_of, delivered_by, rows_in}
use Rattle.lists.proofs.RowOrder.{rows_ordered}
use Rattle.lists.proofs.TopLists.{best_rows, records_gathered}
use Rattle.merge_orders.specs.Apart.{Differs, Apart}
use Rattle.merge_orders.proofs.Permuted.{same_permuted, behind_permuted, past}
use Rattle.merge_orders.proofs.Reordering.{to_each, of_each, apart_permuted}

module _ {A : Type 0} (before : A → A → Bool) where
  -- ---- two parts, and each of one beside each of the other
  pub apart_append : (xs ys : List A) → Apart before xs → Apart before ys → Each (λ x. Each (Differs before x) ys) xs → Apart before (xs ++ ys)
  apart_append [] ys p q r = q
  apart_append (x ∷ xs) ys p q r = (
    of_each before x (xs ++ ys) (each_append (Differs before x) xs ys (to_each before x xs p.0) r.0),
    apart_append xs ys p.1 q r.1,
  )

  pub apart_left : (xs ys : List A) → Apart before (xs ++ ys) → Apart before xs
  apart_left [] ys p = tt
  apart_left (x ∷ xs) ys p =
      (of_each before x xs (each_left (Differs before x) xs ys (to_each before x (xs ++ ys) p.0)), apart_left xs ys p.1)

  pub apart_right : (xs ys : List A) → Apart before (xs ++ ys) → Apart before ys
  apart_right [] ys p = p
  apart_right (x ∷ xs) ys p = apart_right xs ys p.1

  pub apart_across : (xs ys : List A) → Apart before (xs ++ ys) → Each (λ x. Each (Differs before x) ys) xs
  apart_across [] ys p = tt
  apart_across (x ∷ xs) ys p =
      (each_right (Differs before x) xs ys (to_each before x (xs ++ ys) p.0), apart_across xs ys p.1)

  -- ---- fewer of them
  apart_take : (k : ℕ) (xs : List A) → Apart before xs → Apart before (take k xs)
  apart_take zero xs p = tt
  apart_take (suc k) [] p = tt
  apart_take (suc k) (x ∷ xs) p =
      (of_each before x (take k xs) (each_take (Differs before x) k xs (to_each before x xs p.0)), apart_take k xs p.1)

  pub apart_keep : (f : A → Bool) (xs : List A) → Apart before xs → Apart before (keep f xs)
  unfolding keep
  apart_keep f [] p = tt
  apart_keep f (x ∷ xs) p = go (f x) (apart_keep f xs p.1)
    where
      go : (b : Bool) → Apart before (keep f xs) → Apart before (cond b (x ∷ keep f xs) (keep f xs))
      go true h = (of_each before x (keep f xs) (each_keep (Differs before x) f xs (to_each before x xs p.0)), h)
      go false h = h

  -- ---- sorted
  insert_permutes : (x : A) (ys : List A) → Permᴰ (x ∷ ys) (insert_by before x ys)
  insert_permutes x [] = same_permuted (sym (insert_nil before x))
  insert_permutes x (y ∷ ys) = go (decided (before x y)) (insert_permutes x ys)
    where
      go : Decided (before x y) → Permᴰ (x ∷ ys) (insert_by before x ys) → Permᴰ (x ∷ y ∷ ys) (insert_by before x (y ∷ ys))
      go (yes e) h = same_permuted (sym (insert_here before x y ys e))
      go (no e) h =
          Permᴰ.trans (Permᴰ.swap refl refl)
          (Permᴰ.trans (Permᴰ.cons refl h) (same_permuted (sym (insert_later before x y ys e))))

  insert_all_permutes : (xs zs : List A) → Permᴰ (xs ++ zs) (insert_all_by before zs xs)
  unfolding insert_all_by
  insert_all_permutes [] zs = Permᴰ.refl zs
  insert_all_permutes (x ∷ xs) zs =
      Permᴰ.trans (past x xs zs)
      (Permᴰ.trans (behind_permuted xs (insert_permutes x zs)) (insert_all_permutes xs (insert_by before x zs)))

  pub apart_best : Ordered before → (k : ℕ) (xs : List A) → Apart before xs → Apart before (best_by before k xs)
  unfolding best_by sort_by
  apart_best o k xs p =
      apart_take k (insert_all_by before [] xs)
      (apart_permuted before o (Permᴰ.trans (same_permuted (sym (append-nil xs))) (insert_all_permutes xs [])) p)

-- ---- the rows of turns' lists: where no two delivered rows are equal in all keys, no two of theirs are
module _ (k : ℕ) (vs keys : List ℕ) (some-vs : 0 < length vs) where
  abbrev before : List ℕ → List ℕ → Bool
  before = row_before vs keys

  abbrev projected : List (List ℕ × List Bindings) → List (List ℕ)
  projected ts = map (project vs) (delivered_by ts)

  apart_ahead : (threshold : List ℕ) (xs : List (List ℕ)) → Apart before xs → Apart before (ahead before threshold xs)
  apart_ahead [] xs p = subst (Apart before) (sym (ahead_all before xs)) p
  apart_ahead (w ∷ ws) xs p = subst (Apart before) (sym (ahead_row before w ws xs)) (apart_keep before (λ x. before x (w ∷ ws)) xs p)

  each_rows : (P : List ℕ → Type 0) (threshold : List ℕ) (bs : List Bindings) → Each P (map (project vs) bs)
      → Each P (best_rows k vs keys threshold bs)
  each_rows P threshold bs h =
      each_best P before k (ahead before threshold (map (project vs) bs)) (each_ahead P before threshold (map (project vs) bs) h)

  each_lists : (P : List ℕ → Type 0) (ts : List (List ℕ × List Bindings)) → Each P (projected ts)
      → Each P (rows_in (length vs) (lists_of (top k vs keys) ts))
  unfolding flatten
  each_lists P [] h = tt
  each_lists P (t ∷ ts) h =
      let g = subst (Each P) (map-append (project vs) t.1 (delivered_by ts)) h in
      each_append P (records_in (length vs) (gathered (top k vs keys) t.0 t.1)) (rows_in (length vs) (lists_of (top k vs keys) ts))
      (subst (Each P) (sym (records_gathered k vs keys some-vs t.0 t.1))
      (each_rows P t.0 t.1 (each_left P (map (project vs) t.1) (projected ts) g)))
      (each_lists P ts (each_right P (map (project vs) t.1) (projected ts) g))

  pub apart_lists : (ts : List (List ℕ × List Bindings)) → Apart before (projected ts)
      → Apart before (rows_in (length vs) (lists_of (top k vs keys) ts))
  unfolding flatten
  apart_lists [] h = tt
  apart_lists (t ∷ ts) h =
      let g = subst (Apart before) (map-append (project vs) t.1 (delivered_by ts)) h in
      let X = map (project vs) t.1 in
      let rest = rows_in (length vs) (lists_of (top k vs keys) ts) in
      let own : Apart before (best_rows k vs keys t.0 t.1) =
      apart_best before (rows_ordered vs keys) k (ahead before t.0 X) (apart_ahead t.0 X (apart_left before X (projected ts) g)) in
      let across : Each (λ x. Each (Differs before x) rest) (best_rows k vs keys t.0 t.1) =
      each_rows (λ x. Each (Differs before x) rest) t.0 t.1
      (each_weaken (λ x. each_lists (Differs before x) ts) X (apart_across before X (projected ts) g)) in
      subst (λ l. Apart before (l ++ rest)) (sym (records_gathered k vs keys some-vs t.0 t.1))
      (apart_append before (best_rows k vs keys t.0 t.1) rest own
      (apart_lists ts (apart_right before X (projected ts) g)) across)
