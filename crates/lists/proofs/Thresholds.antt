-- The threshold lemma: with k rows up to a limit, a row that does not come before the limit enters no later best k.
use Prim.Native.Nat.{ℕ, zero, suc, ◌≤◌}
use native.Mathlib.Omega.{arith}
use mathlib.Core.Path.{◌≡◌, refl, sym, ◌∙◌, ap}
use mathlib.Core.Bool.{Bool, true, false, not}
use mathlib.Core.List.{List, [], ◌∷◌, ◌++◌}
use lib.ListN.{take}
use Rattle.sequences.specs.Sequences.{keep}
use Rattle.sequences.proofs.Booleans.{absurd_true, Decided, yes, no, decided}
use Rattle.sequences.proofs.Orders.{Ordered}
use Rattle.sequences.specs.Sorting.{insert_by, insert_all_by, sort_by, best_by}
use Rattle.sequences.proofs.Inserting.{insert_later}
use Rattle.sequences.proofs.Each.{Each}
use Rattle.lists.proofs.Counts.{count, count_nil, count_no, count_more, count_insert, count_sort}
use Rattle.sequences.proofs.Sorting.{Sorted, sorted_insert, sorted_sort, take_insert_all, sort_append}

-- up to a limit: not after it
abbrev pub up_to : {A : Type 0} → (A → A → Bool) → A → A → Bool
up_to before limit x = not (before limit x)

module _ {A : Type 0} (before : A → A → Bool) (o : Ordered before) (limit : A) where
  none_up : (a : A) (xs : List A) → before limit a ≡ true → Each (λ x. before x a ≡ false) xs
      → count (up_to before limit) xs ≡ 0
  none_up a [] h n = count_nil (up_to before limit)
  none_up a (x ∷ xs) h n =
      count_no (up_to before limit) x xs (ap not (o.weak limit a x h n.0)) ∙ none_up a xs h n.1

  -- a row not before the limit stays out of the first k
  pub stays_out : (k : ℕ) (y : A) (xs : List A) → Sorted before xs → k ≤ count (up_to before limit) xs
      → before y limit ≡ false → take k (insert_by before y xs) ≡ take k xs
  stays_out zero y xs s h l = refl
  stays_out (suc k) y [] s h l = absurd (omega (arith, count_nil (up_to before limit)))
  stays_out (suc k) y (x ∷ xs) s h l =
      elim (decided (before y x)) [
        | yes e ↦ absurd (beyond e (decided (before limit x)))
        | no e ↦ rw (insert_later before y x xs e)
            (let m = count_more (up_to before limit) x xs in ap (λ r. x ∷ r) (stays_out k y xs s.1 (omega arith) l))
      ]
    where
      -- y before x, so x is after the limit, and then none is up to it
      beyond : before y x ≡ true → Decided (before limit x) → ⊥
      beyond e (yes f) =
          let c = count_no (up_to before limit) x xs (ap not f) in let d = none_up x xs f s.0 in omega arith
      beyond e (no f) = absurd_true (o.weak y x limit e f) l

  kept_only : (k : ℕ) (ys xs : List A) → Sorted before xs → k ≤ count (up_to before limit) xs
      → take k (insert_all_by before xs (keep (λ y. before y limit) ys)) ≡ take k (insert_all_by before xs ys)
  unfolding insert_all_by keep
  kept_only k [] xs s h = refl
  kept_only k (y ∷ ys) xs s h =
      elim (decided (before y limit)) [
        | yes e ↦ rw e
            (let c = count_insert (up_to before limit) before y xs in
            let m = count_more (up_to before limit) y xs in
            kept_only k ys (insert_by before y xs) (sorted_insert before o y xs s) (omega arith))
        | no e ↦ rw e
            (kept_only k ys xs s h
            ∙ sym (take_insert_all before k ys xs)
            ∙ ap (λ l. take k (insert_all_by before l ys)) (sym (stays_out k y xs s h e))
            ∙ take_insert_all before k ys (insert_by before y xs))
      ]

  -- with k of the earlier rows up to the limit, only later rows before the limit count
  pub best_before : (k : ℕ) (xs ys : List A) → k ≤ count (up_to before limit) xs
      → best_by before k (xs ++ keep (λ y. before y limit) ys) ≡ best_by before k (xs ++ ys)
  unfolding best_by
  best_before k xs ys h =
      let c = count_sort (up_to before limit) before xs in
      ap (take k) (sort_append before xs (keep (λ y. before y limit) ys))
      ∙ kept_only k ys (sort_by before xs) (sorted_sort before o xs) (omega arith)
      ∙ sym (ap (take k) (sort_append before xs ys))
