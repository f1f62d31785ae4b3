-- What passes a test of a sorted list is the sorted list of what passes it.
use mathlib.Core.Path.{◌≡◌, sym, ◌∙◌, ap}
use mathlib.Core.Bool.{Bool, true, false}
use mathlib.Core.List.{List, [], ◌∷◌}
use Rattle.sequences.specs.Sequences.{keep}
use Rattle.sequences.specs.Sorting.{insert_by, insert_all_by, sort_by}
use Rattle.sequences.proofs.Booleans.{Decided, yes, no, decided}
use Rattle.sequences.proofs.Orders.{Ordered}
use Rattle.sequences.proofs.Inserting.{insert_nil, insert_here, insert_later}
use Rattle.sequences.proofs.Each.{Each, each_keep}
use Rattle.sequences.proofs.EachMore.{each_weaken}
use Rattle.sequences.proofs.Keeping.{keep_nil, keep_yes, keep_no}
use Rattle.sequences.proofs.Sorting.{Sorted, sorted_insert}

module _ {A : Type 0} (before : A → A → Bool) (o : Ordered before) (f : A → Bool) where
  insert_front : (y : A) (zs : List A) → Each (λ z. before y z ≡ true) zs → insert_by before y zs ≡ y ∷ zs
  insert_front y [] e = insert_nil before y
  insert_front y (z ∷ zs) e = insert_here before y z zs e.0

  keep_put : (y : A) → f y ≡ true → (xs : List A) → Sorted before xs → keep f (insert_by before y xs) ≡ insert_by before y (keep f xs)
  keep_put y p [] s =
      ap (keep f) (insert_nil before y) ∙ keep_yes f y [] p ∙ ap (λ l. y ∷ l) (keep_nil f)
      ∙ sym (ap (insert_by before y) (keep_nil f) ∙ insert_nil before y)
  keep_put y p (x ∷ xs) s = go (decided (before y x)) (decided (f x)) (keep_put y p xs s.1)
    where
      go : Decided (before y x) → Decided (f x) → keep f (insert_by before y xs) ≡ insert_by before y (keep f xs)
          → keep f (insert_by before y (x ∷ xs)) ≡ insert_by before y (keep f (x ∷ xs))
      go (yes e) d ih =
          ap (keep f) (insert_here before y x xs e) ∙ keep_yes f y (x ∷ xs) p
          ∙ sym (insert_front y (keep f (x ∷ xs))
          (each_keep (λ z. before y z ≡ true) f (x ∷ xs) (e, each_weaken (λ z n. o.weak y x z e n) xs s.0)))
      go (no e) (yes d) ih =
          ap (keep f) (insert_later before y x xs e) ∙ keep_yes f x (insert_by before y xs) d ∙ ap (λ l. x ∷ l) ih
          ∙ sym (ap (insert_by before y) (keep_yes f x xs d) ∙ insert_later before y x (keep f xs) e)
      go (no e) (no d) ih =
          ap (keep f) (insert_later before y x xs e) ∙ keep_no f x (insert_by before y xs) d ∙ ih
          ∙ sym (ap (insert_by before y) (keep_no f x xs d))

  keep_left : (y : A) → f y ≡ false → (xs : List A) → keep f (insert_by before y xs) ≡ keep f xs
  keep_left y p [] = ap (keep f) (insert_nil before y) ∙ keep_no f y [] p
  keep_left y p (x ∷ xs) = go (decided (before y x)) (decided (f x)) (keep_left y p xs)
    where
      go : Decided (before y x) → Decided (f x) → keep f (insert_by before y xs) ≡ keep f xs
          → keep f (insert_by before y (x ∷ xs)) ≡ keep f (x ∷ xs)
      go (yes e) d ih = ap (keep f) (insert_here before y x xs e) ∙ keep_no f y (x ∷ xs) p
      go (no e) (yes d) ih =
          ap (keep f) (insert_later before y x xs e) ∙ keep_yes f x (insert_by before y xs) d ∙ ap (λ l. x ∷ l) ih ∙ sym (keep_yes f x xs d)
      go (no e) (no d) ih = ap (keep f) (insert_later before y x xs e) ∙ keep_no f x (insert_by before y xs) d ∙ ih ∙ sym (keep_no f x xs d)

  keep_all : (ys xs : List A) → Sorted before xs → keep f (insert_all_by before xs ys) ≡ insert_all_by before (keep f xs) (keep f ys)
  unfolding insert_all_by
  keep_all [] xs s = ap (insert_all_by before (keep f xs)) (sym (keep_nil f))
  keep_all (y ∷ ys) xs s = go (decided (f y)) (keep_all ys (insert_by before y xs) (sorted_insert before o y xs s))
    where
      go : Decided (f y) → keep f (insert_all_by before (insert_by before y xs) ys) ≡ insert_all_by before (keep f (insert_by before y xs)) (keep f ys)
          → keep f (insert_all_by before (insert_by before y xs) ys) ≡ insert_all_by before (keep f xs) (keep f (y ∷ ys))
      go (yes p) ih = ih ∙ ap (λ l. insert_all_by before l (keep f ys)) (keep_put y p xs s) ∙ sym (ap (insert_all_by before (keep f xs)) (keep_yes f y ys p))
      go (no p) ih = ih ∙ ap (λ l. insert_all_by before l (keep f ys)) (keep_left y p xs) ∙ sym (ap (insert_all_by before (keep f xs)) (keep_no f y ys p))

  pub keep_sort : (xs : List A) → keep f (sort_by before xs) ≡ sort_by before (keep f xs)
  unfolding sort_by
  keep_sort xs = keep_all xs [] tt ∙ ap (λ l. insert_all_by before l (keep f xs)) (keep_nil f)
