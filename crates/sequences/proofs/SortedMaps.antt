-- What a list is made into, sorted: where both orders agree, it is what the sorted list is made into.
use mathlib.Core.Path.{◌≡◌, refl, sym, ◌∙◌, ap}
use mathlib.Core.Bool.{Bool}
use mathlib.Core.List.{List, [], ◌∷◌, map}
use Rattle.sequences.specs.Sorting.{insert_by, insert_all_by, sort_by}
use Rattle.sequences.proofs.Booleans.{yes, no, decided}
use Rattle.sequences.proofs.Each.{Each, each_insert}
use Rattle.sequences.proofs.Inserting.{insert_nil, insert_here, insert_later}

module _ {A B : Type 0} (before : A → A → Bool) (after : B → B → Bool) (f : A → B) (P : A → Type 0)
    (agree : (x y : A) → P x → P y → after (f x) (f y) ≡ before x y) where
  insert_map : (y : A) (xs : List A) → P y → Each P xs → map f (insert_by before y xs) ≡ insert_by after (f y) (map f xs)
  insert_map y [] p q = ap (map f) (insert_nil before y) ∙ sym (insert_nil after (f y))
  insert_map y (x ∷ xs) p q =
      elim (decided (before y x)) [
        | yes e ↦
            ap (map f) (insert_here before y x xs e)
            ∙ sym (insert_here after (f y) (f x) (map f xs) (agree y x p q.0 ∙ e))
        | no e ↦
            ap (map f) (insert_later before y x xs e)
            ∙ ap (λ l. f x ∷ l) (insert_map y xs p q.1)
            ∙ sym (insert_later after (f y) (f x) (map f xs) (agree y x p q.0 ∙ e))
      ]

  insert_all_map : (ys xs : List A) → Each P ys → Each P xs → map f (insert_all_by before xs ys) ≡ insert_all_by after (map f xs) (map f ys)
  unfolding insert_all_by
  insert_all_map [] xs p q = refl
  insert_all_map (y ∷ ys) xs p q =
      insert_all_map ys (insert_by before y xs) p.1 (each_insert P before y xs p.0 q)
      ∙ ap (λ l. insert_all_by after l (map f ys)) (insert_map y xs p.0 q)

  pub sort_map : (xs : List A) → Each P xs → map f (sort_by before xs) ≡ sort_by after (map f xs)
  unfolding sort_by
  sort_map xs p = insert_all_map xs [] p tt
