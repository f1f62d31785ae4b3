-- Where an element is put in among sorted ones: found from the front or, in a list that does not descend, from the back.
use Prim.Native.Nat.{suc, ◌≤◌}
use native.Mathlib.Omega.{arith}
use mathlib.Core.Path.{◌≡◌, refl, sym, ◌∙◌, ap}
use mathlib.Core.Bool.{Bool, true, false, not}
use mathlib.Core.List.{List, [], ◌∷◌, ◌++◌}
use lib.ListN.{length, take, drop, length-append, length-take, length-drop}
use borrow.Author.Tests.{not-true}
use Rattle.sequences.specs.Sequences.{neighbours}
use Rattle.sequences.proofs.Booleans.{absurd_true, and_left, and_right, Decided, yes, no, decided}
use Rattle.sequences.proofs.Orders.{Ordered}
use Rattle.sequences.specs.Sorting.{insert_by}
use Rattle.list_best_places.specs.Places.{place_in}
use Rattle.sequences.proofs.Inserting.{insert_nil, insert_here, insert_later}
use Rattle.sequences.proofs.Each.{Each}
use Rattle.sequences.proofs.Sorting.{Sorted}

module _ {A : Type 0} (before : A → A → Bool) (x : A) where
  place_nil : place_in before x [] ≡ 0
  unfolding place_in
  place_nil = refl

  place_here : (y : A) (ys : List A) → before x y ≡ true → place_in before x (y ∷ ys) ≡ 0
  unfolding place_in
  place_here y ys e = rw e

  place_later : (y : A) (ys : List A) → before x y ≡ false → place_in before x (y ∷ ys) ≡ suc (place_in before x ys)
  unfolding place_in
  place_later y ys e = rw e

  pub place_le : (ys : List A) → place_in before x ys ≤ length ys
  place_le [] = omega (arith, place_nil)
  place_le (y ∷ ys) =
      elim (decided (before x y)) [
        | yes e ↦ omega (arith, place_here y ys e)
        | no e ↦ omega (arith, place_later y ys e, place_le ys)
      ]

  -- the elements in front of its place, the new one, and the rest
  pub insert_place : (ys : List A)
      → insert_by before x ys ≡ take (place_in before x ys) ys ++ (x ∷ drop (place_in before x ys) ys)
  insert_place [] = rw (place_nil, insert_nil before x)
  insert_place (y ∷ ys) =
      elim (decided (before x y)) [
        | yes e ↦ rw (place_here y ys e, insert_here before x y ys e)
        | no e ↦ rw (place_later y ys e, insert_later before x y ys e) (ap (λ l. y ∷ l) (insert_place ys))
      ]

  pub length_insert : (ys : List A) → length (insert_by before x ys) ≡ suc (length ys)
  length_insert ys =
      ap length (insert_place ys) ∙ simp (length-append, length-take, length-drop) (omega (arith, place_le ys))

  -- ---- from the back
  -- one that x comes before is behind its place, and so is whatever stands behind that one
  pub place_behind : (z : A) (zs ys : List A) → before x z ≡ true → place_in before x (ys ++ (z ∷ zs)) ≡ place_in before x ys
  place_behind z zs [] h = place_here z zs h ∙ sym place_nil
  place_behind z zs (y ∷ ys) h =
      elim (decided (before x y)) [
        | yes e ↦ place_here y (ys ++ (z ∷ zs)) e ∙ sym (place_here y ys e)
        | no e ↦ place_later y (ys ++ (z ∷ zs)) e ∙ ap suc (place_behind z zs ys h) ∙ sym (place_later y ys e)
      ]

  pub place_back : (z : A) (ys : List A) → before x z ≡ true → place_in before x (ys ++ (z ∷ [])) ≡ place_in before x ys
  place_back z ys h = place_behind z [] ys h

  none_before_lem : (ys : List A) → Each (λ y. before x y ≡ false) ys → place_in before x ys ≡ length ys
  none_before_lem [] n = place_nil
  none_before_lem (y ∷ ys) n = place_later y ys n.0 ∙ ap suc (none_before_lem ys n.1)

  -- one that it does not come before is in front of it, and so are all before that one
  module _ (o : Ordered before) where
    up_to : (z : A) (ys : List A) → before x z ≡ false → Sorted before (ys ++ (z ∷ []))
        → Each (λ y. before x y ≡ false) (ys ++ (z ∷ []))
    up_to z [] h s = (h, tt)
    up_to z (y ∷ ys) h s = (go (decided (before x y)), up_to z ys h s.1)
      where
        last : (l : List A) → Each (λ w. before w y ≡ false) (l ++ (z ∷ [])) → before z y ≡ false
        last [] n = n.0
        last (a ∷ l) n = last l n.1

        go : Decided (before x y) → before x y ≡ false
        go (yes e) = absurd_true (o.weak x y z e (last ys s.0)) h
        go (no e) = e

    pub place_front : (z : A) (ys : List A) → before x z ≡ false → Sorted before (ys ++ (z ∷ []))
        → place_in before x (ys ++ (z ∷ [])) ≡ length (ys ++ (z ∷ []))
    place_front z ys h s = none_before_lem (ys ++ (z ∷ [])) (up_to z ys h s)

-- neighbours that do not descend make a sorted list
module _ {A : Type 0} (before : A → A → Bool) (o : Ordered before) where
  not_before : (x y : A) (ys : List A) → before y x ≡ false → Each (λ z. before z y ≡ false) ys → Each (λ z. before z x ≡ false) ys
  not_before x y [] h n = tt
  not_before x y (z ∷ ys) h n = (go (decided (before z x)), not_before x y ys h n.1)
    where
      go : Decided (before z x) → before z x ≡ false
      go (yes e) = absurd_true (o.weak z x y e h) n.0
      go (no e) = e

  pub sorted_neighbours : (xs : List A) → neighbours (λ x y. not (before y x)) xs ≡ true → Sorted before xs
  unfolding neighbours
  sorted_neighbours [] e = tt
  sorted_neighbours (x ∷ []) e = (tt, tt)
  sorted_neighbours (x ∷ y ∷ ys) e =
      let h = not-true (before y x) (and_left (not (before y x)) (neighbours (λ x y. not (before y x)) (y ∷ ys)) e) in
      let s = sorted_neighbours (y ∷ ys) (and_right (not (before y x)) (neighbours (λ x y. not (before y x)) (y ∷ ys)) e) in
      ((h, not_before x y ys h s.0), s)
