-- Sorted strings, of which each is taken once, are the strings of the dictionary.
use Prim.Native.Nat.{ℕ}
use mathlib.Core.Path.{◌≡◌, refl, sym, ◌∙◌, ap, ap₂}
use mathlib.Core.Bool.{Bool, true, false, ◌||◌}
use mathlib.Core.Logic.{inl}
use mathlib.Core.List.{List, [], ◌∷◌}
use Rattle.sequences.proofs.Booleans.{absurd_true, Decided, yes, no, decided}
use Rattle.sequences.proofs.Each.{Each}
use Rattle.sequences.proofs.EachMore.{each_weaken}
use Rattle.sequences.proofs.Ascending.{Ahead, Ascending}
use Rattle.sequences.proofs.Sorting.{Sorted}
use Rattle.dictionaries.specs.Strings.{string_before, same_string}
use Rattle.dictionaries.specs.Dictionaries.{is_among}
use Rattle.dictionaries.proofs.Strings.{before_equal, before_ordered, same_self, same_equal}
use Rattle.dictionaries.proofs.Searching.{among_none, differs}
use Rattle.dictionary_numberings.specs.Numbering.{strings_once}
use Rattle.dictionary_numberings.specs.Sorted.{last_of_each}
use Rattle.dictionary_numberings.proofs.Once.{or_twice, once_ascends, once_among}

-- ---- by cases
module _ (x y : List ℕ) (ys : List (List ℕ)) where
  pub last_kept : string_before x y ≡ true → last_of_each (x ∷ y ∷ ys) ≡ x ∷ last_of_each (y ∷ ys)
  unfolding last_of_each
  last_kept e = rw e

  pub last_left : string_before x y ≡ false → last_of_each (x ∷ y ∷ ys) ≡ last_of_each (y ∷ ys)
  unfolding last_of_each
  last_left e = rw e

-- ---- a property of each
last_each : (Q : List ℕ → Type 0) (xs : List (List ℕ)) → Each Q xs → Each Q (last_of_each xs)
unfolding last_of_each
last_each Q [] a = tt
last_each Q (x ∷ []) a = a
last_each Q (x ∷ y ∷ ys) a =
    elim (decided (string_before x y)) [
      | yes e ↦ rw e (a.0, last_each Q (y ∷ ys) a.1)
      | no e ↦ rw e (last_each Q (y ∷ ys) a.1)
    ]

-- ---- they ascend
pub last_ascends : (xs : List (List ℕ)) → Sorted string_before xs → Ascending string_before (last_of_each xs)
unfolding last_of_each
last_ascends [] s = tt
last_ascends (x ∷ []) s = (tt, tt)
last_ascends (x ∷ y ∷ ys) s =
    elim (decided (string_before x y)) [
      | yes e ↦ rw e (
        last_each (λ z. string_before x z ≡ true) (y ∷ ys) (e, each_weaken (λ z f. before_ordered.weak x y z e f) ys s.1.0),
        last_ascends
            (y ∷ ys) s.1,
      )
      | no e ↦ rw e (last_ascends (y ∷ ys) s.1)
    ]

-- ---- the first of them is the list's first
pub last_first : (x : List ℕ) (xs : List (List ℕ)) → Sorted string_before (x ∷ xs) → (rest : List (List ℕ)) × (last_of_each (x ∷ xs) ≡ x ∷ rest)
unfolding last_of_each
last_first x [] s = ([], refl)
last_first x (y ∷ ys) s =
    elim (decided (string_before x y)) [
      | yes e ↦ (last_of_each (y ∷ ys), last_kept x y ys e)
      | no e ↦
          let r = last_first y ys s.1 in
          (r.0, last_left x y ys e ∙ (r.1 ∙ ap (λ z. z ∷ r.0) (sym (before_equal x y e s.0.0))))
    ]

-- ---- and are the same strings
last_among : (xs : List (List ℕ)) → Sorted string_before xs → (t : List ℕ) → is_among (last_of_each xs) t ≡ is_among xs t
unfolding last_of_each is_among
last_among [] s t = refl
last_among (x ∷ []) s t = refl
last_among (x ∷ y ∷ ys) s t =
    elim (decided (string_before x y)) [
      | yes e ↦ rw e (ap (λ b. same_string t x || b) (last_among (y ∷ ys) s.1 t))
      | no e ↦ rw e
          (last_among (y ∷ ys) s.1 t
          ∙ sym (ap (λ z. same_string t z || (same_string t y || is_among ys t)) (before_equal x y e s.0.0) ∙ or_twice (same_string t y) (is_among ys t)))
    ]

-- ---- strings that ascend are told by which they are
ahead_absent : (x : List ℕ) (xs : List (List ℕ)) → Ahead string_before x xs → is_among xs x ≡ false
ahead_absent x xs a = among_none x xs (each_weaken (λ y e. differs x y (decided (same_string x y)) (inl e)) xs a)

or_same : (a b c : Bool) → a ≡ false → a || b ≡ a || c → b ≡ c
or_same true b c e h = absurd_true refl e
or_same false b c e h = h

among_first : (x : List ℕ) (xs : List (List ℕ)) → is_among (x ∷ xs) x ≡ true
unfolding is_among
among_first x xs = rw (same_self x)

among_cons : (x : List ℕ) (xs : List (List ℕ)) (t : List ℕ) → is_among (x ∷ xs) t ≡ same_string t x || is_among xs t
unfolding is_among
among_cons x xs t = refl

among_nil : (t : List ℕ) → is_among [] t ≡ false
unfolding is_among
among_nil t = refl

pub told_apart : (xs ys : List (List ℕ)) → Ascending string_before xs → Ascending string_before ys
    → ((t : List ℕ) → is_among xs t ≡ is_among ys t) → xs ≡ ys
told_apart [] [] a b h = refl
told_apart [] (y ∷ ys) a b h = absurd_true (h y ∙ among_first y ys) (among_nil y)
told_apart (x ∷ xs) [] a b h = absurd_true (sym (h x) ∙ among_first x xs) (among_nil x)
told_apart (x ∷ xs) (y ∷ ys) a b h = go (decided (string_before x y)) (decided (string_before y x)) (told_apart xs ys a.1 b.1)
  where
    earlier : (x y : List ℕ) (ys : List (List ℕ)) → Ahead string_before y ys → string_before x y ≡ true → is_among (y ∷ ys) x ≡ false
    earlier x y ys b e = ahead_absent x (y ∷ ys) (e, each_weaken (λ z. before_ordered.trans x y z e) ys b)

    tails : x ≡ y → (t : List ℕ) → Decided (same_string t x) → is_among xs t ≡ is_among ys t
    tails e t (no f) =
        or_same (same_string t x) (is_among xs t) (is_among ys t) f
        (sym (among_cons x xs t) ∙ (h t ∙ (among_cons y ys t ∙ ap (λ z. same_string t z || is_among ys t) (sym e))))
    tails e t (yes f) =
        let g = same_equal t x f in
        ap (is_among xs) g ∙ (ahead_absent x xs a.0 ∙ sym (ap (is_among ys) (g ∙ e) ∙ ahead_absent y ys b.0))

    go : Decided (string_before x y) → Decided (string_before y x)
        → (((t : List ℕ) → is_among xs t ≡ is_among ys t) → xs ≡ ys) → x ∷ xs ≡ y ∷ ys
    go (yes e) d ih = absurd_true (sym (h x) ∙ among_first x xs) (earlier x y ys b.0 e)
    go (no e) (yes d) ih = absurd_true (h y ∙ among_first y ys) (earlier y x xs a.0 d)
    go (no e) (no d) ih = let z = before_equal x y e d in ap₂ ◌∷◌ z (ih (λ t. tails z t (decided (same_string t x))))

-- ---- so sorted strings come to the dictionary's
pub sorted_once : (xs ss : List (List ℕ)) → Sorted string_before xs → ((t : List ℕ) → is_among xs t ≡ is_among ss t)
    → last_of_each xs ≡ strings_once ss
sorted_once xs ss s h = told_apart (last_of_each xs) (strings_once ss) (last_ascends xs s) (once_ascends ss)
    (λ t. last_among xs s t ∙ (h t ∙ sym (once_among ss t)))
