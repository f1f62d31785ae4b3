-- The strings at their sorted places: sorted, and the same as those that were given.
use Prim.Native.Nat.{ℕ, zero, suc, ◌+◌, ◌-◌, ◌≤◌, ◌<◌}
use native.Mathlib.Omega.{arith}
use mathlib.Core.Path.{◌≡◌, refl, sym, ◌∙◌, ap, ap₂, subst}
use mathlib.Core.Bool.{Bool, true, false, ◌||◌}
use mathlib.Core.List.{List, [], ◌∷◌, ◌++◌, map, map-append, map-map}
use lib.ListN.{length, get_or, take, drop, length-drop, length-map}
use lib.Seq.{take-suc, take_all, drop-cons, get_or-drop}
use borrow.Author.Tests.{lt-ltb}
use Rattle.sequences.specs.Sequences.{all, numbers}
use Rattle.sequences.specs.Sorting.{insert_by, insert_all_by, sort_by}
use Rattle.sequences.proofs.Booleans.{yes, no, decided}
use Rattle.sequences.proofs.Each.{Each}
use Rattle.sequences.proofs.EachMore.{each_mapped}
use Rattle.sequences.proofs.Numbers.{numbers_all, numbers_length}
use Rattle.sequences.proofs.Sorting.{Sorted, sorted_sort}
use Rattle.sequences.proofs.SortingParts.{sorted_drop, length_sort, all_sort, each_sorted}
use Rattle.dictionaries.specs.Strings.{string_before, same_string}
use Rattle.dictionaries.specs.Dictionaries.{strings_of, string_rank, is_among, has_string, place_before}
use Rattle.dictionaries.proofs.Searching.{place_ordered, strings_length}
use Rattle.dictionary_numberings.specs.Numbering.{strings_once}
use Rattle.dictionary_numberings.specs.Sorted.{last_of_each, sorted_places, strings_at}
use Rattle.dictionary_numberings.proofs.Once.{or_swap}
use Rattle.dictionary_numberings.proofs.Repeats.{last_ascends, last_first, sorted_once}
use Rattle.dictionary_numberings.proofs.Numbered.{rank_at}

-- ---- sorted by what they stand for
sorted_map : {A B : Type 0} (f : A → B) (before : B → B → Bool) (xs : List A) → Sorted (λ a b. before (f a) (f b)) xs → Sorted before (map f xs)
sorted_map f before [] s = tt
sorted_map f before (x ∷ xs) s = (each_mapped (λ y. before y (f x) ≡ false) f xs s.0, sorted_map f before xs s.1)

-- ---- the same strings, whatever the order
module _ (f : ℕ → List ℕ) (before : ℕ → ℕ → Bool) (t : List ℕ) where
  insert_among : (x : ℕ) (xs : List ℕ) → is_among (map f (insert_by before x xs)) t ≡ same_string t (f x) || is_among (map f xs) t
  unfolding is_among insert_by
  insert_among x [] = refl
  insert_among x (y ∷ ys) =
      elim (decided (before x y)) [
        | yes e ↦ rw e refl
        | no e ↦ rw e
            (ap (λ b. same_string t (f y) || b) (insert_among x ys) ∙ or_swap (same_string t (f y)) (same_string t (f x)) (is_among (map f ys) t))
      ]

  or-false : (b : Bool) → b || false ≡ b
  or-false true = refl
  or-false false = refl

  or_later : (a b c : Bool) → b || (a || c) ≡ (a || b) || c
  or_later true true c = refl
  or_later true false c = refl
  or_later false true c = refl
  or_later false false c = refl

  all_among : (xs ys : List ℕ) → is_among (map f (insert_all_by before xs ys)) t ≡ is_among (map f ys) t || is_among (map f xs) t
  unfolding is_among insert_all_by
  all_among xs [] = refl
  all_among xs (y ∷ ys) =
      all_among (insert_by before y xs) ys
      ∙ (ap (λ b. is_among (map f ys) t || b) (insert_among y xs) ∙ or_later (same_string t (f y)) (is_among (map f ys) t) (is_among (map f xs) t))

  sort_among : (xs : List ℕ) → is_among (map f (sort_by before xs)) t ≡ is_among (map f xs) t
  unfolding is_among sort_by
  sort_among xs = all_among [] xs ∙ or-false (is_among (map f xs) t)

-- ---- each place in turn is the list
front_numbers : {A : Type 0} (xs : List A) (d : A) (n : ℕ) → n ≤ length xs → map (λ p. get_or xs p d) (numbers n) ≡ take n xs
unfolding numbers
front_numbers xs d zero h = refl
front_numbers xs d (suc n) h =
    map-append (λ p. get_or xs p d) (numbers n) (n ∷ [])
    ∙ (ap (λ l. l ++ (get_or xs n d ∷ [])) (front_numbers xs d n (omega arith)) ∙ sym (take-suc xs n d (omega arith)))

map_same : {A : Type 0} (f g : ℕ → A) (xs : List ℕ) → Each (λ x. f x ≡ g x) xs → map f xs ≡ map g xs
map_same f g [] h = refl
map_same f g (x ∷ xs) h = ap₂ ◌∷◌ h.0 (map_same f g xs h.1)

-- ---- in a sorted list the different strings before one are its rank
rank_sorted : (xs : List (List ℕ)) → Sorted string_before xs → (k count : ℕ) → k < length xs
    → drop count (last_of_each xs) ≡ last_of_each (drop k xs) → string_rank (last_of_each xs) (get_or xs k []) ≡ count
rank_sorted xs s k count h e =
    let f = last_first (get_or xs k []) (drop (suc k) xs) (subst (Sorted string_before) (drop-cons xs k [] h) (sorted_drop string_before k xs s)) in
    let g : drop count (last_of_each xs) ≡ get_or xs k [] ∷ f.0 = e ∙ (ap last_of_each (drop-cons xs k [] h) ∙ f.1) in
    let n : length (last_of_each xs) - count ≡ suc (length f.0) = sym (length-drop count (last_of_each xs)) ∙ ap length g in
    let z : count + 0 ≡ count = omega arith in
    rank_at (last_of_each xs) (last_ascends xs s) (get_or xs k []) count (omega arith)
    (ap (λ m. get_or (last_of_each xs) m []) (sym z) ∙ (sym (get_or-drop count (last_of_each xs) 0 []) ∙ ap (λ l. get_or l 0 []) g))

module _ (bytes ends : List ℕ) where
  all_strings : strings_at bytes ends (numbers (length ends)) ≡ strings_of bytes ends
  all_strings =
      let n = strings_length bytes 0 ends in
      front_numbers (strings_of bytes ends) [] (length ends) (omega arith) ∙ take_all (length ends) (strings_of bytes ends) (omega arith)

  strings_sorted : Sorted string_before (strings_at bytes ends (sorted_places bytes ends))
  strings_sorted =
      sorted_map (λ p. get_or (strings_of bytes ends) p []) string_before (sorted_places bytes ends)
      (sorted_sort (place_before bytes ends) (place_ordered bytes ends) (numbers (length ends)))

  -- the strings at their sorted places, each once, are the dictionary's
  pub sorted_strings_lem : last_of_each (strings_at bytes ends (sorted_places bytes ends)) ≡ strings_once (strings_of bytes ends)
  sorted_strings_lem =
      sorted_once (strings_at bytes ends (sorted_places bytes ends)) (strings_of bytes ends)
      strings_sorted
      (λ t. sort_among (λ p. get_or (strings_of bytes ends) p []) (place_before bytes ends) t (numbers (length ends)) ∙ ap (λ l. is_among l t) all_strings)

  -- each place is one of a string, and there are as many
  pub numbers_within : all (has_string ends) (numbers (length ends)) ≡ true
  numbers_within = numbers_all (has_string ends) (length ends) (λ i l. lt-ltb i (length ends) l)

  pub places_within : all (has_string ends) (sorted_places bytes ends) ≡ true
  places_within = all_sort (place_before bytes ends) (has_string ends) (numbers (length ends)) numbers_within

  pub places_length : length (sorted_places bytes ends) ≡ length ends
  places_length = length_sort (place_before bytes ends) (numbers (length ends)) ∙ numbers_length (length ends)

  -- what has at each of the sorted places what that string has is what all strings have
  pub by_places : (g : List ℕ → ℕ) (ns : List ℕ) → length ns ≡ length ends
      → Each (λ p. get_or ns p 0 ≡ g (get_or (strings_of bytes ends) p [])) (sorted_places bytes ends) → ns ≡ map g (strings_of bytes ends)
  by_places g ns n e =
      let at : ℕ → List ℕ = λ p. get_or (strings_of bytes ends) p [] in
      sym (front_numbers ns 0 (length ends) (omega arith) ∙ take_all (length ends) ns (omega arith))
      ∙ (map_same (λ p. get_or ns p 0) (λ p. g (at p)) (numbers (length ends))
      (each_sorted (λ p. get_or ns p 0 ≡ g (at p)) (place_before bytes ends) (numbers (length ends)) e)
      ∙ (sym (map-map g at (numbers (length ends))) ∙ ap (map g) all_strings))

  -- the number of a string at its sorted place: how many different ones stand before it
  pub rank_next : (k count : ℕ) → k < length (sorted_places bytes ends)
      → let xs = strings_at bytes ends (sorted_places bytes ends) in drop count (last_of_each xs) ≡ last_of_each (drop k xs)
      → string_rank (last_of_each xs) (get_or xs k []) ≡ count
  rank_next k count h e =
      rank_sorted (strings_at bytes ends (sorted_places bytes ends)) strings_sorted k count
      (let m = length-map (sorted_places bytes ends) (λ p. get_or (strings_of bytes ends) p []) in omega arith) e
