-- Strings written one behind the other: what is written, and what is still to be written, make the whole.
use Prim.Native.Nat.{ℕ, suc, ◌+◌, ◌≤◌, ◌<◌}
use native.Mathlib.Omega.{arith}
use native.Mathlib.Numerals.{add-one}
use mathlib.Core.Path.{◌≡◌, refl, sym, ◌∙◌, ap, ap₂}
use mathlib.Core.Bool.{true, false, ◌||◌}
use mathlib.Core.List.{List, [], ◌∷◌, ◌++◌, flatten, append_assoc, append-nil}
use lib.Dec.{eqb}
use lib.ListN.{length, get_or, set, take, drop, length-set, length-append, length-map, take-append-drop, drop_of_length-le}
use lib.Seq.{paste, length-paste, take-paste, drop-paste, take-suc-set, drop-set-lt, drop-drop, drop-cons, take_all, length-take-le}
use borrow.Author.Tests.{eqb-true, eqb-false}
use Rattle.sequences.specs.Sequences.{over}
use Rattle.sequences.proofs.Somewhere.{map_at}
use Rattle.sequences.proofs.Booleans.{or_left, or_right, Decided, yes, no, decided}
use Rattle.dictionaries.specs.Strings.{string_before}
use Rattle.dictionaries.proofs.Checking.{or_rest}
use Rattle.dictionary_numberings.specs.Numbering.{ends_after}
use Rattle.dictionaries.specs.Dictionaries.{strings_of, ends_right, place_before}
use Rattle.dictionaries.proofs.Searching.{strings_length}
use Rattle.dictionary_numberings.specs.Sorted.{last_of_each, sorted_places, strings_at}
use Rattle.dictionary_numberings.proofs.Once.{once_length, once_size}
use Rattle.dictionary_numberings.proofs.Cutting.{ends_length, strings_joined}
use Rattle.dictionary_numberings.proofs.Repeats.{last_kept, last_left}
use Rattle.dictionary_numberings.proofs.Places.{sorted_strings_lem}

-- ---- one string of a sorted list
last_one : (x : List ℕ) → last_of_each (x ∷ []) ≡ x ∷ []
unfolding last_of_each
last_one x = refl

last_none : last_of_each [] ≡ []
unfolding last_of_each
last_none = refl

module _ (xs : List (List ℕ)) (k : ℕ) (h : k < length xs) where
  taken_by_lem : eqb (suc k) (length xs) || string_before (get_or xs k []) (get_or xs (suc k) []) ≡ true → Decided (eqb (suc k) (length xs))
      → last_of_each (drop k xs) ≡ get_or xs k [] ∷ last_of_each (drop (suc k) xs)
  taken_by_lem e (yes z) =
      let l = eqb-true (suc k) (length xs) z in
      rw (drop-cons xs k [] h, drop_of_length-le xs {i = suc k} (omega arith), last_none) (last_one (get_or xs k []))
  taken_by_lem e (no z) =
      let l = eqb-false (suc k) (length xs) z in
      rw (drop-cons xs k [] h, drop-cons xs (suc k) [] (omega arith))
      (last_kept (get_or xs k []) (get_or xs (suc k) []) (drop (suc (suc k)) xs) (or_rest (eqb (suc k) (length xs)) _ z e))

  pub one_taken : eqb (k + 1) (length xs) || string_before (get_or xs k []) (get_or xs (k + 1) []) ≡ true
      → last_of_each (drop k xs) ≡ get_or xs k [] ∷ last_of_each (drop (k + 1) xs)
  one_taken e = rw (add-one k) (taken_by_lem (rw (add-one k) at e) (decided (eqb (suc k) (length xs))))

  left_by_lem : eqb (suc k) (length xs) || string_before (get_or xs k []) (get_or xs (suc k) []) ≡ false →
      last_of_each (drop k xs) ≡ last_of_each (drop (suc k) xs)
  left_by_lem e =
      let l = eqb-false (suc k) (length xs) (or_left (eqb (suc k) (length xs)) _ e) in
      rw (drop-cons xs k [] h, drop-cons xs (suc k) [] (omega arith))
      (last_left (get_or xs k []) (get_or xs (suc k) []) (drop (suc (suc k)) xs) (or_right (eqb (suc k) (length xs)) _ e))

  pub one_left : eqb (k + 1) (length xs) || string_before (get_or xs k []) (get_or xs (k + 1) []) ≡ false
      → last_of_each (drop k xs) ≡ last_of_each (drop (k + 1) xs)
  one_left e = rw (add-one k) (left_by_lem (rw (add-one k) at e))

pub none_left : (xs : List (List ℕ)) (k : ℕ) → length xs ≤ k → last_of_each (drop k xs) ≡ []
none_left xs k h = rw (drop_of_length-le xs {i = k} h) last_none

-- ---- the bytes and the ends
pub record StringsWritten (whole rest : List (List ℕ)) (out₀ out ends₀ ends : List ℕ) (filled count : ℕ) : Type 0 where
  pub out_length : length out ≡ length out₀
  pub ends_same : length ends ≡ length ends₀
  pub filled_in : filled ≤ length out
  pub count_in_fact : count ≤ length ends
  pub bytes_so : flatten whole ≡ take filled out ++ flatten rest
  pub ends_so : ends_after 0 whole ≡ take count ends ++ ends_after filled rest
  pub bytes_behind : drop filled out ≡ drop filled out₀
  pub ends_behind : drop count ends ≡ drop count ends₀

module _ (whole rest : List (List ℕ)) (out₀ out ends₀ ends : List ℕ) (filled count : ℕ) (s : List ℕ)
    (w : StringsWritten whole (s ∷ rest) out₀ out ends₀ ends filled count)
    (room : length (flatten whole) ≤ length out₀) (places : length whole ≤ length ends₀) where
  -- it ends inside of all bytes
  pub string_ends : filled + length s ≤ length (flatten whole)
  unfolding flatten
  string_ends =
      let e : length (flatten whole) ≡ length (take filled out) + length (s ++ flatten rest) = ap length w.bytes_so
      ∙ length-append (take filled out) (s ++ flatten rest) in
      let t = length-take-le filled out w.filled_in in
      let a = length-append s (flatten rest) in
      omega arith

  pub string_fits : filled + length s ≤ length out
  string_fits = let e = string_ends in let o = w.out_length in omega arith

  pub end_fits : count < length ends
  unfolding ends_after
  end_fits =
      let r : List ℕ = ends_after (filled + length s) rest in
      let e : length (ends_after 0 whole) ≡ length (take count ends) + suc (length r) = ap length w.ends_so
      ∙ length-append (take count ends) ((filled + length s) ∷ r) in
      let t = length-take-le count ends w.count_in_fact in
      let n = ends_length 0 whole in
      let o = w.ends_same in
      omega arith

  pub written_step : StringsWritten whole rest out₀ (paste out filled s (length s)) ends₀ (set ends count (filled + length s)) (filled + length s)
      (count + 1)
  unfolding flatten ends_after
  written_step =
      let f = string_fits in
      let g = end_fits in
      let p = length-paste out filled s (length s) f (omega arith) in
      let q : length (set ends count (filled + length s)) ≡ length ends = length-set ends count (filled + length s) in
      let c = w.count_in_fact in
      record {
        out_length = p ∙ w.out_length;
        ends_same = q ∙ w.ends_same;
        filled_in = omega arith;
        count_in_fact = omega arith;
        bytes_so = w.bytes_so
            ∙ (sym (append_assoc (take filled out) s (flatten rest))
            ∙ ap (λ l. l ++ flatten rest)
            (ap (λ l. take filled out ++ l) (sym (take_all (length s) s (omega arith)))
            ∙ sym (take-paste out filled s (length s) w.filled_in (omega arith))));
        ends_so = rw (add-one count)
            (w.ends_so
            ∙ (sym (append_assoc (take count ends) ((filled + length s) ∷ []) (ends_after (filled + length s) rest))
            ∙ ap (λ l. l ++ ends_after (filled + length s) rest) (sym (take-suc-set ends count (filled + length s) g))));
        bytes_behind = drop-paste out filled s (length s) w.filled_in (omega arith)
            ∙ (sym (drop-drop (length s) filled out) ∙ (ap (drop (length s)) w.bytes_behind ∙ drop-drop (length s) filled out₀));
        ends_behind = drop-set-lt (count + 1) ends count (filled + length s) (omega arith)
            ∙ (sym (drop-drop 1 count ends) ∙ (ap (drop 1) w.ends_behind ∙ drop-drop 1 count ends₀));
      }

-- no more are written than there are
pub count_most : (whole rest : List (List ℕ)) (out₀ out ends₀ ends : List ℕ) (filled count : ℕ)
    → StringsWritten whole rest out₀ out ends₀ ends filled count → count ≤ length whole
count_most whole rest out₀ out ends₀ ends filled count w =
    omega (
      arith,
      ap length w.ends_so,
      length-append (take count ends) (ends_after filled rest),
      length-take-le count ends w.count_in_fact,
      ends_length 0 whole,
    )

-- nothing is left to be written
module _ (whole : List (List ℕ)) (out₀ out ends₀ ends : List ℕ) (filled count : ℕ)
    (w : StringsWritten whole [] out₀ out ends₀ ends filled count) where
  bytes_are : flatten whole ≡ take filled out
  unfolding flatten
  bytes_are = w.bytes_so ∙ append-nil (take filled out)

  ends_are : ends_after 0 whole ≡ take count ends
  unfolding ends_after
  ends_are = w.ends_so ∙ append-nil (take count ends)

  pub filled_end : filled ≡ length (flatten whole)
  filled_end = sym (ap length bytes_are ∙ length-take-le filled out w.filled_in)

  pub bytes_end : out ≡ over (flatten whole) out₀
  bytes_end = sym (take-append-drop filled out) ∙ ap₂ ◌++◌ (sym bytes_are) (w.bytes_behind ∙ ap (λ k. drop k out₀) filled_end)

  count_is : length (ends_after 0 whole) ≡ count
  count_is = ap length ends_are ∙ length-take-le count ends w.count_in_fact

  pub ends_end : ends ≡ over (ends_after 0 whole) ends₀
  ends_end = sym (take-append-drop count ends) ∙ ap₂ ◌++◌ (sym ends_are) (w.ends_behind ∙ ap (λ k. drop k ends₀) (sym count_is))

  pub count_end : count ≡ length whole
  count_end = sym count_is ∙ ends_length 0 whole

-- whether an entry is the last of its string, by the strings of the list and by the places
module _ (bytes ends places : List ℕ) (k : ℕ) (h : k < length places) where
  pub string_at : get_or (strings_at bytes ends places) k [] ≡ get_or (strings_of bytes ends) (get_or places k 0) []
  string_at = map_at (λ p. get_or (strings_of bytes ends) p []) places 0 [] k h

  told_by : Decided (eqb (k + 1) (length places))
      → eqb (k + 1) (length places) || string_before (get_or (strings_at bytes ends places) k []) (get_or (strings_at bytes ends places) (k + 1) [])
      ≡ eqb (k + 1) (length places) || place_before bytes ends (get_or places k 0) (get_or places (k + 1) 0)
  told_by (yes z) = rw z refl
  told_by (no z) =
      let l = eqb-false (k + 1) (length places) z in
      ap (λ b. eqb (k + 1) (length places) || b)
      (ap₂ string_before string_at (map_at (λ p. get_or (strings_of bytes ends) p []) places 0 [] (k + 1) (omega arith)))

  pub last_told : eqb (k + 1) (length (strings_at bytes ends places))
      || string_before (get_or (strings_at bytes ends places) k []) (get_or (strings_at bytes ends places) (k + 1) [])
      ≡ eqb (k + 1) (length places) || place_before bytes ends (get_or places k 0) (get_or places (k + 1) 0)
  last_told =
      ap (λ n. eqb (k + 1) n || string_before (get_or (strings_at bytes ends places) k []) (get_or (strings_at bytes ends places) (k + 1) []))
      (length-map places (λ p. get_or (strings_of bytes ends) p []))
      ∙ told_by (decided (eqb (k + 1) (length places)))

-- ---- the strings at their sorted places, each once
abbrev pub sorted_strings : List ℕ → List ℕ → List (List ℕ)
sorted_strings bytes ends = strings_at bytes ends (sorted_places bytes ends)

-- no longer together than the bytes, and no more than the ends
module _ (bytes ends : List ℕ) (h : ends_right (length bytes) 0 ends ≡ true) where
  pub once_bytes : length (flatten (last_of_each (sorted_strings bytes ends))) ≤ length bytes
  once_bytes =
      rw (sorted_strings_lem bytes ends) (omega (arith, once_size (strings_of bytes ends), ap length (strings_joined bytes 0 ends h)))

  pub once_strings : length (last_of_each (sorted_strings bytes ends)) ≤ length ends
  once_strings = rw (sorted_strings_lem bytes ends) (omega (arith, once_length (strings_of bytes ends), strings_length bytes 0 ends))
