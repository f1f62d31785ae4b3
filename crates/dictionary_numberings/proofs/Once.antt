-- Each string once: the strings ascend, and are exactly those that were given.
use Prim.Native.Nat.{ℕ, suc, ◌+◌, ◌≤◌}
use native.Mathlib.Omega.{arith}
use mathlib.Core.Path.{◌≡◌, refl, sym, ◌∙◌, ap}
use mathlib.Core.Bool.{Bool, true, false, ◌||◌}
use mathlib.Core.List.{List, [], ◌∷◌, ◌++◌, flatten}
use lib.ListN.{length, length-append}
use Rattle.sequences.proofs.Booleans.{Decided, yes, no, decided}
use Rattle.sequences.proofs.Each.{Each}
use Rattle.sequences.proofs.Ascending.{Ascending, ahead_less}
use Rattle.dictionaries.specs.Strings.{string_before, same_string}
use Rattle.dictionaries.specs.Dictionaries.{is_among}
use Rattle.dictionaries.proofs.Strings.{before_equal, before_ordered}
use Rattle.dictionary_numberings.specs.Numbering.{insert_once, strings_once}

-- ---- by cases
module _ (s x : List ℕ) (xs : List (List ℕ)) where
  pub put_first : string_before s x ≡ true → insert_once s (x ∷ xs) ≡ s ∷ x ∷ xs
  unfolding insert_once
  put_first e = rw e

  pub put_later : string_before s x ≡ false → string_before x s ≡ true → insert_once s (x ∷ xs) ≡ x ∷ insert_once s xs
  unfolding insert_once
  put_later e f = rw (e, f)

  pub put_same : string_before s x ≡ false → string_before x s ≡ false → insert_once s (x ∷ xs) ≡ x ∷ xs
  unfolding insert_once
  put_same e f = rw (e, f)

put_none : (s : List ℕ) → insert_once s [] ≡ s ∷ []
unfolding insert_once
put_none s = refl

-- what is true of a property, by the cases
module _ (P : List (List ℕ) → Type 0) (s x : List ℕ) (xs : List (List ℕ)) where
  by_cases : (string_before s x ≡ true → P (s ∷ x ∷ xs)) → (string_before x s ≡ true → P (x ∷ insert_once s xs)) → (s ≡ x → P (x ∷ xs))
      → P (insert_once s (x ∷ xs))
  by_cases f g h = go (decided (string_before s x)) (decided (string_before x s))
    where
      go : Decided (string_before s x) → Decided (string_before x s) → P (insert_once s (x ∷ xs))
      go (yes e) d = rw (put_first s x xs e) (f e)
      go (no e) (yes d) = rw (put_later s x xs e d) (g d)
      go (no e) (no d) = rw (put_same s x xs e d) (h (before_equal s x e d))

-- ---- a property of each string
module _ (Q : List ℕ → Type 0) where
  insert_each : (s : List ℕ) (xs : List (List ℕ)) → Q s → Each Q xs → Each Q (insert_once s xs)
  insert_each s [] q a = rw (put_none s) (q, tt)
  insert_each s (x ∷ xs) q a = by_cases (Each Q) s x xs (λ e. (q, a)) (λ e. (a.0, insert_each s xs q a.1)) (λ e. a)

  pub once_each_lem : (ss : List (List ℕ)) → Each Q ss → Each Q (strings_once ss)
  unfolding strings_once
  once_each_lem [] a = tt
  once_each_lem (s ∷ ss) a = insert_each s (strings_once ss) a.0 (once_each_lem ss a.1)

-- ---- they ascend
insert_ascends : (s : List ℕ) (xs : List (List ℕ)) → Ascending string_before xs → Ascending string_before (insert_once s xs)
insert_ascends s [] a = rw (put_none s) (tt, tt)
insert_ascends s (x ∷ xs) a =
    by_cases (Ascending string_before) s x xs
    (λ e. ((e, ahead_less before_ordered s x xs e a.0), a))
    (λ e. (insert_each (λ y. string_before x y ≡ true) s xs e a.0, insert_ascends s xs a.1))
    (λ e. a)

pub once_ascends : (ss : List (List ℕ)) → Ascending string_before (strings_once ss)
unfolding strings_once
once_ascends [] = tt
once_ascends (s ∷ ss) = insert_ascends s (strings_once ss) (once_ascends ss)

-- ---- no more than were given
insert_length : (s : List ℕ) (xs : List (List ℕ)) → length (insert_once s xs) ≤ suc (length xs)
insert_length s [] = rw (put_none s) (omega arith)
insert_length s (x ∷ xs) =
    let i = insert_length s xs in
    by_cases (λ l. length l ≤ suc (suc (length xs))) s x xs (λ e. omega arith) (λ e. omega arith) (λ e. omega arith)

pub once_length : (ss : List (List ℕ)) → length (strings_once ss) ≤ length ss
unfolding strings_once
once_length [] = omega arith
once_length (s ∷ ss) = let i = once_length ss in let j = insert_length s (strings_once ss) in omega arith

insert_size : (s : List ℕ) (xs : List (List ℕ)) → length (flatten (insert_once s xs)) ≤ length s + length (flatten xs)
unfolding flatten
insert_size s [] = rw (put_none s) (omega (arith, length-append s []))
insert_size s (x ∷ xs) =
    let i = insert_size s xs in
    let l = length-append x (flatten xs) in
    by_cases (λ l. length (flatten l) ≤ length s + length (x ++ flatten xs)) s x xs
    (λ e. omega (arith, length-append s (x ++ flatten xs))) (λ e. omega (arith, length-append x (flatten (insert_once s xs)))) (λ e. omega arith)

-- nor longer together
pub once_size : (ss : List (List ℕ)) → length (flatten (strings_once ss)) ≤ length (flatten ss)
unfolding strings_once flatten
once_size [] = omega arith
once_size (s ∷ ss) = let i = once_size ss in let j = insert_size s (strings_once ss) in omega (arith, length-append s (flatten ss))

-- ---- exactly these
pub or_swap : (a b c : Bool) → a || (b || c) ≡ b || (a || c)
or_swap true true c = refl
or_swap true false c = refl
or_swap false true c = refl
or_swap false false c = refl

pub or_twice : (a c : Bool) → a || (a || c) ≡ a || c
or_twice true c = refl
or_twice false c = refl

insert_among : (s : List ℕ) (xs : List (List ℕ)) (t : List ℕ) → is_among (insert_once s xs) t ≡ same_string t s || is_among xs t
unfolding is_among
insert_among s [] t = rw (put_none s) refl
insert_among s (x ∷ xs) t =
    by_cases (λ l. is_among l t ≡ same_string t s || (same_string t x || is_among xs t)) s x xs
    (λ e. refl)
    (λ e. ap (λ b. same_string t x || b) (insert_among s xs t) ∙ or_swap (same_string t x) (same_string t s) (is_among xs t))
    (λ e. sym (ap (λ y. same_string t y || (same_string t x || is_among xs t)) e ∙ or_twice (same_string t x) (is_among xs t)))

pub once_among : (ss : List (List ℕ)) (t : List ℕ) → is_among (strings_once ss) t ≡ is_among ss t
unfolding strings_once is_among
once_among [] t = refl
once_among (s ∷ ss) t = insert_among s (strings_once ss) t ∙ ap (λ b. same_string t s || b) (once_among ss t)
