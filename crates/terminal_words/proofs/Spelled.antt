-- The dictionary of spellings is right, has the words of the definition and what each is; a word longer than all of them is no word of SPARQL.
use Prim.Native.Nat.{ℕ, ◌<◌}
use native.Mathlib.Omega.{arith}
use mathlib.Core.Path.{◌≡◌, refl, sym, ◌∙◌, ap}
use mathlib.Core.Bool.{Bool, true, false}
use mathlib.Core.List.{List, [], ◌∷◌, map}
use lib.Dec.{eqb, leb}
use lib.Pointwise.{pointwise}
use lib.ListN.{length, get_or, length-map}
use Rattle.sequences.specs.Sequences.{all, neighbours}
use Rattle.sequences.proofs.Each.{Each}
use Rattle.sequences.proofs.Booleans.{Decided, yes, no, decided, and_left, and_right}
use borrow.Author.Tests.{leb-true}
use Rattle.sequences.proofs.Ascending.{neighbours_ascending}
use Rattle.std.specs.Prelude.{Result, Ok, Err}
use Rattle.dictionaries.specs.Utf8.{formed_from}
use Rattle.dictionaries.specs.Strings.{string_before, same_string}
use Rattle.dictionaries.specs.Dictionaries.{RightDictionary, strings_of, strings_from, ends_right}
use Rattle.dictionaries.specs.Lookups.{lookup_in}
use Rattle.dictionaries.proofs.Strings.{before_ordered, same_equal}
use Rattle.dictionaries.proofs.Searching.{among_none}
use Rattle.dictionaries.proofs.Ranking.{found}
use Rattle.terminals.specs.Computing.{computing}
use Rattle.terminals.specs.Spellings.{capital, spelled_words, kind_at, spelled_kind}
use Rattle.terminal_words.specs.SpellingTables.{spelled_letters, spelled_ends, spelled_numbers}

-- ---- the tables, by computation
pub right_spellings : RightDictionary spelled_letters spelled_ends
unfolding computing ends_right all neighbours strings_from formed_from
right_spellings = record { cut = refl; few = refl; formed = refl; ascend = refl }

same_words_lem : strings_of spelled_letters spelled_ends ≡ spelled_words
unfolding strings_from
same_words_lem = refl

words_ascend : neighbours string_before spelled_words ≡ true
unfolding computing neighbours
words_ascend = refl

-- ---- what is found
module _ (letters ends kinds s : List ℕ) (pl : letters ≡ spelled_letters) (pe : ends ≡ spelled_ends) (pk : kinds ≡ spelled_numbers) (l : Result ℕ ℕ)
    (e : l ≡ lookup_in (strings_of letters ends) s) where
  looked_up : l ≡ lookup_in spelled_words s
  looked_up = e ∙ rw (pl, pe) (ap (λ ss. lookup_in ss s) same_words_lem)

  pub at_within : (n : ℕ) → l ≡ Ok n → n < length kinds
  at_within n f =
      rw pk ((found s spelled_words (neighbours_ascending before_ordered spelled_words words_ascend) n).0 (sym looked_up ∙ f)).within

  pub at_kind : (n : ℕ) → l ≡ Ok n → get_or kinds n 0 ≡ kind_at (lookup_in spelled_words s)
  at_kind n f = rw pk (sym (ap kind_at (sym looked_up ∙ f)))

  pub absent_kind : (n : ℕ) → l ≡ Err n → 19 ≡ kind_at (lookup_in spelled_words s)
  absent_kind n f = sym (ap kind_at (sym looked_up ∙ f))

pub kind_of_capitals : (cs : List ℕ) → kind_at (lookup_in spelled_words (map capital cs)) ≡ spelled_kind cs
unfolding spelled_kind
kind_of_capitals cs = refl

-- ---- longer words
other_length : (s x : List ℕ) → 21 < length s → leb (length x) 21 ≡ true → Decided (same_string s x) → same_string s x ≡ false
other_length s x h e (yes k) =
    let same = ap length (same_equal s x k) in
    let short = leb-true (length x) 21 e in
    absurd (omega arith)
other_length s x h e (no k) = k

longer : (s : List ℕ) (ss : List (List ℕ)) → 21 < length s → all (λ w. leb (length w) 21) ss ≡ true → Each (λ x. same_string s x ≡ false) ss
unfolding all
longer s [] h e = tt
longer s (x ∷ xs) h e =
    let f : List ℕ → Bool = λ w. leb (length w) 21 in (
      other_length s x h (and_left (f x) (all f xs) e) (decided (same_string s x)),
      longer s xs h (and_right (f x) (all f xs) e),
    )

all_short : all (λ w. leb (length w) 21) spelled_words ≡ true
unfolding all
all_short = refl

pub long_other : (cs : List ℕ) → 21 < length cs → spelled_kind cs ≡ 19
unfolding spelled_kind lookup_in
long_other cs h =
    let s = map capital cs in
    let l : 21 < length s = omega (arith, length-map {B = ℕ} cs capital) in
    rw (among_none s spelled_words (longer s spelled_words l all_short)) refl

-- ---- a, and every other word
pub same_as_one : (cs : List ℕ) (a : ℕ) → pointwise eqb cs (a ∷ []) ≡ same_string cs (a ∷ [])
unfolding same_string
same_as_one [] a = refl
same_as_one (x ∷ []) a = refl
same_as_one (x ∷ y ∷ cs) a = refl
