-- Strings numbered: the dictionary holds exactly the strings that were given, each once; numbers are the same exactly where strings are, and less exactly
-- where one comes before the other.
use Prim.Native.Nat.{ℕ, ◌<◌}
use native.Mathlib.Omega.{arith}
use mathlib.Core.Path.{◌≡◌, refl, sym, ◌∙◌, ap, subst}
use mathlib.Core.Bool.{true}
use mathlib.Core.List.{List, []}
use lib.Dec.{ltb, leb}
use lib.ListN.{length, get_or, length-map}
use borrow.Author.Tests.{leb-true, le-leb, lt-ltb, ltb-true}
use Rattle.sequences.specs.Sequences.{all, neighbours}
use Rattle.sequences.proofs.Booleans.{and_left, and_right, and_both}
use Rattle.sequences.proofs.Each.{all_each, each_all}
use Rattle.sequences.proofs.Somewhere.{map_at}
use Rattle.sequences.proofs.Ascending.{Ascending, ascending_neighbours}
use Rattle.dictionaries.specs.declared.StringKind.{StringKind}
use Rattle.std.specs.Prelude.{Ok}
use Rattle.dictionaries.specs.Strings.{string_before}
use Rattle.dictionaries.specs.Dictionaries.{strings_of, most_strings, string_rank, is_among}
use Rattle.dictionaries.specs.Checking.{string_right, dictionary_right}
use Rattle.dictionaries.specs.Lookups.{lookup_in}
use Rattle.dictionaries.proofs.Searching.{among_at, lookup_at}
use Rattle.dictionaries.proofs.Ranking.{StandsAt, among_stands, rank_tells}
use Rattle.dictionaries.proofs.Checking.{tested}
use Rattle.dictionary_numberings.specs.Numbering.{strings_once, bytes_once, ends_once, string_numbers, strings_right, Numbered}
use Rattle.dictionary_numberings.proofs.Once.{once_each_lem, once_ascends, once_length, once_among}
use Rattle.dictionary_numberings.proofs.Cutting.{ends_length, ends_cut, strings_cut}

-- ---- a string among strings that ascend stands at its rank
lookup_found : (ss : List (List ℕ)) (s : List ℕ) → is_among ss s ≡ true → lookup_in ss s ≡ Ok (string_rank ss s)
unfolding lookup_in
lookup_found ss s e = rw e

pub at_rank : (ss : List (List ℕ)) → Ascending string_before ss → (s : List ℕ) → is_among ss s ≡ true → StandsAt s ss (string_rank ss s)
at_rank ss a s e =
    let w = among_stands s ss e in
    let f : Ok w.0 ≡ Ok (string_rank ss s) = lookup_at s ss a w.0 w.1.within w.1.is ∙ lookup_found ss s e in
    let z : w.0 ≡ string_rank ss s = cc in
    subst (StandsAt s ss) z w.1

pub rank_at : (ss : List (List ℕ)) → Ascending string_before ss → (s : List ℕ) (n : ℕ) → n < length ss
    → get_or ss n [] ≡ s → string_rank ss s ≡ n
rank_at ss a s n h e =
    let f : Ok n ≡ Ok (string_rank ss s) = lookup_at s ss a n h e ∙ lookup_found ss s (among_at s ss n h e) in
    let z : n ≡ string_rank ss s = cc in
    sym z

-- the dictionary's strings are these, and no others
pub cut_again : (ss : List (List ℕ)) → strings_of (bytes_once ss) (ends_once ss) ≡ strings_once ss
cut_again ss = strings_cut (bytes_once ss) 0 (strings_once ss) refl

pub dictionary_exact : (ss : List (List ℕ)) (s : List ℕ) → is_among (strings_of (bytes_once ss) (ends_once ss)) s ≡ is_among ss s
dictionary_exact ss s = ap (λ l. is_among l s) (cut_again ss) ∙ once_among ss s

module _ (k : StringKind) (ss : List (List ℕ)) (h : strings_right k ss ≡ true) where
  right_test : dictionary_right k (bytes_once ss) (ends_once ss) ≡ true
  unfolding dictionary_right
  right_test =
      let m = leb-true (length ss) most_strings (and_left (leb (length ss) most_strings) (all (string_right k) ss) h) in
      let n = once_length ss in
      let l = ends_length 0 (strings_once ss) in
      let each = each_all (string_right k) (strings_once ss)
      (once_each_lem (λ s. string_right k s ≡ true) ss (all_each (string_right k) ss (and_right (leb (length ss) most_strings) (all (string_right k) ss) h))) in
      let kinds : all (string_right k) (strings_of (bytes_once ss) (ends_once ss)) ≡ true = rw (cut_again ss) each in
      let ascends : neighbours string_before (strings_of (bytes_once ss) (ends_once ss)) ≡ true = rw (cut_again ss)
      (ascending_neighbours string_before (strings_once ss) (once_ascends ss)) in
      and_both _ _ (le-leb (length (ends_once ss)) most_strings (omega arith))
      (and_both _ _ (ends_cut (length (bytes_once ss)) 0 (strings_once ss) (omega arith)) (and_both _ _ kinds ascends))

  -- the string at a place, and its number
  module _ (i : ℕ) (l : i < length ss) where
    number_at : get_or (string_numbers ss) i 0 ≡ string_rank (strings_once ss) (get_or ss i [])
    number_at = map_at (string_rank (strings_once ss)) ss [] 0 i l

    stands_at : StandsAt (get_or ss i []) (strings_once ss) (string_rank (strings_once ss) (get_or ss i []))
    stands_at =
        at_rank (strings_once ss) (once_ascends ss) (get_or ss i [])
        (once_among ss (get_or ss i []) ∙ among_at (get_or ss i []) ss i l refl)

  less_tells : (i j : ℕ) → i < length ss → j < length ss
      → string_before (get_or ss i []) (get_or ss j []) ≡ ltb (get_or (string_numbers ss) i 0) (get_or (string_numbers ss) j 0)
  less_tells i j l m =
      let w = stands_at i l in
      rw (number_at i l, number_at j m)
      (ap (λ s. string_before s (get_or ss j [])) (sym w.is)
      ∙ rank_tells (get_or ss j []) (strings_once ss) (once_ascends ss) (string_rank (strings_once ss) (get_or ss i [])) w.within)

  pub numbered : Numbered k ss (bytes_once ss) (ends_once ss) (string_numbers ss)
  numbered =
      record {
        right = (tested k (bytes_once ss) (ends_once ss)).0 right_test;
        exactly = dictionary_exact ss;
        each = length-map ss (string_rank (strings_once ss));
        within = λ i l. rw (number_at i l, ends_length 0 (strings_once ss)) (stands_at i l).within;
        stands = λ i l. rw (number_at i l, cut_again ss) (stands_at i l).is;
        same = λ i j l m. (
          λ e. sym (stands_at i l).is ∙ (ap (λ n. get_or (strings_once ss) n []) (sym (number_at i l) ∙ (e ∙ number_at j m)) ∙ (stands_at j m).is),
          λ e. number_at i l ∙ (ap (string_rank (strings_once ss)) e ∙ sym (number_at j m)),
        );
        less = λ i j l m. (
          λ e. less_tells i j l m ∙ lt-ltb _ _ e,
          λ e. ltb-true _ _ (sym (less_tells i j l m) ∙ e),
        );
      }
