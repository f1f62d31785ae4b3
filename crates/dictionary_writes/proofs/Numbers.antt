-- Numbers written at the sorted places of strings: at each place how many different strings stand before its own.
use Prim.Native.Nat.{ℕ, ◌+◌, ◌≤◌, ◌<◌}
use native.Mathlib.Omega.{arith}
use native.Mathlib.Numerals.{add-one}
use mathlib.Core.Path.{◌≡◌, sym, ◌∙◌, ap, subst}
use mathlib.Core.List.{List, [], ◌∷◌}
use lib.ListN.{length, get_or, set, take, drop, length-set}
use lib.Seq.{get_or-set_same, get_or-set_other, take-suc, take_all, drop-drop}
use Rattle.sequences.proofs.Each.{Each, each_append}
use Rattle.sequences.proofs.EachMore.{each_weaken}
use Rattle.sequences.proofs.Orders.{Three, less, same, more, three}
use Rattle.dictionaries.specs.Dictionaries.{strings_of, string_rank}
use Rattle.dictionary_numberings.specs.Numbering.{strings_once, string_numbers}
use Rattle.dictionary_numberings.specs.Sorted.{last_of_each, sorted_places}
use Rattle.dictionary_numberings.proofs.Places.{sorted_strings_lem, by_places, rank_next}
use Rattle.dictionary_writes.proofs.Writing.{sorted_strings, string_at}

-- one more entry of a list is what it should be, the others as before
put_one : (r : ℕ → ℕ) (ns : List ℕ) (p v : ℕ) → p < length ns → r p ≡ v → (q : ℕ) → get_or ns q 0 ≡ r q → get_or (set ns p v) q 0 ≡ r q
put_one r ns p v h e q f = go (three q p)
  where
    go : Three q p → get_or (set ns p v) q 0 ≡ r q
    go (less l) = get_or-set_other ns p q v 0 (λ z. omega arith) ∙ f
    go (same l) = rw l (get_or-set_same ns p v 0 h ∙ sym e)
    go (more l) = get_or-set_other ns p q v 0 (λ z. omega arith) ∙ f

module _ (bytes ends : List ℕ) where
  abbrev places : List ℕ
  places = sorted_places bytes ends

  abbrev strings : List (List ℕ)
  strings = sorted_strings bytes ends

  abbrev whole : List (List ℕ)
  whole = last_of_each strings

  abbrev rank : ℕ → ℕ
  rank p = string_rank whole (get_or (strings_of bytes ends) p [])

  -- the first k places have their numbers, as many as different strings stand before place k
  pub record NumbersWritten (old ns : List ℕ) (count k : ℕ) : Type 0 where
    pub long : length ns ≡ length old
    pub rest_is : drop count whole ≡ last_of_each (drop k strings)
    pub numbers_so : Each (λ p. get_or ns p 0 ≡ rank p) (take k places)

  module _ (old ns : List ℕ) (count k p : ℕ) (w : NumbersWritten old ns count k)
      (h : k < length places) (e : p ≡ get_or places k 0) (l : p < length ns) where
    counted : rank p ≡ count
    counted = ap rank e ∙ (ap (string_rank whole) (sym (string_at bytes ends places k h)) ∙ rank_next bytes ends k count h w.rest_is)

    put : Each (λ q. get_or (set ns p count) q 0 ≡ rank q) (take (k + 1) places)
    put =
        rw (add-one k, take-suc places k 0 h)
        (each_append (λ q. get_or (set ns p count) q 0 ≡ rank q) (take k places) (get_or places k 0 ∷ [])
        (each_weaken (λ q. put_one rank ns p count l counted q) (take k places) w.numbers_so)
        (subst (λ q. get_or (set ns p count) q 0 ≡ rank q) e (get_or-set_same ns p count 0 l ∙ sym counted), tt))

    same_long : length (set ns p count) ≡ length old
    same_long = length-set ns p count ∙ w.long

    -- by whether the string is the last of its kind
    pub numbers_kept : (s : List ℕ) → last_of_each (drop k strings) ≡ s ∷ last_of_each (drop (k + 1) strings)
        → NumbersWritten old (set ns p count) (count + 1) (k + 1)
    numbers_kept s f =
        record {
          long = same_long;
          rest_is = sym (drop-drop 1 count whole) ∙ ap (drop 1) (w.rest_is ∙ f);
          numbers_so = put;
        }

    pub numbers_left_lem : last_of_each (drop k strings) ≡ last_of_each (drop (k + 1) strings) → NumbersWritten old (set ns p count) count (k + 1)
    numbers_left_lem f = record { long = same_long; rest_is = w.rest_is ∙ f; numbers_so = put }

  pub numbers_end : (old ns : List ℕ) (count k : ℕ) → NumbersWritten old ns count k → length places ≤ k → length old ≡ length ends
      → ns ≡ string_numbers (strings_of bytes ends)
  numbers_end old ns count k w h l =
      by_places bytes ends (string_rank (strings_once (strings_of bytes ends))) ns (w.long ∙ l)
      (rw (← sorted_strings_lem bytes ends) (subst (Each (λ p. get_or ns p 0 ≡ rank p)) (take_all k places h) w.numbers_so))
