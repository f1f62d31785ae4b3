-- The outcome of numbering, test by test.
use Prim.Native.Nat.{ℕ, ◌≤◌}
use native.Mathlib.Omega.{arith}
use mathlib.Core.Path.{◌≡◌, refl, sym, ◌∙◌, ap₂}
use mathlib.Core.Bool.{true, false, ◌&&◌}
use mathlib.Core.List.{List, ◌++◌}
use lib.Dec.{leb}
use lib.ListN.{length, drop, length-map}
use borrow.Author.Tests.{leb-true}
use Rattle.sequences.specs.Sequences.{over}
use Rattle.sequences.proofs.Booleans.{and_left, and_right}
use Rattle.words.specs.Tests.{first_failing}
use Rattle.calls.specs.Calls.{result_of_call}
use Rattle.dictionaries.specs.Dictionaries.{most_strings, string_rank}
use Rattle.dictionaries.proofs.Searching.{strings_length}
use Rattle.dictionary_numberings.specs.declared.DictionaryWritten.TheVariants.{Sizes, Refused}
use Rattle.dictionary_numberings.specs.Numbering.{strings_once, bytes_once, ends_once, string_numbers}
use Rattle.dictionary_numberings.specs.Sorted.{sorted_places}
use Rattle.dictionary_numberings.specs.NumberCall.{NumberBuffers, number_buffers, NumberInput, given_strings, given_right, number_room, number_call}
use Rattle.dictionary_numberings.proofs.Places.{places_length}
use Rattle.dictionary_numberings.proofs.NumberCall.{given_strings_lem}

-- ---- 27, as the code tests it
module _ (bytes strings : ℕ) (b : NumberBuffers) where
  pub room_is : leb bytes (length b.bytes) && (leb strings (length b.ends) && (leb strings (length b.numbers) && leb strings (length b.places)))
      ≡ number_room bytes strings b
  unfolding number_room
  room_is = refl

  pub record NumberFits : Type 0 where
    pub for_bytes : bytes ≤ length b.bytes
    pub for_ends : strings ≤ length b.ends
    pub for_numbers : strings ≤ length b.numbers
    pub for_places : strings ≤ length b.places

  pub room_fits : number_room bytes strings b ≡ true → NumberFits
  unfolding number_room
  room_fits e =
      let f = and_right (leb bytes (length b.bytes)) _ e in
      let g = and_right (leb strings (length b.ends)) _ f in
      record {
        for_bytes = leb-true _ _ (and_left (leb bytes (length b.bytes)) _ e);
        for_ends = leb-true _ _ (and_left (leb strings (length b.ends)) _ f);
        for_numbers = leb-true _ _ (and_left (leb strings (length b.numbers)) _ g);
        for_places = leb-true _ _ (and_right (leb strings (length b.numbers)) _ g);
      }

module _ (i : NumberInput) where
  pub wrong_strings : given_right i.kind i.bytes i.ends ≡ false
      → record { answer = Refused 26; buffers = i.buffers } ≡ result_of_call number_call i
  unfolding result_of_call first_failing
  wrong_strings e = rw e

  module _ (g : given_right i.kind i.bytes i.ends ≡ true) where
    pub few : length i.ends ≤ most_strings
    few =
        omega (
          arith,
          leb-true (length (given_strings i)) most_strings (and_left (leb (length (given_strings i)) most_strings) _ (given_strings_lem i g)),
          strings_length i.bytes 0 i.ends,
        )

    pub no_room : number_room (length i.bytes) (length i.ends) i.buffers ≡ false
        → record { answer = Refused 27; buffers = i.buffers } ≡ result_of_call number_call i
    unfolding result_of_call first_failing
    no_room e = rw (g, e)

    -- a result with the dictionary, and with words of which only the first are lent
    module _ (r : number_room (length i.bytes) (length i.ends) i.buffers ≡ true) where
      answered : record { answer = number_call.serves i; buffers = number_call.leaves i } ≡ result_of_call number_call i
      unfolding result_of_call first_failing
      answered = rw (g, r)

      pub served : (a b : ℕ) (out cuts ns ps : List ℕ) → a ≡ length (bytes_once (given_strings i)) → b ≡ length (strings_once (given_strings i))
          → out ≡ over (bytes_once (given_strings i)) i.buffers.bytes → cuts ≡ over (ends_once (given_strings i)) i.buffers.ends
          → ns ≡ string_numbers (given_strings i) → ps ≡ sorted_places i.bytes i.ends
          → record {
            answer = Sizes a b;
            buffers = number_buffers out cuts (ns ++ drop (length i.ends) i.buffers.numbers)
                (ps ++ drop (length i.ends) i.buffers.places);
          } ≡ result_of_call number_call i
      served a b out cuts ns ps c d e f n p =
          let l = sym (length-map (given_strings i) (string_rank (strings_once (given_strings i))) ∙ strings_length i.bytes 0 i.ends) in
          let m = sym (places_length i.bytes i.ends) in
          rw (
            c,
            d,
            e,
            f,
            ap₂ (λ xs k. xs ++ drop k i.buffers.numbers) n l,
            ap₂ (λ xs k. xs ++ drop k i.buffers.places) p m,
          )
          answered
