-- Numbering strings: the tests in order, the answer, and the buffers at exit. Assumes nothing: these are definitions.
use Rattle.std.specs.Prelude.{ℕ, Bool, ◌&&◌, List, [], ◌∷◌, leb, length, take}
use Rattle.sequences.specs.Sequences.{over}
use Rattle.words.specs.Tests.{Test}
use Rattle.calls.specs.Calls.{CallSchema, result_of_call}
use Rattle.dictionaries.specs.declared.StringKind.{StringKind}
use Rattle.dictionaries.specs.Dictionaries.{strings_of, ends_right}
use Rattle.dictionary_numberings.specs.declared.DictionaryWritten.{DictionaryWritten}
use Rattle.dictionary_numberings.specs.declared.DictionaryWritten.TheVariants.{Sizes, Refused}
use Rattle.dictionary_numberings.specs.Numbering.{strings_once, bytes_once, ends_once, string_numbers, strings_right, Numbered}
use Rattle.dictionary_numberings.specs.Sorted.{sorted_places}

-- the buffers that a call writes to: the bytes and the ends of the dictionary, a number for each string, and the words that it sorts in
pub record NumberBuffers : Type 0 where
  pub bytes : List ℕ
  pub ends : List ℕ
  pub numbers : List ℕ
  pub places : List ℕ

abbrev pub number_buffers : List ℕ → List ℕ → List ℕ → List ℕ → NumberBuffers
number_buffers bytes ends numbers places = record { bytes = bytes; ends = ends; numbers = numbers; places = places }

-- what a call is given: strings of a kind in any order and as often as they come, as bytes and the ends that cut these
pub record NumberInput : Type 0 where
  pub kind : StringKind
  pub bytes : List ℕ
  pub ends : List ℕ
  pub buffers : NumberBuffers

abbrev pub number_input : StringKind → List ℕ → List ℕ → NumberBuffers → NumberInput
number_input kind bytes ends buffers = record { kind = kind; bytes = bytes; ends = ends; buffers = buffers }

abbrev pub given_strings : NumberInput → List (List ℕ)
given_strings i = strings_of i.bytes i.ends

-- ---- the tests
-- 26: ends that cut the bytes, and strings of the kind, not too many
unfoldable pub given_right : StringKind → List ℕ → List ℕ → Bool
given_right k bytes ends = ends_right (length bytes) 0 ends && strings_right k (strings_of bytes ends)

-- 27, by lengths alone: room for `bytes` bytes, and for an end, a number and a place of each string
unfoldable pub number_room : ℕ → ℕ → NumberBuffers → Bool
number_room bytes strings b =
    leb bytes (length b.bytes) && (leb strings (length b.ends) && (leb strings (length b.numbers) && leb strings (length b.places)))

abbrev pub numbering_tests : NumberInput → List Test
numbering_tests i = (26, given_right i.kind i.bytes i.ends) ∷ (27, number_room (length i.bytes) (length i.ends) i.buffers) ∷ []

-- ---- an answer
-- the number of the test that refused a call, 0 where it was served; the sizes of the dictionary: none by a refused call
abbrev pub written_refusal : DictionaryWritten → ℕ
written_refusal (Sizes bytes strings) = 0
written_refusal (Refused x) = x

pub record DictionarySizes : Type 0 where
  pub bytes : ℕ
  pub strings : ℕ

abbrev pub written_sizes : DictionaryWritten → DictionarySizes
written_sizes (Sizes bytes strings) = record { bytes = bytes; strings = strings }
written_sizes (Refused x) = record { bytes = 0; strings = 0 }

-- ---- the call: the dictionary of the strings and their numbers stand over the first words of the buffers, and the places sorted by their strings
abbrev pub number_call : CallSchema NumberInput DictionaryWritten DictionaryWritten NumberBuffers DictionarySizes
number_call =
    record {
      tests = numbering_tests;
      numbers = λ i. 26 ∷ 27 ∷ [];
      lent = λ i. i.buffers;
      refuses = Refused;
      serves = λ i. Sizes (length (bytes_once (given_strings i))) (length (strings_once (given_strings i)));
      leaves = λ i. number_buffers (over (bytes_once (given_strings i)) i.buffers.bytes) (over (ends_once (given_strings i)) i.buffers.ends)
          (over (string_numbers (given_strings i)) i.buffers.numbers) (over (sorted_places i.bytes i.ends) i.buffers.places);
      counts = λ i. record { bytes = length (bytes_once (given_strings i)); strings = length (strings_once (given_strings i)) };
      says = λ a. a;
      refusal = Refused;
      tells = written_refusal;
      counted = written_sizes;
      nothing = record { bytes = 0; strings = 0 };
    }

-- ---- what a call leaves: as many bytes and ends as it answers, and a number for each string
abbrev pub bytes_left : NumberInput → List ℕ
bytes_left i = take (written_sizes (result_of_call number_call i).answer).bytes (result_of_call number_call i).buffers.bytes

abbrev pub ends_left : NumberInput → List ℕ
ends_left i = take (written_sizes (result_of_call number_call i).answer).strings (result_of_call number_call i).buffers.ends

abbrev pub numbers_left : NumberInput → List ℕ
numbers_left i = take (length i.ends) (result_of_call number_call i).buffers.numbers

-- the dictionary of the strings given and their numbers
abbrev pub NumbersRight : NumberInput → Type 0
NumbersRight i = Numbered i.kind (given_strings i) (bytes_left i) (ends_left i) (numbers_left i)
