-- Worked cases of numbering, by computation, in literal bytes.
use Prim.Native.Nat.{ℕ, ◌<◌}
use mathlib.Core.Path.{◌≡◌, refl}
use mathlib.Core.Bool.{Bool, true, false, ◌&&◌}
use mathlib.Core.List.{List, [], ◌∷◌, flatten}
use lib.ListN.{length, replicate}
use borrow.Author.Tests.{lt-leb}
use Rattle.sequences.specs.Sequences.{all, member, numbers}
use Rattle.sequences.specs.Sorting.{insert_by, insert_all_by, sort_by}
use Rattle.words.specs.Tests.{first_failing}
use Rattle.calls.specs.Calls.{CallResult, result_of_call}
use Rattle.dictionaries.specs.declared.StringKind.{StringKind}
use Rattle.dictionaries.specs.declared.StringKind.TheVariants.{Names, Texts}
use Rattle.dictionaries.specs.Strings.{string_before}
use Rattle.dictionaries.specs.Utf8.{after_first, formed_from, code_points_from}
use Rattle.dictionaries.specs.Dictionaries.{strings_from, ends_right, most_strings, string_rank}
use Rattle.dictionaries.specs.Checking.{iri_character}
use Rattle.dictionaries.proofs.Searching.{strings_length}
use Rattle.dictionary_numberings.specs.declared.DictionaryWritten.{DictionaryWritten}
use Rattle.dictionary_numberings.specs.declared.DictionaryWritten.TheVariants.{Sizes, Refused}
use Rattle.dictionary_numberings.specs.Numbering.{insert_once, strings_once, ends_after}
use Rattle.dictionary_numberings.specs.NumberCall.{NumberBuffers, number_buffers, NumberInput, number_input, given_right, number_room, number_call}

unfoldable computing : Unit {0}
unfolding result_of_call first_failing given_right number_room ends_right strings_from all member after_first formed_from code_points_from
    iri_character string_before
    insert_once strings_once ends_after string_rank flatten numbers insert_by insert_all_by sort_by
computing = tt

-- buffers of these lengths, which hold 7s
abbrev sevens : ℕ → ℕ → ℕ → ℕ → NumberBuffers
sevens bytes ends numbers places = number_buffers (replicate bytes 7) (replicate ends 7) (replicate numbers 7) (replicate places 7)

abbrev result : DictionaryWritten → NumberBuffers → CallResult DictionaryWritten NumberBuffers
result answer buffers = record { answer = answer; buffers = buffers }

-- ---- "b", "a", "b", "ab" and "" as texts: the repeat once, a beginning before what it begins, the empty one too, which ends where the last but one does
abbrev five_texts : NumberBuffers → NumberInput
five_texts b = number_input Texts (0x62 ∷ 0x61 ∷ 0x62 ∷ 0x61 ∷ 0x62 ∷ []) (1 ∷ 2 ∷ 3 ∷ 5 ∷ 5 ∷ []) b

five_texts_lem : result_of_call number_call (five_texts (sevens 6 6 6 6))
    ≡ result (Sizes 4 4)
    (number_buffers (0x61 ∷ 0x61 ∷ 0x62 ∷ 0x62 ∷ 7 ∷ 7 ∷ []) (0 ∷ 1 ∷ 3 ∷ 4 ∷ 7 ∷ 7 ∷ [])
    (3 ∷ 1 ∷ 3 ∷ 2 ∷ 0 ∷ 7 ∷ []) (4 ∷ 1 ∷ 3 ∷ 0 ∷ 2 ∷ 7 ∷ []))
unfolding computing
five_texts_lem = refl

-- room is asked for by lengths alone: five bytes, though four are written, and five of each of the words; with one less of any it is refused by 27
exact_room : (result_of_call number_call (five_texts (sevens 5 5 5 5))).answer ≡ Sizes 4 4
unfolding computing
exact_room = refl

short_bytes : result_of_call number_call (five_texts (sevens 4 5 5 5)) ≡ result (Refused 27) (sevens 4 5 5 5)
unfolding computing
short_bytes = refl

short_ends : result_of_call number_call (five_texts (sevens 5 4 5 5)) ≡ result (Refused 27) (sevens 5 4 5 5)
unfolding computing
short_ends = refl

short_numbers : result_of_call number_call (five_texts (sevens 5 5 4 5)) ≡ result (Refused 27) (sevens 5 5 4 5)
unfolding computing
short_numbers = refl

short_places : result_of_call number_call (five_texts (sevens 5 5 5 4)) ≡ result (Refused 27) (sevens 5 5 5 4)
unfolding computing
short_places = refl

-- ---- U+1D11E, U+FF5E, U+00E9 and "z" as names come out the other way round: not as UTF-16 has the first two, and no byte is below zero
abbrev four_names : NumberBuffers → NumberInput
four_names b = number_input Names (0xF0 ∷ 0x9D ∷ 0x84 ∷ 0x9E ∷ 0xEF ∷ 0xBD ∷ 0x9E ∷ 0xC3 ∷ 0xA9 ∷ 0x7A ∷ []) (4 ∷ 7 ∷ 9 ∷ 10 ∷ []) b

four_names_lem : result_of_call number_call (four_names (sevens 10 4 4 4))
    ≡ result (Sizes 10 4)
    (number_buffers (0x7A ∷ 0xC3 ∷ 0xA9 ∷ 0xEF ∷ 0xBD ∷ 0x9E ∷ 0xF0 ∷ 0x9D ∷ 0x84 ∷ 0x9E ∷ []) (1 ∷ 3 ∷ 6 ∷ 10 ∷ [])
    (3 ∷ 2 ∷ 1 ∷ 0 ∷ []) (3 ∷ 2 ∷ 1 ∷ 0 ∷ []))
unfolding computing
four_names_lem = refl

nine_bytes : result_of_call number_call (four_names (sevens 9 4 4 4)) ≡ result (Refused 27) (sevens 9 4 4 4)
unfolding computing
nine_bytes = refl

no_strings : result_of_call number_call (number_input Names [] [] (sevens 1 0 0 0)) ≡ result (Sizes 0 0) (sevens 1 0 0 0)
unfolding computing
no_strings = refl

-- ---- 26: ends that fall, one past the bytes, bytes left over, no UTF-8; for names the empty one and a blank. Before 27, which the same buffers fail
abbrev wrong : StringKind → List ℕ → List ℕ → Type 0
wrong k bytes ends = result_of_call number_call (number_input k bytes ends (sevens 0 0 0 0)) ≡ result (Refused 26) (sevens 0 0 0 0)

ends_fall : wrong Texts (0x61 ∷ 0x62 ∷ 0x63 ∷ []) (2 ∷ 1 ∷ 3 ∷ [])
unfolding computing
ends_fall = refl

end_past : wrong Texts (0x61 ∷ 0x62 ∷ 0x63 ∷ []) (2 ∷ 4 ∷ [])
unfolding computing
end_past = refl

bytes_over : wrong Texts (0x61 ∷ 0x62 ∷ 0x63 ∷ []) (1 ∷ 2 ∷ [])
unfolding computing
bytes_over = refl

cut_character : wrong Texts (0xC3 ∷ 0xA9 ∷ []) (1 ∷ 2 ∷ [])
unfolding computing
cut_character = refl

empty_name : wrong Names (0x61 ∷ []) (1 ∷ 1 ∷ [])
unfolding computing
empty_name = refl

blank_in_name : wrong Names (0x61 ∷ 0x20 ∷ []) (2 ∷ [])
unfolding computing
blank_in_name = refl

-- whatever they are, too many
too_many_lem : (k : StringKind) (bytes ends : List ℕ) → most_strings < length ends → given_right k bytes ends ≡ false
unfolding given_right
too_many_lem k bytes ends h = rw (strings_length bytes 0 ends, lt-leb (length ends) most_strings h) (none (ends_right (length bytes) 0 ends))
  where
    none : (a : Bool) → a && false ≡ false
    none true = refl
    none false = refl
