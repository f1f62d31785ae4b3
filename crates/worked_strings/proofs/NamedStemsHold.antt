-- The three named stems encoded, asked, decoded and seen by an adviser, by computation.
use Prim.Native.Nat.{ℕ}
use mathlib.Core.Path.{◌≡◌, refl}
use mathlib.Core.Bool.{true}
use mathlib.Core.Option.{none, some}
use mathlib.Core.List.{List, [], ◌∷◌}
use native.Mathlib.Omega.{arith}
use lib.IntN.{negsuc}
use lib.ListN.{replicate}
use Rattle.words.specs.declared.Written.TheVariants.{Words}
use Rattle.words.specs.Tests.{first_failing}
use Rattle.tables.specs.Tables.{table_tests}
use Rattle.plans.specs.Plans.{plan_of}
use Rattle.turns.specs.Opening.{open_of, Opens}
use Rattle.turns.specs.Surveys.{under_number}
use Rattle.cuts.specs.Histories.{Phone, served_in, done_in, history, fresh}
use Rattle.cuts.specs.TurnRows.{delivered_in}
use Rattle.cuts.specs.Unsent.{BestUnsent}
use Rattle.cuts.specs.Computing as cuts
use Rattle.dictionaries.specs.Strings.{string_before, same_string}
use Rattle.dictionaries.specs.Utf8.{after_first, formed_from, code_points_from}
use Rattle.dictionaries.specs.Dictionaries.{strings_from, ends_right, string_rank, is_among}
use Rattle.dictionaries.specs.Lookups.{lookup_in}
use Rattle.sparql.specs.Terms.{iri, integer, text}
use Rattle.sparql.specs.Computing as sparql
use Rattle.sparql_strings.specs.Carrying.{carry_expression}
use Rattle.sparql_strings.specs.Decoding.{read_decoded, mapping_decoded, decoded_of}
use Rattle.sparql_strings.specs.Strings.{decoding}
use Rattle.sparql_finished.specs.Finished.{FinishedOver}
use Rattle.sparql_decoded.proofs.Decoded.{finished_unsent_decoded}
use Rattle.encodings.specs.Encodings.{word_of, words_of}
use Rattle.dictionary_numberings.specs.Numbering.{insert_once, strings_once, ends_after}
use Rattle.encodings.specs.Gathered.{names_in, texts_in, TermsRight}
use Rattle.encodings.specs.StringRows.{row_terms, row_dictionaries, row_words}
use Rattle.encodings.proofs.Gathered.{dictionaries_right}
use Rattle.view_names.specs.VisibleStrings.{some_row, visible_rows, adviser_dictionaries, adviser_tables, RowsDiffer, SameStrings}
use Rattle.view_names.proofs.HiddenNames.{hidden_names}
use Rattle.worked_cases.proofs.Holds.{computing}
use Rattle.worked_strings.specs.NamedStems.{named_stems, stem_dictionaries, words_of_stems, tables_of_stems, noted_stems, last_stems, in_one_turn, in_one_merge}
use Rattle.worked_strings.specs.NamedStems.{row_decoded, pair_decoded, granted_stem, visible_dictionaries, visible_tables}
use Rattle.worked_strings.specs.NamedStems.{others_hidden, stood_before, in_two_years}

unfoldable by_strings : Unit {0}
unfolding computing sparql.computing string_before same_string after_first formed_from code_points_from strings_from ends_right string_rank is_among lookup_in
    carry_expression words_of insert_once strings_once ends_after names_in texts_in some_row
by_strings = tt

-- ---- encoded
pub names_and_texts : row_dictionaries named_stems ≡ stem_dictionaries
unfolding by_strings
names_and_texts = refl

pub words_of_stems_lem : row_words named_stems ≡ some words_of_stems
unfolding by_strings
words_of_stems_lem = refl

pub terms_right : TermsRight (row_terms named_stems)
unfolding by_strings
terms_right = record { names = record { formed = refl; few = omega arith }; texts = record { formed = refl; few = omega arith } }

pub accepted : first_failing (table_tests tables_of_stems) ≡ none
unfolding by_strings
accepted = refl

-- the least and the greatest whole number have words, those past them have none
pub ends_of_numbers : word_of stem_dictionaries (integer (negsuc 0x1FFFFFFF)) ≡ some 0x60000000
ends_of_numbers = refl

pub past_numbers : word_of stem_dictionaries (integer (negsuc 0x20000000)) ≡ none
past_numbers = refl

-- ---- asked and decoded
abbrev asked : List ℕ → Phone
asked plan =
    history (under_number 7 tables_of_stems) plan (fresh (open_of (under_number 7 tables_of_stems) plan (replicate 11 7))) in_one_turn

pub noted_done : done_in (served_in (asked noted_stems)) ≡ true
unfolding by_strings cuts.computing
noted_done = refl

pub noted_kept : (asked noted_stems).kept ≡ 0x00000000 ∷ 0x80000001 ∷ []
unfolding by_strings cuts.computing
noted_kept = refl

noted_taken : (asked noted_stems).waiting ≡ []
unfolding by_strings cuts.computing
noted_taken = refl

unsent : BestUnsent (plan_of noted_stems).ending (served_in (asked noted_stems))
unfolding by_strings
unsent = tt

opens_with : (open_of (under_number 7 tables_of_stems) noted_stems (replicate 11 7)).answer ≡ Words 4
unfolding by_strings
opens_with = refl

pub noted_decoded : mapping_decoded (decoding stem_dictionaries) (0x00000000 ∷ 0x80000001 ∷ []) ≡ row_decoded (iri (0x61 ∷ [])) (text (0xE9 ∷ []))
unfolding by_strings
noted_decoded = refl

-- which is SPARQL's one solution over strings
pub noted_once : decoded_of (decoding stem_dictionaries) tables_of_stems (plan_of noted_stems) (pair_decoded (iri (0x61 ∷ [])) (text (0xE9 ∷ []))) ≡ 1
unfolding by_strings
noted_once = refl

pub empty_left_out : decoded_of (decoding stem_dictionaries) tables_of_stems (plan_of noted_stems) (pair_decoded (iri (0xE9 ∷ [])) (text [])) ≡ 0
unfolding by_strings
empty_left_out = refl

-- the theorem's premises can be met: a right dictionary, an opening that is served, done, every list taken
opened : Opens (under_number 7 tables_of_stems) noted_stems (replicate 11 7)
opened x r = let z : ◌≡◌ {A = ℕ} 0 1 = cc opens_with in omega arith

pub noted_answer : FinishedOver (read_decoded (decoding (row_dictionaries named_stems)) tables_of_stems (plan_of noted_stems)) tables_of_stems noted_stems
    (delivered_in (under_number 7 tables_of_stems) noted_stems (fresh (open_of (under_number 7 tables_of_stems) noted_stems (replicate 11 7))) in_one_turn)
    (asked noted_stems)
noted_answer =
    finished_unsent_decoded (row_dictionaries named_stems) (dictionaries_right (row_terms named_stems) terms_right) (under_number 7 tables_of_stems) noted_stems
    (replicate 11 7) opened in_one_turn unsent noted_done noted_taken

-- the best two by falling names: "é", which comes last as it does in code points, then "ab"
pub last_kept :
    (history (under_number 7 tables_of_stems) last_stems (fresh (open_of (under_number 7 tables_of_stems) last_stems (replicate 11 7))) in_one_merge).kept
    ≡ 0x00000006 ∷ 0x00000001 ∷ []
unfolding by_strings cuts.computing
last_kept = refl

pub last_decoded : mapping_decoded (decoding stem_dictionaries) (0x00000006 ∷ 0x00000001 ∷ []) ≡ row_decoded (iri (0xE9 ∷ [])) (iri (0x61 ∷ 0x62 ∷ []))
unfolding by_strings
last_decoded = refl

-- ---- seen by an adviser
pub visible_strings : adviser_dictionaries granted_stem (0x69 ∷ 0x6E ∷ []) named_stems ≡ visible_dictionaries
unfolding by_strings
visible_strings = refl

pub visible_words : adviser_tables granted_stem (0x69 ∷ 0x6E ∷ []) named_stems ≡ some visible_tables
unfolding by_strings
visible_words = refl

-- by the stand "s", to which they belong by "in", all are seen, and by "note" none
pub all_by_stand : visible_rows ((0x73 ∷ []) ∷ []) (0x69 ∷ 0x6E ∷ []) named_stems ≡ named_stems
unfolding by_strings
all_by_stand = refl

pub none_by_note : visible_rows ((0x73 ∷ []) ∷ []) (0x6E ∷ 0x6F ∷ 0x74 ∷ 0x65 ∷ []) named_stems ≡ []
unfolding by_strings
none_by_note = refl

-- within its year
pub only_that_year : visible_rows ((0x73 ∷ []) ∷ []) (0x69 ∷ 0x6E ∷ []) in_two_years ≡ stood_before
unfolding by_strings
only_that_year = refl

-- another hidden stem changes nothing
differ : RowsDiffer granted_stem (0x69 ∷ 0x6E ∷ []) named_stems others_hidden
unfolding by_strings
differ = record { first = refl; second = refl; common = refl }

pub others_hidden_lem : SameStrings granted_stem (0x69 ∷ 0x6E ∷ []) named_stems others_hidden
others_hidden_lem = hidden_names granted_stem (0x69 ∷ 0x6E ∷ []) named_stems others_hidden differ
