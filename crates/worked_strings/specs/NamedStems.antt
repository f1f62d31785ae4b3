-- Three stems whose names and texts are strings, in literal bytes: "a", "ab" and "é". Each stands in "s" by "in"; the first has the "note" "é", the
-- third an empty one, and the second is -3 "wide". As text and as name "é" has another number.
use Rattle.std.specs.Prelude.{ℕ, List, [], ◌∷◌, ◌++◌, negsuc, replicate}
use Rattle.std.proofs.Math.Option.{none, some}
use Rattle.tables.specs.Tables.{Tables, tables_of}
use Rattle.cuts.specs.Histories.{Event, turns, merges, joins}
use Rattle.sparql.specs.Terms.{iri, integer, text, MappingOver}
use Rattle.sparql_strings.specs.Strings.{by_string, Dictionaries}
use Rattle.encodings.specs.Encodings.{StringTerm}
use Rattle.encodings.specs.StringRows.{StringRow}

abbrev pub string_row : List ℕ → List ℕ → StringTerm → StringRow
string_row s p o = record { year = 2026; subject = s; predicate = p; object = o }

abbrev pub named_stems : List StringRow
named_stems =
    string_row (0x61 ∷ []) (0x69 ∷ 0x6E ∷ []) (iri (0x73 ∷ []))
    ∷ string_row (0x61 ∷ []) (0x6E ∷ 0x6F ∷ 0x74 ∷ 0x65 ∷ []) (text (0xC3 ∷ 0xA9 ∷ []))
    ∷ string_row (0x61 ∷ 0x62 ∷ []) (0x69 ∷ 0x6E ∷ []) (iri (0x73 ∷ []))
    ∷ string_row (0x61 ∷ 0x62 ∷ []) (0x77 ∷ 0x69 ∷ 0x64 ∷ 0x65 ∷ []) (integer (negsuc 2))
    ∷ string_row (0xC3 ∷ 0xA9 ∷ []) (0x69 ∷ 0x6E ∷ []) (iri (0x73 ∷ []))
    ∷ string_row (0xC3 ∷ 0xA9 ∷ []) (0x6E ∷ 0x6F ∷ 0x74 ∷ 0x65 ∷ []) (text [])
    ∷ []

-- "a" is n0, "ab" n1, "in" n2, "note" n3, "s" n4, "wide" n5, "é" n6; the empty text is t0, "é" t1
abbrev pub stem_dictionaries : Dictionaries
stem_dictionaries =
    record {
      name_bytes =
          0x61 ∷ 0x61 ∷ 0x62 ∷ 0x69 ∷ 0x6E ∷ 0x6E ∷ 0x6F ∷ 0x74 ∷ 0x65 ∷ 0x73 ∷ 0x77 ∷ 0x69 ∷ 0x64 ∷ 0x65 ∷ 0xC3 ∷ 0xA9 ∷ [];
      name_ends = 1 ∷ 3 ∷ 5 ∷ 9 ∷ 10 ∷ 14 ∷ 16 ∷ [];
      text_bytes = 0xC3 ∷ 0xA9 ∷ [];
      text_ends = 0 ∷ 2 ∷ [];
    }

abbrev pub words_of_stems : List ℕ
words_of_stems =
    0x400007EA ∷ 0x00000000 ∷ 0x00000002 ∷ 0x00000004 ∷ 0x400007EA ∷ 0x00000000 ∷ 0x00000003 ∷ 0x80000001
    ∷ 0x400007EA ∷ 0x00000001 ∷ 0x00000002 ∷ 0x00000004 ∷ 0x400007EA ∷ 0x00000001 ∷ 0x00000005 ∷ 0x7FFFFFFD
    ∷ 0x400007EA ∷ 0x00000006 ∷ 0x00000002 ∷ 0x00000004 ∷ 0x400007EA ∷ 0x00000006 ∷ 0x00000003 ∷ 0x80000000 ∷ []

abbrev pub tables_of_stems : Tables
tables_of_stems = tables_of words_of_stems (0 ∷ 2 ∷ 4 ∷ 5 ∷ 1 ∷ 3 ∷ []) (0 ∷ 2 ∷ 4 ∷ 3 ∷ 5 ∷ 1 ∷ [])

-- ---- asked: ?0 "note" ?1 with ?1 > "", rows ?0 ?1
abbrev pub noted_stems : List ℕ
noted_stems =
    0x10000001 ∷ 0x20000001 ∷ 0xC0000000 ∷ 0x00000003 ∷ 0xC0000001 ∷ 0x70000004 ∷ 0xC0000001 ∷ 0x80000000
    ∷ 0x80000002 ∷ 0xC0000000 ∷ 0xC0000001 ∷ []

-- and ?0 "in" "s", the best two by ?0 falling
abbrev pub last_stems : List ℕ
last_stems =
    0x10000001 ∷ 0x20000001 ∷ 0xC0000000 ∷ 0x00000002 ∷ 0x00000004 ∷ 0x30000000
    ∷ 0x90000002 ∷ 0x80000001 ∷ 0xC0000000 ∷ 0xB0000000 ∷ []

-- one turn, its list joined, or merged
abbrev pub in_one_turn : List Event
in_one_turn = turns (replicate 11 7) 100 [] (replicate 8 9) ∷ joins ∷ []

abbrev pub in_one_merge : List Event
in_one_merge = turns (replicate 11 7) 100 [] (replicate 8 9) ∷ merges (replicate 8 4) ∷ []

-- a row of ?0 and ?1, and the mapping of the sixteen variables, in code points
abbrev pub row_decoded : StringTerm → StringTerm → MappingOver by_string
row_decoded x y = some x ∷ some y ∷ []

abbrev pub pair_decoded : StringTerm → StringTerm → MappingOver by_string
pair_decoded x y = some x ∷ some y ∷ replicate 14 none

-- ---- seen by an adviser who is granted "é": two rows, whose strings are numbered by themselves. "in" is n0, "note" n1, "s" n2, "é" n3
abbrev pub granted_stem : List (List ℕ)
granted_stem = (0xC3 ∷ 0xA9 ∷ []) ∷ []

abbrev pub visible_dictionaries : Dictionaries
visible_dictionaries =
    record {
      name_bytes = 0x69 ∷ 0x6E ∷ 0x6E ∷ 0x6F ∷ 0x74 ∷ 0x65 ∷ 0x73 ∷ 0xC3 ∷ 0xA9 ∷ [];
      name_ends = 2 ∷ 6 ∷ 7 ∷ 9 ∷ [];
      text_bytes = [];
      text_ends = 0 ∷ [];
    }

abbrev pub visible_tables : Tables
visible_tables =
    tables_of (0x400007EA ∷ 0x00000003 ∷ 0x00000000 ∷ 0x00000002 ∷ 0x400007EA ∷ 0x00000003 ∷ 0x00000001 ∷ 0x80000000 ∷ [])
    (0 ∷ 1 ∷ []) (0 ∷ 1 ∷ [])

-- the hidden stem has another name, and one more note
abbrev pub others_hidden : List StringRow
others_hidden =
    string_row (0x61 ∷ []) (0x69 ∷ 0x6E ∷ []) (iri (0x73 ∷ []))
    ∷ string_row (0x61 ∷ []) (0x6E ∷ 0x6F ∷ 0x74 ∷ 0x65 ∷ []) (text (0xC3 ∷ 0xA9 ∷ []))
    ∷ string_row (0x7A ∷ []) (0x69 ∷ 0x6E ∷ []) (iri (0x73 ∷ []))
    ∷ string_row (0x7A ∷ []) (0x6E ∷ 0x6F ∷ 0x74 ∷ 0x65 ∷ []) (text (0x61 ∷ []))
    ∷ string_row (0xC3 ∷ 0xA9 ∷ []) (0x69 ∷ 0x6E ∷ []) (iri (0x73 ∷ []))
    ∷ string_row (0xC3 ∷ 0xA9 ∷ []) (0x6E ∷ 0x6F ∷ 0x74 ∷ 0x65 ∷ []) (text [])
    ∷ []

-- the stem "a" stands in "s" in 2025 alone
abbrev pub stood_before : List StringRow
stood_before = record { year = 2025; subject = 0x61 ∷ []; predicate = 0x69 ∷ 0x6E ∷ []; object = iri (0x73 ∷ []) } ∷ []

abbrev pub in_two_years : List StringRow
in_two_years = stood_before ++ (string_row (0x61 ∷ []) (0x6E ∷ 0x6F ∷ 0x74 ∷ 0x65 ∷ []) (text []) ∷ [])
