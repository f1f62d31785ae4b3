-- The three-stem wood and short forms of cases, in literal words as the formats of the rules (docs/RULES.md, 1) give them: no constant of the
-- definitions stands in these tables, so that a definition with another number is refused by them.
use Rattle.std.specs.Prelude.{ℕ, List, [], ◌∷◌, ◌++◌, replicate}
use Rattle.calls.specs.Words.{written_over}
use Rattle.tables.specs.Tables.{Tables}
use Rattle.turns.specs.declared.TurnEnding.TheVariants.{Done}
use Rattle.worked_cases.specs.Calls.{opening, opened, Case, surveyed, turn_call, turn_case, not_opened}

-- rows 0 to 5, each with i2026 before it: (n1,n10,n100) (n1,n12,i45) (n2,n10,n100) (n2,n12,i310) (n3,n10,n100) (n3,n12,i310); both lists
-- 0 2 4 1 3 5
abbrev pub stem_rows : List ℕ
stem_rows =
    0x400007EA ∷ 0x00000001 ∷ 0x0000000A ∷ 0x00000064
    ∷ 0x400007EA ∷ 0x00000001 ∷ 0x0000000C ∷ 0x4000002D
    ∷ 0x400007EA ∷ 0x00000002 ∷ 0x0000000A ∷ 0x00000064
    ∷ 0x400007EA ∷ 0x00000002 ∷ 0x0000000C ∷ 0x40000136
    ∷ 0x400007EA ∷ 0x00000003 ∷ 0x0000000A ∷ 0x00000064
    ∷ 0x400007EA ∷ 0x00000003 ∷ 0x0000000C ∷ 0x40000136
    ∷ []

abbrev pub stems : Tables
stems = record { rows = stem_rows; pos = 0 ∷ 2 ∷ 4 ∷ 1 ∷ 3 ∷ 5 ∷ []; osp = 0 ∷ 2 ∷ 4 ∷ 1 ∷ 3 ∷ 5 ∷ [] }

-- the three stems with their diameters: n1 i45, n2 i310, n3 i310
abbrev pub stem1 : List ℕ
stem1 = 0x00000001 ∷ 0x4000002D ∷ []

abbrev pub stem2 : List ℕ
stem2 = 0x00000002 ∷ 0x40000136 ∷ []

abbrev pub stem3 : List ℕ
stem3 = 0x00000003 ∷ 0x40000136 ∷ []

-- ---- plans: rows ?0, rows ?0 ?1, and one branch, ?0 n12 ?1, with a condition and an ending
abbrev pub ending0 : List ℕ
ending0 = 0x80000001 ∷ 0xC0000000 ∷ []

abbrev pub ending01 : List ℕ
ending01 = 0x80000002 ∷ 0xC0000000 ∷ 0xC0000001 ∷ []

abbrev pub diameters : List ℕ → List ℕ → List ℕ
diameters condition ending = 0x10000001 ∷ 0x20000001 ∷ 0xC0000000 ∷ 0x0000000C ∷ 0xC0000001 ∷ (condition ++ ending)

-- with "true" as its condition
abbrev pub all_diameters : List ℕ → List ℕ
all_diameters ending = diameters (0x30000000 ∷ []) ending

-- ---- cases
-- survey 7 and the word of a year, before the words of a position and its places; those of 2026
abbrev pub of_year : ℕ → List ℕ → List ℕ
of_year year words = 0xD0000007 ∷ year ∷ words

abbrev pub in2026 : List ℕ → List ℕ
in2026 words = of_year 0x000007EA words

-- the only state of a wood without rows, of year 0
abbrev pub in_bare : List ℕ
in_bare = of_year 0x00000000 (0xE0000001 ∷ 0xF0000000 ∷ [])

-- branch 0, depth 1, and a place's word
abbrev pub at_place : ℕ → List ℕ
at_place w = in2026 (0xE0000001 ∷ w ∷ [])

-- an opening, over a state buffer of eleven words, that writes these
abbrev pub opens_to : Tables → List ℕ → List ℕ → Case
opens_to t plan words = (opening (surveyed t) plan (replicate 11 7), opened (written_over words (replicate 11 7)))

-- an opening that is refused by a number
abbrev pub refuses : Tables → List ℕ → ℕ → Case
refuses t plan x = not_opened t plan (replicate 11 7) x

-- a turn that has all the steps and the room that it needs, from a state to done: its steps and its list
abbrev pub whole_from : Tables → List ℕ → List ℕ → ℕ → List ℕ → Case
whole_from t plan state steps list = turn_case (turn_call t plan state 100 [] 128) Done steps [] list

-- a plan opened and run to its end: the words of the start, the steps, the list
abbrev pub whole_run : Tables → List ℕ → List ℕ → ℕ → List ℕ → List Case
whole_run t plan start steps list = opens_to t plan start ∷ whole_from t plan start steps list ∷ []
