-- Uploads, in literal words: the three-stem wood as it might be measured, each fate of a row, both refusals on both sides of their limits.
use Rattle.std.specs.Prelude.{ℕ, replicate}
use mathlib.Core.List.{List, [], ◌∷◌, ◌++◌, map, flatten}
use Rattle.tables.specs.Tables.{Tables, tables_of}
use Rattle.uploads.specs.Making.{MakeInput, make_input, made_with}
use Rattle.worked_cases.specs.Calls.{making, made, Case, not_made}
use Rattle.worked_cases.specs.Wood.{no_rows}
use Rattle.worked_cases.specs.Literals.{stems}

-- ---- short forms. Before the call the buffers hold 9 in rows, 8 in POS, 7 in OSP and 6 in the report, as many words as their numbers say
abbrev pub make_call : List ℕ → ℕ → ℕ → ℕ → ℕ → MakeInput
make_call upload rows pos osp report = make_input upload (replicate rows 9) (replicate pos 8) (replicate osp 7) (replicate report 6)

-- a served call: the tables and the report over what the buffers held
abbrev pub make_case : MakeInput → Tables → List ℕ → Case
make_case i t report = (making i, made (made_with t report i.buffers))

-- ---- the three-stem wood of 2026 backwards, its fourth row twice, and between them (t1,n10,n100), whose subject is a text
abbrev pub text_stem : List ℕ
text_stem = 0x400007EA ∷ 0x80000001 ∷ 0x0000000A ∷ 0x00000064 ∷ []

abbrev pub fourth : List ℕ
fourth = 0x400007EA ∷ 0x00000002 ∷ 0x0000000C ∷ 0x40000136 ∷ []

abbrev pub backwards : List ℕ
backwards =
    (0x400007EA ∷ 0x00000003 ∷ 0x0000000C ∷ 0x40000136 ∷ 0x400007EA ∷ 0x00000003 ∷ 0x0000000A ∷ 0x00000064 ∷ [])
    ++ (fourth ++ (text_stem ++ (fourth
    ++ (0x400007EA ∷ 0x00000002 ∷ 0x0000000A ∷ 0x00000064 ∷ 0x400007EA ∷ 0x00000001 ∷ 0x0000000C ∷ 0x4000002D
    ∷ 0x400007EA ∷ 0x00000001 ∷ 0x0000000A ∷ 0x00000064 ∷ []))))

abbrev pub of_stems : List Case
of_stems =
    -- the wood's tables; the fourth row of the upload is 3 and its kinds are wrong, the fifth is 4 and a repeat. The tails stay
    make_case (make_call backwards 26 7 8 5) stems (3 ∷ 1 ∷ 4 ∷ 2 ∷ [])
    -- exact lengths are enough, and one word less in any of the four buffers is not
    ∷ make_case (make_call backwards 24 6 6 4) stems (3 ∷ 1 ∷ 4 ∷ 2 ∷ [])
    ∷ not_made (make_call backwards 23 6 6 4) 16
    ∷ not_made (make_call backwards 24 5 6 4) 16
    ∷ not_made (make_call backwards 24 6 5 4) 16
    ∷ not_made (make_call backwards 24 6 6 3) 16
    -- in the order of tables it is what it was, and nothing is dropped
    ∷ make_case (make_call stems.rows 24 6 6 0) stems []
    ∷ []

-- ---- lengths: 15 comes before 16
abbrev pub of_lengths : List Case
of_lengths =
    not_made (make_call (0x400007EA ∷ 0x00000001 ∷ 0x0000000A ∷ 0x00000064 ∷ 0x400007EA ∷ 0x00000002 ∷ 0x0000000A ∷ []) 24 6 6 6) 15
    ∷ not_made (make_call (0x400007EA ∷ 0x00000001 ∷ 0x0000000A ∷ 0x00000064 ∷ 0x400007EA ∷ []) 0 0 0 0) 15
    -- a row without its year, and two
    ∷ not_made (make_call (0x00000001 ∷ 0x0000000A ∷ 0x00000064 ∷ []) 24 6 6 6) 15
    ∷ not_made (make_call (0x00000001 ∷ 0x0000000A ∷ 0x00000064 ∷ 0x00000001 ∷ 0x0000000C ∷ 0x4000002D ∷ []) 24 6 6 6) 15
    ∷ not_made (make_call (0x400007EA ∷ 0x00000001 ∷ 0x0000000A ∷ 0x00000064 ∷ []) 0 0 0 0) 16
    -- nothing uploaded is served, with no rows
    ∷ make_case (make_call [] 0 0 0 0) no_rows []
    ∷ make_case (make_call [] 3 1 1 2) no_rows []
    ∷ []

-- ---- fates: all dropped; equal rows of wrong kinds; a row three times; the kinds of each field
abbrev pub of_fates : List Case
of_fates =
    make_case (make_call text_stem 0 0 0 2) no_rows (0 ∷ 1 ∷ [])
    ∷ make_case (make_call (text_stem ++ text_stem) 4 1 1 5) no_rows (0 ∷ 1 ∷ 1 ∷ 1 ∷ [])
    ∷ make_case (make_call (fourth ++ (fourth ++ fourth)) 4 1 1 4) (tables_of fourth (0 ∷ []) (0 ∷ [])) (1 ∷ 2 ∷ 2 ∷ 2 ∷ [])
    -- a number as subject, a text as predicate, unbound as object; a text as object is right
    ∷ make_case (make_call
    ((0x400007EA ∷ 0x40000001 ∷ 0x0000000A ∷ 0x00000064 ∷ 0x400007EA ∷ 0x00000001 ∷ 0x8000000A ∷ 0x00000064 ∷ [])
    ++ (0x400007EA ∷ 0x00000001 ∷ 0x0000000A ∷ 0xC0000000 ∷ 0x400007EA ∷ 0x00000001 ∷ 0x0000000A ∷ 0x80000064 ∷ [])) 4 1 1 6)
    (tables_of (0x400007EA ∷ 0x00000001 ∷ 0x0000000A ∷ 0x80000064 ∷ []) (0 ∷ []) (0 ∷ [])) (0 ∷ 1 ∷ 1 ∷ 1 ∷ 2 ∷ 1 ∷ [])
    ∷ []

-- ---- years: rows (n1,n10,n100), each with a year's word before it
abbrev pub in_years : List ℕ → List ℕ
in_years ys = flatten (map (λ y. y ∷ 0x00000001 ∷ 0x0000000A ∷ 0x00000064 ∷ []) ys)

abbrev pub uploads_of_years : List Case
uploads_of_years =
    -- of 2026, 0, 2025, 10,000 and 2026: 0 and 10,000 are reported by 1, the second 2026 is a repeat, and the two years ascend
    make_case (make_call (in_years (0x400007EA ∷ 0x40000000 ∷ 0x400007E9 ∷ 0x40002710 ∷ 0x400007EA ∷ [])) 8 2 2 6)
    (tables_of (in_years (0x400007E9 ∷ 0x400007EA ∷ [])) (0 ∷ 1 ∷ []) (0 ∷ 1 ∷ [])) (1 ∷ 1 ∷ 3 ∷ 1 ∷ 4 ∷ 2 ∷ [])
    -- a name, a text, unbound and -1 as year; a wrong year twice is no repeat
    ∷ make_case (make_call (in_years (0x000007EA ∷ 0x800007EA ∷ 0xC0000000 ∷ 0x7FFFFFFF ∷ [])) 0 0 0 8) no_rows
    (0 ∷ 1 ∷ 1 ∷ 1 ∷ 2 ∷ 1 ∷ 3 ∷ 1 ∷ [])
    ∷ make_case (make_call (in_years (0x40002710 ∷ 0x40002710 ∷ [])) 0 0 0 4) no_rows (0 ∷ 1 ∷ 1 ∷ 1 ∷ [])
    -- 1 and 9,999 are years
    ∷ make_case (make_call (in_years (0x4000270F ∷ 0x40000001 ∷ [])) 8 2 2 0)
    (tables_of (in_years (0x40000001 ∷ 0x4000270F ∷ [])) (0 ∷ 1 ∷ []) (0 ∷ 1 ∷ [])) []
    ∷ []

-- ---- the three orders: (n3,n3,n7) (n1,n2,n9) (n2,n1,n8) stand as n1, n2, n3 in the rows, as 1 0 2 in POS and as 2 1 0 in OSP; a row of
-- an earlier year stands before them in each
abbrev pub of_orders : List Case
of_orders =
    make_case (make_call (0x400007EA ∷ 3 ∷ 3 ∷ 7 ∷ 0x400007EA ∷ 1 ∷ 2 ∷ 9 ∷ 0x400007EA ∷ 2 ∷ 1 ∷ 8 ∷ []) 12 3 3 0)
    (tables_of (0x400007EA ∷ 1 ∷ 2 ∷ 9 ∷ 0x400007EA ∷ 2 ∷ 1 ∷ 8 ∷ 0x400007EA ∷ 3 ∷ 3 ∷ 7 ∷ [])
    (1 ∷ 0 ∷ 2 ∷ []) (2 ∷ 1 ∷ 0 ∷ [])) []
    ∷ make_case
    (make_call (0x400007EA ∷ 3 ∷ 3 ∷ 7 ∷ 0x400007EA ∷ 1 ∷ 2 ∷ 9 ∷ 0x400007EA ∷ 2 ∷ 1 ∷ 8 ∷ 0x400007E9 ∷ 9 ∷ 9 ∷ 9 ∷ []) 16 4 4 0)
    (tables_of (0x400007E9 ∷ 9 ∷ 9 ∷ 9 ∷ 0x400007EA ∷ 1 ∷ 2 ∷ 9 ∷ 0x400007EA ∷ 2 ∷ 1 ∷ 8 ∷ 0x400007EA ∷ 3 ∷ 3 ∷ 7 ∷ [])
    (0 ∷ 2 ∷ 1 ∷ 3 ∷ []) (0 ∷ 3 ∷ 2 ∷ 1 ∷ [])) []
    ∷ []
