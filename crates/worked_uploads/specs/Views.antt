-- What an adviser may see, in literal words: by a granted subject, by membership within a year, hidden rows, new numbers, both refusals.
use Rattle.std.specs.Prelude.{ℕ, List, [], ◌∷◌, replicate}
use Rattle.tables.specs.Tables.{Tables, tables_of}
use Rattle.table_answers.specs.Writing.{table_buffers, written_with}
use Rattle.views.specs.Viewing.{ViewInput}
use Rattle.worked_cases.specs.Calls.{viewing, viewed, Case, not_viewed}
use Rattle.worked_cases.specs.Wood.{no_rows}
use Rattle.worked_cases.specs.Literals.{stems}

-- ---- short forms. Before the call the buffers hold 9 in rows, 8 in POS and 7 in OSP, as many words as `rows`, `pos` and `osp` say
abbrev pub view_call : Tables → List ℕ → ℕ → ℕ → ℕ → ℕ → ViewInput
view_call t grant membership rows pos osp =
    record { tables = t; grant = grant; membership = membership; buffers = table_buffers (replicate rows 9) (replicate pos 8) (replicate osp 7) }

-- a served call: the view's tables over what the buffers held
abbrev pub view_case : ViewInput → Tables → Case
view_case i t = (viewing i, viewed (written_with t i.buffers))

-- the stem n2 alone: (n2,n10,n100) (n2,n12,i310)
abbrev pub second_stem : Tables
second_stem =
    tables_of (0x400007EA ∷ 0x00000002 ∷ 0x0000000A ∷ 0x00000064 ∷ 0x400007EA ∷ 0x00000002 ∷ 0x0000000C ∷ 0x40000136 ∷ [])
    (0 ∷ 1 ∷ []) (0 ∷ 1 ∷ [])

-- the wood with other diameters of n1 and n2
abbrev pub with_diameters : ℕ → ℕ → Tables
with_diameters first second =
    tables_of
    (0x400007EA ∷ 0x00000001 ∷ 0x0000000A ∷ 0x00000064 ∷ 0x400007EA ∷ 0x00000001 ∷ 0x0000000C ∷ first
    ∷ 0x400007EA ∷ 0x00000002 ∷ 0x0000000A ∷ 0x00000064 ∷ 0x400007EA ∷ 0x00000002 ∷ 0x0000000C ∷ second
    ∷ 0x400007EA ∷ 0x00000003 ∷ 0x0000000A ∷ 0x00000064 ∷ 0x400007EA ∷ 0x00000003 ∷ 0x0000000C ∷ 0x40000136 ∷ [])
    (0 ∷ 2 ∷ 4 ∷ 1 ∷ 3 ∷ 5 ∷ []) (0 ∷ 2 ∷ 4 ∷ 1 ∷ 3 ∷ 5 ∷ [])

-- ---- by a granted subject, and by membership
abbrev pub of_visible : List Case
of_visible =
    -- n2 is granted: rows 2 and 3, whatever the membership predicate is; one that is no name is in no row
    view_case (view_call stems (2 ∷ []) 10 8 2 2) second_stem
    ∷ view_case (view_call stems (2 ∷ []) 12 9 3 4) second_stem
    ∷ view_case (view_call stems (2 ∷ []) 0xC0000001 8 2 2) second_stem
    -- the stand n100 is granted, and the stems belong to it by n10: all six rows, those that admit them too; by n12 none does
    ∷ view_case (view_call stems (0x64 ∷ []) 10 24 6 6) stems
    ∷ view_case (view_call stems (0x64 ∷ []) 12 24 6 6) no_rows
    -- nothing is granted
    ∷ view_case (view_call stems [] 10 0 0 0) no_rows
    -- no rows
    ∷ view_case (view_call no_rows (2 ∷ []) 10 0 0 0) no_rows
    ∷ []

-- ---- years: the stem n1 stands in n100 in 2025, and in n101 in 2026
abbrev pub moved : Tables
moved =
    tables_of
    (0x400007E9 ∷ 0x00000001 ∷ 0x0000000A ∷ 0x00000064 ∷ 0x400007E9 ∷ 0x00000001 ∷ 0x0000000C ∷ 0x4000002D
    ∷ 0x400007EA ∷ 0x00000001 ∷ 0x0000000A ∷ 0x00000065 ∷ 0x400007EA ∷ 0x00000001 ∷ 0x0000000C ∷ 0x4000002F ∷ [])
    (0 ∷ 1 ∷ 2 ∷ 3 ∷ []) (0 ∷ 1 ∷ 2 ∷ 3 ∷ [])

abbrev pub views_of_years : List Case
views_of_years =
    -- membership of another year does not make a row visible: of n100 the rows of 2025 are seen, of n101 those of 2026
    view_case (view_call moved (0x64 ∷ []) 10 8 2 2)
    (tables_of (0x400007E9 ∷ 0x00000001 ∷ 0x0000000A ∷ 0x00000064 ∷ 0x400007E9 ∷ 0x00000001 ∷ 0x0000000C ∷ 0x4000002D ∷ [])
    (0 ∷ 1 ∷ []) (0 ∷ 1 ∷ []))
    ∷ view_case (view_call moved (0x65 ∷ []) 10 8 2 2)
    (tables_of (0x400007EA ∷ 0x00000001 ∷ 0x0000000A ∷ 0x00000065 ∷ 0x400007EA ∷ 0x00000001 ∷ 0x0000000C ∷ 0x4000002F ∷ [])
    (0 ∷ 1 ∷ []) (0 ∷ 1 ∷ []))
    -- a grant has no year: both stands, and the stem itself, show all
    ∷ view_case (view_call moved (0x64 ∷ 0x65 ∷ []) 10 16 4 4) moved
    ∷ view_case (view_call moved (1 ∷ []) 10 16 4 4) moved
    ∷ view_case (view_call moved (0x64 ∷ []) 12 0 0 0) no_rows
    ∷ []

-- ---- hidden rows: another diameter of n1 does not show, nor do its rows where n1 is gone; one of n2 does
abbrev pub of_hidden : List Case
of_hidden =
    view_case (view_call (with_diameters 0x4000002D 0x40000136) (2 ∷ []) 10 8 2 2) second_stem
    ∷ view_case (view_call (with_diameters 0x4000002E 0x40000136) (2 ∷ []) 10 8 2 2) second_stem
    ∷ view_case (view_call second_stem (2 ∷ []) 10 8 2 2) second_stem
    ∷ view_case (view_call (with_diameters 0x4000002D 0x4000012C) (2 ∷ []) 10 8 2 2)
    (tables_of (0x400007EA ∷ 0x00000002 ∷ 0x0000000A ∷ 0x00000064 ∷ 0x400007EA ∷ 0x00000002 ∷ 0x0000000C ∷ 0x4000012C ∷ [])
    (0 ∷ 1 ∷ []) (0 ∷ 1 ∷ []))
    ∷ []

-- ---- new numbers: n1 and n3 stand in n100, n2 in n101, so that both lists are 0 4 2 1 3 5; of n100 rows 0, 1, 4, 5 are seen as 0 to 3
abbrev pub of_numbers : List Case
of_numbers =
    view_case (view_call
    (tables_of
    (0x400007EA ∷ 0x00000001 ∷ 0x0000000A ∷ 0x00000064 ∷ 0x400007EA ∷ 0x00000001 ∷ 0x0000000C ∷ 0x4000002D
    ∷ 0x400007EA ∷ 0x00000002 ∷ 0x0000000A ∷ 0x00000065 ∷ 0x400007EA ∷ 0x00000002 ∷ 0x0000000C ∷ 0x40000136
    ∷ 0x400007EA ∷ 0x00000003 ∷ 0x0000000A ∷ 0x00000064 ∷ 0x400007EA ∷ 0x00000003 ∷ 0x0000000C ∷ 0x40000136 ∷ [])
    (0 ∷ 4 ∷ 2 ∷ 1 ∷ 3 ∷ 5 ∷ []) (0 ∷ 4 ∷ 2 ∷ 1 ∷ 3 ∷ 5 ∷ []))
    (0x64 ∷ []) 10 17 5 4)
    (tables_of
    (0x400007EA ∷ 0x00000001 ∷ 0x0000000A ∷ 0x00000064 ∷ 0x400007EA ∷ 0x00000001 ∷ 0x0000000C ∷ 0x4000002D
    ∷ 0x400007EA ∷ 0x00000003 ∷ 0x0000000A ∷ 0x00000064 ∷ 0x400007EA ∷ 0x00000003 ∷ 0x0000000C ∷ 0x40000136 ∷ [])
    (0 ∷ 2 ∷ 1 ∷ 3 ∷ []) (0 ∷ 2 ∷ 1 ∷ 3 ∷ []))
    ∷ []

-- ---- refusals: 1, 2, 23, 3 and 4 before 20, and 20 before 21
abbrev pub of_grants : List Case
of_grants =
    -- out of order, a name twice, a number, a variable
    not_viewed (view_call stems (3 ∷ 2 ∷ []) 10 24 6 6) 20
    ∷ not_viewed (view_call stems (2 ∷ 2 ∷ []) 10 24 6 6) 20
    ∷ not_viewed (view_call stems (2 ∷ 0x40000003 ∷ []) 10 24 6 6) 20
    ∷ not_viewed (view_call stems (0xC0000000 ∷ []) 10 0 0 0) 20
    -- the greatest name is one, and shows no row
    ∷ view_case (view_call stems (2 ∷ 0x3FFFFFFF ∷ []) 10 8 2 2) second_stem
    -- one word less in any of the three buffers is not enough
    ∷ not_viewed (view_call stems (2 ∷ []) 10 7 2 2) 21
    ∷ not_viewed (view_call stems (2 ∷ []) 10 8 1 2) 21
    ∷ not_viewed (view_call stems (2 ∷ []) 10 8 2 1) 21
    -- wrong tables and a wrong grant
    ∷ not_viewed (view_call (tables_of stems.rows [] stems.osp) (3 ∷ 2 ∷ []) 10 0 0 0) 1
    ∷ not_viewed (view_call (tables_of (0x000007EA ∷ 0x00000001 ∷ 0x0000000A ∷ 0x00000064 ∷ []) (0 ∷ []) (0 ∷ [])) (3 ∷ 2 ∷ []) 10 0 0 0) 2
    ∷ not_viewed (view_call (tables_of (0x40002710 ∷ 0x00000001 ∷ 0x0000000A ∷ 0x00000064 ∷ []) (0 ∷ []) (1 ∷ [])) (3 ∷ 2 ∷ []) 10 0 0 0) 23
    ∷ not_viewed (view_call (tables_of stems.rows stems.pos (0 ∷ 2 ∷ 1 ∷ 4 ∷ 3 ∷ 5 ∷ [])) (3 ∷ 2 ∷ []) 10 0 0 0) 4
    ∷ []
