-- Two woods of different numbers of rows, to an adviser to whom n2 is granted: the three stems, and n2 with a stem that the other wood has not.
use Rattle.std.specs.Prelude.{◌≡◌, [], ◌∷◌}
use Rattle.std.proofs.Math.Option.{none}
use Rattle.words.specs.Tests.{first_failing}
use Rattle.tables.specs.Tables.{Tables, tables_of, row_count, table_tests}
use Rattle.views.specs.Hidden.{DifferHidden}
use Rattle.worked_cases.specs.Literals.{stems}

-- (n2,n10,n100) (n2,n12,i310) (n5,n10,n100)
abbrev pub second_and_fifth : Tables
second_and_fifth =
    tables_of
    (0x400007EA ∷ 0x00000002 ∷ 0x0000000A ∷ 0x00000064 ∷ 0x400007EA ∷ 0x00000002 ∷ 0x0000000C ∷ 0x40000136
    ∷ 0x400007EA ∷ 0x00000005 ∷ 0x0000000A ∷ 0x00000064 ∷ [])
    (0 ∷ 2 ∷ 1 ∷ []) (0 ∷ 2 ∷ 1 ∷ [])

-- both are accepted, six rows and three, and differ in hidden rows alone: neither has all rows of the other
pub record HiddenDiffer : Type 0 where
  pub first : first_failing (table_tests stems) ≡ none
  pub second : first_failing (table_tests second_and_fifth) ≡ none
  pub six : row_count stems ≡ 6
  pub three : row_count second_and_fifth ≡ 3
  pub hidden : DifferHidden (2 ∷ []) 10 stems second_and_fifth
