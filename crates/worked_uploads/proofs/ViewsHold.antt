-- Every case of the tables of views holds, by computation; and tables that differ in a visible row give different views.
use Prim.Native.Nat.{ℕ}
use native.Mathlib.Omega.{arith}
use mathlib.Core.Path.{◌≡◌, refl, ◌∙◌, ap}
use mathlib.Core.List.{[], ◌∷◌}
use mathlib.Core.Option.{none}
use lib.ListN.{get_or}
use Rattle.words.specs.Tests.{first_failing}
use Rattle.tables.specs.Tables.{Tables, table_tests}
use Rattle.tables.specs.RowLists.{tables_from}
use Rattle.views.specs.Views.{view_of}
use Rattle.views.proofs.Direct.{any_membership}
use Rattle.worked_cases.specs.Calls.{Hold}
use Rattle.worked_cases.specs.Literals.{stems}
use Rattle.worked_uploads.specs.Views.{of_visible, views_of_years, of_hidden, of_numbers, of_grants, second_stem, with_diameters}
use Rattle.worked_cases.proofs.Holds.{computing}
use Rattle.worked_cases.proofs.ByOutcomes.{by_outcomes}

pub of_visible_hold : Hold of_visible
unfolding computing
of_visible_hold = by_outcomes of_visible refl

pub of_years_hold : Hold views_of_years
unfolding computing
of_years_hold = by_outcomes views_of_years refl

pub of_hidden_hold : Hold of_hidden
unfolding computing
of_hidden_hold = by_outcomes of_hidden refl

pub of_numbers_hold : Hold of_numbers
unfolding computing
of_numbers_hold = by_outcomes of_numbers refl

pub of_grants_hold : Hold of_grants
unfolding computing
of_grants_hold = by_outcomes of_grants refl

-- an adviser to whom n2 is granted tells accepted tables apart by its diameter
pub visible_told : (first_failing (table_tests stems) ≡ none) × (first_failing (table_tests (with_diameters 0x4000002D 0x4000012C)) ≡ none)
    × ¬ (view_of stems (2 ∷ []) 10 ≡ view_of (with_diameters 0x4000002D 0x4000012C) (2 ∷ []) 10)
unfolding computing
visible_told = (refl, refl, λ e. let d : ◌≡◌ {A = ℕ} 0x40000136 0x4000012C = ap (λ (t : Tables). get_or t.rows 7 0) e in omega arith)

-- the grant n2 shows the stem n2, whatever the membership predicate: no object is n2
pub second_stem_lem : (membership : ℕ) → view_of stems (2 ∷ []) membership ≡ second_stem
unfolding computing
second_stem_lem membership = ap tables_from (any_membership stems.rows (2 ∷ []) refl membership 10) ∙ refl
