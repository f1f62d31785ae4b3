-- The tests of a query that joins, but those of the lists. Assumes nothing: this is a definition.
use Rattle.std.specs.Prelude.{ℕ, List, [], ◌∷◌, ◌++◌}
use Rattle.words.specs.Tests.{Test}
use Rattle.tables.specs.Tables.{table_tests}
use Rattle.plans.specs.Plans.{plan_of, plan_tests}
use Rattle.steps.specs.Saved.{shape_right, survey_right, places_right}
use Rattle.turns.specs.Surveys.{Survey}

abbrev pub query_tests : Survey → List ℕ → List ℕ → List Test
query_tests v plan state =
    table_tests v.tables
    ++ (plan_tests plan
    ++ ((9, shape_right v.tables (plan_of plan) state)
    ∷ (22, survey_right v.number state)
    ∷ (10, places_right v.tables (plan_of plan) state)
    ∷ []))
