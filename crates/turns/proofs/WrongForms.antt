-- A turn is refused by 9 exactly where the tests before it pass and the given words have not the form of a state.
use mathlib.Core.Path.{◌≡◌, refl}
use mathlib.Core.Logic.{◌↔◌}
use mathlib.Core.Bool.{Bool, true, false, ◌&&◌}
use mathlib.Core.List.{◌++◌}
use lib.Dec.{leb}
use lib.ListN.{length, take}
use borrow.Author.Tests.{leb-true, le-leb}
use Rattle.words.specs.Tests.{AllPass, FirstFails, tests_before}
use Rattle.sequences.proofs.Booleans.{absurd_true, and_left, and_right, and_both}
use Rattle.words.proofs.Testing.{all_passes, front_passes, rest_passes, fails_at, passed_before_lem, first_not_passed}
use Rattle.tables.specs.Tables.{table_tests}
use Rattle.tables.proofs.RightTables.{right}
use Rattle.plans.specs.Plans.{read_plan, plan_tests}
use Rattle.plans.proofs.Bounds.{was_read}
use Rattle.steps.specs.Saved.{shape_right}
use Rattle.steps.specs.StateForms.{StateForm}
use Rattle.steps.proofs.StateForms.{form_when}
use Rattle.turns.specs.declared.TurnEnding.TheVariants.{Refused}
use Rattle.turns.specs.Turns.{TurnInput, given_state, given_plan, own_tests, turn_tests, turn_of}
use Rattle.turns.proofs.Refusals.{turn_refusals}
use Rattle.turns.specs.WrongForms.{GivenForm, WrongForm}

module _ (i : TurnInput) where
  abbrev nine : Bool
  nine = leb i.given (length i.state) && shape_right i.survey.tables (given_plan i) (given_state i)

  module _ (before : AllPass (tests_before 9 (turn_tests i))) where
    given_when : (shape_right i.survey.tables (given_plan i) (given_state i) ≡ true) ↔ StateForm i.survey.tables (given_plan i) (given_state i)
    given_when =
        let plan = rest_passes (table_tests i.survey.tables) (plan_tests i.plan ++ take 2 (own_tests i)) before in
        form_when i.survey.tables
        (right i.survey.tables
        (all_passes (table_tests i.survey.tables) (front_passes (table_tests i.survey.tables) (plan_tests i.plan ++ take 2 (own_tests i)) before)))
        i.plan (given_plan i) (was_read (read_plan i.plan) plan.0) (given_state i)

    nine_when : (nine ≡ true) ↔ GivenForm i
    nine_when = (
      λ e. (
        leb-true i.given (length i.state) (and_left (leb i.given (length i.state)) _ e),
        given_when.0 (and_right (leb i.given (length i.state)) _ e),
      ),
      λ f. and_both (leb i.given (length i.state)) _ (le-leb i.given (length i.state) f.0) (given_when.1 f.1),
    )

  pub refused_by_nine : ((turn_of i).answer.ending ≡ Refused 9) ↔ WrongForm i
  refused_by_nine = (λ e. to (((turn_refusals i).refused 9).0 e), λ w. ((turn_refusals i).refused 9).1 (back w))
    where
      to : FirstFails 9 (turn_tests i) → WrongForm i
      to h =
          let before = passed_before_lem 9 (turn_tests i) h in
          (before, λ f. absurd_true (and_both nine true ((nine_when before).1 f) refl) (first_not_passed 9 (turn_tests i) h))

      back : WrongForm i → FirstFails 9 (turn_tests i)
      back w = fails_at 9 (turn_tests i) (go nine refl) w.0
        where
          go : (b : Bool) → nine ≡ b → nine ≡ false
          go true e = absurd (w.1 ((nine_when w.0).0 e))
          go false e = e
