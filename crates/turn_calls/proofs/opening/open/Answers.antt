-- `open` meets its contract: the tests of tables and plan, then 7 and 22, then the start state.
use mathlib.Core.Path.{sym, ◌∙◌}
use Rattle.state_saving.proofs.Storing.{held_storable}
use Rattle.calls.proofs.Refusals.{call_told}
use Rattle.turns.specs.Surveys.{Survey, survey_of}
use Rattle.turns.specs.Opening.{open_schema}
use Rattle.turns.proofs.Opening.{open_is_right}
use Rattle.turn_tests.proofs.Numbering.{early_right, early_planned}
use Rattle.turn_calls.proofs.Opened.{open_refused, own_refused, open_served, open_room, opened_words}
use Rattle.turn_calls.proofs.opening.open.Goals as goal
use Rattle.turn_calls.proofs.opening.open.Goals.{Start}

abbrev lent : Start → Survey
lent s = survey_of s.args.rows.now s.args.pos.now s.args.osp.now s.args.survey

pub returns-then-number-ne-ACCEPTED : goal.returns-then-number-ne-ACCEPTED
returns-then-number-ne-ACCEPTED c =
    let shown = call_told open_schema open_is_right _
    (sym (open_refused (lent (goal.at.returns-then-number-ne-ACCEPTED c).Start) c.args.plan.now c.args.state.now c.check-number.result
    c.check-number.ensures c.if-number-ne-ACCEPTED.true)) in
    record { state_after = shown.0; number = shown.1 }

pub returns-then-own-ne-ACCEPTED : goal.returns-then-own-ne-ACCEPTED
returns-then-own-ne-ACCEPTED c =
    let shown = call_told open_schema open_is_right _
    (sym (own_refused (lent (goal.at.returns-then-own-ne-ACCEPTED c).Start) c.args.plan.now c.args.state.now
    (sym c.check-number.ensures ∙ c.if-number-ne-ACCEPTED.false) c.start-own.result c.start-own.ensures
    c.if-own-ne-ACCEPTED.true)) in
    record { state_after = shown.0; number = shown.1 }

pub start-from-requires : goal.start-from-requires
start-from-requires c = let t = (lent (goal.at.start-from-requires c).Start).tables in
    let z = sym c.check-number.ensures ∙ c.if-number-ne-ACCEPTED.false in
    record { right = early_right t c.args.plan.now z; plan_value = early_planned t c.args.plan.now z }

pub save-requires : goal.save-requires
save-requires c =
    let z = sym c.check-number.ensures ∙ c.if-number-ne-ACCEPTED.false in
    let r = open_room (lent (goal.at.save-requires c).Start) c.args.plan.now c.args.state.now z c.start-own.result c.start-own.ensures
    c.if-own-ne-ACCEPTED.false in (
      held_storable (lent (goal.at.save-requires c).Start).tables c.args.plan.now c.start-from.result _
          (early_right (lent (goal.at.save-requires c).Start).tables c.args.plan.now z)
          c.start-from.ensures.held,
      r.0,
      r.1,
    )

pub returns : goal.returns
returns c = let p = c.args.plan.now in
    let st = c.args.state.now in
    let r = open_served (lent (goal.at.returns c).Start) p st
    (sym c.check-number.ensures ∙ c.if-number-ne-ACCEPTED.false) c.start-own.result c.start-own.ensures c.if-own-ne-ACCEPTED.false in
    let shown = call_told open_schema open_is_right _
    (opened_words (lent (goal.at.returns c).Start) p st c.start-from.result c.start-from.ensures.state r c.save.result _ c.save.ensures) in
    record { state_after = shown.0; number = shown.1 }
