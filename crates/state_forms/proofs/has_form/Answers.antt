-- `state_forms::has_form` meets its contract.
use mathlib.Core.Path.{◌≡◌, sym, ap, ◌∙◌}
use native.Mathlib.Omega.{arith}
use borrow.Author.Tests.{not-true, not-false}
use Rattle.sequences.proofs.Walking.{rest_of}
use Rattle.tables.specs.Tables.{Tables, tables_of}
use Rattle.plans.specs.Plans.{Plan, plan_of}
use Rattle.steps.specs.Years.{is_year_read}
use Rattle.steps.specs.Saved.{year_in, shape_behind}
use Rattle.state_forms.proofs.ShapeCases.{form_short, form_elsewhere, form_yearless, form_unread, form_behind, year_told}
use Rattle.state_forms.proofs.has_form.Goals as goal
use Rattle.state_forms.proofs.has_form.Goals.{After-year_read, Start}

abbrev lent : Start → Tables
lent s = tables_of s.args.rows.now s.args.pos.now s.args.osp.now

abbrev asked : Start → Plan
asked s = plan_of s.args.plan.now

year_is : (c : After-year_read) →
    c.year_read.result ≡ is_year_read (tables_of c.args.rows.now c.args.pos.now c.args.osp.now) (plan_of c.args.plan.now).years (year_in c.args.state.now)
year_is c =
    c.year_read.ensures
    ∙ year_told (tables_of c.args.rows.now c.args.pos.now c.args.osp.now) c.args.plan.now c.args.state.now c.requires.plan_value c.years_in.result
    c.years_in.ensures
    c.number.result c.number.ensures

pub returns-then-state-lt2 : goal.returns-then-state-lt2
returns-then-state-lt2 c =
    sym (form_short (lent (goal.at.returns-then-state-lt2 c).Start) (asked (goal.at.returns-then-state-lt2 c).Start) c.args.state.now c.if-state-lt2.true)

pub returns-then-kind-ne-SURVEY : goal.returns-then-kind-ne-SURVEY
returns-then-kind-ne-SURVEY c =
    sym (form_elsewhere (lent (goal.at.returns-then-kind-ne-SURVEY c).Start) (asked (goal.at.returns-then-kind-ne-SURVEY c).Start) c.args.state.now
    (λ e. c.if-kind-ne-SURVEY.true (c.kind.ensures ∙ e)))

pub returns-then-kind-ne-YEAR : goal.returns-then-kind-ne-YEAR
returns-then-kind-ne-YEAR c =
    sym (form_yearless (lent (goal.at.returns-then-kind-ne-YEAR c).Start) (asked (goal.at.returns-then-kind-ne-YEAR c).Start) c.args.state.now
    (sym c.kind.ensures ∙ c.if-kind-ne-SURVEY.false) (λ e. c.if-kind-ne-YEAR.true (c.kind-2.ensures ∙ e)))

pub year_read-requires : goal.year_read-requires
year_read-requires c = record { right = c.requires.right; year_lt_term_values = omega (arith, c.number.ensures) }

pub returns-then-not-year_read : goal.returns-then-not-year_read
returns-then-not-year_read c =
    sym (form_unread (lent (goal.at.returns-then-not-year_read c).Start) (asked (goal.at.returns-then-not-year_read c).Start) c.args.state.now
    (sym c.kind.ensures ∙ c.if-kind-ne-SURVEY.false) (sym c.kind-2.ensures ∙ c.if-kind-ne-YEAR.false)
    c.year_read.result (year_is (goal.at.returns-then-not-year_read c).After-year_read) (not-true _ c.if-not-year_read.true-raw))

pub returns : goal.returns
returns c =
    c.has_shape.ensures
    ∙ ap (shape_behind (asked (goal.at.returns c).Start)) (rest_of c.args.state.now 2)
    ∙ sym (form_behind (lent (goal.at.returns c).Start) (asked (goal.at.returns c).Start) c.args.state.now
    (sym c.kind.ensures ∙ c.if-kind-ne-SURVEY.false) (sym c.kind-2.ensures ∙ c.if-kind-ne-YEAR.false)
    c.year_read.result (year_is (goal.at.returns c).After-year_read) (not-false _ c.if-not-year_read.false-raw))
