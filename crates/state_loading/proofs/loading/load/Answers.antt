-- `state_loading::load` meets its contract.
use Prim.Native.Nat.{ℕ}
use mathlib.Core.Path.{◌≡◌, sym, ap, ap₂, ◌∙◌}
use mathlib.Core.Bool.{true}
use mathlib.Core.List.{List}
use native.Mathlib.Omega.{arith}
use borrow.Author.Tests.{not-true, not-false}
use Rattle.words.specs.Words.{number}
use Rattle.sequences.proofs.Walking.{rest_of}
use Rattle.tables.specs.Tables.{Tables, tables_of, section_of}
use Rattle.plans.specs.Plans.{Plan, plan_of}
use Rattle.steps.specs.Saved.{year_in, shape_behind, shape_right, position_in}
use Rattle.step_cursors.specs.Held.{current_branch}
use Rattle.state_saving.specs.Loading.{places_refusal}
use Rattle.state_saving.proofs.Loads.{refused_shape, refused_survey, refused_behind, two_words_lem, behind_right, loaded_state, loaded_held, loaded_ends}
use Rattle.state_loading.proofs.loading.load.Goals as goal
use Rattle.state_loading.proofs.loading.load.Goals.{After-number-year, Else-not-has_form, Start}

abbrev lent : Start → Tables
lent s = tables_of s.args.rows.now s.args.pos.now s.args.osp.now

abbrev asked : Start → Plan
asked s = plan_of s.args.plan.now

abbrev words : Start → List ℕ
words s = s.args.state.now

shape : (c : Else-not-has_form) →
    shape_right ((tables_of c.args.rows.now c.args.pos.now c.args.osp.now)) ((plan_of c.args.plan.now)) ((c.args.state.now)) ≡ true
shape c = sym c.has_form.ensures ∙ not-false _ c.if-not-has_form.false-raw

-- the word of their year
word_is : (c : After-number-year) →
    c.number-year.result.0 ≡ number (year_in (c.args.state.now))
word_is c = omega (arith, c.number-year.ensures, c.number.ensures)

pub returns-then-not-has_form : goal.returns-then-not-has_form
returns-then-not-has_form c = let shape = sym c.has_form.ensures ∙ not-true _ c.if-not-has_form.true-raw in
    record {
      refused_value = c.refused.ensures ∙
          sym (refused_shape (lent (goal.at.returns-then-not-has_form c).Start) c.args.survey (asked (goal.at.returns-then-not-has_form c).Start)
          (words (goal.at.returns-then-not-has_form c).Start) shape);
      from_value = λ z. absurd (omega (arith, z, c.refused.ensures));
      ends =
          λ z. absurd (omega (arith, z, c.refused.ensures));
    }

pub bounds-state-0 : goal.bounds-state-0
bounds-state-0 c = omega (
  arith,
  two_words_lem (lent (goal.at.bounds-state-0 c).Start) (asked (goal.at.bounds-state-0 c).Start) (words (goal.at.bounds-state-0 c).Start)
      (shape (goal.at.bounds-state-0 c).Else-not-has_form),
)

pub returns-then-not-of_survey : goal.returns-then-not-of_survey
returns-then-not-of_survey c = let differs = sym c.of_survey.ensures ∙ not-true _ c.if-not-of_survey.true-raw in
    record {
      refused_value = c.refused-then-not-of_survey.ensures ∙
          sym (refused_survey (lent (goal.at.returns-then-not-of_survey c).Start) c.args.survey (asked (goal.at.returns-then-not-of_survey c).Start)
          (words (goal.at.returns-then-not-of_survey c).Start) (shape (goal.at.returns-then-not-of_survey c).Else-not-has_form) differs);
      from_value =
          λ z. absurd (omega (arith, z, c.refused-then-not-of_survey.ensures));
      ends = λ z. absurd (omega (arith, z, c.refused-then-not-of_survey.ensures));
    }

pub bounds-state-1 : goal.bounds-state-1
bounds-state-1 c =
    omega (
      arith,
      two_words_lem (lent (goal.at.bounds-state-1 c).Start) (asked (goal.at.bounds-state-1 c).Start)
          (words (goal.at.bounds-state-1 c).Start) (shape (goal.at.bounds-state-1 c).Else-not-has_form),
    )

pub slice_bounds-load_behind-count : goal.slice_bounds-load_behind-count
slice_bounds-load_behind-count c =
    omega (
      arith,
      two_words_lem (lent (goal.at.slice_bounds-load_behind-count c).Start) (asked (goal.at.slice_bounds-load_behind-count c).Start)
          (words (goal.at.slice_bounds-load_behind-count c).Start) (shape (goal.at.slice_bounds-load_behind-count c).Else-not-has_form),
    )

pub slice_bounds-load_behind-start : goal.slice_bounds-load_behind-start
slice_bounds-load_behind-start c =
    omega (
      arith,
      two_words_lem (lent (goal.at.slice_bounds-load_behind-start c).Start) (asked (goal.at.slice_bounds-load_behind-start c).Start)
          (words (goal.at.slice_bounds-load_behind-start c).Start) (shape (goal.at.slice_bounds-load_behind-start c).Else-not-has_form),
    )

pub load_behind-requires : goal.load_behind-requires
load_behind-requires c = record {
  right = c.requires.right;
  plan_value = c.requires.plan_value;
  state_value =
      ap (shape_behind (asked (goal.at.load_behind-requires c).Start)) (rest_of (words (goal.at.load_behind-requires c).Start) 2) ∙
      behind_right (lent (goal.at.load_behind-requires c).Start) (asked (goal.at.load_behind-requires c).Start)
      (words (goal.at.load_behind-requires c).Start) (shape (goal.at.load_behind-requires c).Else-not-has_form);
}

pub returns : goal.returns
returns c = let word = c.number-year.result.0 in
    let behind = rest_of (words (goal.at.returns c).Start) 2 in
    let same = sym c.of_survey.ensures ∙ not-false _ c.if-not-of_survey.false-raw in
    let year = word_is (goal.at.returns c).After-number-year in
    let from = c.load_behind.result.from in record {
      refused_value = c.load_behind.ensures.refused_value
          ∙ ap₂ (λ w ws. places_refusal (section_of c.args.rows.now c.args.pos.now c.args.osp.now w) (asked (goal.at.returns c).Start) ws) year behind
          ∙ sym (refused_behind (lent (goal.at.returns c).Start) c.args.survey (asked (goal.at.returns c).Start) (words (goal.at.returns c).Start)
          (shape (goal.at.returns c).Else-not-has_form) same);
      from_value = λ z. let h = c.load_behind.ensures.from_value z in (
        loaded_state (lent (goal.at.returns c).Start) c.args.plan.now (words (goal.at.returns c).Start)
            (shape (goal.at.returns c).Else-not-has_form) word year from _ h.1 (h.0 ∙ ap position_in behind),
        loaded_held (lent (goal.at.returns c).Start) c.args.plan.now (words (goal.at.returns c).Start)
            (shape (goal.at.returns c).Else-not-has_form) word year from _ h.1,
      );
      ends = λ z. loaded_ends (lent (goal.at.returns c).Start) c.args.plan.now (words (goal.at.returns c).Start)
          (shape (goal.at.returns c).Else-not-has_form) word year from _ (c.load_behind.ensures.from_value z).1
          (current_branch c.args.plan.now from).terms (c.load_behind.ensures.ends z);
    }
