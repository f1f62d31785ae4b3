-- `state_loading::load_behind` meets its contract.
use Prim.Native.Nat.{ℕ}
use mathlib.Core.Path.{◌≡◌, refl, sym, ap, ◌∙◌}
use mathlib.Core.Bool.{true, false}
use mathlib.Core.List.{List}
use native.Mathlib.Omega.{arith}
use lib.ListN.{length, get_or, length-drop}
use Rattle.words.specs.Words.{branch_of}
use Rattle.tables.specs.Tables.{Section, section_of}
use Rattle.plans.specs.Branches.{Branch, no_branch}
use Rattle.plans.specs.Plans.{Plan, plan_of, branch_at}
use Rattle.plans.specs.Reading.{branch_start}
use Rattle.plans.proofs.Given.{given_read, given_is}
use Rattle.steps.specs.Saved.{shape_behind}
use Rattle.state_saving.proofs.Loads.{placed, whole, begins, level_there, loads_not, loads, loads_held, loads_ends}
use Rattle.state_loading.proofs.loading.load_behind.Goals as goal
use Rattle.state_loading.proofs.loading.load_behind.Goals.{After-shared_slice_known-6-1, After-terms-terms, Start}

abbrev lent : Start → Section
lent s = section_of s.args.rows.now s.args.pos.now s.args.osp.now s.args.year

abbrev asked : Start → Plan
asked s = plan_of s.args.plan.now

abbrev words : Start → List ℕ
words s = s.args.state.now

shape : (c : After-shared_slice_known-6-1) → shape_behind ((plan_of c.args.plan.now)) ((c.args.state.now)) ≡ true
shape c = c.requires.state_value

-- the terms of the branch that the first word names
terms_are : (c : After-terms-terms) →
    c.terms-terms.result.now ≡ (branch_at (plan_of c.args.plan.now) (branch_of (get_or (c.args.state.now) 0 0))).terms
terms_are c =
    c.terms-terms.ensures
    ∙ ap (λ (x : Branch). x.terms)
    (given_is _ no_branch _ c.branch_part-part.ensures.branch ∙ ap (branch_at (plan_of c.args.plan.now)) c.branch.ensures)

pub bounds-state-0 : goal.bounds-state-0
bounds-state-0 c = let p = placed (asked (goal.at.bounds-state-0 c).Start) (words (goal.at.bounds-state-0 c).Start) (shape c) in omega (arith, p.long)

pub branch_part-part-requires : goal.branch_part-part-requires
branch_part-part-requires c =
    let p = placed (asked (goal.at.branch_part-part-requires c).Start) (words (goal.at.branch_part-part-requires c).Start)
    (shape (goal.at.branch_part-part-requires c).After-shared_slice_known-6-1) in
    (c.requires.plan_value, omega (arith, p.branch, c.branch.ensures))

pub overflow_sub-plan : goal.overflow_sub-plan
overflow_sub-plan c =
    omega (arith, ap length c.branch_part-part.ensures.start, length-drop (branch_start c.branch.result c.args.plan.now) c.args.plan.now)

pub cursor_in-from-requires : goal.cursor_in-from-requires
cursor_in-from-requires c =
    whole c.args.plan.now (words (goal.at.cursor_in-from-requires c).Start) c.requires.plan_value
    (shape (goal.at.cursor_in-from-requires c).After-shared_slice_known-6-1)

pub terms-terms-requires : goal.terms-terms-requires
terms-terms-requires c = given_read _ _ c.branch_part-part.ensures.branch

pub places_right-requires : goal.places_right-requires
places_right-requires c = record {
  right = c.requires.right;
  inside =
      level_there c.args.plan.now (words (goal.at.places_right-requires c).Start) c.requires.plan_value
      (shape (goal.at.places_right-requires c).After-shared_slice_known-6-1) c.cursor_in-from.result c.cursor_in-from.ensures.0
      c.cursor_in-from.ensures.2 _ (terms_are (goal.at.places_right-requires c).After-terms-terms);
}

pub level_of-requires : goal.level_of-requires
level_of-requires c =
    (level_there c.args.plan.now (words (goal.at.level_of-requires c).Start) c.requires.plan_value
    (shape (goal.at.level_of-requires c).After-shared_slice_known-6-1) c.cursor_in-from.result c.cursor_in-from.ensures.0
    c.cursor_in-from.ensures.2 _ (terms_are (goal.at.level_of-requires c).After-terms-terms)).0

pub returns-in-Some : goal.returns-in-Some
returns-in-Some c =
    let ws = words (goal.at.returns-in-Some c).Start in
    let plan = c.args.plan.now in
    let from = c.cursor_in-from.result in
    let right = sym c.in-Some.ensures.right_value in
    let bound = c.in-Some.ensures.bound_after refl in
    let k = c.in-Some.ensures.ends in
    let shaped = shape (goal.at.returns-in-Some c).After-shared_slice_known-6-1 in
    let named = terms_are (goal.at.returns-in-Some c).After-terms-terms in record {
      refused_value = sym (loads plan ws c.requires.plan_value shaped from c.cursor_in-from.ensures.0 c.cursor_in-from.ensures.2 _ named
          (lent (goal.at.returns-in-Some c).Start) true (sym right) refl);
      from_value = λ z. (
        c.cursor_in-from.ensures.0,
        loads_held plan ws c.requires.plan_value shaped from c.cursor_in-from.ensures.0 c.cursor_in-from.ensures.2 _ named
            (lent (goal.at.returns-in-Some c).Start) true (sym right) refl
            (begins plan c.branch_part-part.result.now c.branch.result _ (branch_start c.branch.result plan) from.at c.branch_part-part.ensures.start
            c.branch_part-part.ensures.branch c.branch.ensures c.cursor_in-from.ensures.1) c.cursor_in-from.ensures.3 _ bound _ c.level_of.ensures _ _,
      );
      ends = λ z. loads_ends plan ws c.requires.plan_value shaped from c.cursor_in-from.ensures.0 c.cursor_in-from.ensures.2 _ named
          (lent (goal.at.returns-in-Some c).Start) _ bound c.level_of.result _ _ k.0 k.1 k.2;
    }

pub returns-in-None : goal.returns-in-None
returns-in-None c = record {
  refused_value = c.refused.ensures ∙ sym (loads_not c.args.plan.now (words (goal.at.returns-in-None c).Start) c.requires.plan_value
      (shape (goal.at.returns-in-None c).After-shared_slice_known-6-1) c.cursor_in-from.result c.cursor_in-from.ensures.0 c.cursor_in-from.ensures.2 _
      (terms_are (goal.at.returns-in-None c).After-terms-terms) (lent (goal.at.returns-in-None c).Start) false c.in-None.ensures.right_value refl);
  from_value = λ z. absurd (omega (arith, z, c.refused.ensures));
  ends = λ z. absurd (omega (arith, z, c.refused.ensures));
}
