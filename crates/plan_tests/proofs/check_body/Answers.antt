-- `check_body` meets its contract: its branches, its ending's form, and then the variables of both.
use Prim.Native.Nat.{◌≤◌}
use mathlib.Core.Path.{refl, sym, ◌∙◌}
use native.Mathlib.Omega.{arith}
use lib.ListN.{length}
use Rattle.plan_tests.proofs.Checked.{body_broken, body_read, body_words, body_whole}
use Rattle.plan_tests.proofs.check_body.Goals as goal
use Rattle.plan_tests.proofs.check_body.Goals.{In-Some, then-part, else-part}

-- the branches leave the words behind them
branches_room : (c : In-Some) → c.in-Some.part.words ≤ length c.args.body.now
branches_room c =
    let args = c.args in
    body_words args.years args.count args.body.now c.branches.result c.branches.ensures _ c.in-Some.is

pub offset_bounds-body-part : goal.offset_bounds-body-part
offset_bounds-body-part c = omega (arith, branches_room c)

pub slice_bounds-e-count : goal.slice_bounds-e-count
slice_bounds-e-count c = omega (arith, branches_room c)

pub slice_bounds-e-start : goal.slice_bounds-e-start
slice_bounds-e-start c = omega (arith, branches_room c)

pub ending_right-requires : goal.ending_right-requires
ending_right-requires c =
    let args = c.args in
    body_read args.years args.count args.body.now c.branches.result c.branches.ensures _ c.in-Some.is

pub returns-in-None : goal.returns-in-None
returns-in-None c = sym (body_broken c.args.years c.args.count c.args.body.now c.branches.result c.branches.ensures c.in-None.is)

pub returns-after-part : goal.returns-after-part
returns-after-part c =
    let args = c.args in
    c.number_of.ensures ∙ sym (body_whole args.years args.count args.body.now c.branches.result c.branches.ensures _ c.in-Some.is _ refl
    c.ending_form.result c.if-part.number_of c.year_allowed.result c.ending_form.ensures
    (elim c.if-part.branch [
      | then-part w ↦ rw w.if-part.true (w.number_of-is ∙ w.ending_right.ensures)
      | else-part w ↦ rw w.if-part.false (w.number_of-is ∙ w.if-part.false)
    ]) c.year_allowed.ensures)
