-- `write_row` meets its contract: the values of the variables passed are written.
use mathlib.Core.Path.{◌≡◌, refl, ◌∙◌}
use native.Mathlib.Omega.{arith}
use native.Mathlib.Numerals.{add-one}
use lib.ListN.{length, length-set}
use lib.Seq.{paste-zero, paste-suc}
use Rattle.lists.specs.Rows.{project}
use Rattle.lists.proofs.Writing.{length_project, word_at_lem}
use Rattle.list_rows.proofs.rows.write_row.Goals as goal

pub loop-i-init : goal.loop-i-init
loop-i-init c =
    let a = c.args in
    (refl, paste-zero a.buf.now a.at (project a.vars.now a.bound.now))

pub loop-i-preserved : goal.loop-i-preserved
loop-i-preserved c =
    let a = c.args in
    let i = c.loop-i.i in
    let inv = c.loop-i.invariant in
    let row = project a.vars.now a.bound.now in
    let n = length_project a.vars.now a.bound.now in (
      (simp length-set) ∙ inv.0,
      rw (inv.1, add-one, c.value_of.ensures, word_at_lem a.vars.now a.bound.now i (omega arith))
          (paste-suc a.buf.now a.at row i 0 (omega arith) (omega arith)),
    )

pub shape_of-buf : goal.shape_of-buf
shape_of-buf c = c.loop-i.invariant.0

pub returns : goal.returns
returns c =
    let all : c.loop-i.i ≡ length c.args.vars.now = omega arith in
    c.loop-i.invariant.1 ∙ rw all
