-- `mark_kinds` meets its contract. The invariant: the rows before `row` are marked, and those of right kinds listed.
use Rattle.std.proofs.Common.{[], ◌∷◌, ◌++◌, add-one, sym, ◌∙◌, ap, arith}
use lib.Seq.{take-suc-set}
use Rattle.upload_fates.proofs.Marking.{good_none, good_next, good_skip, mark_none, mark_next}
use Rattle.upload_fates.proofs.mark_kinds.Goals as goal
use Rattle.upload_fates.proofs.mark_kinds.Goals.{then-kinds_good, else-kinds_good}

pub loop-row-init : goal.loop-row-init
loop-row-init c = (omega arith, good_none c.args.upload.now, mark_none c.args.upload.now c.args.fates.now)

pub loop-row-preserved : goal.loop-row-preserved
loop-row-preserved c =
    let up = c.args.upload.now in
    let l = c.loop-row in
    let i = l.invariant in
    let f = c.requires in
    elim c.if-kinds_good.branch [
      | then-kinds_good w ↦
          let good = sym c.kinds_good.ensures ∙ w.if-kinds_good.true in
          rw (w.list-is, w.fates-is, w.right-is) (
            omega arith,
            rw (add-one l.right)
                (take-suc-set l.list l.right l.row (omega arith) ∙ ap (λ xs. xs ++ (l.row ∷ [])) i.1 ∙ good_next up l.row good),
            mark_next up l.fates l.row 0 i.2 (omega arith) (rw good),
          )
      | else-kinds_good w ↦
          let bad = sym c.kinds_good.ensures ∙ w.if-kinds_good.false in
          rw (w.list-is, w.fates-is, w.right-is)
          (omega arith, i.1 ∙ good_skip up l.row bad, mark_next up l.fates l.row 1 i.2 (omega arith) (rw bad))
    ]
