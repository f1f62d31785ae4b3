-- `state_saving::depth_right` meets its contract.
use native.Mathlib.Omega.{arith}
use borrow.Author.Tests.{le-leb}
use Rattle.state_forms.proofs.depth_right.Goals as goal

pub returns-then-depth-eq0 : goal.returns-then-depth-eq0
returns-then-depth-eq0 c = rw c.if-depth-eq0.true

pub returns : goal.returns
returns c =
    rw (c.wide.ensures, le-leb 1 c.args.depth (omega arith))
