-- `seek` meets its contract. The invariant: the first word that is not less stands at `at` or behind.
use mathlib.Core.Path.{◌≡◌, sym}
use native.Mathlib.Omega.{arith}
use Rattle.view_grants.specs.Places.{first_from}
use Rattle.view_grants.proofs.Search.{first_most, first_after, first_upto, first_none, first_decides}
use Rattle.view_grants.proofs.seek.Goals as goal

pub loop-at-init : goal.loop-at-init
loop-at-init c = c.requires.from_bound

pub returns-then-word-next : goal.returns-then-word-next
returns-then-word-next c =
    let h = first_upto c.args.grant.now c.requires.grant_value c.args.word c.loop-at.at (omega arith) c.if-word-next.true in
    let e : c.loop-at.at ≡ first_from c.args.grant.now c.args.word = omega (arith, c.loop-at.invariant) in
    (e, first_decides c.args.grant.now c.requires.grant_value c.args.word c.loop-at.at e (omega arith))

pub loop-at-preserved : goal.loop-at-preserved
loop-at-preserved c =
    let h = first_after c.args.grant.now c.requires.grant_value c.args.word c.loop-at.at (omega arith) c.if-word-next.false in
    omega arith

pub returns : goal.returns
returns c =
    let h = first_most c.args.grant.now c.requires.grant_value c.args.word in
    (omega (arith, c.loop-at.invariant), sym (first_none c.args.grant.now c.requires.grant_value c.args.word (omega (arith, c.loop-at.invariant))))
