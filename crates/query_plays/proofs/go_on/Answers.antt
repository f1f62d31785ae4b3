-- `go_on` meets its contract: after each turn its variables and buffers are those of as many rounds.
use Prim.Native.Nat.{◌+◌}
use native.Mathlib.Omega.{arith}
use mathlib.Core.Path.{◌≡◌, refl, sym, ◌∙◌, ap}
use Rattle.queries.specs.declared.Keeping.TheVariants.{All}
use Rattle.queries.specs.Rounds.{play_answer, result_at}
use Rattle.queries.proofs.Rounds.{rounds_none, rounds_next, rounds_made, rounds_over, rounds_stopped}
use Rattle.query_plays.proofs.go_on.Goals as goal

pub loop-init : goal.loop-init
loop-init c = (omega arith, refl, refl, refl, rounds_none All _ _ _ _)

pub loop-preserved : goal.loop-preserved
loop-preserved c =
    let e = rounds_next All _ _ _ _ c.loop.counter c.loop.saved c.loop.used _ c.loop.invariant.4 c.advance-went.result _
    c.advance-went.ensures _ c.in-On.is in (
      omega arith,
      c.state-1.given ∙ c.loop.invariant.1,
      c.output-1.given ∙ c.loop.invariant.2,
      c.kept-1.given ∙ c.loop.invariant.3,
      e,
    )

pub shape_of-state-in-Over : goal.shape_of-state-in-Over
shape_of-state-in-Over c = c.state-1.given ∙ c.loop.invariant.1

pub shape_of-output-in-Over : goal.shape_of-output-in-Over
shape_of-output-in-Over c = c.output-1.given ∙ c.loop.invariant.2

pub shape_of-kept-in-Over : goal.shape_of-kept-in-Over
shape_of-kept-in-Over c = c.kept-1.given ∙ c.loop.invariant.3

pub returns-in-Over : goal.returns-in-Over
returns-in-Over c =
    let w = c.in-Over.is in
    let e = rounds_next All _ _ _ _ c.loop.counter c.loop.saved c.loop.used _ c.loop.invariant.4 c.advance-went.result _ c.advance-went.ensures _ w in
    rw (c.play_answer.ensures ∙ ap play_answer w) (sym (ap result_at (rounds_over All _ _ _ _ (c.loop.counter + 1) _ (omega arith) _ _ e)))

pub shape_of-state-in-Stopped : goal.shape_of-state-in-Stopped
shape_of-state-in-Stopped c = c.state-1.given ∙ c.loop.invariant.1

pub shape_of-output-in-Stopped : goal.shape_of-output-in-Stopped
shape_of-output-in-Stopped c = c.output-1.given ∙ c.loop.invariant.2

pub shape_of-kept-in-Stopped : goal.shape_of-kept-in-Stopped
shape_of-kept-in-Stopped c = c.kept-1.given ∙ c.loop.invariant.3

pub returns-in-Stopped : goal.returns-in-Stopped
returns-in-Stopped c =
    let w = c.in-Stopped.is in
    let e = rounds_next All _ _ _ _ c.loop.counter c.loop.saved c.loop.used _ c.loop.invariant.4 c.advance-went.result _ c.advance-went.ensures _ w in
    rw (c.play_answer-in-Stopped.ensures ∙ ap play_answer w) (sym (ap result_at (rounds_stopped All _ _ _ _ (c.loop.counter + 1) _ (omega arith) _ _ e)))

pub shape_of-state : goal.shape_of-state
shape_of-state c = c.loop.invariant.1

pub shape_of-output : goal.shape_of-output
shape_of-output c = c.loop.invariant.2

pub shape_of-kept : goal.shape_of-kept
shape_of-kept c = c.loop.invariant.3

pub returns : goal.returns
returns c =
    let e : c.loop.counter ≡ c.args.most = omega (arith, c.loop-test.false, c.loop.invariant.0) in
    sym (ap result_at (rounds_made All _ _ _ _ c.loop.counter _ e _ c.loop.invariant.4))
