-- `go_on` meets its contract, as the loop of `query_plays::play` does: after each turn its variables and buffers are those of as many rounds.
use Prim.Native.Nat.{◌+◌}
use native.Mathlib.Omega.{arith}
use mathlib.Core.Path.{◌≡◌, refl, sym, ◌∙◌, ap, subst⁻¹}
use Rattle.queries.specs.declared.Keeping.TheVariants.{Merged}
use Rattle.queries.specs.Rounds.{result_at}
use Rattle.queries.specs.Playing.{StandsAfter}
use Rattle.queries.proofs.Rounds.{rounds_none, rounds_next, rounds_made, rounds_over, rounds_stopped}
use Rattle.queries.proofs.Plays.{stands_at}
use Rattle.print_writing.specs.FileQueries.{lent_survey}
use Rattle.print_writing.specs.Shown.{most_turns}
use Rattle.print_rounds.proofs.Openings.{started_opens}
use Rattle.print_rounds.proofs.go_on.Goals as goal

pub loop-made-init : goal.loop-made-init
loop-made-init g c = (omega arith, refl, refl, refl, rounds_none Merged _ _ _ _)

pub print_step-went-requires : goal.print_step-went-requires
print_step-went-requires g c = let v = lent_survey c.args.rows.now c.args.pos.now c.args.osp.now in
    let p = c.args.plan.now in
    let st = c.args.state.now in
    let n = c.loop-made.made in
    let started = c.requires.started in
    let here = stands_at Merged v p st c.args.opened started c.args.output.now c.args.kept.now c.args.quantum n c.loop-made.saved
    c.loop-made.used _ c.loop-made.invariant.4 in
    let stands = subst⁻¹ (λ r. StandsAfter v p c.args.quantum r n c.loop-made.state c.loop-made.saved) here.1 here.0 in
    record {
      lists_of = c.requires.lists_of;
      can_open = started_opens v p st c.args.opened started;
      made_lt_most_turns =
          (omega (arith, c.loop-made-test.true), stands);
      asks = (c.requires.asks.0, c.loop-made.invariant.2 ∙ c.requires.asks.1);
    }

pub loop-made-preserved : goal.loop-made-preserved
loop-made-preserved g c =
    let e = rounds_next Merged _ _ _ _ c.loop-made.made c.loop-made.saved c.loop-made.used _ c.loop-made.invariant.4 c.print_step-went.result _
    c.print_step-went.ensures _
    c.in-On.is in (
      omega arith,
      c.state-1.given ∙ c.loop-made.invariant.1,
      c.output-1.given ∙ c.loop-made.invariant.2,
      c.kept-1.given ∙ c.loop-made.invariant.3,
      e,
    )

pub shape_of-state-in-Over : goal.shape_of-state-in-Over
shape_of-state-in-Over g c = c.state-1.given ∙ c.loop-made.invariant.1

pub shape_of-output-in-Over : goal.shape_of-output-in-Over
shape_of-output-in-Over g c = c.output-1.given ∙ c.loop-made.invariant.2

pub shape_of-kept-in-Over : goal.shape_of-kept-in-Over
shape_of-kept-in-Over g c = c.kept-1.given ∙ c.loop-made.invariant.3

pub returns-in-Over : goal.returns-in-Over
returns-in-Over g c =
    let e = rounds_next Merged _ _ _ _ c.loop-made.made c.loop-made.saved c.loop-made.used _ c.loop-made.invariant.4 c.print_step-went.result _
    c.print_step-went.ensures _
    c.in-Over.is in
    sym (ap result_at (rounds_over Merged _ _ _ _ (c.loop-made.made + 1) _ (omega arith) _ _ e))

pub shape_of-state-in-Stopped : goal.shape_of-state-in-Stopped
shape_of-state-in-Stopped g c = c.state-1.given ∙ c.loop-made.invariant.1

pub shape_of-output-in-Stopped : goal.shape_of-output-in-Stopped
shape_of-output-in-Stopped g c = c.output-1.given ∙ c.loop-made.invariant.2

pub shape_of-kept-in-Stopped : goal.shape_of-kept-in-Stopped
shape_of-kept-in-Stopped g c = c.kept-1.given ∙ c.loop-made.invariant.3

pub returns-in-Stopped : goal.returns-in-Stopped
returns-in-Stopped g c =
    let e = rounds_next Merged _ _ _ _ c.loop-made.made c.loop-made.saved c.loop-made.used _ c.loop-made.invariant.4 c.print_step-went.result _
    c.print_step-went.ensures _
    c.in-Stopped.is in
    sym (ap result_at (rounds_stopped Merged _ _ _ _ (c.loop-made.made + 1) _ (omega arith) _ _ e))

pub shape_of-state : goal.shape_of-state
shape_of-state g c = c.loop-made.invariant.1

pub shape_of-output : goal.shape_of-output
shape_of-output g c = c.loop-made.invariant.2

pub shape_of-kept : goal.shape_of-kept
shape_of-kept g c = c.loop-made.invariant.3

pub returns : goal.returns
returns g c =
    let e : c.loop-made.made ≡ most_turns = omega (arith, c.loop-made-test.false, c.loop-made.invariant.0) in
    sym (ap result_at (rounds_made Merged _ _ _ _ c.loop-made.made _ e _ c.loop-made.invariant.4))
