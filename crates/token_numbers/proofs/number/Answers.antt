-- `number` meets its contract.
use borrow.Author.Tests.{eq-eqb, ne_eqb}
use Rattle.token_runs.specs.RunClasses.{past_end}
use Rattle.token_numbers.proofs.NumbersRead.{number_whole, number_pointed}
use Prim.Native.Nat.{◌+◌}
use mathlib.Core.Path.{sym, ◌∙◌}
use lib.ListN.{get_or}
use Rattle.token_numbers.proofs.number.Goals as goal

pub returns-then-point_at-ne46 : goal.returns-then-point_at-ne46
returns-then-point_at-ne46 c other =
    let p = c.args.points.now in
    let n = c.run_length-n.result in
    let f = ne_eqb (get_or p (c.args.from + n) past_end) 0x2E (λ q. c.if-point_at-ne46.true (c.point_at.ensures ∙ q)) in
    c.whole.ensures other
    ∙ sym (number_whole p c.args.from other n c.run_length-n.ensures.0 f c.exponent_length.result c.exponent_length.ensures.0)

pub returns : goal.returns
returns c other =
    let p = c.args.points.now in
    let n = c.run_length-n.result in
    let t = eq-eqb (get_or p (c.args.from + n) past_end) 0x2E (sym c.point_at.ensures ∙ c.if-point_at-ne46.false) in
    let m = c.run_length-m in
    let x = c.exponent_length-2 in
    c.pointed.ensures other ∙ sym (number_pointed p c.args.from other n c.run_length-n.ensures.0 t m.result x.result m.ensures.0 x.ensures.0)
