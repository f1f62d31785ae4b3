-- `declared_at` meets its contract. The invariant: the last of all declarations is the last of those from one on, or the one found before.
use Rattle.std.proofs.Common.{◌≡◌, ◌+◌, ◌-◌, ◌*◌, sym, ◌∙◌, arith}
use Rattle.terminal_names.proofs.Declarations.{declared_next, declared_end}
use Rattle.terminal_names.specs.Declaring.{declared_at}
use Rattle.terminal_names.proofs.declared_at.Goals as goal

pub loop-i-preserved : goal.loop-i-preserved
loop-i-preserved c =
    let ps = c.args.points.now in
    let ws = c.args.tokens.now in
    let l = c.loop-i in
    let left : c.args.count - (l.i + 1) ≡ c.args.count - l.i - 1 = omega arith in
    let at : 9 * (l.i + 1) ≡ 9 * l.i + 9 = omega arith in
    let e =
    declared_next ps ws (9 * l.i) c.args.prefix.now (c.args.count - l.i) (declared_at ps ws l.found)
    (declared_at ps ws c.newer-found.result) (omega arith) c.newer-found.ensures in
    rw (left, at) (l.invariant ∙ e)

pub returns : goal.returns
returns c =
    let ps = c.args.points.now in
    let ws = c.args.tokens.now in
    let l = c.loop-i in
    sym
    (l.invariant
    ∙ declared_end ps ws (9 * l.i) c.args.prefix.now (c.args.count - l.i) (declared_at ps ws l.found) (omega (arith, c.loop-i-test.false)))
