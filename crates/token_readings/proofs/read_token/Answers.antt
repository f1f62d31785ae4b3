-- `read_token` meets its contract: no token reaches past the text.
use Rattle.std.proofs.Common.{rules, tests, ◌<◌, length, sym, arith}
use Rattle.tokens.proofs.TokenBounds.{token_there}
use Rattle.token_readings.proofs.read_token.Goals as goal

pub overflow_add-result : goal.overflow_add-result
overflow_add-result c =
    let h : c.args.from < length c.args.points.now = search (rules, tests) in
    let f = rw (sym c.token_of-t.ensures) at (token_there c.args.points.now c.args.from h) in
    omega (arith, f.within, h)
