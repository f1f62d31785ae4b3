-- `no_values` meets its contract: a 0 for each register.
use Rattle.std.proofs.Common.{◌≡◌, ◌∙◌, sym, ap, length, take, rules, arith}
use lib.Seq.{length-take-le}
use Rattle.list_registers.proofs.Raising.{zeros, registers_none}
use Rattle.list_registers.proofs.values.no_values.Goals as goal

pub returns : goal.returns
returns c =
    let n : length (take 16 c.args.out.now) ≡ 16 = length-take-le 16 c.args.out.now (omega arith) in
    let zeroed = c.fill.ensures.after (λ y h. search rules) ∙ ap (λ k. zeros k) n in
    (sym (ap length registers_none), rw (registers_none, zeroed))
