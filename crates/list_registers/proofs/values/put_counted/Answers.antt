-- `put_counted` meets its contract: there is room for 16 words.
use mathlib.Core.Path.{◌∙◌, ap}
use lib.ListN.{take}
use Rattle.sequences.specs.Sequences.{over}
use Rattle.registers.specs.Registers.{register_count}
use Rattle.lists.specs.Delivering.{with_value}
use Rattle.list_registers.proofs.Counting.{counted_taken}
use Rattle.list_registers.proofs.values.put_counted.Goals as goal

pub returns : goal.returns
returns c =
    let out = c.args.out.now in
    counted_taken c.args.variable c.args.bound.now out _ c.args.used c.requires.0 c.requires.1
    (c.put_value.ensures
    ∙ ap (λ x. over (with_value (take register_count out) x) out) c.value_of.ensures)
