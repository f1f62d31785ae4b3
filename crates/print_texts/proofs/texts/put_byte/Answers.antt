-- `put_byte` meets its contract.
use mathlib.Core.Path.{refl}
use Rattle.print_texts.proofs.Placements.{placed_byte}
use Rattle.print_texts.proofs.texts.put_byte.Goals as goal

pub returns : goal.returns
returns c = (refl, placed_byte c.args.byte c.args.at c.args.line.now c.requires)
