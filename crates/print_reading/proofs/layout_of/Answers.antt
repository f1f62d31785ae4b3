-- `layout_of` meets its contract: a file that is too long or not in whole words has no parts.
use native.Mathlib.Omega.{arith}
use mathlib.Core.Path.{◌∙◌}
use Rattle.print_reading.proofs.FileWords.{too_long, not_whole, whole}
use Rattle.print_reading.proofs.layout_of.Goals as goal

pub returns-then-bytes-gt-MOST_BYTES : goal.returns-then-bytes-gt-MOST_BYTES
returns-then-bytes-gt-MOST_BYTES c = too_long c.args.bytes.now (omega arith)

pub returns-then-bytes-ne0 : goal.returns-then-bytes-ne0
returns-then-bytes-ne0 c = not_whole c.args.bytes.now (omega arith) c.if-bytes-ne0.true

pub returns : goal.returns
returns c = c.parts_in.ensures ∙ whole c.args.bytes.now (omega arith) (omega arith)
