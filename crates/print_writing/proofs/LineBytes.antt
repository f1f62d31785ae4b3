-- A line that was written into its buffer is handed over whole.
use Prim.Native.Nat.{ℕ, ◌≤◌}
use mathlib.Core.Path.{◌∙◌, ap₂}
use mathlib.Core.List.{List}
use lib.ListN.{length, take}
use Rattle.sequences.proofs.Buffers.{take_over}
use Rattle.lists.specs.Putting.{Listed}
use Rattle.print_writing.specs.Shown.{IsLine}

pub line_is : (text before after : List ℕ) (n : ℕ) → Listed text before after n → n ≤ length after → IsLine text after n
line_is text before after n l room = (room, ap₂ take l.0 l.1 ∙ take_over text before)
