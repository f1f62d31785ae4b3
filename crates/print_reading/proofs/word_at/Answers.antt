-- `word_at` meets its contract: four bytes make a word.
use native.Mathlib.Omega.{arith}
use Rattle.print_reading.proofs.FileWords.{four_bytes}
use Rattle.print_reading.proofs.word_at.Goals as goal

pub returns : goal.returns
returns c = omega (arith, four_bytes c.args.at c.args.bytes.now c.requires, c.from_le_bytes.ensures)
