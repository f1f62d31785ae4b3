-- `play_bytes` is safe: the parts of a wood that is not refused lie within its words.
use native.Mathlib.Omega.{arith}
use mathlib.Core.Path.{sym, ◌∙◌, ap}
use Rattle.print_reading.specs.Files.{FileRead}
use Rattle.print_reading.proofs.LaidOut.{laid_out}
use Rattle.trial_plans.proofs.play_bytes.Goals as goal

pub play_wood-requires : goal.play_wood-requires
play_wood-requires g c =
    let p = c.in-Ok.parts in
    let laid = laid_out _ p (sym (ap (λ (r : FileRead). r.answer) c.read_file.ensures) ∙ c.in-Ok.is) in
    (laid.0, omega arith)
