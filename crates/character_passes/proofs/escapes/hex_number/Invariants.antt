use Rattle.characters.specs.Escapes.{hex_from}
use Prim.Native.Nat.{◌+◌, ◌-◌, ◌≤◌}
use mathlib.Core.Path.{◌≡◌}
use lib.ListN.{length, drop}
use Rattle.character_passes.proofs.escapes.hex_number.Given as goal

abbrev pub invariant-loop-i : goal.invariant-loop-i
invariant-loop-i l =
    (l.from + l.i ≤ length l.text) × (hex_from l.digits (drop l.from l.text) 0 ≡ hex_from (l.digits - l.i) (drop (l.from + l.i) l.text) l.v)
