-- Test 12 of both lists of registers, by its parts.
use Prim.Native.Nat.{ℕ}
use mathlib.Core.Path.{◌≡◌, refl}
use mathlib.Core.Bool.{◌&&◌}
use mathlib.Core.List.{List}
use Rattle.plans.specs.Endings.{registers}
use Rattle.registers.specs.Registers.{are_registers, kept_registers}
use Rattle.lists.specs.Gathering.{list_right}
use Rattle.merge_lists.specs.Answering.{both_right}

pub both_registers : (v : ℕ) (kept list : List ℕ) → kept_registers kept && are_registers list ≡ both_right (registers v) kept list
unfolding list_right
both_registers v kept list = refl
