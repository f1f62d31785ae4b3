-- When a turn's list may take up a row, whatever the ending. Assumes nothing: these are definitions.
use Rattle.std.specs.Prelude.{ℕ, ◌≤◌, ◌≡◌, List, length, take}
use Rattle.words.specs.Bindings.{Bindings}
use Rattle.plans.specs.Endings.{Ending, rows, top, group, registers, most_group_variables}
use Rattle.registers.specs.Registers.{register_count}
use Rattle.list_best.specs.BestLists.{Deliverable}
use Rattle.list_groups.specs.TakingRows.{TakesRow}

-- the list that is the first `used` words of `out` may take up any row
abbrev pub Receives : Ending → List ℕ → List ℕ → ℕ → Type 0
Receives (rows vs) threshold out used = used ≤ length out
Receives (top k vs keys) threshold out used = Deliverable k vs keys threshold out used
Receives (group vs m) threshold out used =
    (length vs ≤ most_group_variables) × ((used ≤ length out) × ((b : Bindings) → TakesRow vs m (take used out) b))
Receives (registers v) threshold out used = (used ≡ register_count) × (register_count ≤ length out)
