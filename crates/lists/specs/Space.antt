-- For which further row a list has no room in an output: for rows, one that makes a row too many; for groups, the first of a
-- new group that makes a record too many; for a best-of list and for registers, none. Assumes nothing: these are definitions.
use Rattle.std.specs.Prelude.{ℕ, ◌+◌, ◌*◌, ◌<◌, ◌≡◌, List, [], ◌∷◌, map, length}
use Rattle.words.specs.Words.{key_rank}
use Rattle.words.specs.Bindings.{Bindings}
use Rattle.plans.specs.Endings.{Ending, rows, top, group, registers}
use Rattle.lists.specs.Rows.{project}
use Rattle.lists.specs.Groups.{groups_of}
use Rattle.lists.specs.Gathering.{width}

-- where a row's keys stand in the order of keys
abbrev pub row_keys : List ℕ → Bindings → List ℕ
row_keys vs b = map key_rank (project vs b)

-- no row so far has the keys of this one
abbrev pub NewGroup : List ℕ → List Bindings → Bindings → Type 0
NewGroup vs [] b = Unit {0}
NewGroup vs (c ∷ bs) b = (¬ (row_keys vs c ≡ row_keys vs b)) × NewGroup vs bs b

-- after the rows `bs` the row `b` has no space in an output of `room` words
abbrev pub NoSpaceFor : Ending → ℕ → List Bindings → Bindings → Type 0
NoSpaceFor (rows vs) room bs b = room < (length bs + 1) * width (rows vs)
NoSpaceFor (top k vs keys) room bs b = ⊥
NoSpaceFor (group vs m) room bs b = NewGroup vs bs b × (room < (length (groups_of vs m bs) + 1) * width (group vs m))
NoSpaceFor (registers v) room bs b = ⊥
