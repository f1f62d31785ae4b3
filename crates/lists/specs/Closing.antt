-- What done adds to a list: with no group variable there is one group always, even of no rows. Assumes nothing: these are definitions.
use Rattle.std.specs.Prelude.{ℕ, List, [], ◌∷◌, Bool, cond}
use Rattle.words.specs.Bindings.{Bindings}
use Rattle.plans.specs.Endings.{Ending, rows, top, group, registers}
use Rattle.lists.specs.Groups.{of_nothing, group_words}
use Rattle.lists.specs.Gathering.{gathered}

-- a list, or the record of no rows where there is none in it
abbrev pub or_nothing : List ℕ → List ℕ
or_nothing [] = group_words of_nothing
or_nothing (w ∷ ws) = w ∷ ws

-- a list that is closed: only groups of no variable add that record
unfoldable pub closed : Ending → List ℕ → List ℕ
closed (rows vs) list = list
closed (top k vs keys) list = list
closed (group [] m) list = or_nothing list
closed (group (v ∷ vs) m) list = list
closed (registers v) list = list

-- the list of some delivered rows, closed where done, and before that as it was gathered
abbrev pub list_at : Ending → List ℕ → Bool → List Bindings → List ℕ
list_at e threshold done bs = cond done (closed e (gathered e threshold bs)) (gathered e threshold bs)
