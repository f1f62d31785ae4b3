use mathlib.Core.List.{◌++◌, map}
use Rattle.characters.specs.Characters.{characters_from, characters_of, points_of}
use Prim.Native.Nat.{◌-◌, ◌≤◌}
use mathlib.Core.Path.{◌≡◌}
use lib.ListN.{length, take, drop}
use Rattle.character_passes.proofs.read_characters.Given as goal

abbrev pub invariant-loop-at : goal.invariant-loop-at
invariant-loop-at l =
    (l.at ≤ length l.text) × (l.n ≤ l.at) × (length l.points ≡ length l.initial.points) × (length l.places ≡ length l.initial.places)
    × (points_of l.text ≡ take l.n l.points ++ map (λ c. c.point) (characters_from l.behind l.at 0 (drop l.at l.text)))
    × (drop l.n l.points ≡ drop l.n l.initial.points)
    × (map (λ c. c.place) (characters_of l.text) ≡ take l.n l.places ++ map (λ c. c.place) (characters_from l.behind l.at 0 (drop l.at l.text)))
    × (drop l.n l.places ≡ drop l.n l.initial.places)

abbrev pub decreases-loop-at : goal.decreases-loop-at
decreases-loop-at l = length l.text - l.at
