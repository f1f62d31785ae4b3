-- Which row may be sent as a threshold: the last of a full list, merged out of earlier turns' lists. Assumes nothing: these
-- are definitions.
use Rattle.std.specs.Prelude.{ℕ, ◌-◌, ◌≡◌, true, length, drop, get_or, ltb}
use mathlib.Core.List.{List, [], map, foldl}
use Rattle.sequences.specs.Sequences.{all, distinct}
use Rattle.plans.specs.Endings.{Ending}
use Rattle.lists.specs.Gathering.{width, least_output, merged}

-- some lists merged one after the other, from an empty one
abbrev pub merged_all : Ending → List (List ℕ) → List ℕ
merged_all e lists = foldl (merged e) [] lists

-- the last row of a list
abbrev pub last_row : Ending → List ℕ → List ℕ
last_row e ws = drop (length ws - width e) ws

-- lists chosen by their numbers
abbrev pub chosen_from : List (List ℕ) → List ℕ → List (List ℕ)
chosen_from lists chosen = map (λ i. get_or lists i []) chosen

-- the last row of a full list, with k rows, merged out of some of the lists, in any order, none of them taken twice
pub record LastOfFull (e : Ending) (lists : List (List ℕ)) (threshold : List ℕ) : Type 0 where
  pub chosen : List ℕ
  pub there : all (λ i. ltb i (length lists)) chosen ≡ true
  pub once : distinct chosen ≡ true
  pub full : length (merged_all e (chosen_from lists chosen)) ≡ least_output e
  pub last : threshold ≡ last_row e (merged_all e (chosen_from lists chosen))

-- absent, or such a row
pub data Sent (e : Ending) (lists : List (List ℕ)) : List ℕ → Type 0 where
  absent : Sent e lists []
  row : {threshold : List ℕ} → LastOfFull e lists threshold → Sent e lists threshold
