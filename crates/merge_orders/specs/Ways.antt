-- Ways of merging turns' lists, in any order and grouping, played by the definition of the call. Assumes nothing: these are definitions.
use Rattle.std.specs.Prelude.{ℕ, Bool, true, false, length, take, get_or}
use Rattle.std.proofs.Math.Option.{Option, none, some}
use mathlib.Core.List.{List, [], ◌∷◌, ◌++◌, map, flatten, Permᴰ}
use Rattle.words.specs.declared.Written.{Written}
use Rattle.words.specs.declared.Written.TheVariants.{Words, Refused}
use Rattle.sequences.specs.Sequences.{numbers}
use Rattle.plans.specs.Conditions.{next}
use Rattle.lists.specs.Gathering.{records_in}
use Rattle.calls.specs.Words.{WordsResult}
use Rattle.merges.specs.Merging.{MergeInput, merge_of}

-- an empty kept list; the list of the turn with a number; or what one way gives, with these words behind it in its buffer, merged with what another
-- gives
pub data Way : Type 0 where
  empty : Way
  turn : ℕ → Way
  into : Way → List ℕ → Way → Way

-- the turns whose lists are merged, from left to right
unfoldable pub turns_along : Way → List ℕ
turns_along empty = []
turns_along (turn i) = i ∷ []
turns_along (into a behind b) = turns_along a ++ turns_along b

abbrev pub is_merge : Way → Bool
is_merge empty = false
is_merge (turn i) = false
is_merge (into a behind b) = true

-- ---- what a way gives: none where a merge is refused
abbrev pub input_of : List ℕ → List ℕ → List ℕ → List ℕ → MergeInput
input_of plan kept behind list = record { plan = plan; kept = kept ++ behind; given = length kept; list = list }

abbrev pub written_in : WordsResult → Written → Option (List ℕ)
written_in r (Words n) = some (take n r.buffers)
written_in r (Refused x) = none

abbrev pub merged_by : List ℕ → List ℕ → List ℕ → List ℕ → Option (List ℕ)
merged_by plan kept behind list = written_in (merge_of (input_of plan kept behind list)) (merge_of (input_of plan kept behind list)).answer

unfoldable pub given : List ℕ → List (List ℕ) → Way → Option (List ℕ)
given plan lists empty = some []
given plan lists (turn i) = some (get_or lists i [])
given plan lists (into a behind b) = next (given plan lists a) (λ kept. next (given plan lists b) (λ list. merged_by plan kept behind list))

-- each of the lists is merged once
abbrev pub EachOnce : List (List ℕ) → Way → Type 0
EachOnce lists w = Permᴰ (numbers (length lists)) (turns_along w)

-- the rows, of `width` words each, of the lists that a way merges, from left to right
abbrev pub rows_merged : ℕ → List (List ℕ) → List ℕ → List (List ℕ)
rows_merged width lists is = flatten (map (λ i. records_in width (get_or lists i [])) is)
