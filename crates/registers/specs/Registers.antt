-- Sixteen registers of some values, their merging, and a report on them. Assumes nothing: these are definitions.
use Rattle.std.specs.Prelude.{ℕ, suc, ◌+◌, max, Bool, cond, ◌&&◌, ◌||◌, List, [], ◌∷◌, map, eqb, leb, length, replicate}
use Rattle.sequences.specs.Sequences.{all, numbers}
use Rattle.register_hashes.specs.Hashes.{hash_of, picked_by, rank_in}

abbrev pub register_count : ℕ
register_count = 16

abbrev pub most_rank : ℕ
most_rank = 61

-- ---- from values to registers
-- what the value `x` gives register `i`: nothing where it picks another
unfoldable pub given_to : ℕ → ℕ → ℕ
given_to i x = cond (eqb (picked_by (hash_of x)) i) (rank_in (hash_of x)) 0

-- register `i` of some values: the greatest that one of them gives it, 0 where none picks it
unfoldable pub register_of : ℕ → List ℕ → ℕ
register_of i [] = 0
register_of i (x ∷ xs) = max (given_to i x) (register_of i xs)

unfoldable pub registers_of : List ℕ → List ℕ
registers_of xs = map (λ i. register_of i xs) (numbers register_count)

-- ---- merging
-- an empty kept list is all 0
abbrev pub registers_in : List ℕ → List ℕ
registers_in [] = replicate register_count 0
registers_in (w ∷ ws) = w ∷ ws

-- the greater of each
unfoldable pub greater_of : List ℕ → List ℕ → List ℕ
greater_of [] ys = []
greater_of (x ∷ xs) [] = []
greater_of (x ∷ xs) (y ∷ ys) = max x y ∷ greater_of xs ys

-- ---- test 12
abbrev pub is_rank : ℕ → Bool
is_rank x = leb x most_rank

-- a turn's list has all 16, and a kept list may be empty
abbrev pub are_registers : List ℕ → Bool
are_registers ws = eqb (length ws) register_count && all is_rank ws

abbrev pub kept_registers : List ℕ → Bool
kept_registers ws = eqb (length ws) 0 || are_registers ws

-- ---- a report: how many registers have each value from 0 to 61
unfoldable pub count_at : ℕ → List ℕ → ℕ
count_at v [] = 0
count_at v (x ∷ xs) = cond (eqb x v) 1 0 + count_at v xs

unfoldable pub report_on : List ℕ → List ℕ
report_on ws = map (λ v. count_at v (registers_in ws)) (numbers (suc most_rank))

unfoldable pub total : List ℕ → ℕ
total [] = 0
total (n ∷ ns) = n + total ns
