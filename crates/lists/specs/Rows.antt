-- Delivered rows, their order by keys, what a threshold leaves of them, and the values that a variable has in them. Assumes nothing: these are definitions.
use Rattle.std.specs.Prelude.{ℕ, suc, ◌-◌, List, [], ◌∷◌, map, Bool, cond, not, get_or, eqb}
use Rattle.words.specs.Words.{variable, low, kind, falling_kind, unbound, key_rank, last_rank}
use Rattle.words.specs.Bindings.{Bindings, value_of}
use Rattle.sequences.specs.Sequences.{keep, lex_before}

-- the row of some variables: their values, in their sequence
abbrev pub project : List ℕ → Bindings → List ℕ
project vs b = map (value_of b) vs

-- the values of one variable, without those where it has none
abbrev pub has_value : ℕ → Bool
has_value x = not (eqb x unbound)

abbrev pub bound_values : ℕ → List Bindings → List ℕ
bound_values v bs = keep has_value (map (λ b. value_of b v) bs)

-- ---- the order of rows by the keys of an ending with the variables vs
-- where the word `w` stands among others
unfoldable pub index_of : ℕ → List ℕ → ℕ
index_of w [] = 0
index_of w (x ∷ xs) = cond (eqb w x) 0 (suc (index_of w xs))

-- the rank of the term `w` by `key`: a falling key reverses the order of keys
abbrev pub rank_by : ℕ → ℕ → ℕ
rank_by key w = cond (eqb (kind key) falling_kind) (last_rank - key_rank w) (key_rank w)

-- the value that `row` has for the variable of `key`
abbrev pub key_value : List ℕ → List ℕ → ℕ → ℕ
key_value vs row key = get_or row (index_of (variable (low key)) vs) unbound

unfoldable pub row_ranks : List ℕ → List ℕ → List ℕ → List ℕ
row_ranks vs keys row = map (λ key. rank_by key (key_value vs row key)) keys

-- the row `x` comes strictly before the row `y`, by the first key that tells them apart
unfoldable pub row_before : List ℕ → List ℕ → List ℕ → List ℕ → Bool
row_before vs keys x y = lex_before (row_ranks vs keys x) (row_ranks vs keys y)

-- ---- what a threshold leaves
-- the rows strictly before a threshold row, and all where it is empty
unfoldable pub ahead : (List ℕ → List ℕ → Bool) → List ℕ → List (List ℕ) → List (List ℕ)
ahead before [] xs = xs
ahead before (w ∷ ws) xs = keep (λ x. before x (w ∷ ws)) xs
