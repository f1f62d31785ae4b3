-- The order of rows and of group records, and sums, as they were before numbers had a sign. Assumes nothing: these are definitions.
use Rattle.std.specs.Prelude.{ℕ, ◌+◌, ◌-◌, ◌≤◌, List, [], ◌∷◌, map, Bool, cond, eqb}
use Rattle.words.specs.Words.{term_value, kind, falling_kind, unbound, last_rank}
use Rattle.words.specs.Former.{former_key_rank, Former}
use Rattle.sequences.specs.Sequences.{lex_before}
use Rattle.lists.specs.Rows.{key_value}

abbrev pub former_rank_by : ℕ → ℕ → ℕ
former_rank_by key w = cond (eqb (kind key) falling_kind) (last_rank - former_key_rank w) (former_key_rank w)

unfoldable pub former_row_before : List ℕ → List ℕ → List ℕ → List ℕ → Bool
former_row_before vs keys x y =
    lex_before (map (λ key. former_rank_by key (key_value vs x key)) keys) (map (λ key. former_rank_by key (key_value vs y key)) keys)

-- of records, by their keys
unfoldable pub former_keys_before : List ℕ → List ℕ → Bool
former_keys_before ks ls = lex_before (map former_key_rank ks) (map former_key_rank ls)

-- the sum of some numbers was that of their 30 bits
unfoldable pub former_sum : List ℕ → ℕ
former_sum [] = 0
former_sum (x ∷ xs) = term_value x + former_sum xs

-- a word that a delivered row could have
abbrev pub Delivered : ℕ → Type 0
Delivered w = Former w × (w ≤ unbound)
