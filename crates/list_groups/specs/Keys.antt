-- Keys as words: their order. Assumes nothing: these are definitions.
use Rattle.std.specs.Prelude.{ℕ, Bool, List, map}
use Rattle.words.specs.Words.{key_rank}
use Rattle.sequences.specs.Sequences.{lex_before}

-- the keys `x` come before the keys `y` in the order of keys, from the first key on
abbrev pub keys_first : List ℕ → List ℕ → Bool
keys_first x y = lex_before (map key_rank x) (map key_rank y)
