-- Places in a list of words. Assumes nothing: these are definitions.
use Rattle.std.specs.Prelude.{ℕ, List, ltb, length, get_or}
use Rattle.sequences.specs.Sequences.{count_below}

-- how many words are less: in an ascending list, the first place whose word is not
unfoldable pub first_from : List ℕ → ℕ → ℕ
first_from xs w = count_below (λ i. ltb (get_or xs i 0) w) (length xs)
