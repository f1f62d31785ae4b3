-- Words moved up in a buffer, and words put in between. Assumes nothing: these are definitions.
use Rattle.std.specs.Prelude.{ℕ, ◌+◌, ◌-◌, List, ◌++◌, length, take, drop}

-- the words from `a` to `e` stand `w` places higher; what lies between keeps its old words
abbrev pub shifted : List ℕ → ℕ → ℕ → ℕ → List ℕ
shifted b a e w = take (a + w) b ++ (take (e - a) (drop a b) ++ drop (e + w) b)

-- the words `r` stand at `a`, before the words that were there up to `e`
abbrev pub inserted : List ℕ → ℕ → ℕ → List ℕ → List ℕ
inserted b a e r = take a b ++ (r ++ (take (e - a) (drop a b) ++ drop (e + length r) b))
