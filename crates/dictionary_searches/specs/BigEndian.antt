-- Bytes as one number, the first highest. Assumes nothing: these are definitions.
use Rattle.std.specs.Prelude.{ℕ, zero, suc, ◌+◌, ◌*◌, List, [], ◌∷◌}

-- the first n bytes of a list behind a number
unfoldable pub big_endian : ℕ → ℕ → List ℕ → ℕ
big_endian v zero bs = v
big_endian v (suc n) [] = v
big_endian v (suc n) (b ∷ bs) = big_endian (v * 256 + b) n bs
