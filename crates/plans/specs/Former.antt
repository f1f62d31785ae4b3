-- What a k of 0 meant before it meant ten, and what a caller writes who wants that list still. Assumes nothing: these are definitions.
use Rattle.std.specs.Prelude.{ℕ, zero, suc, cond, eqb}

-- how many rows a best-of list kept, by the k that a plan had
abbrev pub former_count : ℕ → ℕ
former_count k = cond (eqb k 0) 64 k

-- the k that is written for one: 64 for 0, any other as it was
abbrev pub written : ℕ → ℕ
written zero = 64
written (suc k) = suc k
