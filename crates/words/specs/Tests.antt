-- The tests of a call as data: a list in the order in which they are made. Assumes nothing: these are definitions.
use Rattle.std.specs.Prelude.{ℕ, ◌≡◌, Bool, true, false, cond, List, [], ◌∷◌, eqb}
use Rattle.std.proofs.Math.Option.{Option, none, some}

-- a test: its number in the rules (docs/RULES.md, 10), and whether the input passes it
abbrev pub Test : Type 0
Test = ℕ × Bool

-- the number of the first test that fails, none where all pass
unfoldable pub first_failing : List Test → Option ℕ
first_failing [] = none
first_failing (x ∷ xs) = cond x.1 (first_failing xs) (some x.0)

-- that number in an answer, 0 where all pass
abbrev pub number_of : Option ℕ → ℕ
number_of none = 0
number_of (some n) = n

-- the tests of a list all pass
abbrev pub AllPass : List Test → Type 0
AllPass [] = Unit {0}
AllPass (x ∷ xs) = (x.1 ≡ true) × AllPass xs

-- the test with the number `n` fails, and those before it in the list pass
pub data FirstFails (n : ℕ) : List Test → Type 0 where
  here : {xs : List Test} → FirstFails n ((n, false) ∷ xs)
  there : {m : ℕ} {xs : List Test} → FirstFails n xs → FirstFails n ((m, true) ∷ xs)

-- the tests of a list before the one with the number `n`
abbrev pub tests_before : ℕ → List Test → List Test
tests_before n [] = []
tests_before n (x ∷ xs) = cond (eqb n x.0) [] (x ∷ tests_before n xs)
