-- The numbers of the tests that the parts of the check leave to fail. Assumes nothing: these are definitions.
use Rattle.std.specs.Prelude.{ℕ, zero, suc, cond}
use Rattle.tables.specs.Tables.{Tables, kinds_right, years_right}

-- the number of the test that rows fail by themselves, 0 where they pass: the kinds of all rows come before the year of any
abbrev pub rows_refusal : Tables → ℕ
rows_refusal t = cond (kinds_right t) (cond (years_right t) 0 23) 2

-- the number of the test that is left to fail, by how many orders are right; 0 where all are
abbrev pub refusal_after : ℕ → ℕ
refusal_after zero = 3
refusal_after (suc zero) = 4
refusal_after (suc (suc zero)) = 4
refusal_after (suc (suc (suc n))) = 0

-- the same where the rows by themselves fail a test, which comes before
abbrev pub refusal_with : ℕ → ℕ → ℕ
refusal_with zero orders = refusal_after orders
refusal_with (suc n) orders = suc n
