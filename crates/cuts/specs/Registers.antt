-- What demand 3 says of registers, in their own words: those merged so far are the uncut run's up to where the last list ended, and a report on
-- them counts those. Assumes nothing: these are definitions.
use Rattle.std.specs.Prelude.{ℕ, suc, ◌≡◌, true, List, map}
use Rattle.sequences.specs.Sequences.{numbers}
use Rattle.tables.specs.Tables.{Tables}
use Rattle.plans.specs.Plans.{Plan}
use Rattle.steps.specs.Steps.{after}
use Rattle.registers.specs.Registers.{most_rank, registers_of, registers_in, kept_registers, count_at, report_on}
use Rattle.lists.specs.Rows.{bound_values}
use Rattle.cuts.specs.Histories.{Phone, steps_in}

-- the registers of the values that the variable `x` has in the rows of the uncut run's first `n` steps
abbrev pub run_registers : Tables → Plan → ℕ → ℕ → List ℕ
run_registers t q x n = registers_of (bound_values x (after t q n).delivered)

pub record RegistersSoFar (t : Tables) (q : Plan) (x : ℕ) (h : Phone) : Type 0 where
  -- those merged so far, an empty kept list being all 0, are the uncut run's up to where the last list taken ended
  pub merged : registers_in h.kept ≡ run_registers t q x (steps_in h.taken)
  -- a report takes what is kept (12), and counts those
  pub accepted : kept_registers h.kept ≡ true
  pub counts : report_on h.kept ≡ map (λ v. count_at v (run_registers t q x (steps_in h.taken))) (numbers (suc most_rank))
