-- What done adds to the list of a served turn, by its ending: with no group variable a record always. And what stands in it of no rows: all registers,
-- and else nothing before done. Assumes nothing: these are definitions.
use Rattle.std.specs.Prelude.{ℕ, ◌≡◌, List, [], ◌∷◌, take, replicate}
use Rattle.plans.specs.Endings.{group, registers}
use Rattle.registers.specs.Registers.{register_count}
use Rattle.lists.specs.Groups.{of_nothing, totals_width, group_words}
use Rattle.turns.specs.declared.TurnEnding.TheVariants.{Done, Full}
use Rattle.turns.specs.Turns.{TurnInput, given_plan, turn_of}
use Rattle.turns.specs.Follows.{turn_run}

pub record Closes (i : TurnInput) : Type 0 where
  -- with no group variable the turn that is done writes the words of one record
  pub always : (m : ℕ) → (given_plan i).ending ≡ group [] m → (turn_of i).answer.ending ≡ Done → (turn_of i).answer.listed ≡ totals_width
  -- that of no rows, if it had none of its own
  pub of_nothing_fact : (m : ℕ) → (given_plan i).ending ≡ group [] m → (turn_of i).answer.ending ≡ Done → (turn_run i).delivered ≡ []
      → take (turn_of i).answer.listed (turn_of i).buffers.output ≡ group_words of_nothing
  -- with a group variable no rows are no groups
  pub no_groups : (v : ℕ) (vs : List ℕ) (m : ℕ) → (given_plan i).ending ≡ group (v ∷ vs) m → (turn_run i).delivered ≡ []
      → (turn_of i).answer.listed ≡ 0
  -- and a turn that is not done has an empty list of no rows, whatever the ending, but for registers
  pub before_done : ((v : ℕ) → ¬ ((given_plan i).ending ≡ registers v)) → ¬ ((turn_of i).answer.ending ≡ Done) → (turn_run i).delivered ≡ []
      → (turn_of i).answer.listed ≡ 0
  -- a turn's list has all 16 registers, whatever its ending and whatever rows there were
  pub all_registers : (v : ℕ) → (given_plan i).ending ≡ registers v → (turn_of i).answer.listed ≡ register_count
  -- there is always room for them: no such turn is full
  pub never_full : (v : ℕ) → (given_plan i).ending ≡ registers v → ¬ ((turn_of i).answer.ending ≡ Full)
  -- of no rows they are all 0
  pub untouched : (v : ℕ) → (given_plan i).ending ≡ registers v → (turn_run i).delivered ≡ []
      → take (turn_of i).answer.listed (turn_of i).buffers.output ≡ replicate register_count 0
