-- After done every turn is refused. Assumes nothing: these are definitions.
use Rattle.std.specs.Prelude.{ℕ, ◌≡◌}
use Rattle.words.specs.Tests.{AllPass, FirstFails, tests_before}
use Rattle.calls.specs.Calls.{NothingDone}
use Rattle.turns.specs.declared.TurnEnding.TheVariants.{Refused}
use Rattle.turns.specs.Turns.{TurnInput, turn_tests, turn_schema, turn_of}

-- a turn is refused by the first test that fails, by 9 where those before it pass, and changes nothing
pub record NoStateRefused (j : TurnInput) : Type 0 where
  pub number : ℕ
  pub refused : (turn_of j).answer.ending ≡ Refused number
  pub first : FirstFails number (turn_tests j)
  pub nine : AllPass (tests_before 9 (turn_tests j)) → number ≡ 9
  pub unchanged : NothingDone turn_schema j

-- a turn leaves no state words, and every turn that is given as many as it left is refused, whatever tables, plan, buffers, quantum and
-- threshold it gets
pub record EveryTurnRefused (i : TurnInput) : Type 0 where
  pub no_words : (turn_of i).answer.saved ≡ 0
  pub refuses : (j : TurnInput) → j.given ≡ (turn_of i).answer.saved → NoStateRefused j
