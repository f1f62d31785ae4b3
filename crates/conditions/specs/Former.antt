-- The inequalities as they were before numbers had a sign. Assumes nothing: these are definitions.
use Rattle.std.specs.Prelude.{ℕ, Bool, cond, ◌||◌}
use Rattle.words.specs.Words.{number_kind, text_kind}
use Rattle.words.specs.Former.{former_rank}
use Rattle.conditions.specs.declared.Truth.{Truth}
use Rattle.conditions.specs.declared.Truth.TheVariants.{Error}
use Rattle.conditions.specs.Truth.{of_test, kinds_are}

unfoldable pub former_inequality : (ℕ → ℕ → Bool) → ℕ → ℕ → Truth
former_inequality test a b =
    cond (kinds_are number_kind number_kind a b || kinds_are text_kind text_kind a b) (of_test (test (former_rank a) (former_rank b))) Error
