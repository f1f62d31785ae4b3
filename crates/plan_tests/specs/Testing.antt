-- What the tests of a plan answer of the words that they read. Assumes nothing: these are definitions.
use Rattle.std.specs.Prelude.{ℕ, Bool, cond, Option, None, Some}
use Rattle.std.proofs.Math.Option as maybe
use Rattle.std.proofs.Math.Option.{none, some}
use Rattle.plans.specs.Conditions.{Read}
use Rattle.plans.specs.Years.{year_allowed}
use Rattle.plans.specs.Plans.{Plan, variables_right}
use Rattle.plan_tests.specs.declared.Part.{Part}

-- a part: its words, and a test of what was read
abbrev pub part_of : {A : Type 0} → (A → Bool) → Read A → Option Part
part_of test none = None
part_of test (some x) = Some (record { words = x.1; right = test x.0 })

-- a plan: the number of the test that it fails, 0 where it fails none
abbrev pub plan_number : maybe.Option Plan → ℕ
plan_number none = 5
plan_number (some q) = cond (variables_right q) (cond (year_allowed q.years) 0 23) 6
