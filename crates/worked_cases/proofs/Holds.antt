-- Every case of the tables holds, by computation.
use mathlib.Core.Path.{refl}
use mathlib.Core.List.{flatten}
use Rattle.words.specs.Computing as words
use Rattle.tables.specs.Computing as tables
use Rattle.plans.specs.Computing as plans
use Rattle.conditions.specs.Computing as conditions
use Rattle.steps.specs.Computing as steps
use Rattle.register_hashes.specs.Computing as register-hashes
use Rattle.registers.specs.Computing as registers
use Rattle.lists.specs.Computing as lists
use Rattle.step_prunings.specs.Computing as step-prunings
use Rattle.turns.specs.Computing as turns
use Rattle.calls.specs.Calls.{result_of_call}
use Rattle.uploads.specs.Computing as uploads
use Rattle.queues.specs.Computing as queues
use Rattle.views.specs.Computing as views
use Rattle.dictionaries.specs.Strings.{same_string}
use Rattle.worked_cases.specs.Calls.{Hold, all, ◌&◌}
use Rattle.worked_cases.specs.Starred.{starred}
use Rattle.worked_cases.specs.Refusals.{of_tables, of_plans, of_turns, of_merges}
use Rattle.worked_cases.specs.Misreadings.{Told, readings}

-- one name for all that the calls' definitions are made of
unfoldable pub computing : Unit {0}
unfolding words.computing tables.computing plans.computing conditions.computing steps.computing register-hashes.computing registers.computing
    lists.computing step-prunings.computing turns.computing result_of_call uploads.computing queues.computing views.computing flatten
computing = tt

-- the starred cases of the rules (docs/RULES.md, 11), those of k = 0, of the record of no rows and of numbers below zero
pub starred_hold : Hold starred
unfolding computing
starred_hold =
    refl & refl & refl & refl & refl & refl & refl & refl & refl & refl & refl & refl & refl & refl & refl & refl & refl & refl
    & (refl & refl & refl & refl & refl & refl & refl & refl & refl & refl & refl & refl & refl & refl & refl & refl & refl & refl
    & (refl & refl & refl & refl & refl & refl & refl & refl & refl & all))

-- cases for each refusal
pub tables_hold : Hold of_tables
unfolding computing
tables_hold = refl & refl & refl & refl & refl & refl & refl & refl & refl & refl & all

pub plans_hold : Hold of_plans
unfolding computing
plans_hold =
    refl & refl & refl & refl & refl & refl & refl & refl & refl & refl & refl & refl & refl & refl & refl & refl & refl & refl & all

pub turns_hold : Hold of_turns
unfolding computing
turns_hold =
    refl & refl & refl & refl & refl & refl & refl & refl & refl & refl & refl & refl & refl & refl & refl & refl & refl & refl & refl & refl & all

pub merges_hold : Hold of_merges
unfolding computing
merges_hold =
    refl & refl & refl & refl & refl & refl & refl & refl & refl & refl & refl & refl & refl & refl & refl & refl & refl & refl & refl & all

-- the misreadings are told from the right reading
pub readings_told : Told readings
unfolding computing same_string
readings_told = (refl, (refl, (refl, (refl, (refl, (refl, (refl, (refl, (refl, (refl, (refl, (refl, tt))))))))))))
