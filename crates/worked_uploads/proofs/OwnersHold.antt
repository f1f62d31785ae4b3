-- Eleven calls of three owners on the three-stem wood, and joining with a plan that names a year, by computation.
use mathlib.Core.Path.{◌≡◌, refl}
use Rattle.queues.specs.declared.Queued.TheVariants.{Lists, Refused}
use Rattle.queues.specs.Joining.{join_queue_of}
use Rattle.queues.specs.Calls.{after_calls, deeds}
use Rattle.worked_cases.specs.Wood.{wood}
use Rattle.worked_cases.specs.Calls.{surveyed}
use Rattle.worked_uploads.specs.Owners.{no_one, eleven_calls, eleven_deeds, left_over, empty_lists, joins_of_year}
use Rattle.worked_cases.proofs.Holds.{computing}

pub deeds_are : deeds (surveyed wood) no_one eleven_calls ≡ eleven_deeds
unfolding computing
deeds_are = refl

pub left_over_lem : after_calls (surveyed wood) no_one eleven_calls ≡ left_over
unfolding computing
left_over_lem = refl

-- 2026 joins with a state of 2026; a state of 2025 is refused by 9, and a plan of the year 10,000 by 23, whatever its state
pub joins_of_year_lem : (join_queue_of (surveyed wood) empty_lists (joins_of_year 2026 2026)).answer ≡ Lists 1 0
unfolding computing
joins_of_year_lem = refl

pub other_year_refused : join_queue_of (surveyed wood) empty_lists (joins_of_year 2026 2025)
    ≡ record { answer = Refused 9; buffers = record { line = empty_lists.line; aside = empty_lists.aside } }
unfolding computing
other_year_refused = refl

pub late_year_refused : join_queue_of (surveyed wood) empty_lists (joins_of_year 10000 2025)
    ≡ record { answer = Refused 23; buffers = record { line = empty_lists.line; aside = empty_lists.aside } }
unfolding computing
late_year_refused = refl
