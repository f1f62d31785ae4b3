-- Every case of the tables of thresholds, kept lists and turns' lists holds, by computation.
use mathlib.Core.Path.{refl}
use Rattle.worked_cases.specs.Calls.{Hold}
use Rattle.worked_limits.specs.Faults.{thresholds, kept_lengths, best_faults, group_faults, totals_past, kept_buffers}
use Rattle.worked_cases.proofs.Holds.{computing}
use Rattle.worked_cases.proofs.ByOutcomes.{by_outcomes}

-- 11
pub thresholds_hold : Hold thresholds
unfolding computing
thresholds_hold = by_outcomes thresholds refl

-- 12, as kept list and as the turn's list
pub kept_lengths_hold : Hold kept_lengths
unfolding computing
kept_lengths_hold = by_outcomes kept_lengths refl

pub best_faults_hold : Hold best_faults
unfolding computing
best_faults_hold = by_outcomes best_faults refl

pub group_faults_hold : Hold group_faults
unfolding computing
group_faults_hold = by_outcomes group_faults refl

-- 13, 14
pub totals_past_hold : Hold totals_past
unfolding computing
totals_past_hold = by_outcomes totals_past refl

pub kept_room_hold : Hold kept_buffers
unfolding computing
kept_room_hold = by_outcomes kept_buffers refl
