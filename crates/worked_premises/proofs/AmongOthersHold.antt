-- The premises of `independent` can be met with others served in between: so two owners' queries of one plan keep the same rows.
use Prim.Native.Nat.{ℕ}
use native.Mathlib.Omega.{arith}
use mathlib.Core.Path.{◌≡◌, refl, sym}
use mathlib.Core.Bool.{true, false}
use mathlib.Core.Option.{none, some}
use mathlib.Core.List.{[], ◌++◌}
use lib.ListN.{replicate}
use Rattle.words.proofs.Testing.{none_some}
use Rattle.lists.specs.Thresholds.{absent}
use Rattle.turns.specs.Opening.{Opens}
use Rattle.cuts.specs.Computing as cuts
use Rattle.cuts.specs.Premises.{Premises}
use Rattle.queues.specs.Calls.{join}
use Rattle.queue_cuts.specs.Owners.{NeverAgain, Waits, Independent, own_events, own_services, after_acts}
use Rattle.queue_cuts.proofs.Independent.{independent, joined_waits, same_list}
use Rattle.worked_cases.specs.Calls.{surveyed}
use Rattle.worked_cases.specs.Wood.{wood, plan_a, start_of_a}
use Rattle.worked_uploads.specs.Owners.{by_owner, with_room, no_one, left_over}
use Rattle.worked_premises.specs.AmongOthers.{with_seven, with_eight, acts_of_seven, acts_of_eight, events_of_seven, events_of_eight}
use Rattle.worked_premises.specs.AmongOthers.{turns_of_seven, turns_of_eight, opened_a, cut_of, both_stems}
use Rattle.worked_cases.proofs.Holds.{computing}
use Rattle.worked_premises.proofs.Opening.{opens_by}

-- ---- their turns, as cuts of their own and as the calls answered them
pub events_of_seven_lem : own_events (surveyed wood) 7 with_seven acts_of_seven ≡ events_of_seven
unfolding computing own_events
events_of_seven_lem = refl

pub events_of_eight_lem : own_events (surveyed wood) 8 with_eight acts_of_eight ≡ events_of_eight
unfolding computing own_events
events_of_eight_lem = refl

pub turns_of_seven_lem : own_services (surveyed wood) 7 with_seven acts_of_seven ≡ turns_of_seven
unfolding computing own_services
turns_of_seven_lem = refl

pub turns_of_eight_lem : own_services (surveyed wood) 8 with_eight acts_of_eight ≡ turns_of_eight
unfolding computing own_services
turns_of_eight_lem = refl

pub cut_of_seven : cut_of 7 with_seven acts_of_seven ≡ both_stems turns_of_seven
unfolding computing cuts.computing own_events
cut_of_seven = refl

pub cut_of_eight : cut_of 8 with_eight acts_of_eight ≡ both_stems turns_of_eight
unfolding computing cuts.computing own_events
cut_of_eight = refl

-- both have left, and the queue is what the eleven calls leave
pub acts_leave : after_acts (surveyed wood) with_seven acts_of_seven ≡ left_over
unfolding computing after_acts
acts_leave = refl

-- ---- the premises
a_opens : Opens (surveyed wood) plan_a (replicate 11 7)
unfolding computing
a_opens = opens_by (surveyed wood) plan_a (replicate 11 7) 4 refl

pub seven_waits : Waits 7 plan_a start_of_a with_seven
unfolding computing
seven_waits = joined_waits (surveyed wood) no_one (with_room (join (by_owner 7 4))) (by_owner 7 4) refl

pub eight_waits : Waits 8 plan_a start_of_a with_eight
unfolding computing
eight_waits = joined_waits (surveyed wood) with_seven (with_room (join (by_owner 8 100))) (by_owner 8 100) refl

-- others join and are served; 7 joins again while its entry is there, and without a plan when it has left: both are refused
pub seven_once : NeverAgain (surveyed wood) 7 with_seven acts_of_seven
unfolding computing
seven_once = (
  λ l a p e. let z : ◌≡◌ {A = ℕ} 8 7 = e in omega arith,
  (
    λ l a p e. let z : true ≡ false = l in let y : ◌≡◌ {A = ℕ} 0 1 = cc in omega arith,
    (
      λ l a p e. let z : ◌≡◌ {A = ℕ} 9 7 = e in omega arith,
      (tt, (tt, (tt, (tt, (tt, (tt, (λ l a p e. none_some (let z : none ≡ some 5 = sym p in z), tt))))))),
    ),
  ),
)

pub eight_once : NeverAgain (surveyed wood) 8 with_eight acts_of_eight
unfolding computing
eight_once = (
  λ l a p e. let z : ◌≡◌ {A = ℕ} 7 8 = e in omega arith,
  (λ l a p e. let z : ◌≡◌ {A = ℕ} 9 8 = e in omega arith, (tt, (tt, (tt, (tt, (tt, (tt, tt))))))),
)

seven_permitted : Premises (surveyed wood) plan_a opened_a ([] ++ own_events (surveyed wood) 7 with_seven acts_of_seven)
unfolding computing cuts.computing own_events
seven_permitted = (λ e. absent, (tt, (λ e. absent, (tt, tt))))

eight_permitted : Premises (surveyed wood) plan_a opened_a ([] ++ own_events (surveyed wood) 8 with_eight acts_of_eight)
unfolding computing cuts.computing own_events
eight_permitted = (λ e. absent, (tt, tt))

-- ---- so each is as the uncut run, and keeps the same rows
pub seven_apart : Independent (surveyed wood) 7 plan_a opened_a [] with_seven acts_of_seven
unfolding computing cuts.computing
seven_apart = independent (surveyed wood) plan_a (replicate 11 7) a_opens [] 7 with_seven seven_waits acts_of_seven seven_once seven_permitted

pub eight_apart : Independent (surveyed wood) 8 plan_a opened_a [] with_eight acts_of_eight
unfolding computing cuts.computing
eight_apart = independent (surveyed wood) plan_a (replicate 11 7) a_opens [] 8 with_eight eight_waits acts_of_eight eight_once eight_permitted

pub same_rows : (cut_of 7 with_seven acts_of_seven).kept ≡ (cut_of 8 with_eight acts_of_eight).kept
unfolding computing cuts.computing own_events
same_rows =
    same_list (surveyed wood) plan_a (cut_of 7 with_seven acts_of_seven) (cut_of 8 with_eight acts_of_eight) seven_apart.uncut eight_apart.uncut
    (refl, refl) (refl, refl)
