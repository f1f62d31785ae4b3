-- The histories that are not tidy, by computation; and that they meet the premises of demand 3, so that it holds of them.
use Prim.Native.Nat.{ℕ}
use native.Mathlib.Omega.{arith}
use mathlib.Core.Path.{◌≡◌, refl}
use mathlib.Core.List.{[], ◌∷◌, ◌++◌}
use lib.ListN.{replicate}
use Rattle.plans.specs.Plans.{plan_of}
use Rattle.lists.specs.Thresholds.{absent, row}
use Rattle.turns.specs.Opening.{Opens}
use Rattle.cuts.specs.Computing as cuts
use Rattle.cuts.specs.Premises.{Premises}
use Rattle.cuts.specs.Uncut.{AsUncut}
use Rattle.cuts.proofs.AnyCut.{any_cut}
use Rattle.worked_cases.specs.Calls.{surveyed}
use Rattle.worked_cases.specs.Literals.{stems}
use Rattle.worked_premises.specs.Untidy.{two_smallest, every_stem, opened_for, played_from}
use Rattle.worked_premises.specs.Untidy.{turns_first, merges_then, three_wait, three_taken, by_turns, two_wait}
use Rattle.worked_premises.specs.Untidy.{joins_behind, joins_then, two_joined, all_joined}
use Rattle.worked_cases.proofs.Holds.{computing}
use Rattle.worked_premises.proofs.Opening.{opens_by}

-- ---- what the phone holds: three turns, and then their merges; turns and merges by turns; turns and joins by turns
pub three_wait_lem : played_from two_smallest (opened_for two_smallest) turns_first ≡ three_wait
unfolding computing cuts.computing
three_wait_lem = refl

pub three_taken_lem : played_from two_smallest three_wait merges_then ≡ three_taken
unfolding computing cuts.computing
three_taken_lem = refl

pub two_wait_lem : played_from two_smallest (opened_for two_smallest) by_turns ≡ two_wait
unfolding computing cuts.computing
two_wait_lem = refl

pub two_joined_lem : played_from every_stem (opened_for every_stem) joins_behind ≡ two_joined
unfolding computing cuts.computing
two_joined_lem = refl

pub all_joined_lem : played_from every_stem two_joined joins_then ≡ all_joined
unfolding computing cuts.computing
all_joined_lem = refl

-- ---- the premises
smallest_opens : Opens (surveyed stems) two_smallest (replicate 11 7)
unfolding computing
smallest_opens = opens_by (surveyed stems) two_smallest (replicate 11 7) 4 refl

every_opens : Opens (surveyed stems) every_stem (replicate 11 7)
unfolding computing
every_opens = opens_by (surveyed stems) every_stem (replicate 11 7) 4 refl

-- of a refused turn nothing is asked; the lists of the threshold wait, and are merged in another order than that of their turns
pub turns_first_permitted : Premises (surveyed stems) two_smallest (opened_for two_smallest) (turns_first ++ merges_then)
unfolding computing cuts.computing
turns_first_permitted = (
  λ e. absent,
  (
    λ e. absurd (let z : ◌≡◌ {A = ℕ} 11 0 = e in omega arith),
    (
      λ e. absurd (let z : ◌≡◌ {A = ℕ} 8 0 = e in omega arith),
      (
        λ e. absent,
        (
          λ e. absurd (let z : ◌≡◌ {A = ℕ} 7 0 = e in omega arith),
          (
            tt,
            (
              tt,
              (
                λ e. row (record { chosen = 1 ∷ 0 ∷ []; there = refl; once = refl; full = refl; last = refl }),
                (λ e. absurd (let z : ◌≡◌ {A = ℕ} 9 0 = e in omega arith), (tt, (tt, (tt, (tt, (tt, tt)))))),
              ),
            ),
          ),
        ),
      ),
    ),
  ),
)

-- of the threshold's lists one is taken, and one waits
pub by_turns_permitted : Premises (surveyed stems) two_smallest (opened_for two_smallest) by_turns
unfolding computing cuts.computing
by_turns_permitted = (
  λ e. absent,
  (
    λ e. absent,
    (
      tt,
      (
        λ e. row (record { chosen = 0 ∷ 1 ∷ []; there = refl; once = refl; full = refl; last = refl }),
        (λ e. absurd (let z : ◌≡◌ {A = ℕ} 11 0 = e in omega arith), (tt, (λ e. absent, (tt, tt)))),
      ),
    ),
  ),
)

pub joins_behind_permitted : Premises (surveyed stems) every_stem (opened_for every_stem) (joins_behind ++ joins_then)
unfolding computing cuts.computing
joins_behind_permitted = (
  λ e. absent,
  (
    λ e. absent,
    (
      tt,
      (
        tt,
        (
          λ e. absurd (let z : ◌≡◌ {A = ℕ} 11 0 = e in omega arith),
          (λ e. absent, (tt, (λ e. absent, (tt, (tt, (tt, tt)))))),
        ),
      ),
    ),
  ),
)

-- ---- so that each is as the uncut run
pub turns_first_uncut : AsUncut (surveyed stems) (plan_of two_smallest) (played_from two_smallest (opened_for two_smallest) (turns_first ++ merges_then))
turns_first_uncut = any_cut (surveyed stems) two_smallest (replicate 11 7) smallest_opens (turns_first ++ merges_then) turns_first_permitted

pub by_turns_uncut : AsUncut (surveyed stems) (plan_of two_smallest) (played_from two_smallest (opened_for two_smallest) by_turns)
by_turns_uncut = any_cut (surveyed stems) two_smallest (replicate 11 7) smallest_opens by_turns by_turns_permitted

pub joins_behind_uncut : AsUncut (surveyed stems) (plan_of every_stem) (played_from every_stem (opened_for every_stem) (joins_behind ++ joins_then))
joins_behind_uncut = any_cut (surveyed stems) every_stem (replicate 11 7) every_opens (joins_behind ++ joins_then) joins_behind_permitted
