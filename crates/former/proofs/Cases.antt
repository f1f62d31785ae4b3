-- The worked cases hold, by computation.
use Prim.Native.Nat.{ℕ, zero, suc}
use native.Mathlib.Omega.{arith}
use mathlib.Core.Path.{refl}
use mathlib.Core.List.{flatten}
use Rattle.words.specs.Computing as words
use Rattle.tables.specs.Computing as tables
use Rattle.plans.specs.Computing as plans
use Rattle.conditions.specs.Computing as conditions
use Rattle.steps.specs.Computing as steps
use Rattle.registers.specs.Computing as registers
use Rattle.lists.specs.Computing as lists
use Rattle.sequences.proofs.Elements.{all_get_d}
use Rattle.plans.specs.Plans.{plan_of, branch_at}
use Rattle.conditions.specs.Former.{former_inequality}
use Rattle.lists.specs.Former.{former_row_before, former_keys_before}
use Rattle.former.specs.Truths.{former_comparison, former_truth, FormerTerms}
use Rattle.former.specs.Runs.{former_after}
use Rattle.former.specs.Lists.{former_words, former_gathered}
use Rattle.former.specs.Cases.{wood_of_three, thick_stems, FormerLists, FormerMet, thinning_front}
use Rattle.former.specs.Cases.{thinning_rest, export_front, export_rest, TwoCallers, ElevenStems}
use Rattle.former.proofs.Runs.{is_former, passes_former}
use Rattle.former.proofs.Callers.{callers_as_before}

unfoldable computing : Unit {0}
unfolding words.computing tables.computing plans.computing conditions.computing steps.computing registers.computing lists.computing flatten
    former_inequality former_row_before former_keys_before former_comparison former_truth former_after former_words former_gathered
computing = tt

pub former_lists_hold : FormerLists
unfolding computing
former_lists_hold =
    record {
      thick = record { over = refl; before_it = refl; over_now = refl; now_it = refl };
      best = record { over = refl; before_it = refl; over_now = refl; now_it = refl };
      total = record { over = refl; before_it = refl; over_now = refl; now_it = refl };
      thick_past = record { over = refl; before_it = refl; over_now = refl; now_it = refl };
      best_past = record { over = refl; before_it = refl; over_now = refl; now_it = refl };
      total_past = record { over = refl; before_it = refl; over_now = refl; now_it = refl };
      groups_past = record { over = refl; before_it = refl; over_now = refl; now_it = refl };
    }

pub former_met : FormerMet
unfolding computing
former_met =
    record {
      met = record {
        stored = λ i. passes_former _ (all_get_d is_former (wood_of_three 0x1FFF_FFFF).rows i 0 refl refl);
        written = written;
      };
      not_met = λ was. let l = was.stored 11 refl in omega arith;
    }
  where
    written : (i : ℕ) → FormerTerms (branch_at (plan_of thick_stems) i).condition
    written zero = (λ e. absurd (omega arith), λ e. omega arith)
    written (suc i) = tt

pub two_callers : TwoCallers
unfolding computing
two_callers =
    record {
      thinning = record {
        wrote = refl;
        writes = refl;
        form = refl;
        place = refl;
        was_read = refl;
        is_read_fact = refl;
        lists = callers_as_before thinning_front 0 thinning_rest (omega arith) refl refl;
      };
      export = record {
        wrote = refl;
        writes = refl;
        form = refl;
        place = refl;
        was_read = refl;
        is_read_fact = refl;
        lists = callers_as_before export_front 0 export_rest (omega arith) refl refl;
      };
    }

pub eleven_stems_hold : ElevenStems
unfolding computing
eleven_stems_hold = record { then = refl; written_now = refl; no_number_now = refl }
