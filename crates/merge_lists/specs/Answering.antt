-- What the code of a merge starts from and answers, by what it has tested. Assumes nothing: these are definitions.
use Rattle.std.specs.Prelude.{ℕ, ◌≤◌, ◌≡◌, Bool, ◌&&◌, Result, Ok, Err, List, length}
use Rattle.std.proofs.Math.Option.{none}
use Rattle.words.specs.declared.Written.{Written}
use Rattle.words.specs.declared.Written.TheVariants.{Words, Refused}
use Rattle.words.specs.Tests.{first_failing}
use Rattle.plans.specs.Endings.{Ending, rows, top, group, registers, most_group_variables}
use Rattle.plans.specs.Plans.{plan_of, plan_tests}
use Rattle.list_group_merges.specs.declared.MergeFault.{MergeFault}
use Rattle.list_group_merges.specs.declared.MergeFault.TheVariants.{Overflow, NoRoom}
use Rattle.lists.specs.Gathering.{kept_right, list_right}
use Rattle.list_best.specs.BestLists.{TopParts}
use Rattle.calls.specs.Words.{WordsResult}
use Rattle.merges.specs.Merging.{merge_of}

-- a plan that passes tests 5, 6 and 23, with its ending
pub record AcceptedPlan (plan : List ℕ) (e : Ending) : Type 0 where
  pub passes : first_failing (plan_tests plan) ≡ none
  pub ending : (plan_of plan).ending ≡ e

-- the pieces of an ending that tests 5 and 6 have passed, as far as merging needs them
abbrev pub PiecesRight : Ending → Type 0
PiecesRight (rows vs) = Unit {0}
PiecesRight (top k vs keys) = TopParts k vs keys
PiecesRight (group vs m) = length vs ≤ most_group_variables
PiecesRight (registers v) = Unit {0}

-- test 12, of both lists
abbrev pub both_right : Ending → List ℕ → List ℕ → Bool
both_right e kept list = kept_right e kept && list_right e list

-- a result is the one defined, whatever accepted plan has the ending
abbrev pub MergedFor : Ending → List ℕ → ℕ → List ℕ → WordsResult → Type 0
MergedFor e kept given list r =
    (plan : List ℕ) → AcceptedPlan plan e → r ≡ merge_of (record { plan = plan; kept = kept; given = given; list = list })

-- the answer of a merge of groups, by the tests' numbers
abbrev pub written_of : Result ℕ MergeFault → Written
written_of (Ok n) = Words n
written_of (Err Overflow) = Refused 13
written_of (Err NoRoom) = Refused 14
