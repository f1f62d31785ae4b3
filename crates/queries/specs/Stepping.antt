-- One turn of a query, and its list taken: what a step answers and leaves. Assumes nothing: these are definitions.
use Rattle.std.specs.Prelude.{ℕ, ◌+◌, List, [], ◌++◌, Bool, true, false, cond, not, leb, length, take}
use Rattle.words.specs.declared.Written.{Written}
use Rattle.words.specs.declared.Written.TheVariants as written
use Rattle.sequences.specs.Sequences.{over}
use Rattle.plans.specs.Endings.{Ending}
use Rattle.plans.specs.Plans.{plan_of}
use Rattle.lists.specs.Gathering.{is_rows}
use Rattle.turns.specs.declared.TurnEnding.{TurnEnding}
use Rattle.turns.specs.declared.TurnEnding.TheVariants as ending
use Rattle.turns.specs.Turns.{TurnInput, TurnResult, turn_of}
use Rattle.calls.specs.Words.{WordsResult}
use Rattle.merges.specs.Merging.{merge_of}
use Rattle.queries.specs.declared.Keeping.{Keeping}
use Rattle.queries.specs.declared.Keeping.TheVariants.{All, Merged}
use Rattle.queries.specs.declared.Step.{Step}
use Rattle.queries.specs.declared.Went.{Went}
use Rattle.queries.specs.declared.Went.TheVariants.{On, Over, Stopped}

-- ---- which list is taken how
abbrev pub is_served : TurnEnding → Bool
is_served ending.Done = true
is_served ending.Spent = true
is_served ending.Full = true
is_served (ending.Refused x) = false

-- whether the lists of an ending are kept: where only merged ones are, rows are left in the output
abbrev pub keeps : Keeping → Ending → Bool
keeps All e = true
keeps Merged e = not (is_rows e)

-- what is kept of a list
abbrev pub kept_of : Keeping → Ending → List ℕ → List ℕ
kept_of keep e list = cond (keeps keep e) list []

-- ---- a list taken
-- rows joined behind the kept ones, which are the first words of their buffer: refused by 14 where it has no room
abbrev pub join_of : List ℕ → ℕ → List ℕ → WordsResult
join_of kept used list =
    cond (leb (used + length list) (length kept)) (record { answer = written.Words (used + length list); buffers = over (take used kept ++ list) kept })
    (record { answer = written.Refused 14; buffers = kept })

-- nothing is taken: the kept list is as it was
abbrev pub left_as_is : List ℕ → ℕ → WordsResult
left_as_is kept used = record { answer = written.Words used; buffers = kept }

abbrev pub rows_taken : Keeping → List ℕ → ℕ → List ℕ → WordsResult
rows_taken All kept used list = join_of kept used list
rows_taken Merged kept used list = left_as_is kept used

-- the list of a row query is joined or left, any other is merged
abbrev pub list_taken : Keeping → List ℕ → List ℕ → ℕ → List ℕ → WordsResult
list_taken keep plan kept used list =
    cond (is_rows (plan_of plan).ending) (rows_taken keep kept used list) (merge_of (record { plan = plan; kept = kept; given = used; list = list }))

-- ---- one turn and its list
-- what a step answers, and every buffer at exit
pub record Stepped : Type 0 where
  pub answer : Step
  pub state : List ℕ
  pub output : List ℕ
  pub kept : List ℕ

abbrev pub stepped_as : TurnResult → WordsResult → Stepped
stepped_as r m =
    record { answer = record { turned = r.answer; taken = m.answer }; state = r.buffers.state; output = r.buffers.output; kept = m.buffers }

-- the list that a turn leaves in its output
abbrev pub output_list : TurnResult → List ℕ
output_list r = take r.answer.listed r.buffers.output

-- of a turn that was served its list is taken, of any other nothing
abbrev pub taken_by : Keeping → TurnInput → TurnResult → List ℕ → ℕ → WordsResult
taken_by keep i r kept used = cond (is_served r.answer.ending) (list_taken keep i.plan kept used (output_list r)) (left_as_is kept used)

-- a turn, and its list taken
unfoldable pub take_turn_of : Keeping → TurnInput → List ℕ → ℕ → Stepped
take_turn_of keep i kept used = stepped_as (turn_of i) (taken_by keep i (turn_of i) kept used)

-- ---- how the query goes on
abbrev pub went_by : TurnEnding → ℕ → ℕ → Went
went_by ending.Done saved words = Over words
went_by ending.Spent saved words = On saved words
went_by ending.Full saved words = On saved words
went_by (ending.Refused x) saved words = Stopped x

-- by the turn's ending and its saved words, and by what was taken
abbrev pub went_as : TurnEnding → ℕ → Written → Went
went_as e saved (written.Words words) = went_by e saved words
went_as e saved (written.Refused x) = Stopped x

abbrev pub went_of : Step → Went
went_of s = went_as s.turned.ending s.turned.saved s.taken
