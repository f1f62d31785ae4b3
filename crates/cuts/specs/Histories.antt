-- A whole list of turns, merges and joins from a fresh opening, played by the definitions of the calls. Refused calls count as
-- not made. Assumes nothing: these are definitions.
use Rattle.std.specs.Prelude.{ℕ, ◌+◌, List, [], ◌∷◌, ◌++◌, Bool, false, cond, ◌||◌, length, take}
use Rattle.words.specs.declared.Written.{Written}
use Rattle.words.specs.declared.Written.TheVariants.{Words, Refused}
use Rattle.words.specs.Answers.{words_in}
use Rattle.plans.specs.Endings.{Ending}
use Rattle.plans.specs.Plans.{plan_of}
use Rattle.lists.specs.Gathering.{is_rows}
use Rattle.turns.specs.Surveys.{Survey}
use Rattle.turns.specs.declared.TurnEnding.{TurnEnding}
use Rattle.turns.specs.declared.TurnEnding.TheVariants as ending
use Rattle.turns.specs.Turns.{is_done, TurnInput, TurnResult, turn_of}
use Rattle.calls.specs.Words.{WordsResult}
use Rattle.merges.specs.Merging.{MergeInput, merge_of}

-- a turn: the words behind the saved state in its buffer, the quantum, the threshold, the output as it is lent.
-- a merge: the words behind the kept list in its buffer. a join of the earliest list to the rows taken before
pub data Event : Type 0 where
  turns : List ℕ → ℕ → List ℕ → List ℕ → Event
  merges : List ℕ → Event
  joins : Event

-- a served turn: its quantum, the threshold that it was sent, what it answered, its list, and the saved words that it left
pub record ServedTurn : Type 0 where
  pub quantum : ℕ
  pub sent : List ℕ
  pub ending : TurnEnding
  pub steps : ℕ
  pub list : List ℕ
  pub left : List ℕ

-- what the phone holds: the saved words, the served turns whose lists are taken and those whose lists are not yet, and the kept list
pub record Phone : Type 0 where
  pub saved : List ℕ
  pub taken : List ServedTurn
  pub waiting : List ServedTurn
  pub kept : List ℕ

-- all served turns, in order
abbrev pub served_in : Phone → List ServedTurn
served_in h = h.taken ++ h.waiting

-- the steps of some turns, added up; done was answered by one of them
unfoldable pub steps_in : List ServedTurn → ℕ
steps_in [] = 0
steps_in (x ∷ xs) = x.steps + steps_in xs

unfoldable pub done_in : List ServedTurn → Bool
done_in [] = false
done_in (x ∷ xs) = is_done x.ending || done_in xs

-- ---- one event
-- the turn gets the opening's survey and plan, and the saved words
abbrev pub turn_input_of : Survey → List ℕ → Phone → List ℕ → ℕ → List ℕ → List ℕ → TurnInput
turn_input_of v plan h behind quantum threshold output =
    record {
      survey = v;
      plan = plan;
      state = h.saved ++ behind;
      given = length h.saved;
      quantum = quantum;
      threshold = threshold;
      output = output;
    }

abbrev pub served_of : ℕ → List ℕ → TurnResult → ServedTurn
served_of quantum threshold r =
    record {
      quantum = quantum;
      sent = threshold;
      ending = r.answer.ending;
      steps = r.answer.steps;
      list = take r.answer.listed r.buffers.output;
      left = take r.answer.saved r.buffers.state;
    }

abbrev pub after_served : Phone → ServedTurn → Phone
after_served h x = record { saved = x.left; taken = h.taken; waiting = h.waiting ++ (x ∷ []); kept = h.kept }

abbrev pub after_turn : Phone → ServedTurn → TurnEnding → Phone
after_turn h x ending.Done = after_served h x
after_turn h x ending.Spent = after_served h x
after_turn h x ending.Full = after_served h x
after_turn h x (ending.Refused y) = h

-- the earliest list that is not taken is taken, and the kept list is now `kept`
abbrev pub after_taking : Phone → ServedTurn → List ServedTurn → List ℕ → Phone
after_taking h x rest kept =
    record { saved = h.saved; taken = h.taken ++ (x ∷ []); waiting = rest; kept = kept }

-- the merge gets that plan, the kept list and the earliest list not yet taken
abbrev pub merge_input_of : List ℕ → Phone → List ℕ → ServedTurn → MergeInput
merge_input_of plan h behind x = record { plan = plan; kept = h.kept ++ behind; given = length h.kept; list = x.list }

abbrev pub after_merge : Phone → ServedTurn → List ServedTurn → WordsResult → Written → Phone
after_merge h x rest r (Words n) = after_taking h x rest (take n r.buffers)
after_merge h x rest r (Refused n) = h

-- only the lists of a row query are joined
abbrev pub after_join : Ending → Phone → ServedTurn → List ServedTurn → Phone
after_join e h x rest = cond (is_rows e) (after_taking h x rest (h.kept ++ x.list)) h

abbrev pub after_merging : List ℕ → Phone → List ℕ → List ServedTurn → Phone
after_merging plan h behind [] = h
after_merging plan h behind (x ∷ rest) =
    after_merge h x rest (merge_of (merge_input_of plan h behind x)) (merge_of (merge_input_of plan h behind x)).answer

abbrev pub after_joining : List ℕ → Phone → List ServedTurn → Phone
after_joining plan h [] = h
after_joining plan h (x ∷ rest) = after_join (plan_of plan).ending h x rest

unfoldable pub happens : Survey → List ℕ → Phone → Event → Phone
happens v plan h (turns behind quantum threshold output) =
    after_turn h (served_of quantum threshold (turn_of (turn_input_of v plan h behind quantum threshold output)))
    (turn_of (turn_input_of v plan h behind quantum threshold output)).answer.ending
happens v plan h (merges behind) = after_merging plan h behind h.waiting
happens v plan h joins = after_joining plan h h.waiting

-- ---- a list of events
unfoldable pub history : Survey → List ℕ → Phone → List Event → Phone
history v plan h [] = h
history v plan h (e ∷ es) = history v plan (happens v plan h e) es

-- from what an opening wrote, and an empty kept list
abbrev pub fresh : WordsResult → Phone
fresh o = record { saved = take (words_in o.answer) o.buffers; taken = []; waiting = []; kept = [] }
