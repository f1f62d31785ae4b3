-- A query played to its end, or for a number of turns: what it answers and leaves is the uncut run's. Assumes nothing: these are definitions.
use Rattle.std.specs.Prelude.{ℕ, ◌+◌, ◌≤◌, ◌<◌, ◌≡◌, ◌↔◌, true, List, [], length, take, drop}
use Rattle.std.proofs.Math.Option.{none}
use Rattle.words.specs.declared.Written.TheVariants as written
use Rattle.words.specs.Answers.{words_in}
use Rattle.sequences.specs.Sequences.{over}
use Rattle.tables.specs.Tables.{Tables}
use Rattle.plans.specs.Plans.{plan_of}
use Rattle.steps.specs.Steps.{after}
use Rattle.steps.specs.Saved.{saved_words}
use Rattle.lists.specs.Gathering.{least_output}
use Rattle.lists.specs.Closing.{list_at}
use Rattle.turns.specs.Surveys.{Survey}
use Rattle.turns.specs.declared.TurnEnding.{TurnEnding}
use Rattle.turns.specs.declared.TurnEnding.TheVariants as ending
use Rattle.turns.specs.declared.Turned.{Turned}
use Rattle.turns.specs.Opening.{open_of, Opens}
use Rattle.turns.specs.Turns.{is_over, most_steps}
use Rattle.cuts.specs.Uncut.{EndsAt, kept_after, run_fits, NotTaken}
use Rattle.queries.specs.declared.Keeping.{Keeping}
use Rattle.queries.specs.declared.Played.{Played}
use Rattle.queries.specs.declared.Played.TheVariants.{Finished, Unfinished, Stopped, Refused}
use Rattle.queries.specs.Stepping.{keeps, kept_of}
use Rattle.queries.specs.Rounds.{Lent, play_of}

-- the rows, best-of list or groups of the uncut run, whose lists are taken up to `steps` steps
abbrev pub list_after : Tables → List ℕ → ℕ → List ℕ
list_after t plan steps = kept_after t (plan_of plan) steps

-- the part of that list that is to be kept
abbrev pub part_after : Keeping → Tables → List ℕ → ℕ → List ℕ
part_after keep t plan steps = kept_of keep (plan_of plan).ending (list_after t plan steps)

-- a buffer holds, over what it held `before`, what is kept: no total of the list leaves its range, and `words` words are kept
pub record Holds (keep : Keeping) (t : Tables) (plan : List ℕ) (steps : ℕ) (before now : List ℕ) (words : ℕ) : Type 0 where
  pub fits : run_fits (plan_of plan).ending (after t (plan_of plan) steps) ≡ true
  pub whole : now ≡ over (part_after keep t plan steps) before
  pub counted : words ≡ length (part_after keep t plan steps)
  pub room : words ≤ length before

-- ---- the turns
-- the list of the rows that the uncut run delivers between two numbers of steps, closed where it is over with them
abbrev pub list_between : Tables → List ℕ → ℕ → ℕ → List ℕ
list_between t plan from to =
    list_at (plan_of plan).ending [] (is_over (after t (plan_of plan) to).state)
    (drop (length (after t (plan_of plan) from).delivered) (after t (plan_of plan) to).delivered)

-- tests 7 and 8 of a turn: its output has the words that its ending needs, and its quantum is in its range
pub record InLimits (plan : List ℕ) (quantum room : ℕ) : Type 0 where
  pub output : least_output (plan_of plan).ending ≤ room
  pub least : 1 ≤ quantum
  pub most : quantum ≤ most_steps

-- how a turn between two numbers of steps of the uncut run ends. Spent: after exactly the quantum, and the run goes on. Full: after less than
-- the quantum, and the next step's row leaves the output no room. Done: the run ends there
pub data TurnEnds (t : Tables) (plan : List ℕ) (quantum room from to : ℕ) : TurnEnding → Type 0 where
  spent : to ≡ from + quantum → ¬ ((after t (plan_of plan) to).state ≡ none) → TurnEnds t plan quantum room from to ending.Spent
  full : to < from + quantum → room < length (list_between t plan from (to + 1)) → TurnEnds t plan quantum room from to ending.Full
  done : EndsAt t (plan_of plan) to → TurnEnds t plan quantum room from to ending.Done

-- a turn of the uncut run: at least one step, at most the quantum, and the output has room for their list
pub record Turn (t : Tables) (plan : List ℕ) (quantum room from to : ℕ) : Type 0 where
  pub sized : InLimits plan quantum room
  pub further : from < to
  pub within : to ≤ from + quantum
  pub fits : length (list_between t plan from to) ≤ room
  pub ending : TurnEnding
  pub ends : TurnEnds t plan quantum room from to ending

-- turns from the start, by their number and by how many steps they take the uncut run on: with each of their lists its totals are in their range
pub data Turns (t : Tables) (plan : List ℕ) (quantum room : ℕ) : ℕ → ℕ → Type 0 where
  none_made : Turns t plan quantum room 0 0
  one_more_fact : (count from to : ℕ) → Turns t plan quantum room count from → Turn t plan quantum room from to
      → run_fits (plan_of plan).ending (after t (plan_of plan) to) ≡ true → Turns t plan quantum room (count + 1) to

-- where a query stands after `count` turns: they are the uncut run's, and the saved words are, under the survey's number, its state after their steps
pub record StandsAfter (v : Survey) (plan : List ℕ) (quantum room count : ℕ) (state : List ℕ) (saved : ℕ) : Type 0 where
  pub steps : ℕ
  pub made : Turns v.tables plan quantum room count steps
  pub going : ¬ ((after v.tables (plan_of plan) steps).state ≡ none)
  pub state_words_fact : take saved state ≡ saved_words v.number (after v.tables (plan_of plan) steps).state
  pub state_count : saved ≡ length (saved_words v.number (after v.tables (plan_of plan) steps).state)

-- ---- the answers
-- finished: the uncut run ends with one of the turns allowed, and of its whole list is kept what is to be
pub record Finishes (keep : Keeping) (t : Tables) (plan : List ℕ) (quantum most room : ℕ) (before kept : List ℕ) (words : ℕ) : Type 0 where
  pub count : ℕ
  pub allowed : count ≤ most
  pub steps : ℕ
  pub made : Turns t plan quantum room count steps
  pub ends : EndsAt t (plan_of plan) steps
  pub list : Holds keep t plan steps before kept words

-- not finished: the turns allowed were made, and what is kept is of the uncut run's list up to there
pub record Pauses (keep : Keeping) (v : Survey) (plan : List ℕ) (quantum most room : ℕ) (before state kept : List ℕ) (saved words : ℕ) : Type 0 where
  pub stands : StandsAfter v plan quantum room most state saved
  pub list : Holds keep v.tables plan stands.steps before kept words

-- why a query that was opened is stopped, its lists taken up to `steps` steps. By a turn: for an output of `room` words, else for the quantum.
-- Where the list of the next turn is to be kept: for its totals, or for a kept buffer in which it has no room
pub data Cause (keep : Keeping) (t : Tables) (plan : List ℕ) (quantum room : ℕ) (before : List ℕ) (steps : ℕ) : ℕ → Type 0 where
  output_short : room < least_output (plan_of plan).ending → Cause keep t plan quantum room before steps 7
  quantum_wrong : least_output (plan_of plan).ending ≤ room → ¬ ((1 ≤ quantum) × (quantum ≤ most_steps))
      → Cause keep t plan quantum room before steps 8
  list_left : keeps keep (plan_of plan).ending ≡ true → (later : ℕ) → Turn t plan quantum room steps later
      → (x : ℕ) → NotTaken t (plan_of plan) later (length before) x → Cause keep t plan quantum room before steps x

-- stopped: what is kept is of the uncut run's list up to the lists taken. For its output or its quantum it is stopped before the first step
pub record Stops (keep : Keeping) (t : Tables) (plan : List ℕ) (quantum most room : ℕ) (before kept : List ℕ) (x : ℕ) : Type 0 where
  pub count : ℕ
  pub allowed : count < most
  pub steps : ℕ
  pub made : Turns t plan quantum room count steps
  pub cause : Cause keep t plan quantum room before steps x
  pub at_first : x ≤ 8 → steps ≡ 0
  pub words : ℕ
  pub list : Holds keep t plan steps before kept words

-- what is left of a query that was opened, which is not refused
abbrev pub Leaves : Keeping → Survey → List ℕ → ℕ → ℕ → ℕ → List ℕ → List ℕ → List ℕ → Played → Type 0
Leaves keep v plan quantum most room before state kept (Finished words) = Finishes keep v.tables plan quantum most room before kept words
Leaves keep v plan quantum most room before state kept (Unfinished saved words) = Pauses keep v plan quantum most room before state kept saved words
Leaves keep v plan quantum most room before state kept (Stopped x) = Stops keep v.tables plan quantum most room before kept x
Leaves keep v plan quantum most room before state kept (Refused x) = ⊥

-- the opening is refused by x, and every buffer is as it was
pub record OpeningRefused (v : Survey) (plan : List ℕ) (before after : Lent) (x : ℕ) : Type 0 where
  pub refused : (open_of v plan before.state).answer ≡ written.Refused x
  pub unchanged : after ≡ before

abbrev pub Plays : Keeping → Survey → List ℕ → ℕ → ℕ → Lent → Lent → Played → Type 0
Plays keep v plan quantum most before after (Finished words) =
    Opens v plan before.state × Finishes keep v.tables plan quantum most (length before.output) before.kept after.kept words
Plays keep v plan quantum most before after (Unfinished saved words) =
    Opens v plan before.state × Pauses keep v plan quantum most (length before.output) before.kept after.state after.kept saved words
Plays keep v plan quantum most before after (Stopped x) =
    Opens v plan before.state × Stops keep v.tables plan quantum most (length before.output) before.kept after.kept x
Plays keep v plan quantum most before after (Refused x) = OpeningRefused v plan before after x

-- what a play refuses, for every input: it answers refused by x exactly where its opening does, and then every buffer is as it was
pub record PlayRefusals (keep : Keeping) (v : Survey) (plan : List ℕ) (quantum most : ℕ) (lent : Lent) : Type 0 where
  pub number : (x : ℕ) → ((play_of keep v plan quantum most lent).answer ≡ Refused x) ↔ ((open_of v plan lent.state).answer ≡ written.Refused x)
  pub unchanged : (x : ℕ) → (play_of keep v plan quantum most lent).answer ≡ Refused x → (play_of keep v plan quantum most lent).held ≡ lent

-- ---- what is shown
-- a turn's number, its answer and the list in its output are those of the uncut run's turn with that number
pub record Shows (t : Tables) (plan : List ℕ) (quantum room number : ℕ) (turned : Turned) (list : List ℕ) : Type 0 where
  pub count : ℕ
  pub from : ℕ
  pub to : ℕ
  pub numbered : number ≡ count + 1
  pub earlier : Turns t plan quantum room count from
  pub turn : Turn t plan quantum room from to
  pub steps : to ≡ from + turned.steps
  pub ending : turn.ending ≡ turned.ending
  pub listed : list ≡ list_between t plan from to

-- the list that is kept, at the end of the uncut run
pub record IsWhole (keep : Keeping) (t : Tables) (plan list : List ℕ) : Type 0 where
  pub steps : ℕ
  pub ends : EndsAt t (plan_of plan) steps
  pub listed : list ≡ part_after keep t plan steps

-- ---- the start
-- the state buffer is as a served opening left it
pub record Started (v : Survey) (plan state : List ℕ) (saved : ℕ) : Type 0 where
  pub lent : List ℕ
  pub opens : Opens v plan lent
  pub left : state ≡ (open_of v plan lent).buffers
  pub counted : saved ≡ words_in (open_of v plan lent).answer
