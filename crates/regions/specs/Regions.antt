-- A region: tables, each under its own number, that are asked one plan, each by itself. Their turns may be mixed as one likes, for a turn knows
-- nothing of other tables but its threshold. Assumes nothing: these are definitions.
use Rattle.std.specs.Prelude.{ℕ, ◌≤◌, ◌≡◌, ◌⊎◌, ◌↔◌, Bool, true, false, ◌||◌, length}
use Rattle.std.proofs.Math.Option.{some}
use mathlib.Core.List.{List, [], ◌∷◌, ◌++◌, map, flatten}
use Rattle.words.specs.Bindings.{Bindings}
use Rattle.sequences.specs.Sequences.{numbers}
use Rattle.plans.specs.Endings.{Ending, rows, top, group, registers}
use Rattle.plans.specs.Plans.{Plan, plan_of}
use Rattle.steps.specs.Steps.{Run, after}
use Rattle.lists.specs.Rows.{row_before}
use Rattle.lists.specs.Gathering.{records_in, rows_fit}
use Rattle.lists.specs.Closing.{list_at}
use Rattle.lists.specs.Thresholds.{Sent}
use Rattle.turns.specs.Surveys.{Survey}
use Rattle.turns.specs.Opening.{open_of, Opens}
use Rattle.turns.specs.Turns.{is_over, turn_of, refusal_of}
use Rattle.cuts.specs.Histories.{Event, turns, merges, joins, ServedTurn, Phone, served_in, steps_in, done_in, turn_input_of, happens, history, fresh}
use Rattle.cuts.specs.Premises.{lists_in}
use Rattle.cuts.specs.Uncut.{EndsAt, Placed}
use Rattle.cuts.specs.Unsent.{BestUnsent}
use Rattle.merge_orders.specs.Apart.{Apart}
use Rattle.merge_orders.specs.Ways.{Way, turns_along, is_merge, given, EachOnce}

-- one of its tables: the survey, the state buffer that its opening was lent, and what happened since
pub record RegionPart : Type 0 where
  pub survey : Survey
  pub state : List ℕ
  pub events : List Event

-- what the phone holds of it, and its served turns
abbrev pub phone_of : List ℕ → RegionPart → Phone
phone_of plan p = history p.survey plan (fresh (open_of p.survey plan p.state)) p.events

abbrev pub turns_of_part : List ℕ → RegionPart → List ServedTurn
turns_of_part plan p = served_in (phone_of plan p)

-- the lists of all turns: in the sequence of the tables, and of each in the order of its turns
unfoldable pub region_lists : List ℕ → List RegionPart → List (List ℕ)
region_lists plan [] = []
region_lists plan (p ∷ ps) = lists_in (turns_of_part plan p) ++ region_lists plan ps

-- each opening is served
abbrev pub AllOpen : List ℕ → List RegionPart → Type 0
AllOpen plan [] = Unit {0}
AllOpen plan (p ∷ ps) = Opens p.survey plan p.state × AllOpen plan ps

-- the region is finished when each of its queries is
abbrev pub AllDone : List ℕ → List RegionPart → Type 0
AllDone plan [] = Unit {0}
AllDone plan (p ∷ ps) = (done_in (turns_of_part plan p) ≡ true) × AllDone plan ps

-- ---- thresholds
-- demand 3's premise on an event, where `others` are lists too that a full one may be merged out of: more than demand 3 permits of one query
abbrev pub AskedBeside : List (List ℕ) → Survey → List ℕ → Phone → Event → Type 0
AskedBeside others v plan h (turns behind quantum threshold output) =
    refusal_of (turn_of (turn_input_of v plan h behind quantum threshold output)).answer.ending ≡ 0
    → Sent (plan_of plan).ending (others ++ lists_in (served_in h)) threshold
AskedBeside others v plan h (merges behind) = Unit {0}
AskedBeside others v plan h joins = Unit {0}

abbrev pub PremisesBeside : List (List ℕ) → Survey → List ℕ → Phone → List Event → Type 0
PremisesBeside others v plan h [] = Unit {0}
PremisesBeside others v plan h (e ∷ es) = AskedBeside others v plan h e × PremisesBeside others v plan (happens v plan h e) es

-- of a region: a threshold may be made out of any turns of the tables that come before in the sequence, and of earlier turns of the same table. One of
-- a later table could leave out a row that comes first among equals (`later_threshold`)
abbrev pub PremisesFrom : List (List ℕ) → List ℕ → List RegionPart → Type 0
PremisesFrom others plan [] = Unit {0}
PremisesFrom others plan (p ∷ ps) =
    PremisesBeside others p.survey plan (fresh (open_of p.survey plan p.state)) p.events
    × PremisesFrom (others ++ lists_in (turns_of_part plan p)) plan ps

abbrev pub RegionPremises : List ℕ → List RegionPart → Type 0
RegionPremises plan ps = PremisesFrom [] plan ps

-- ---- what is made of the lists
-- a way that merges each list once, no merge of which is refused
abbrev pub MergedOnce : List ℕ → List (List ℕ) → Way → List ℕ → Type 0
MergedOnce plan lists w list = (is_merge w ≡ true) × EachOnce lists w × (given plan lists w ≡ some list)

-- rows are joined in sequence. Groups and registers are merged in any order and grouping, a best-of list in sequence, in any grouping, or in any order
-- too where no two rows of the lists are equal in all keys
abbrev pub Makes : Ending → List ℕ → List (List ℕ) → List ℕ → Type 0
Makes (rows vs) plan lists list = list ≡ flatten lists
Makes (top k vs keys) plan lists list =
    (w : Way) × ((is_merge w ≡ true) × (given plan lists w ≡ some list)
    × ((turns_along w ≡ numbers (length lists)) ⊎ (EachOnce lists w × Apart (row_before vs keys) (flatten (map (records_in (length vs)) lists)))))
Makes (group vs m) plan lists list = (w : Way) × MergedOnce plan lists w list
Makes (registers v) plan lists list = (w : Way) × MergedOnce plan lists w list

-- ---- how far the tables are run
-- the served turns of a part lie one behind the other on its uncut run, up to the position `n`, with no more steps than that, and as many where no
-- threshold was sent. Done was answered exactly at the run's end
pub record PartAt (plan : List ℕ) (p : RegionPart) (n : ℕ) : Type 0 where
  pub placed : Placed p.survey (plan_of plan) 0 (turns_of_part plan p) n
  pub steps : steps_in (turns_of_part plan p) ≤ n
  pub as_many : BestUnsent (plan_of plan).ending (turns_of_part plan p) → steps_in (turns_of_part plan p) ≡ n
  pub done : (done_in (turns_of_part plan p) ≡ true) ↔ EndsAt p.survey.tables (plan_of plan) n

-- a position for each
abbrev pub PartsAt : List ℕ → List RegionPart → List ℕ → Type 0
PartsAt plan [] [] = Unit {0}
PartsAt plan [] (n ∷ ns) = ⊥
PartsAt plan (p ∷ ps) [] = ⊥
PartsAt plan (p ∷ ps) (n ∷ ns) = PartAt plan p n × PartsAt plan ps ns

-- the uncut runs up to there, their rows in the sequence of the tables, and whether one of them is over
unfoldable pub runs_to : Plan → List RegionPart → List ℕ → List Run
runs_to q [] ns = []
runs_to q (p ∷ ps) [] = []
runs_to q (p ∷ ps) (n ∷ ns) = after p.survey.tables q n ∷ runs_to q ps ns

unfoldable pub rows_of_runs : List Run → List Bindings
rows_of_runs [] = []
rows_of_runs (r ∷ rs) = r.delivered ++ rows_of_runs rs

unfoldable pub some_over : List Run → Bool
some_over [] = false
some_over (r ∷ rs) = is_over r.state || some_over rs

-- after any part of a region: what is made of its lists is the list of the rows of all runs up to where they are, in the sequence of the tables,
-- closed where one of them is over, with totals that are in their range
pub record RegionCut (plan : List ℕ) (ps : List RegionPart) (list : List ℕ) : Type 0 where
  pub positions : List ℕ
  pub placed : PartsAt plan ps positions
  pub made : list ≡ list_at (plan_of plan).ending [] (some_over (runs_to (plan_of plan) ps positions)) (rows_of_runs (runs_to (plan_of plan) ps positions))
  pub fits : rows_fit (plan_of plan).ending (rows_of_runs (runs_to (plan_of plan) ps positions)) ≡ true
