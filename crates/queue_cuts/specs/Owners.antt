-- One owner's query among the calls of all: its own turns as a cut of its own (demand 3). Assumes nothing: these are definitions.
use Rattle.std.specs.Prelude.{ℕ, min, ◌≡◌, true, false, cond, List, [], ◌∷◌, ◌++◌, length, take, drop}
use Rattle.std.proofs.Math.Option.{none}
use Rattle.sequences.specs.Sequences.{member}
use Rattle.words.specs.Tests.{first_failing}
use Rattle.turns.specs.Surveys.{Survey}
use Rattle.turns.specs.declared.TurnEnding.TheVariants as ending
use Rattle.plans.specs.Plans.{plan_of}
use Rattle.cuts.specs.Uncut.{AsUncut}
use Rattle.cuts.specs.Histories.{Phone, served_in, done_in, history, Event, turns, merges, joins, ServedTurn}
use Rattle.queries.specs.Stepping.{is_served}
use Rattle.queues.specs.declared.Entry.{Entry}
use Rattle.queues.specs.Lists.{LentLists, has_owner, owners_in, entry_plan, Queue}
use Rattle.queues.specs.Joining.{join_tests}
use Rattle.queues.specs.Serving.{Serving, ServeResult, entry_after, front_turn, serve_of}
use Rattle.queues.specs.Calls.{QueueCall, join, serve, top_up, MadeCall, lent_to, after_call}

-- what happens: a call on the queue, by anyone; or the owner's phone takes its earliest list, by a merge or a join
pub data Act : Type 0 where
  calls : MadeCall → Act
  merging : List ℕ → Act
  joining : Act

-- ---- the owner's turns, as the calls answered them, and as events of a cut
-- a served turn of the front entry, where that is the owner's
abbrev pub own_turn : ℕ → Serving → Entry → Event
own_turn owner s e = turns (drop e.saved e.state) (min s.quantum e.allowance) s.threshold s.output

-- as the call answered it; the words that it left are in its entry, if that goes on
abbrev pub own_service : Survey → Serving → Entry → ServeResult → ServedTurn
own_service v s e r =
    record {
      quantum = min s.quantum e.allowance;
      sent = s.threshold;
      ending = r.answer.turned.ending;
      steps = r.answer.turned.steps;
      list = take r.answer.turned.listed r.buffers.output;
      left = take r.answer.turned.saved (entry_after e (front_turn v s e)).state;
    }

abbrev pub if_own {ℓ} : {A : Type ℓ} → ℕ → List Entry → ServeResult → (Entry → A) → List A
if_own owner [] r f = []
if_own owner (e ∷ es) r f = cond (has_owner owner e) (cond (is_served r.answer.turned.ending) (f e ∷ []) []) []

abbrev pub call_events : Survey → ℕ → Queue → MadeCall → QueueCall → List Event
call_events v owner q m (join j) = []
call_events v owner q m (serve s) = if_own owner q.line (serve_of v (lent_to q m) s) (own_turn owner s)
call_events v owner q m (top_up o n) = []

abbrev pub call_services : Survey → ℕ → Queue → MadeCall → QueueCall → List ServedTurn
call_services v owner q m (join j) = []
call_services v owner q m (serve s) =
    if_own owner q.line (serve_of v (lent_to q m) s) (λ (e : Entry). own_service v s e (serve_of v (lent_to q m) s))
call_services v owner q m (top_up o n) = []

unfoldable pub own_events : Survey → ℕ → Queue → List Act → List Event
own_events v owner q [] = []
own_events v owner q (calls m ∷ acts) =
    call_events v owner q m m.call ++ own_events v owner (after_call v q (lent_to q m) m.call) acts
own_events v owner q (merging behind ∷ acts) = merges behind ∷ own_events v owner q acts
own_events v owner q (joining ∷ acts) = joins ∷ own_events v owner q acts

unfoldable pub own_services : Survey → ℕ → Queue → List Act → List ServedTurn
own_services v owner q [] = []
own_services v owner q (calls m ∷ acts) =
    call_services v owner q m m.call ++ own_services v owner (after_call v q (lent_to q m) m.call) acts
own_services v owner q (merging behind ∷ acts) = own_services v owner q acts
own_services v owner q (joining ∷ acts) = own_services v owner q acts

unfoldable pub after_acts : Survey → Queue → List Act → Queue
after_acts v q [] = q
after_acts v q (calls m ∷ acts) = after_acts v (after_call v q (lent_to q m) m.call) acts
after_acts v q (merging behind ∷ acts) = after_acts v q acts
after_acts v q (joining ∷ acts) = after_acts v q acts

-- ---- the owner's entry
-- no entry is the owner's
abbrev pub NoneOf : ℕ → List Entry → Type 0
NoneOf owner es = member owner (owners_in es) ≡ false

-- a call starts no other query of the owner's: it is no join of its own that is served when it has no entry. So the owner may make joins that
-- are refused, and any while its entry is there
abbrev pub NotAnother : Survey → ℕ → Queue → LentLists → QueueCall → Type 0
NotAnother v owner q l (join j) = NoneOf owner q.line → NoneOf owner q.aside → first_failing (join_tests v l j) ≡ none → j.owner ≡ owner → ⊥
NotAnother v owner q l (serve s) = Unit {0}
NotAnother v owner q l (top_up o n) = Unit {0}

-- one query of the owner's, from joining to leaving
abbrev pub NeverAgain : Survey → ℕ → Queue → List Act → Type 0
NeverAgain v owner q [] = Unit {0}
NeverAgain v owner q (calls m ∷ acts) =
    NotAnother v owner q (lent_to q m) m.call × NeverAgain v owner (after_call v q (lent_to q m) m.call) acts
NeverAgain v owner q (merging behind ∷ acts) = NeverAgain v owner q acts
NeverAgain v owner q (joining ∷ acts) = NeverAgain v owner q acts

-- an entry is the owner's, with that plan and those saved words
pub record HoldsQuery (owner : ℕ) (plan saved : List ℕ) (e : Entry) : Type 0 where
  pub its : e.owner ≡ owner
  pub plans : entry_plan e ≡ plan
  pub words : take e.saved e.state ≡ saved
  pub count : length saved ≡ e.saved

-- the owner's one entry waits in the line or is set aside, with that plan and those saved words; or it has left
pub data Waits (owner : ℕ) (plan saved : List ℕ) (q : Queue) : Type 0 where
  gone : NoneOf owner q.line → NoneOf owner q.aside → Waits owner plan saved q
  in_line : (before behind : List Entry) (e : Entry) → q.line ≡ before ++ (e ∷ behind) → HoldsQuery owner plan saved e
      → NoneOf owner before → NoneOf owner behind → NoneOf owner q.aside → Waits owner plan saved q
  set_aside : (before behind : List Entry) (e : Entry) → q.aside ≡ before ++ (e ∷ behind) → HoldsQuery owner plan saved e
      → NoneOf owner q.line → NoneOf owner before → NoneOf owner behind → Waits owner plan saved q

-- ---- what is promised
-- the owner's cut, of the events before it joined and its own in the queue: its turns in the queue are those that the calls answered, and
-- it is as the uncut run
pub record Independent (v : Survey) (owner : ℕ) (plan : List ℕ) (start : Phone) (before : List Event) (q : Queue) (acts : List Act) : Type 0 where
  pub turns : served_in (history v plan start (before ++ own_events v owner q acts))
      ≡ served_in (history v plan start before) ++ own_services v owner q acts
  pub uncut : AsUncut v (plan_of plan) (history v plan start (before ++ own_events v owner q acts))

-- done was answered, and every list is taken
abbrev pub Finished : Phone → Type 0
Finished h = (done_in (served_in h) ≡ true) × (h.waiting ≡ [])
