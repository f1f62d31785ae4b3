-- A whole list of calls, each lent both lists as the call before left them. Refused calls count as not made. Assumes nothing: these are
-- definitions.
use Rattle.std.specs.Prelude.{ℕ, ◌+◌, ◌-◌, ◌≤◌, ◌≡◌, cond, List, [], ◌∷◌, ◌++◌, length, take, eqb}
use Rattle.std.proofs.Math.Option.{Option, none, some}
use Rattle.turns.specs.Surveys.{Survey}
use Rattle.turns.specs.declared.TurnEnding.{TurnEnding}
use Rattle.turns.specs.declared.TurnEnding.TheVariants as ending
use Rattle.queues.specs.declared.Entry.{Entry}
use Rattle.queues.specs.declared.Queued.{Queued}
use Rattle.queues.specs.declared.Queued.TheVariants.{Lists, Refused}
use Rattle.queues.specs.Lists.{LentLists, Queue}
use Rattle.queues.specs.Changing.{QueuedResult}
use Rattle.queues.specs.Joining.{Joining, join_queue_of}
use Rattle.queues.specs.ToppingUp.{top_up_of}
use Rattle.queues.specs.Serving.{Serving, ServeResult, serve_of}

pub data QueueCall : Type 0 where
  join : Joining → QueueCall
  serve : Serving → QueueCall
  top_up : ℕ → ℕ → QueueCall

-- a call, and the entries that stand behind both lists in their buffers
pub record MadeCall : Type 0 where
  pub call : QueueCall
  pub behind_line : List Entry
  pub behind_aside : List Entry

abbrev pub lent_to : Queue → MadeCall → LentLists
lent_to q m =
    record {
      line = q.line ++ m.behind_line;
      waiting = length q.line;
      aside = q.aside ++ m.behind_aside;
      resting = length q.aside;
    }

-- what a call that was not refused did: it granted an owner steps; or an owner had a turn, with its ending, its steps and the steps left
pub data Deed : Type 0 where
  grants : ℕ → ℕ → Deed
  turns : ℕ → TurnEnding → ℕ → ℕ → Deed
  nothing : Deed

-- ---- one call
abbrev pub after_queued : Queue → QueuedResult → Queued → Queue
after_queued q r (Lists n m) = record { line = take n r.buffers.line; aside = take m r.buffers.aside }
after_queued q r (Refused x) = q

abbrev pub after_service : Queue → ServeResult → TurnEnding → Queue
after_service q r ending.Done = record { line = take r.answer.waiting r.buffers.line; aside = take r.answer.resting r.buffers.aside }
after_service q r ending.Spent = record { line = take r.answer.waiting r.buffers.line; aside = take r.answer.resting r.buffers.aside }
after_service q r ending.Full = record { line = take r.answer.waiting r.buffers.line; aside = take r.answer.resting r.buffers.aside }
after_service q r (ending.Refused x) = q

abbrev pub after_call : Survey → Queue → LentLists → QueueCall → Queue
after_call v q l (join j) = after_queued q (join_queue_of v l j) (join_queue_of v l j).answer
after_call v q l (serve s) = after_service q (serve_of v l s) (serve_of v l s).answer.turned.ending
after_call v q l (top_up owner amount) = after_queued q (top_up_of l owner amount) (top_up_of l owner amount).answer

abbrev pub granted : ℕ → ℕ → Queued → Deed
granted owner amount (Lists n m) = grants owner amount
granted owner amount (Refused x) = nothing

abbrev pub took_turn : ServeResult → TurnEnding → Deed
took_turn r ending.Done = turns r.answer.owner ending.Done r.answer.turned.steps r.answer.left
took_turn r ending.Spent = turns r.answer.owner ending.Spent r.answer.turned.steps r.answer.left
took_turn r ending.Full = turns r.answer.owner ending.Full r.answer.turned.steps r.answer.left
took_turn r (ending.Refused x) = nothing

abbrev pub deed_of : Survey → LentLists → QueueCall → Deed
deed_of v l (join j) = granted j.owner j.allowance (join_queue_of v l j).answer
deed_of v l (serve s) = took_turn (serve_of v l s) (serve_of v l s).answer.turned.ending
deed_of v l (top_up owner amount) = granted owner amount (top_up_of l owner amount).answer

-- ---- a list of calls
unfoldable pub after_calls : Survey → Queue → List MadeCall → Queue
after_calls v q [] = q
after_calls v q (m ∷ ms) = after_calls v (after_call v q (lent_to q m) m.call) ms

unfoldable pub deeds : Survey → Queue → List MadeCall → List Deed
deeds v q [] = []
deeds v q (m ∷ ms) = deed_of v (lent_to q m) m.call ∷ deeds v (after_call v q (lent_to q m) m.call) ms

-- ---- fairness: turns served, and an owner's place from the front
abbrev pub turns_of : Deed → ℕ
turns_of (grants o n) = 0
turns_of (turns o e n left) = 1
turns_of nothing = 0

unfoldable pub turns_in : List Deed → ℕ
turns_in [] = 0
turns_in (d ∷ ds) = turns_of d + turns_in ds

unfoldable pub place_in_line : ℕ → List Entry → Option ℕ
place_in_line owner [] = none
place_in_line owner (e ∷ es) = cond (eqb e.owner owner) (some 0) (elim (place_in_line owner es) [ none ↦ none | some p ↦ some (p + 1) ])

-- an owner at place p of the line: until p turns are served it moves up by one with each, and the turn after them is its own
pub record Fair (v : Survey) (q : Queue) (owner p : ℕ) : Type 0 where
  pub moves_up : (ms : List MadeCall) → turns_in (deeds v q ms) ≤ p
      → place_in_line owner (after_calls v q ms).line ≡ some (p - turns_in (deeds v q ms))
  pub next_is_its : (ms : List MadeCall) → turns_in (deeds v q ms) ≡ p → (m : MadeCall) (o : ℕ) (e : TurnEnding) (n left : ℕ)
      → deed_of v (lent_to (after_calls v q ms) m) m.call ≡ turns o e n left → o ≡ owner

-- ---- accounts: what was granted to an owner, its steps, and what finishing turns' answers carried
abbrev pub for_owner : ℕ → ℕ → ℕ → ℕ
for_owner owner o n = cond (eqb o owner) n 0

abbrev pub granted_by : ℕ → Deed → ℕ
granted_by owner (grants o n) = for_owner owner o n
granted_by owner (turns o e n left) = 0
granted_by owner nothing = 0

abbrev pub stepped_by : ℕ → Deed → ℕ
stepped_by owner (grants o n) = 0
stepped_by owner (turns o e n left) = for_owner owner o n
stepped_by owner nothing = 0

abbrev pub carried_by : ℕ → Deed → ℕ
carried_by owner (grants o n) = 0
carried_by owner (turns o ending.Done n left) = for_owner owner o left
carried_by owner (turns o ending.Spent n left) = 0
carried_by owner (turns o ending.Full n left) = 0
carried_by owner (turns o (ending.Refused x) n left) = 0
carried_by owner nothing = 0

unfoldable pub summed : (Deed → ℕ) → List Deed → ℕ
summed f [] = 0
summed f (d ∷ ds) = f d + summed f ds

-- the steps left to an owner in some entries
unfoldable pub left_in : ℕ → List Entry → ℕ
left_in owner [] = 0
left_in owner (e ∷ es) = for_owner owner e.owner e.allowance + left_in owner es

abbrev pub left_to : ℕ → Queue → ℕ
left_to owner q = left_in owner q.line + left_in owner q.aside

-- an owner's steps and what is left make what was left before and the allowances granted
abbrev pub Accounts : Survey → Queue → List MadeCall → ℕ → Type 0
Accounts v q ms owner =
    left_to owner q + summed (granted_by owner) (deeds v q ms)
    ≡ summed (stepped_by owner) (deeds v q ms) + (left_to owner (after_calls v q ms) + summed (carried_by owner) (deeds v q ms))
