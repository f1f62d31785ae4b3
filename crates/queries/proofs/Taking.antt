-- One turn and its list: from what the calls leave to the definition of a step.
use Prim.Native.Nat.{ℕ, ◌≤◌}
use native.Mathlib.Omega.{arith}
use mathlib.Core.Path.{◌≡◌, refl, sym, ◌∙◌, ap}
use mathlib.Core.Bool.{Bool, true, false}
use mathlib.Core.List.{List}
use lib.ListN.{length, take}
use Rattle.sequences.proofs.Booleans.{absurd_true}
use Rattle.plans.specs.declared.EndingKind.{EndingKind}
use Rattle.plans.specs.declared.EndingKind.TheVariants as last
use Rattle.plans.specs.Plans.{read_plan, has_form}
use Rattle.turns.specs.declared.TurnEnding.{TurnEnding}
use Rattle.turns.specs.declared.TurnEnding.TheVariants as ending
use Rattle.turns.specs.declared.Turned.{Turned}
use Rattle.turns.specs.Turns.{TurnInput, turn_result, turn_of}
use Rattle.turns.specs.Refusals.{Served}
use Rattle.turns.proofs.Refusals as refusals
use Rattle.turns.proofs.Follows.{follows}
use Rattle.turns.proofs.OnTheRun.{keeps_lengths}
use Rattle.calls.specs.Words.{WordsResult}
use Rattle.queries.specs.declared.Step.{Step}
use Rattle.queries.specs.declared.Keeping.{Keeping}
use Rattle.queries.specs.Stepping.{is_served, left_as_is, list_taken, Stepped, stepped_as, output_list, take_turn_of}

-- ---- the kind of an ending
abbrev pub rows_kind : EndingKind → Bool
rows_kind last.Rows = true
rows_kind last.Top = false
rows_kind last.Group = false
rows_kind last.Registers = false
rows_kind last.Invalid = false

-- ---- a served turn
serves : (i : TurnInput) (e : TurnEnding) → (turn_of i).answer.ending ≡ e → is_served e ≡ true → Served i
serves i (ending.Refused y) e h = absurd_true h refl
serves i ending.Done e h = λ y f. let z : ◌≡◌ {A = ℕ} 0 1 = cc in omega arith
serves i ending.Spent e h = λ y f. let z : ◌≡◌ {A = ℕ} 0 1 = cc in omega arith
serves i ending.Full e h = λ y f. let z : ◌≡◌ {A = ℕ} 0 1 = cc in omega arith

pub is_served_lem : (i : TurnInput) → is_served (turn_of i).answer.ending ≡ true → Served i
is_served_lem i h = serves i (turn_of i).answer.ending refl h

-- its plan has the form
pub served_form : (i : TurnInput) (r : Turned) → r ≡ (turn_of i).answer → is_served r.ending ≡ true → has_form (read_plan i.plan) ≡ true
served_form i r e h =
    refusals.turn_passed i 5 (is_served_lem i (ap (λ (x : Turned). is_served x.ending) (sym e) ∙ h))

-- its list is in the output
pub served_room : (i : TurnInput) (r : Turned) (out : List ℕ) → r ≡ (turn_of i).answer → out ≡ (turn_of i).buffers.output
    → is_served r.ending ≡ true → r.listed ≤ length out
served_room i r out e f h =
    let s = is_served_lem i (ap (λ (x : Turned). is_served x.ending) (sym e) ∙ h) in
    omega (arith, (follows i s).room, (keeps_lengths i s).output, ap length f, ap (λ (x : Turned). x.listed) e)

-- the output keeps its length, served or not
output_kept : (i : TurnInput) (e : TurnEnding) → (turn_of i).answer.ending ≡ e → length (turn_of i).buffers.output ≡ length i.output
output_kept i ending.Done p = (keeps_lengths i (serves i ending.Done p refl)).output
output_kept i ending.Spent p = (keeps_lengths i (serves i ending.Spent p refl)).output
output_kept i ending.Full p = (keeps_lengths i (serves i ending.Full p refl)).output
output_kept i (ending.Refused x) p = ap length (refusals.turn_unchanged i x p).1

-- ---- a turn, and its list taken
module _ (keep : Keeping) (i : TurnInput) (kept : List ℕ) (used : ℕ) where
  module _ (r : Turned) (state out : List ℕ) (er : r ≡ (turn_of i).answer) (es : state ≡ (turn_of i).buffers.state)
      (eo : out ≡ (turn_of i).buffers.output) where
    -- the buffers are those of the turn
    as_turned : (m : WordsResult) → stepped_as (turn_result r state out) m ≡ stepped_as (turn_of i) m
    as_turned m = rw (er, es, eo)

    pub list_taken_lem : (m : WordsResult) → is_served r.ending ≡ true → m ≡ list_taken keep i.plan kept used (take r.listed out)
        → stepped_as (turn_result r state out) m ≡ take_turn_of keep i kept used
    unfolding take_turn_of
    list_taken_lem m h f =
        let g : is_served (turn_of i).answer.ending ≡ true = rw er at h in
        let l : take r.listed out ≡ output_list (turn_of i) = rw (er, eo) in
        as_turned m ∙ ap (stepped_as (turn_of i)) (f ∙ ap (list_taken keep i.plan kept used) l ∙ rw g)

    pub none_taken : is_served r.ending ≡ false
        → stepped_as (turn_result r state out) (left_as_is kept used) ≡ take_turn_of keep i kept used
    unfolding take_turn_of
    none_taken h =
        let g : is_served (turn_of i).answer.ending ≡ false = rw er at h in
        as_turned (left_as_is kept used) ∙ ap (stepped_as (turn_of i)) (rw g)

  pub same_room : length (take_turn_of keep i kept used).output ≡ length i.output
  unfolding take_turn_of
  same_room = output_kept i (turn_of i).answer.ending refl

  -- what it leaves of the turn
  module _ (s : Step) (state out left : List ℕ) (h : record { answer = s; state = state; output = out; kept = left } ≡ take_turn_of keep i kept used) where
    pub step_turned : s.turned ≡ (turn_of i).answer
    unfolding take_turn_of
    step_turned = ap (λ (x : Stepped). x.answer.turned) h

    pub step_output : out ≡ (turn_of i).buffers.output
    unfolding take_turn_of
    step_output = ap (λ (x : Stepped). x.output) h
