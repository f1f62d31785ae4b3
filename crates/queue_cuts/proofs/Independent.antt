-- From joining on, an owner's query is as the uncut run, whatever the others run (demand 3).
use Prim.Native.Nat.{ℕ, ◌≤◌}
use native.Mathlib.Omega.{arith}
use mathlib.Core.Path.{◌≡◌, refl, sym, ◌∙◌, ap, subst}
use mathlib.Core.Bool.{Bool, true, false}
use mathlib.Core.Option.{none}
use mathlib.Core.List.{List, [], ◌∷◌, ◌++◌}
use lib.ListN.{length, length-append}
use lib.Seq.{take-append_seam}
use lib.Dec.{eqb}
use borrow.Author.Tests.{le-leb}
use Rattle.words.specs.Tests.{first_failing}
use Rattle.plans.specs.Plans.{plan_of}
use Rattle.steps.specs.Steps.{after}
use Rattle.turns.specs.Surveys.{Survey}
use Rattle.turns.specs.Opening.{open_of, Opens}
use Rattle.cuts.specs.Histories.{Event, Phone, served_in, happens, history, fresh}
use Rattle.cuts.specs.Premises.{Premises}
use Rattle.cuts.specs.Uncut.{AsUncut, run_list}
use Rattle.cuts.proofs.AnyCut.{any_cut}
use Rattle.queues.specs.declared.Entry.{Entry}
use Rattle.queues.specs.Lists.{entry_plan_room, filled, LentLists, Queue}
use Rattle.queues.specs.Joining.{Joining, new_entry, join_tests}
use Rattle.queues.specs.Calls.{join, MadeCall, lent_to, after_call}
use Rattle.queries.proofs.Fixed.{ends_once_lem}
use Rattle.queue_cuts.specs.Owners.{Act, own_events}
use Rattle.queue_cuts.specs.Owners.{NeverAgain, NoneOf, HoldsQuery, Waits, in_line, set_aside}
use Rattle.queues.proofs.Moving.{join_leaves, joined_to, with_entry}
use Rattle.queue_cuts.proofs.FrontTurns.{none_of_no_one}
use Rattle.queue_cuts.proofs.Arrivals.{comes_new}
use Rattle.queue_cuts.proofs.InStep.{in_step}
use Rattle.queue_cuts.specs.Owners.{Independent, Finished}

-- ---- from joining on
-- a joined entry holds its plan and its state
pub entry_holds : (j : Joining) → HoldsQuery j.owner j.plan j.state (new_entry j)
entry_holds j =
    record {
      its = refl;
      plans = rw (le-leb (length j.plan) _ fits) (take-append_seam j.plan _);
      words = take-append_seam j.state _;
      count = refl;
    }
  where
    fits : length j.plan ≤ length (filled entry_plan_room j.plan)
    fits = simp length-append (omega arith)

history_both : (v : Survey) (plan : List ℕ) (es fs : List Event) (h : Phone)
    → history v plan h (es ++ fs) ≡ history v plan (history v plan h es) fs
unfolding history
history_both v plan [] fs h = refl
history_both v plan (e ∷ es) fs h = history_both v plan es fs (happens v plan h e)

-- whatever the query went through before its entry came to wait, turns and takings
pub independent : (v : Survey) (plan state : List ℕ) → Opens v plan state → (before : List Event) (owner : ℕ) (q : Queue)
    → Waits owner plan (history v plan (fresh (open_of v plan state)) before).saved q → (acts : List Act) → NeverAgain v owner q acts
    → Premises v plan (fresh (open_of v plan state)) (before ++ own_events v owner q acts)
    → Independent v owner plan (fresh (open_of v plan state)) before q acts
independent v plan state o before owner q w acts never p =
    let start = fresh (open_of v plan state) in
    record {
      turns = ap served_in (history_both v plan before (own_events v owner q acts) start)
          ∙ (in_step v owner plan acts q (history v plan start before) w never).served;
      uncut = any_cut v plan state o (before ++ own_events v owner q acts) p;
    }

-- two finished cuts of one plan keep the same list
pub same_list : (v : Survey) (plan : List ℕ) (h k : Phone) → AsUncut v (plan_of plan) h → AsUncut v (plan_of plan) k → Finished h → Finished k
    → h.kept ≡ k.kept
same_list v plan h k a b f g =
    let x = a.finished f.0 f.1 in let y = b.finished g.0 g.1 in
    x.1 ∙ ap (λ (n : ℕ). run_list (plan_of plan).ending (after v.tables (plan_of plan) n))
    (ends_once_lem v.tables (plan_of plan) a.upto b.upto x.0 y.0) ∙ sym y.1

-- ---- a served join
pub joined_waits : (v : Survey) (q : Queue) (m : MadeCall) (j : Joining) → first_failing (join_tests v (lent_to q m) j) ≡ none
    → Waits j.owner j.plan j.state (after_call v q (lent_to q m) (join j))
joined_waits v q m j passed =
    subst (Waits j.owner j.plan j.state) (sym (join_leaves v q m j ∙ ap (joined_to v q m j) passed)) (by_steps (eqb j.allowance 0))
  where
    l : LentLists
    l = lent_to q m

    d : Entry
    d = new_entry j

    line_free : NoneOf j.owner q.line
    line_free = (comes_new v q m j passed).0

    aside_free : NoneOf j.owner q.aside
    aside_free = (comes_new v q m j passed).1

    by_steps : (b : Bool) → Waits j.owner j.plan j.state (with_entry v q m j b)
    by_steps true =
        set_aside q.aside [] d refl (entry_holds j) line_free aside_free (none_of_no_one j.owner)
    by_steps false =
        in_line q.line [] d refl (entry_holds j) line_free (none_of_no_one j.owner) aside_free
