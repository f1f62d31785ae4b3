-- A served turn takes a history that is as the uncut run on to one that is so too.
use Prim.Native.Nat.{ℕ, ◌+◌}
use native.Mathlib.Omega.{arith}
use mathlib.Core.Path.{◌≡◌, refl, sym, ◌∙◌, ap, subst, subst⁻¹}
use mathlib.Core.Bool.{Bool, true, false}
use mathlib.Core.Option.{Option, none, some}
use mathlib.Core.List.{List}
use lib.Dec.{leb}
use lib.ListN.{length}
use lib.Seq.{take-append_seam}
use Rattle.words.specs.Bindings.{Bindings}
use Rattle.sequences.specs.Sequences.{iterate}
use Rattle.sequences.proofs.Booleans.{absurd_true, and_right}
use Rattle.tables.specs.Tables.{Tables}
use Rattle.plans.specs.Endings.{Ending, rows, top, group, registers}
use Rattle.plans.specs.Plans.{Plan, plan_of}
use Rattle.steps.specs.Steps.{State, Run, after}
use Rattle.steps.specs.Saved.{saved_words, shape_right, state_in}
use Rattle.steps.proofs.AcceptedStates.{loads_back}
use Rattle.lists.specs.Gathering.{gathered, rows_fit, threshold_right}
use Rattle.lists.specs.Closing.{list_at}
use Rattle.lists.specs.Thresholds.{Sent}
use Rattle.lists.proofs.TopLists.{Fine}
use Rattle.lists.proofs.Closing.{top_at, few_fit}
use Rattle.lists.proofs.FullLists.{delivered_by, sent_fine}
use Rattle.lists.proofs.Gatherings.{some_width}
use Rattle.step_prunings.proofs.Sending.{of_groups}
use Rattle.turns.specs.Surveys.{Survey}
use Rattle.turns.specs.declared.TurnEnding.{TurnEnding}
use Rattle.turns.specs.declared.TurnEnding.TheVariants.{Done, Spent, Full, Refused}
use Rattle.turns.specs.Turns.{is_done, is_over, TurnInput, turn_of, given_state}
use Rattle.turns.specs.Refusals.{Served}
use Rattle.turns.specs.Follows.{turn_run}
use Rattle.turns.specs.OnTheRun.{TakesOn}
use Rattle.turns.proofs.Refusals.{turn_passed}
use Rattle.turns.proofs.Stepping.{room_for, progress_rows}
use Rattle.turns.proofs.AfterDone.{no_shape}
use Rattle.turns.proofs.Follows.{follows, served_run}
use Rattle.turns.proofs.Limits.{turn_limits}
use Rattle.turns.proofs.Progress.{progresses}
use Rattle.turns.proofs.Endings.{endings}
use Rattle.turns.proofs.OnTheRun.{takes_on}
use Rattle.cuts.specs.Histories.{ServedTurn, Phone, served_in, turn_input_of, served_of, after_served}
use Rattle.cuts.specs.Premises.{lists_in}
use Rattle.cuts.specs.Accepting.{Accepted}
use Rattle.cuts.proofs.Accepting.{accepted_form}
use Rattle.cuts.proofs.NoThreshold.{takes_none}
use Rattle.cuts.proofs.Chains.{TurnStretch, sent_rows, sent_lists, sent_rows_lem}
use Rattle.cuts.proofs.Keeping.{Kept, whole, serving_keeps}

module _ (v : Survey) (plan : List ℕ) (a : Accepted v.tables plan) where
  abbrev t : Tables
  t = v.tables

  abbrev q : Plan
  q = plan_of plan

  -- ---- a turn that is given the saved words of a state of the uncut run
  module _ (h : Phone) (n : ℕ) (saved : h.saved ≡ saved_words v.number (after v.tables (plan_of plan) n).state) where
    module _ (behind : List ℕ) (quantum : ℕ) (threshold output : List ℕ) where
      abbrev i : TurnInput
      i = turn_input_of v plan h behind quantum threshold output

      abbrev x : ServedTurn
      x = served_of quantum threshold (turn_of i)

      module _ (serve : Served i) where
        given : given_state i ≡ h.saved
        given = take-append_seam h.saved behind

        -- the saved words are a state's: no words are refused by 9
        running : (s : State) × ((after t q n).state ≡ some s)
        running = go (after t q n).state refl
          where
            shape : shape_right t q (given_state i) ≡ true
            shape = and_right (leb i.given (length i.state)) (shape_right t q (given_state i)) (turn_passed i 9 serve)

            go : (o : Option State) → (after t q n).state ≡ o → (s : State) × ((after t q n).state ≡ some s)
            go none e = absurd_true shape (ap (shape_right t q) (given ∙ saved ∙ ap (saved_words v.number) e) ∙ no_shape t q)
            go (some s) e = (s, e)

        -- the one that the turn was given
        at : (after t q n).state ≡ some (state_in (given_state i))
        at =
            running.1
            ∙ ap some (sym (ap state_in (given ∙ saved ∙ ap (saved_words v.number) running.1)
            ∙ loads_back t plan q a.tables a.read v.number n running.0 running.1))

        pub on : TakesOn i n
        on = takes_on i serve n at

        -- where it leaves the uncut run
        abbrev pub position : ℕ
        position = n + on.distance

        -- no more rows than attempts at a step, and no more of these than a quantum may have. Only groups have totals, and to these no threshold is sent
        totals_fit_lem : (e : Ending) → threshold_right e threshold ≡ true → rows_fit e on.rows ≡ true
        totals_fit_lem (rows vs) r = refl
        totals_fit_lem (top j vs keys) r = refl
        totals_fit_lem (registers y) r = refl
        totals_fit_lem (group vs m) r =
            let own = ap (λ (u : Run). length u.delivered) (served_run i serve) in
            let few = progress_rows t q threshold (room_for i) (state_in (given_state i)) quantum in
            few_fit (group vs m) on.rows (omega (arith, ap length (on.delivered (takes_none of_groups threshold r)), own, few, (turn_limits i serve).most))

        pub stretch : TurnStretch v q n position x
        stretch =
            record {
              takes = record {
                left = (follows i serve).state.front ∙ ap (saved_words v.number) (sym on.state);
                going = on.going;
                least = (progresses i serve).least;
                within = (progresses i serve).within;
                no_further = omega (arith, on.no_further);
                as_far = λ e. let d = on.as_far e in omega arith;
              };
              rows = on.rows;
              more = on.more;
              going = ap is_over at;
              list =
                  (follows i serve).output.front
                  ∙ on.list
                  ∙ ap (λ o. list_at q.ending threshold (is_over o) on.rows) (sym on.state);
              right = turn_passed i 11 serve;
              fits = totals_fit_lem q.ending (turn_passed i 11 serve);
            }

        -- done is answered exactly when no state is left
        ending_is : (e : TurnEnding) → (turn_of i).answer.ending ≡ e → is_done e ≡ is_over (turn_run i).state
        ending_is Done e = sym (ap is_over ((endings i serve).done.0 e).over)
        ending_is Spent e = going (turn_run i).state ((endings i serve).spent.0 e).not_done
          where
            going : (o : Option State) → ¬ (o ≡ none) → false ≡ is_over o
            going none f = absurd (f refl)
            going (some u) f = refl
        ending_is Full e = sym (ap is_over ((endings i serve).full.0 e).no_space.here)
        ending_is (Refused y) e = absurd (serve y e)

        pub done_is : is_done x.ending ≡ is_over (after t q position).state
        done_is = ending_is (turn_of i).answer.ending refl ∙ ap is_over (sym on.state)

  -- ---- it keeps what every history does, where its threshold may be sent
  module _ (h : Phone) (k : Kept v (plan_of plan) h) where
    abbrev n : ℕ
    n = k.reached

    -- a threshold that may be sent leaves out none of the best
    pub sent_leaves : (threshold : List ℕ) → Sent q.ending (lists_in (served_in h)) threshold
        → Fine q.ending (after t q n).delivered threshold
    unfolding after iterate
    sent_leaves threshold s = go q.ending refl
      where
        turns : List (List ℕ × List Bindings)
        turns = sent_rows v q 0 n (served_in h) (whole v q h k)

        all_rows_lem : (after t q n).delivered ≡ delivered_by turns
        all_rows_lem = sent_rows_lem v q 0 n (served_in h) (whole v q h k)

        same : (j : ℕ) (vs keys : List ℕ) → q.ending ≡ top j vs keys → (th : List ℕ) (done : Bool) (bs : List Bindings)
            → list_at q.ending th done bs ≡ gathered q.ending th bs
        same j vs keys e th done bs = subst⁻¹ (λ x. list_at x th done bs ≡ gathered x th bs) e (top_at j vs keys th done bs)

        -- only a best-of list takes a threshold, and done adds nothing to it
        go : (e : Ending) → q.ending ≡ e → Fine q.ending (after t q n).delivered threshold
        go (rows vs) e = subst⁻¹ (λ x. Fine x (after t q n).delivered threshold) e tt
        go (group vs m) e = subst⁻¹ (λ x. Fine x (after t q n).delivered threshold) e tt
        go (registers y) e = subst⁻¹ (λ x. Fine x (after t q n).delivered threshold) e tt
        go (top j vs keys) e =
            subst (λ bs. Fine q.ending bs threshold) (sym all_rows_lem)
            (sent_fine q.ending (some_width q.ending (accepted_form t plan a).ending) turns threshold
            (subst (λ ls. Sent q.ending ls threshold) (sym (sent_lists v q (same j vs keys e) 0 n (served_in h) (whole v q h k))) s))

    pub served_keeps : (behind : List ℕ) (quantum : ℕ) (threshold output : List ℕ) → Served (turn_input_of v plan h behind quantum threshold output)
        → Sent q.ending (lists_in (served_in h)) threshold
        → Kept v q (after_served h (served_of quantum threshold (turn_of (turn_input_of v plan h behind quantum threshold output))))
    served_keeps behind quantum threshold output serve sent =
        let saved = k.saved in
        serving_keeps v q (accepted_form t plan a).ending h k
        (position h n saved behind quantum threshold output serve)
        (served_of quantum threshold (turn_of (turn_input_of v plan h behind quantum threshold output)))
        (record { stretch = stretch h n saved behind quantum threshold output serve; fine = sent_leaves threshold sent })
        (done_is h n saved behind quantum threshold output serve)
