-- The list of one turn more of a query that goes on: it is taken, and the query is under way again, or it is left for its totals or its room.
use Prim.Native.Nat.{ℕ, ◌+◌, ◌≤◌}
use native.Mathlib.Omega.{arith}
use mathlib.Core.Path.{◌≡◌, refl, sym, ◌∙◌, ap, ap₂, subst, subst⁻¹}
use mathlib.Core.Bool.{Bool, true, false, cond, not}
use mathlib.Core.List.{List, [], ◌∷◌, ◌++◌}
use lib.Dec.{leb}
use lib.ListN.{length, take, drop, length-append}
use borrow.Author.Tests.{leb-true, leb-false}
use Rattle.words.specs.declared.Written.{Written}
use Rattle.words.specs.declared.Written.TheVariants as written
use Rattle.words.specs.Answers.{words_in}
use Rattle.sequences.specs.Sequences.{over}
use Rattle.tables.specs.Tables.{Tables}
use Rattle.plans.specs.Endings.{Ending, rows, top, group, registers}
use Rattle.plans.specs.Plans.{Plan, plan_of}
use Rattle.steps.specs.Steps.{after}
use Rattle.turns.specs.Surveys.{Survey}
use Rattle.turns.specs.Turns.{is_done, TurnInput, turn_of}
use Rattle.calls.specs.Words.{WordsResult}
use Rattle.merges.specs.Merging.{MergeInput, merge_of}
use Rattle.merges.proofs.Refusals as refusals
use Rattle.merges.proofs.Writes.{merge_writes}
use Rattle.cuts.specs.Histories.{merges, joins, Phone, ServedTurn, served_in, steps_in, done_in, served_of, merge_input_of, after_served, after_taking}
use Rattle.cuts.specs.Histories.{after_merge, after_merging, after_join, after_joining, happens}
use Rattle.cuts.specs.Uncut.{kept_after, run_fits, MergesLists, NotTaken, no_room}
use Rattle.cuts.specs.Accepting.{Accepted}
use Rattle.cuts.proofs.Keeping.{Kept, next, taken_to}
use Rattle.cuts.proofs.MergeRefusals as merging
use Rattle.queries.specs.declared.Keeping.{Keeping}
use Rattle.queries.specs.declared.Keeping.TheVariants.{All, Merged}
use Rattle.lists.specs.Gathering.{is_rows}
use Rattle.queries.specs.Stepping.{is_served, keeps, kept_of, join_of, left_as_is, rows_taken, taken_by}
use Rattle.queries.specs.Playing.{Turn, Turns, one_more_fact, Cause, list_left}
use Rattle.queries.proofs.UnderWay.{UnderWay}
use Rattle.queries.proofs.Taking.{is_served_lem}
use Rattle.queries.proofs.Making.{turn_made}
use Rattle.queries.proofs.Advancing as advancing
use Rattle.queries.proofs.Leaving.{GoesAhead}

-- a list that is merged is kept
merged_kept : (keep : Keeping) (e : Ending) → is_rows e ≡ false → keeps keep e ≡ true
merged_kept All e f = refl
merged_kept Merged e f = ap not f

module _ (keep : Keeping) (v : Survey) (plan : List ℕ) (a : Accepted v.tables plan) (first : Phone)
    (k : Kept v (plan_of plan) first) (before : List ℕ) where
  abbrev t : Tables
  t = v.tables

  abbrev q : Plan
  q = plan_of plan

  abbrev part : List ℕ → List ℕ
  part = kept_of keep q.ending

  -- all of a list that is kept, nothing of another
  all_kept : keeps keep q.ending ≡ true → (list : List ℕ) → part list ≡ list
  all_kept f list = rw f

  none_kept_lem : keeps keep q.ending ≡ false → (list : List ℕ) → part list ≡ []
  none_kept_lem f list = rw f

  module _ (quantum count : ℕ) (output state : List ℕ) (saved : ℕ) (kept : List ℕ) (used : ℕ)
      (g : GoesAhead keep v plan first before quantum (length output) count state saved kept used) where
    abbrev u : UnderWay keep v plan first before count state saved kept used
    u = g.under

    abbrev i : TurnInput
    i = record { survey = v; plan = plan; state = state; given = saved; quantum = quantum; threshold = []; output = output }

    -- the steps of the lists taken so far
    abbrev n : ℕ
    n = steps_in u.held.taken

    abbrev m : WordsResult
    m = taken_by keep i (turn_of i) kept used

    abbrev x : ServedTurn
    x = served_of quantum [] (turn_of i)

    abbrev turned : Phone
    turned = after_served u.held x

    -- what the list's taking comes to, by its answer
    abbrev pub TakenAs : List ℕ → Written → Type 0
    TakenAs left (written.Words words) =
        (v : UnderWay keep v plan first before (count + 1) (turn_of i).buffers.state (turn_of i).answer.saved left words)
        × (done_in (served_in v.held) ≡ is_done (turn_of i).answer.ending)
        × (steps_in v.held.taken ≡ n + x.steps)
    TakenAs left (written.Refused y) = (left ≡ kept) × Cause keep t plan quantum (length output) before n y

    module _ (served : is_served (turn_of i).answer.ending ≡ true) where
      one_waits : turned.waiting ≡ x ∷ []
      one_waits = advancing.one_waits keep v plan a first k before count state saved kept used u quantum output served

      kept_length : length kept ≡ length before
      kept_length = advancing.kept_length keep v plan a first k before count state saved kept used u

      turned_keeps : Kept v q turned
      turned_keeps = advancing.turned_keeps keep v plan a first k before count state saved kept used u quantum output served

      -- where its list ends
      ends_at : (next v q turned turned_keeps x [] one_waits).0 ≡ n + x.steps
      ends_at =
          let far = (next v q turned turned_keeps x [] one_waits).1.0.stretch.takes.as_far refl in
          omega (arith, far, taken_to v q turned turned_keeps u.unsent)

      -- the turn is one of the uncut run
      turn : Turn t plan quantum (length output) n (n + x.steps)
      turn =
          let here = advancing.given_state_lem keep v plan a first k before count state saved kept used u quantum output g.alive in
          turn_made i a n here.0 here.1 here.2 refl (is_served_lem i served)

      pub made_more : run_fits q.ending (after t q (n + x.steps)) ≡ true → Turns t plan quantum (length output) (count + 1) (n + x.steps)
      made_more fits = one_more_fact count n (n + x.steps) g.made turn fits

      -- its list is left
      left_list : keeps keep q.ending ≡ true → (y : ℕ) → NotTaken t q (n + x.steps) (length before) y
          → Cause keep t plan quantum (length output) before n y
      left_list f y c = list_left f (n + x.steps) turn y c

      -- a row query's list is joined, or left
      module _ (vs : List ℕ) (e : q.ending ≡ rows vs) where
        abbrev both : List ℕ
        both = u.held.kept ++ x.list

        joins_made : happens v plan turned joins ≡ after_taking turned x [] both
        unfolding happens
        joins_made = ap (after_joining plan turned) one_waits ∙ ap (λ d. after_join d turned x []) e

        taken_is : m ≡ rows_taken keep kept used x.list
        taken_is =
            let j : MergeInput = record { plan = plan; kept = kept; given = used; list = x.list } in
            ap₂ (λ b d. cond b (cond (is_rows d) (rows_taken keep kept used x.list) (merge_of j)) (left_as_is kept used)) served e

        -- the rows of both are the uncut run's up to the end of the turn
        run_length_lem : length both ≡ length (kept_after t q (n + x.steps))
        run_length_lem =
            ap length (advancing.now_list keep v plan a first k before count state saved kept used u quantum output served joins tt both joins_made)

        rows_fit_lem : run_fits q.ending (after t q (n + x.steps)) ≡ true
        rows_fit_lem = ap (λ d. run_fits d (after t q (n + x.steps))) e

        -- with them the query goes on
        joined_goes : (new : List ℕ) (words : ℕ) → new ≡ over (part both) kept → words ≡ length (part both) → words ≤ length kept
            → TakenAs new (written.Words words)
        joined_goes new words whole counted room =
            advancing.goes_on_fact keep v plan a first k before count state saved kept used u quantum output served joins tt both joins_made rows_fit_lem
            new words whole counted room g.alive

        module _ (f : keeps keep q.ending ≡ true) where
          both_length : used + length x.list ≡ length both
          both_length = omega (arith, length-append u.held.kept x.list, u.words, ap length (all_kept f u.held.kept))

          by_join : (b : Bool) → leb (used + length x.list) (length kept) ≡ b
              → TakenAs (join_of kept used x.list).buffers (join_of kept used x.list).answer
          by_join false l =
              let short = leb-false (used + length x.list) (length kept) l in
              rw l (
                refl,
                left_list f 14 (no_room rows_fit_lem (omega (arith, run_length_lem, both_length, kept_length, short))),
              )
          by_join true l =
              let front = advancing.kept_front keep v plan a first k before count state saved kept used u ∙ all_kept f u.held.kept in
              let all = sym (all_kept f both) in
              rw l
              (joined_goes (over (take used kept ++ x.list) kept) (used + length x.list)
              (ap (λ l. over (l ++ x.list) kept) front ∙ ap (λ l. over l kept) all) (both_length ∙ ap length all)
              (leb-true (used + length x.list) (length kept) l))

        by_leaving : keeps keep q.ending ≡ false → TakenAs kept (written.Words used)
        by_leaving f =
            let none = sym (none_kept_lem f both) in
            joined_goes kept used (ap (λ l. over l kept) none) (u.words ∙ ap length (none_kept_lem f u.held.kept ∙ none))
            (omega (arith, kept_length, u.room))

        by_keeping : (d : Keeping) → keep ≡ d → TakenAs (rows_taken d kept used x.list).buffers (rows_taken d kept used x.list).answer
        by_keeping All f = by_join (ap (λ d. keeps d q.ending) f) (leb (used + length x.list) (length kept)) refl
        by_keeping Merged f = by_leaving (ap₂ keeps f e)

        by_rows : TakenAs m.buffers m.answer
        by_rows = subst⁻¹ (λ (r : WordsResult). TakenAs r.buffers r.answer) taken_is (by_keeping keep refl)

      -- any other is merged
      module _ (others : MergesLists q.ending) (not-rows : is_rows q.ending ≡ false) where
        kept_all : (list : List ℕ) → part list ≡ list
        kept_all = all_kept (merged_kept keep q.ending not-rows)

        abbrev j : MergeInput
        j = record { plan = plan; kept = kept; given = used; list = x.list }

        kept_whole : u.held.kept ++ drop used kept ≡ kept
        kept_whole =
            ap (λ l. l ++ drop used kept) (sym (kept_all u.held.kept))
            ∙ advancing.kept_whole keep v plan a first k before count state saved kept used u

        same_input : merge_input_of plan turned (drop used kept) x ≡ j
        same_input = ap₂ (λ l g. record { plan = plan; kept = l; given = g; list = x.list }) kept_whole
            (sym (u.words ∙ ap length (kept_all u.held.kept)))

        merged_is : m ≡ merge_of j
        merged_is = ap₂ (λ b d. cond b (cond d (rows_taken keep kept used x.list) (merge_of j)) (left_as_is kept used)) served not-rows

        merges_made : (words : ℕ) → (merge_of j).answer ≡ written.Words words
            → happens v plan turned (merges (drop used kept)) ≡ after_taking turned x [] (take words (merge_of j).buffers)
        unfolding happens
        merges_made words e =
            ap (after_merging plan turned (drop used kept)) one_waits
            ∙ ap (λ d. after_merge turned x [] (merge_of d) (merge_of d).answer) same_input
            ∙ ap (after_merge turned x [] (merge_of j)) e

        not_taken_for : (y : ℕ) → (merge_of j).answer ≡ written.Refused y → NotTaken t q (n + x.steps) (length before) y
        not_taken_for y e =
            subst (λ l. NotTaken t q (n + x.steps) l y) (ap length kept_whole ∙ kept_length)
            (subst (λ m. NotTaken t q m (length (turned.kept ++ drop used kept)) y) ends_at
            (merging.merge_refused v plan a turned turned_keeps others x [] one_waits (drop used kept) y
            (ap (λ d. (merge_of d).answer) same_input ∙ e)))

        by_answer : (w : Written) → (merge_of j).answer ≡ w → TakenAs (merge_of j).buffers w
        by_answer (written.Refused y) e = (
          ((refusals.merge_refusals j).unchanged y e).buffers,
          left_list (merged_kept keep q.ending not-rows) y (not_taken_for y e),
        )
        by_answer (written.Words words) e =
            let w = merge_writes j (λ y f. let z : ◌≡◌ {A = ℕ} 0 1 = cc in omega arith) in
            let count_is : words_in (merge_of j).answer ≡ words = ap words_in e in
            let list = take words (merge_of j).buffers in
            let fits = ap (λ m. run_fits q.ending (after t q m)) (sym ends_at)
            ∙ merging.merge_fits v plan a turned turned_keeps others x [] one_waits (drop used kept) words
            (ap (λ d. (merge_of d).answer) same_input ∙ e) in
            let front : list ≡ _ = ap (λ d. take d (merge_of j).buffers) (sym count_is) ∙ w.buffer.front in
            let all = sym (kept_all list) in
            advancing.goes_on_fact keep v plan a first k before count state saved kept used u quantum output served (merges (drop used kept)) tt list
            (merges_made words e) fits (merge_of j).buffers words (w.buffer.whole ∙ ap (λ l. over l kept) (sym front ∙ all))
            (sym count_is ∙ w.buffer.counted ∙ ap length (sym front ∙ all)) (omega (arith, w.room, count_is)) g.alive

        by_others : TakenAs m.buffers m.answer
        by_others = subst⁻¹ (λ (r : WordsResult). TakenAs r.buffers r.answer) merged_is (by_answer (merge_of j).answer refl)

      by_plan : (e : Ending) → q.ending ≡ e → TakenAs m.buffers m.answer
      by_plan (rows vs) e = by_rows vs e
      by_plan (top n vs keys) e = by_others (subst⁻¹ MergesLists e tt) (ap is_rows e)
      by_plan (group vs n) e = by_others (subst⁻¹ MergesLists e tt) (ap is_rows e)
      by_plan (registers y) e = by_others (subst⁻¹ MergesLists e tt) (ap is_rows e)

      pub list_taken_lem : TakenAs m.buffers m.answer
      list_taken_lem = by_plan q.ending refl
