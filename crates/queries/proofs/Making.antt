-- A served turn from a state of the uncut run, in terms of that run: how it ends, and the room that its output has for the list of its steps.
use Prim.Native.Nat.{ℕ, ◌+◌, ◌-◌, ◌≤◌, ◌<◌}
use native.Mathlib.Omega.{arith}
use native.Mathlib.Decide.{dec_lt}
use mathlib.Core.Path.{◌≡◌, refl, sym, ◌∙◌, ap, ap₂}
use mathlib.Core.Option.{none, some}
use mathlib.Core.List.{[], ◌∷◌, ◌++◌}
use lib.ListN.{length, drop}
use lib.Seq.{drop-append_seam}
use Rattle.words.specs.Bindings.{Bindings}
use Rattle.sequences.specs.Sequences.{iterate}
use Rattle.words.proofs.Testing.{none_some}
use Rattle.tables.specs.Tables.{Tables}
use Rattle.plans.specs.Plans.{Plan}
use Rattle.steps.specs.Steps.{State, delivers, step, Run, run_from, after}
use Rattle.steps.specs.Saved.{state_words, state_in}
use Rattle.steps.proofs.Runs.{from_add, after_state, after_rows_lem, done_stays, first_delivers}
use Rattle.steps.proofs.AcceptedStates.{loads_back}
use Rattle.lists.specs.Gathering.{gathered}
use Rattle.lists.specs.Closing.{list_at}
use Rattle.lists.proofs.Room.{no_space_longer}
use Rattle.lists.proofs.Closing.{at_longer}
use Rattle.turns.specs.declared.TurnEnding.{TurnEnding}
use Rattle.turns.specs.declared.TurnEnding.TheVariants.{Done, Spent, Full, Refused}
use Rattle.turns.specs.Turns.{is_over, TurnInput, given_state, given_plan, turn_of}
use Rattle.turns.specs.Refusals.{Served}
use Rattle.turns.specs.Follows.{given_run, turn_run}
use Rattle.turns.proofs.Follows.{follows}
use Rattle.turns.proofs.Progress.{progresses}
use Rattle.turns.specs.Endings.{IsFull}
use Rattle.turns.proofs.Endings.{endings}
use Rattle.turns.proofs.Unsent.{given_unsent, next_unsent}
use Rattle.cuts.specs.Uncut.{EndsAt}
use Rattle.cuts.specs.Accepting.{Accepted}
use Rattle.queries.specs.Stepping.{output_list}
use Rattle.queries.specs.Playing.{list_between, TurnEnds, spent, full, done, Turn}
use Rattle.queries.proofs.Refusing.{served_sized}

-- a step that delivers adds its row
row_more : (t : Tables) (q : Plan) (s u : State) (m : ℕ) → (run_from t q s m).state ≡ some u → (b : Bindings) (v : State) → step t q u ≡ delivers b v
    → (run_from t q s (m + 1)).delivered ≡ (run_from t q s m).delivered ++ (b ∷ [])
unfolding iterate
row_more t q s u m e b v d =
    ap (λ (r : Run). r.delivered) (from_add t q s u m 1 e)
    ∙ ap (λ (r : Run). (run_from t q s m).delivered ++ r.delivered) (first_delivers t q u 0 b v d)

module _ (i : TurnInput) (a : Accepted i.survey.tables i.plan) (n : ℕ) (s : State)
    (passes : (after i.survey.tables (given_plan i) n).state ≡ some s) (words : given_state i ≡ state_words i.survey.number s)
    (none_sent : i.threshold ≡ []) (serve : Served i) where
  abbrev t : Tables
  t = i.survey.tables

  abbrev q : Plan
  q = given_plan i

  abbrev m : ℕ
  m = (turn_of i).answer.steps

  start : state_in (given_state i) ≡ s
  start = ap state_in words ∙ loads_back t i.plan q a.tables a.read i.survey.number n s passes

  -- with no threshold its run is the uncut one from there
  run_is : (d : ℕ) → given_run i d ≡ run_from t q s d
  run_is d = given_unsent i none_sent d ∙ ap (λ u. run_from t q u d) start

  state_is : (d : ℕ) → (after t q (n + d)).state ≡ (given_run i d).state
  state_is d = after_state t q n d s passes ∙ sym (ap (λ (r : Run). r.state) (run_is d))

  rows_are : (d : ℕ) → drop (length (after t q n).delivered) (after t q (n + d)).delivered ≡ (given_run i d).delivered
  rows_are d =
      ap (drop (length (after t q n).delivered)) (after_rows_lem t q n d s passes)
      ∙ drop-append_seam (after t q n).delivered (run_from t q s d).delivered
      ∙ sym (ap (λ (r : Run). r.delivered) (run_is d))

  -- the list from there on is that of the run from the given state
  list_between_lem : (d : ℕ) → list_between t i.plan n (n + d) ≡ list_at q.ending [] (is_over (given_run i d).state) (given_run i d).delivered
  list_between_lem d = ap₂ (λ o bs. list_at q.ending [] (is_over o) bs) (state_is d) (rows_are d)

  -- and the one that the turn leaves in its output
  pub list_made : output_list (turn_of i) ≡ list_between t i.plan n (n + m)
  list_made =
      (follows i serve).output.front
      ∙ ap (λ th. list_at q.ending th (is_over (turn_run i).state) (turn_run i).delivered) none_sent
      ∙ sym (list_between_lem m)

  fits : length (list_between t i.plan n (n + m)) ≤ length i.output
  fits =
      let f = follows i serve in
      omega (arith, f.room, f.output.counted, ap length (sym f.output.front ∙ list_made))

  no_more : IsFull i → length i.output < length (list_between t i.plan n (n + m + 1))
  no_more f =
      let z = f.no_space in
      let rows = ap (λ (r : Run). r.delivered) (run_is (m + 1))
      ∙ row_more t q s z.state m (ap (λ (r : Run). r.state) (sym (run_is m)) ∙ z.here) z.row z.next
      (sym (next_unsent i none_sent z.state) ∙ z.would_deliver)
      ∙ ap (λ (r : Run). r.delivered ++ (z.row ∷ [])) (sym (run_is m)) in
      let long = no_space_longer q.ending [] (length i.output) (given_run i m).delivered z.row z.no_space in
      let far : n + m + 1 ≡ n + (m + 1) = omega arith in
      let list = ap (list_between t i.plan n) far ∙ list_between_lem (m + 1) in
      omega (
        arith,
        long,
        ap (λ l. length (gathered q.ending [] l)) rows,
        at_longer q.ending [] (is_over (given_run i (m + 1)).state) (given_run i (m + 1)).delivered,
        ap length list,
      )

  -- a run that is over with the turn was not over before
  ends_there : (turn_run i).state ≡ none → EndsAt t q (n + m)
  ends_there e = record { over = state_is m ∙ e; not_before = not_before }
    where
      not_before : (j : ℕ) → j < n + m → (after t q j).state ≡ none → ⊥
      not_before j l f =
          elim (dec_lt j n) [
            | yes g ↦ let d : n ≡ j + (n - j) = omega arith in
                none_some (sym f ∙ ap (λ (r : Run). r.state) (sym (done_stays t q j (n - j) f)) ∙ ap (λ k. (after t q k).state) (sym d) ∙ passes)
            | no g ↦ let d : j ≡ n + (j - n) = omega arith in
                ((endings i serve).no_earlier (j - n) (omega arith)).0 (sym (state_is (j - n)) ∙ ap (λ k. (after t q k).state) (sym d) ∙ f)
          ]

  by_ending_lem : (e : TurnEnding) → (turn_of i).answer.ending ≡ e → TurnEnds t i.plan i.quantum (length i.output) n (n + m) e
  by_ending_lem Done e = done (ends_there ((endings i serve).done.0 e).over)
  by_ending_lem Spent e =
      let f = (endings i serve).spent.0 e in
      spent (ap (λ d. n + d) f.exactly) (λ z. f.not_done (sym (state_is m) ∙ z))
  by_ending_lem Full e =
      let f = (endings i serve).full.0 e in
      full (omega (arith, f.less)) (no_more f)
  by_ending_lem (Refused y) e = absurd (serve y e)

  pub turn_made : Turn t i.plan i.quantum (length i.output) n (n + m)
  turn_made =
      record {
        sized = served_sized i serve;
        further = omega (arith, (progresses i serve).least);
        within = omega (arith, (progresses i serve).within);
        fits = fits;
        ending = (turn_of i).answer.ending;
        ends = by_ending_lem (turn_of i).answer.ending refl;
      }

  -- its ending is the one that it answers
  pub ending_made : turn_made.ending ≡ (turn_of i).answer.ending
  unfolding turn_made
  ending_made = refl
