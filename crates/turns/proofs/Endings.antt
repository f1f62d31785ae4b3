-- The ending of a served turn, in the words of the rules (docs/RULES.md, 7), each in both directions: done, spent or full, and exactly one.
use Prim.Native.Nat.{ℕ, ◌<◌}
use native.Mathlib.Omega.{arith}
use mathlib.Core.Path.{◌≡◌, refl, sym, ◌∙◌, ap, subst, subst⁻¹}
use mathlib.Core.Logic.{◌↔◌}
use mathlib.Core.Option.{Option, none, some}
use mathlib.Core.List.{List, [], ◌∷◌, ◌++◌}
use lib.ListN.{length}
use Rattle.words.specs.Bindings.{Bindings}
use Rattle.words.proofs.Testing.{none_some, some_injective}
use Rattle.steps.specs.Steps.{State, Run}
use Rattle.steps.specs.Saved.{position_words, saved_words, state_in}
use Rattle.step_prunings.specs.Pruning.{pruned_step}
use Rattle.lists.specs.Gathering.{gathered}
use Rattle.lists.proofs.Room.{no_space_longer, longer_no_space}
use Rattle.turns.specs.declared.TurnEnding.{TurnEnding}
use Rattle.turns.specs.declared.TurnEnding.TheVariants.{Done, Spent, Full, Refused}
use Rattle.turns.specs.Turns.{Progress, going, stopped, ending_of, steps_of, left_of, rows_of, TurnInput, given_state, given_plan, served, turn_of}
use Rattle.turns.specs.Refusals.{Served}
use Rattle.turns.specs.Follows.{given_run, turn_run}
use Rattle.turns.specs.Endings.{NoSpace, IsDone, IsSpent, IsFull, first, second, third, Endings}
use Rattle.turns.proofs.Stepping.{GoesOn, AfterAttempts, room_for, has_room_lem, lacks_room, served_attempts}
use Rattle.turns.proofs.Follows.{follows, served_steps, served_ending, served_run, rows_fit_lem}
use Rattle.turns.proofs.Limits.{turn_limits}

-- ---- no two at once
done_spent : (i : TurnInput) → IsDone i → IsSpent i → ⊥
done_spent i d s = s.not_done d.over

done_full : (i : TurnInput) → IsDone i → IsFull i → ⊥
done_full i d f = none_some (sym d.over ∙ f.no_space.here)

spent_full : (i : TurnInput) → IsSpent i → IsFull i → ⊥
spent_full i s f = omega (arith, s.exactly, f.less)

done≢spent : ¬ (◌≡◌ {A = TurnEnding} Done Spent)
done≢spent e = let z : ◌≡◌ {A = ℕ} 0 1 = cc in omega arith

done≢full : ¬ (◌≡◌ {A = TurnEnding} Done Full)
done≢full e = let z : ◌≡◌ {A = ℕ} 0 1 = cc in omega arith

spent≢full : ¬ (◌≡◌ {A = TurnEnding} Spent Full)
spent≢full e = let z : ◌≡◌ {A = ℕ} 0 1 = cc in omega arith

neither : {A B : Type 0} → ¬ A → ¬ B → A ↔ B
neither a b = (λ x. absurd (a x), λ x. absurd (b x))

-- ---- at least one, with its answer
data EndedTurn (i : TurnInput) : Type 0 where
  done : (turn_of i).answer.ending ≡ Done → IsDone i → EndedTurn i
  spent : (turn_of i).answer.ending ≡ Spent → IsSpent i → EndedTurn i
  full : (turn_of i).answer.ending ≡ Full → IsFull i → EndedTurn i

module _ (i : TurnInput) (serve : Served i) where
  -- the list of some rows, before done
  abbrev rows_list : List Bindings → List ℕ
  rows_list bs = gathered (given_plan i).ending i.threshold bs

  ended_as : (p : Progress) → AfterAttempts i.survey.tables (given_plan i) i.threshold (room_for i) (state_in (given_state i)) i.quantum p
      → (turn_of i).answer.steps ≡ steps_of p → (turn_of i).answer.ending ≡ ending_of p
      → turn_run i ≡ record { state = left_of p; delivered = rows_of p } → EndedTurn i
  ended_as (going n u bs) h s e r =
      spent e (record { exactly = s ∙ h.how; not_done = λ z. none_some (sym z ∙ ap (λ (x : Run). x.state) r) })
  ended_as (stopped Done n o bs) h s e r =
      let z : (turn_run i).state ≡ none = ap (λ (x : Run). x.state) r ∙ h.how.0 in
      done e
      (record {
        over = z;
        within = omega (arith, h.how.1);
        no_state = (follows i serve).state.counted ∙ ap (λ o. length (saved_words i.survey.number o)) z;
      })
  ended_as (stopped Full n o bs) h s e r =
      let b = h.how.1 in
      let longer : length i.output < length (rows_list ((turn_run i).delivered ++ (b.row ∷ []))) =
      subst⁻¹ (λ (x : Run). length i.output < length (rows_list (x.delivered ++ (b.row ∷ [])))) r
      (lacks_room i (bs ++ (b.row ∷ [])) b.unfit) in
      full e
      (record {
        less = omega (arith, h.how.0);
        no_space = record {
          state = b.state;
          row = b.row;
          next = b.next;
          here = ap (λ (x : Run). x.state) r ∙ b.here;
          would_deliver = b.would_deliver;
          no_space = longer_no_space (given_plan i).ending i.threshold (length i.output) (turn_run i).delivered b.row
              (turn_limits i serve).output_room_fact (rows_fit_lem i serve) longer;
        };
      })
  ended_as (stopped Spent n o bs) h s e r = absurd h.how
  ended_as (stopped (Refused x) n o bs) h s e r = absurd h.how

  ended : EndedTurn i
  ended = ended_as (served i) (served_attempts i) (served_steps i serve) (served_ending i serve) (served_run i serve)

  -- where a step was taken the run went on, and what it delivered had space
  went_on : (n : ℕ) → GoesOn i.survey.tables (given_plan i) i.threshold (room_for i) (given_run i n)
      → (¬ ((given_run i n).state ≡ none)) × (¬ NoSpace i n)
  went_on n g = (
    λ z. none_some (sym z ∙ g.here),
    λ s. let same : s.state ≡ g.state = some_injective (sym s.here ∙ g.here) in
        let fits = g.fitting s.row s.next (ap (pruned_step i.survey.tables (given_plan i) i.threshold) (sym same) ∙ s.would_deliver) in
        let short = (has_room_lem i ((given_run i n).delivered ++ (s.row ∷ []))).0 fits in
        let long = no_space_longer (given_plan i).ending i.threshold (length i.output) (given_run i n).delivered s.row s.no_space in
        omega arith,
  )

  taken : (n : ℕ) → n < (turn_of i).answer.steps → (¬ ((given_run i n).state ≡ none)) × (¬ NoSpace i n)
  taken n l = went_on n ((served_attempts i).taken n (subst (λ m. n < m) (served_steps i serve) l))

  words_none : ((turn_of i).answer.saved ≡ 0) ↔ ((turn_run i).state ≡ none)
  unfolding position_words
  words_none = (λ z. go (turn_run i).state refl z, λ e. counted ∙ ap (λ o. length (saved_words i.survey.number o)) e)
    where
      counted : (turn_of i).answer.saved ≡ length (saved_words i.survey.number (turn_run i).state)
      counted = (follows i serve).state.counted

      go : (o : Option State) → (turn_run i).state ≡ o → (turn_of i).answer.saved ≡ 0 → (turn_run i).state ≡ none
      go none e z = e
      go (some s) e z =
          let c : (turn_of i).answer.saved ≡ length (saved_words i.survey.number (some s)) =
          counted ∙ ap (λ o. length (saved_words i.survey.number o)) e in
          absurd (omega arith)

  pub endings : Endings i
  endings = go ended
    where
      go : EndedTurn i → Endings i
      go (done e d) =
          record {
            done = (λ x. d, λ x. e);
            spent = neither (λ x. done≢spent (sym e ∙ x)) (λ s. done_spent i d s);
            full = neither (λ x. done≢full (sym e ∙ x)) (λ f. done_full i d f);
            one = first d (λ s. done_spent i d s) (λ f. done_full i d f);
            no_words = words_none;
            no_earlier = taken;
          }
      go (spent e s) =
          record {
            done = neither (λ x. done≢spent (sym x ∙ e)) (λ d. done_spent i d s);
            spent = (λ x. s, λ x. e);
            full = neither (λ x. spent≢full (sym e ∙ x)) (λ f. spent_full i s f);
            one = second (λ d. done_spent i d s) s (λ f. spent_full i s f);
            no_words = words_none;
            no_earlier = taken;
          }
      go (full e f) =
          record {
            done = neither (λ x. done≢full (sym x ∙ e)) (λ d. done_full i d f);
            spent = neither (λ x. spent≢full (sym x ∙ e)) (λ s. spent_full i s f);
            full = (λ x. f, λ x. e);
            one = third (λ d. done_full i d f) (λ s. spent_full i s f) f;
            no_words = words_none;
            no_earlier = taken;
          }
