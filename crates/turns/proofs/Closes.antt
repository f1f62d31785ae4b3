-- What done adds to the list of a served turn, and what stands in it of no rows.
use Prim.Native.Nat.{ℕ}
use mathlib.Core.Path.{◌≡◌, refl, sym, ◌∙◌, ap, subst}
use mathlib.Core.Bool.{Bool, true, false}
use mathlib.Core.List.{List, [], ◌∷◌}
use native.Mathlib.Omega.{arith}
use lib.ListN.{length}
use Rattle.plans.specs.Endings.{Ending, group, registers}
use Rattle.steps.specs.Steps.{Run}
use Rattle.lists.specs.Groups.{of_nothing, group_words}
use Rattle.lists.specs.Gathering.{gathered}
use Rattle.lists.specs.Closing.{closed, list_at}
use Rattle.lists.specs.Space.{NoSpaceFor}
use Rattle.lists.proofs.OneRow.{gathered_nil}
use Rattle.lists.proofs.ClosedGroups.{length_closed}
use Rattle.lists.proofs.Closing.{groups_closed, registers_at}
use Rattle.lists.proofs.RegisterLists.{length_registers, registers_none}
use Rattle.turns.specs.declared.TurnEnding.{TurnEnding}
use Rattle.turns.specs.declared.TurnEnding.TheVariants.{Done, Spent, Full, Refused}
use Rattle.turns.specs.Turns.{is_done, is_over, TurnInput, given_plan, turn_of}
use Rattle.turns.specs.Refusals.{Served}
use Rattle.turns.specs.Follows.{given_run, turn_run, list_of}
use Rattle.turns.specs.Closes.{Closes}
use Rattle.turns.proofs.Stepping.{done_over}
use Rattle.turns.proofs.Follows.{follows, served_ending, served_run}
use Rattle.turns.proofs.Endings.{endings}

-- the closed list of nothing
closed_nil : (m : ℕ) → closed (group [] m) [] ≡ group_words of_nothing
unfolding closed
closed_nil m = refl

not_done : (e : TurnEnding) → ¬ (e ≡ Done) → is_done e ≡ false
not_done Done f = absurd (f refl)
not_done Spent f = refl
not_done Full f = refl
not_done (Refused x) f = refl

module _ (i : TurnInput) (serve : Served i) where
  abbrev rows_list : Ending → List ℕ
  rows_list e = gathered e i.threshold (turn_run i).delivered

  -- the run is over exactly where done is answered
  over_is : is_over (turn_run i).state ≡ is_done (turn_of i).answer.ending
  over_is =
      ap (λ (r : Run). is_over r.state) (served_run i serve) ∙ sym (done_over i) ∙ ap is_done (sym (served_ending i serve))

  list_when : (d : Bool) → is_done (turn_of i).answer.ending ≡ d → (e : Ending) → (given_plan i).ending ≡ e
      → list_of i (turn_run i) ≡ list_at e i.threshold d (turn_run i).delivered
  list_when d p e q =
      ap (λ b. list_at (given_plan i).ending i.threshold b (turn_run i).delivered) (over_is ∙ p)
      ∙ ap (λ x. list_at x i.threshold d (turn_run i).delivered) q

  -- no rows are an empty list, before done closes it, but for registers
  none_gathered : (e : Ending) → ((v : ℕ) → ¬ (e ≡ registers v)) → (turn_run i).delivered ≡ [] → rows_list e ≡ []
  none_gathered e h z = ap (gathered e i.threshold) z ∙ gathered_nil e h i.threshold

  no_registers : (vs : List ℕ) (m v : ℕ) → ¬ (group vs m ≡ registers v)
  no_registers vs m v e = let z : ◌≡◌ {A = ℕ} 0 1 = cc in omega arith

  -- registers are as they were gathered, at any ending
  registers_list : (v : ℕ) → (given_plan i).ending ≡ registers v → list_of i (turn_run i) ≡ rows_list (registers v)
  registers_list v q =
      list_when (is_done (turn_of i).answer.ending) refl (registers v) q
      ∙ registers_at v i.threshold (is_done (turn_of i).answer.ending) (turn_run i).delivered

  -- and so is the list at any ending, where done adds nothing
  none_keyed : (d : Bool) (v : ℕ) (vs : List ℕ) (m : ℕ) → (turn_run i).delivered ≡ []
      → list_at (group (v ∷ vs) m) i.threshold d (turn_run i).delivered ≡ []
  none_keyed true v vs m z = groups_closed v vs m (rows_list (group (v ∷ vs) m)) ∙ none_gathered (group (v ∷ vs) m) (no_registers (v ∷ vs) m) z
  none_keyed false v vs m z = none_gathered (group (v ∷ vs) m) (no_registers (v ∷ vs) m) z

  pub closes : Closes i
  closes =
      let f = (follows i serve).output in
      record {
        always = λ m q e.
            f.counted ∙ ap length (list_when true (ap is_done e) (group [] m) q) ∙ length_closed m i.threshold (turn_run i).delivered;
        of_nothing_fact = λ m q e z.
            f.front ∙ list_when true (ap is_done e) (group [] m) q ∙ ap (closed (group [] m)) (none_gathered (group [] m) (no_registers [] m) z)
            ∙ closed_nil m;
        no_groups = λ v vs m q z.
            f.counted ∙ ap length (list_when (is_done (turn_of i).answer.ending) refl (group (v ∷ vs) m) q
            ∙ none_keyed (is_done (turn_of i).answer.ending) v vs m z);
        before_done = λ h n z.
            f.counted ∙ ap length (list_when false (not_done (turn_of i).answer.ending n) (given_plan i).ending refl
            ∙ none_gathered (given_plan i).ending h z);
        all_registers = λ v q. f.counted ∙ ap length (registers_list v q) ∙ length_registers v i.threshold (turn_run i).delivered;
        never_full = λ v q e.
            let x = ((endings i serve).full.0 e).no_space in
            subst (λ d. NoSpaceFor d (length i.output) (given_run i (turn_of i).answer.steps).delivered x.row) q x.no_space;
        untouched = λ v q z. f.front ∙ registers_list v q ∙ ap (gathered (registers v) i.threshold) z ∙ registers_none v i.threshold;
      }
