-- A turn that goes on a query is refused for its output or its quantum alone, and before the first step.
use Prim.Native.Nat.{ℕ, ◌≤◌}
use native.Mathlib.Omega.{arith}
use mathlib.Core.Path.{◌≡◌, refl, sym, ◌∙◌, ap, subst}
use mathlib.Core.Logic.{◌⊎◌, inl, inr}
use mathlib.Core.Bool.{Bool, true, false, cond, ◌&&◌}
use mathlib.Core.Option.{none, some}
use mathlib.Core.List.{List, [], ◌++◌}
use lib.Dec.{leb}
use lib.ListN.{length}
use borrow.Author.Tests.{leb-true, leb-false, le-leb}
use Rattle.words.specs.Tests.{first_failing}
use Rattle.sequences.proofs.Booleans.{absurd_true, and_right, and_both}
use Rattle.words.proofs.Testing.{none_some, some_injective, fails_first, all_passes, first_append, or_else}
use Rattle.tables.specs.Tables.{Tables, table_tests}
use Rattle.plans.specs.Endings.{Ending}
use Rattle.plans.specs.Plans.{has_form, plan_tests}
use Rattle.steps.specs.Saved.{least_state_words, shape_right, survey_right, places_right}
use Rattle.lists.specs.Gathering.{least_output, threshold_right}
use Rattle.turns.specs.declared.TurnEnding.TheVariants.{Refused}
use Rattle.turns.specs.Turns.{TurnInput, given_state, given_plan, own_tests, turn_tests, most_steps, turn_of}
use Rattle.turns.specs.Refusals.{Served}
use Rattle.turns.proofs.Refusals.{turn_refusals}
use Rattle.turns.proofs.Limits.{turn_limits}
use Rattle.cuts.specs.Uncut.{totals_pass, no_room}
use Rattle.cuts.specs.Accepting.{Accepted, Passed}
use Rattle.cuts.proofs.States.{accepted_when_passed}
use Rattle.queries.specs.declared.Keeping.{Keeping}
use Rattle.queries.specs.Playing.{InLimits, Turns, none_made, one_more_fact, Cause, output_short, quantum_wrong, list_left}

-- where the tests on the state and the threshold pass, 7 or 8 fails first
seven_or_eight : (a b c s d e : Bool) (y : ℕ) → c ≡ true → s ≡ true → d ≡ true → e ≡ true
    → cond a (cond b (cond c (cond s (cond d (cond e none (some 11)) (some 10)) (some 22)) (some 9)) (some 8)) (some 7) ≡ some y
    → ((y ≡ 7) × (a ≡ false)) ⊎ ((y ≡ 8) × (a ≡ true) × (b ≡ false))
seven_or_eight true true true true true true y p n q r h = absurd (none_some h)
seven_or_eight true true true true true false y p n q r h = absurd_true r refl
seven_or_eight true true true true false e y p n q r h = absurd_true q refl
seven_or_eight true true true false d e y p n q r h = absurd_true n refl
seven_or_eight true true false s d e y p n q r h = absurd_true p refl
seven_or_eight true false c s d e y p n q r h = inr (sym (some_injective h), refl, refl)
seven_or_eight false b c s d e y p n q r h = inl (sym (some_injective h), refl)

-- the second of two tests fails where the first passes
second_fails : (a b : Bool) → a ≡ true → a && b ≡ false → b ≡ false
second_fails true b p h = h
second_fails false b p h = absurd_true p refl

pub empty_right : (e : Ending) → threshold_right e [] ≡ true
unfolding threshold_right
empty_right e = refl

-- a turn with no threshold, from a state that the uncut run passes through, with room for a state
module _ (i : TurnInput) (a : Accepted i.survey.tables i.plan) (p : Passed i) (room : least_state_words ≤ length i.state)
    (none_sent : i.threshold ≡ []) (keep : Keeping) (before : List ℕ) (steps : ℕ) where
  abbrev Caused : ℕ → Type 0
  Caused y = Cause keep i.survey.tables i.plan i.quantum (length i.output) before steps y

  early : first_failing (plan_tests i.plan) ≡ none
  early = all_passes (plan_tests i.plan) (ap has_form a.read, (a.variables, (a.years, tt)))

  late : (y : ℕ) → (turn_of i).answer.ending ≡ Refused y → first_failing (own_tests i) ≡ some y
  late y e =
      sym (ap (λ o. or_else o (first_failing (own_tests i))) early)
      ∙ sym (first_append (plan_tests i.plan) (own_tests i))
      ∙ sym (ap (λ o. or_else o (first_failing (plan_tests i.plan ++ own_tests i))) a.tables)
      ∙ sym (first_append (table_tests i.survey.tables) (plan_tests i.plan ++ own_tests i))
      ∙ fails_first y (turn_tests i) (((turn_refusals i).refused y).0 e)

  short : leb least_state_words (length i.state) && leb (least_output (given_plan i).ending) (length i.output) ≡ false → Caused 7
  short h =
      let o = second_fails _ _ (le-leb least_state_words (length i.state) room) h in
      output_short (leb-false (least_output (given_plan i).ending) (length i.output) o)

  wrong : leb least_state_words (length i.state) && leb (least_output (given_plan i).ending) (length i.output) ≡ true
      → leb 1 i.quantum && leb i.quantum most_steps ≡ false → Caused 8
  wrong o h =
      let long = leb-true (least_output (given_plan i).ending) (length i.output) (and_right (leb least_state_words (length i.state)) _ o) in
      quantum_wrong long (λ b. absurd_true (and_both _ _ (le-leb 1 i.quantum b.0) (le-leb i.quantum most_steps b.1)) h)

  pub turn_stopped : (y : ℕ) → (turn_of i).answer.ending ≡ Refused y → Caused y
  unfolding first_failing
  turn_stopped y e =
      elim (seven_or_eight (leb least_state_words (length i.state) && leb (least_output (given_plan i).ending) (length i.output))
      (leb 1 i.quantum && leb i.quantum most_steps)
      (leb i.given (length i.state) && shape_right i.survey.tables (given_plan i) (given_state i))
      (survey_right i.survey.number (given_state i)) (places_right i.survey.tables (given_plan i) (given_state i))
      (threshold_right (given_plan i).ending i.threshold) y
      ((accepted_when_passed i a).1 p).0 ((accepted_when_passed i a).1 p).1 ((accepted_when_passed i a).1 p).2
      (ap (threshold_right (given_plan i).ending) none_sent ∙ empty_right (given_plan i).ending) (late y e)) [
        | inl x ↦ subst Caused (sym x.0) (short x.1)
        | inr x ↦ subst Caused (sym x.0) (wrong x.1 x.2)
      ]

-- ---- a turn that was served has an output and a quantum that every turn has
pub served_sized : (i : TurnInput) → Served i → InLimits i.plan i.quantum (length i.output)
served_sized i s = let l = turn_limits i s in record { output = l.output_room_fact; least = l.one_step_fact; most = l.most }

-- and is not stopped for them
not_sized : (keep : Keeping) (t : Tables) (plan : List ℕ) (quantum room : ℕ) (before : List ℕ) (steps y : ℕ)
    → Cause keep t plan quantum room before steps y → y ≤ 8 → InLimits plan quantum room → ⊥
not_sized keep t plan quantum room before steps y (output_short l) m z = omega (arith, l, z.output)
not_sized keep t plan quantum room before steps y (quantum_wrong o f) m z = f (z.least, z.most)
not_sized keep t plan quantum room before steps y (list_left c later f x (totals_pass p)) m z = omega arith
not_sized keep t plan quantum room before steps y (list_left c later f x (no_room p l)) m z = omega arith

-- so 7 and 8 come before the first step
pub at_first : (keep : Keeping) (t : Tables) (plan : List ℕ) (quantum room : ℕ) (before : List ℕ) (count steps y : ℕ)
    → Turns t plan quantum room count steps → Cause keep t plan quantum room before steps y → y ≤ 8 → steps ≡ 0
at_first keep t plan quantum room before count steps y none_made c m = refl
at_first keep t plan quantum room before count steps y (one_more_fact n from to made turn f) c m =
    absurd (not_sized keep t plan quantum room before to y c m turn.sized)
