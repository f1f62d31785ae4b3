-- Where no number is stored or written that there was not before numbers had a sign, the run is the former run, step for step and row for row.
use Prim.Native.Nat.{ℕ, ◌+◌, ◌*◌}
use mathlib.Core.Path.{◌≡◌, refl, sym, ◌∙◌, ap}
use mathlib.Core.Bool.{Bool, true, false, ◌&&◌, ◌||◌, not}
use mathlib.Core.Option.{none}
use lib.Dec.{eqb, ltb}
use lib.ListN.{length}
use borrow.Author.Tests.{eqb-true, eq-eqb, lt-ltb, ltb-true, leb-true}
use Rattle.words.specs.Words.{term_kind, term_value, number_kind, half_values, is_number, is_variable, unbound}
use Rattle.words.specs.Former.{Former}
use Rattle.words.specs.Bindings.{Bindings, variable_count, value_of}
use Rattle.sequences.specs.Sequences.{all}
use Rattle.words.specs.Tests.{first_failing}
use Rattle.sequences.proofs.Booleans.{yes, no, decided, and_left, and_right, and_both}
use Rattle.sequences.proofs.Elements.{all_get_d}
use Rattle.sequences.proofs.Each.{Each, all_each}
use Rattle.sequences.proofs.EachMore.{each_weaken}
use Rattle.tables.specs.Tables.{Tables, column_count, field_of, table_tests}
use Rattle.tables.proofs.RightTables.{right}
use Rattle.plans.specs.Plans.{Plan, branch_at}
use Rattle.conditions.specs.Truth.{keeps_row}
use Rattle.lists.specs.Former.{Delivered}
use Rattle.steps.specs.Machines as machines
use Rattle.steps.specs.Steps.{State, start, step, after}
use Rattle.steps.proofs.Values.{up_to_unbound, is_row_of, field_bound, FieldsPass, step_passes, after_passes}
use Rattle.former.specs.Truths.{formerly_keeps}
use Rattle.former.specs.Runs.{keeping_all, step_by, former_after, FormerQuery}
use Rattle.former.proofs.Truths.{keeps_as_before}
use Rattle.former.proofs.Steps.{step_by_truth, sift_same}

-- ---- a word that a delivered row could have, as a test
abbrev pub is_former : ℕ → Bool
is_former w = not (is_number w) || ltb (term_value w) half_values

former_passes : (w : ℕ) → Former w → is_former w ≡ true
former_passes w f = go (is_number w) refl
  where
    go : (b : Bool) → is_number w ≡ b → not b || ltb (term_value w) half_values ≡ true
    go true e = lt-ltb (term_value w) half_values (f (eqb-true (term_kind w) number_kind e))
    go false e = refl

pub passes_former : (w : ℕ) → is_former w ≡ true → Former w
passes_former w e k =
    ltb-true (term_value w) half_values
    (sym (ap (λ b. not b || ltb (term_value w) half_values) (eq-eqb (term_kind w) number_kind k)) ∙ e)

abbrev pub was_delivered : ℕ → Bool
was_delivered w = is_former w && up_to_unbound w

pub delivered_was : (w : ℕ) → was_delivered w ≡ true → Delivered w
delivered_was w e = (passes_former w (and_left (is_former w) (up_to_unbound w) e), leb-true w unbound (and_right (is_former w) (up_to_unbound w) e))

-- the value of a variable in a delivered row, and of a term
pub value_was : (b : Bindings) (w : ℕ) → is_variable w ≡ true → all was_delivered b ≡ true → was_delivered (value_of b w) ≡ true
value_was b w v h = rw v (all_get_d was_delivered b (term_value w) unbound h refl)

value_former : (b : Bindings) → all was_delivered b ≡ true → (w : ℕ) → Former w → Former (value_of b w)
value_former b h w f =
    elim (decided (is_variable w)) [
      | yes e ↦ (delivered_was (value_of b w) (value_was b w e h)).0
      | no e ↦ rw e f
    ]

module _ (t : Tables) (q : Plan) (accepted : first_failing (table_tests t) ≡ none) (was : FormerQuery t q) where
  fields_pass : FieldsPass was_delivered t
  fields_pass row column l =
      and_both (is_former (field_of t.rows row column)) _ (former_passes (field_of t.rows row column) (was.stored (row * column_count + column)))
      (field_bound t (right t accepted) row column l)

  step_as_before : (s : State) → step_by formerly_keeps t q s ≡ step t q s
  step_as_before s =
      let c = (branch_at q s.position.branch).condition in
      sift_same (λ b. formerly_keeps b c) (λ b. keeps_row b c) (is_row_of was_delivered)
      (λ b r. keeps_as_before b (value_former b (and_right (eqb (length b) variable_count) (all was_delivered b) r)) c
      (was.written s.position.branch))
      (step t (keeping_all q) s) (step_passes was_delivered refl t fields_pass (keeping_all q) s)
      ∙ step_by_truth t q s

  pub run_as_before : (n : ℕ) → former_after t q n ≡ after t q n
  unfolding former_after after
  run_as_before n = ap (λ m. machines.run_from m (start t q) n) (λ i s. step_as_before s i)

  -- and each word of its rows is one that a delivered row could have
  pub rows_were : (n : ℕ) → Each (λ b. all was_delivered b ≡ true) (after t q n).delivered
  rows_were n =
      let bs = (after t q n).delivered in
      each_weaken (λ (b : Bindings). and_right (eqb (length b) variable_count) (all was_delivered b)) bs
      (all_each (is_row_of was_delivered) bs (after_passes was_delivered refl t fields_pass q n))
