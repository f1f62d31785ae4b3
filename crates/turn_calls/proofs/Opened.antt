-- What opening answers, by the tests made so far: a refusal by the number of the first that fails, else the start state.
use Prim.Native.Nat.{ℕ, ◌≤◌, ◌<◌}
use mathlib.Core.Path.{◌≡◌, refl, sym, ◌∙◌, ap}
use mathlib.Core.Bool.{Bool, true, false}
use mathlib.Core.Option.{none}
use mathlib.Core.List.{List, [], ◌∷◌}
use lib.Dec.{leb}
use lib.ListN.{length}
use borrow.Author.Tests.{ltb-true, leb-true}
use Rattle.words.specs.declared.Written.TheVariants.{Words, Refused}
use Rattle.words.specs.Words.{low_numbers}
use Rattle.sequences.specs.Sequences.{all, over}
use Rattle.words.specs.Tests.{Test, first_failing, number_of}
use Rattle.words.proofs.Testing.{passes_all, test_numbered, test_passed}
use Rattle.plans.specs.Plans.{plan_of}
use Rattle.steps.specs.Steps.{State, start}
use Rattle.step_cursors.specs.declared.Cursor.{Cursor}
use Rattle.step_cursors.specs.Held.{state_of}
use Rattle.steps.specs.Saved.{state_words, least_state_words, number_right}
use Rattle.turns.specs.Surveys.{Survey}
use Rattle.calls.specs.Words.{written_over}
use Rattle.calls.proofs.Refusals.{by_number_lem, by_none}
use Rattle.turns.specs.Opening.{OpenInput, open_input, own_open_tests, open_tests, start_words, open_schema, open_of}
use Rattle.turns.proofs.Opening.{open_is_right}
use Rattle.words.proofs.Numbering.{one_fails, none_fails, front_fails, rest_decides}
use Rattle.turn_sizes.specs.Testing.{start_number}
use Rattle.turn_tests.proofs.Numbering.{early_tests, early_pass}

module _ (v : Survey) (plan state : List ℕ) where
  abbrev lent : OpenInput
  lent = open_input v plan state

  abbrev early : List Test
  early = early_tests v.tables plan

  abbrev refused_by : ℕ → Type 0
  refused_by n = open_of v plan state ≡ record { answer = Refused n; buffers = state }

  pub open_refused : (n : ℕ) → n ≡ number_of (first_failing early) → (n ≡ 0 → ⊥) → refused_by n
  open_refused n e h = by_number_lem open_schema open_is_right lent n (front_fails early (own_open_tests lent) n e h)

  -- tests 7 and 22, by the number of the first that fails
  own_number : (room number : Bool) → start_number room number ≡ number_of (first_failing ((7, room) ∷ (22, number) ∷ []))
  unfolding first_failing
  own_number true true = refl
  own_number true false = refl
  own_number false number = refl

  module _ (z : number_of (first_failing early) ≡ 0) (n : ℕ) (e : n ≡ start_number (leb least_state_words (length state)) (number_right v.number)) where
    own_decides : first_failing (open_tests lent) ≡ first_failing (own_open_tests lent)
    own_decides = rest_decides early (own_open_tests lent) (early_pass v.tables plan z)

    own_is : n ≡ number_of (first_failing (own_open_tests lent))
    own_is = e ∙ own_number (leb least_state_words (length state)) (number_right v.number)

    pub own_refused : (n ≡ 0 → ⊥) → refused_by n
    own_refused h = by_number_lem open_schema open_is_right lent n (own_decides ∙ one_fails (first_failing (own_open_tests lent)) n own_is h)

    module _ (y : n ≡ 0) where
      own_pass : first_failing (own_open_tests lent) ≡ none
      unfolding all
      own_pass = none_fails (own_open_tests lent) refl (sym own_is ∙ y)

      pub open_served : open_of v plan state ≡ written_over (start_words lent) state
      open_served = by_none open_schema open_is_right lent (own_decides ∙ own_pass)

      -- what saving asks for
      pub open_room : (v.number < low_numbers) × (least_state_words ≤ length state)
      open_room =
          let s : (k : ℕ) → test_numbered k (own_open_tests lent) ≡ true = λ k.
          test_passed k (own_open_tests lent) (passes_all (own_open_tests lent) own_pass) in
          (ltb-true v.number low_numbers (s 22), leb-true least_state_words (length state) (s 7))

  -- what is written is the start state's words
  pub opened_words : (c : Cursor) → state_of c ≡ start v.tables (plan_of plan)
      → open_of v plan state ≡ written_over (start_words lent) state → (n : ℕ) (after : List ℕ)
      → (n ≡ length (state_words v.number (state_of c))) × (after ≡ over (state_words v.number (state_of c)) state)
      → record { answer = Words n; buffers = after } ≡ open_of v plan state
  opened_words c e r n after w =
      let x = r ∙ ap (λ (s : State). written_over (state_words v.number s) state) (sym e) in
      rw (w.0, w.1) (sym x)
