-- Runs from a place on, one character further.
use Prim.Native.Nat.{ℕ, ◌+◌, ◌-◌, ◌≤◌, ◌<◌}
use native.Mathlib.Numerals.{add-one}
use native.Mathlib.Omega.{arith}
use native.Mathlib.Decide.{dec_lt}
use mathlib.Core.Path.{◌≡◌, refl, sym, ◌∙◌, ap}
use mathlib.Core.Bool.{Bool, true, false}
use mathlib.Core.List.{List, [], ◌∷◌}
use lib.Dec.{eqb}
use Rattle.std.proofs.lemmas.Grind.{common_steps}
use lib.ListN.{length, get_or, take, drop, drop_of_length-le, get_or-eq_default}
use lib.Seq.{drop-cons, drop-drop}
use Rattle.sequences.proofs.Booleans.{absurd_true, decided}
use Rattle.sequences.proofs.Booleans as test
use Rattle.characters.specs.Sequences.{no_point}
use Rattle.tokens.specs.Classes.{is_blank}
use Rattle.tokens.specs.Runs.{run_length, first_is, starts_with, blanks_length}
use Rattle.std.specs.Prelude.{Option, Some, None}
use Rattle.std.specs.List.{prefix_len}
use Rattle.token_runs.specs.BlankSteps.{blank_step}
use Rattle.token_runs.specs.RunClasses.{past_end}

abbrev blanks_after : Option Bool → List ℕ → ℕ
blanks_after (Some b) cs = blanks_length b cs + 1
blanks_after None cs = 0

blanks_step : (comment : Bool) (c : ℕ) (cs : List ℕ) → blanks_length comment (c ∷ cs) ≡ blanks_after (blank_step comment c) cs
unfolding blanks_length
blanks_step true c cs = elim (decided (eqb c no_point)) [ test.yes k ↦ rw k refl | test.no k ↦ rw k refl ]
blanks_step false c cs =
    elim (decided (eqb c 0x23)) [
      | test.yes k ↦ rw k refl
      | test.no k ↦ elim (decided (is_blank c)) [ test.yes m ↦ rw (k, m) refl | test.no m ↦ rw (k, m) refl ]
    ]

module _ (points : List ℕ) (at : ℕ) where
  pub blanks_end : (comment : Bool) → length points ≤ at → blanks_length comment (drop at points) ≡ 0
  unfolding blanks_length
  blanks_end true h = rw (drop_of_length-le points {i = at} h) refl
  blanks_end false h = rw (drop_of_length-le points {i = at} h) refl

  module _ (h : at < length points) where
    pub points_next : drop at points ≡ get_or points at 0 ∷ drop (at + 1) points
    points_next = drop-cons points at 0 h ∙ ap (λ n. get_or points at 0 ∷ drop n points) (sym (add-one at))

    module _ (comment : Bool) (step : Option Bool) (e : step ≡ blank_step comment (get_or points at 0)) where
      stepped : blanks_length comment (drop at points) ≡ blanks_after step (drop (at + 1) points)
      stepped =
          ap (blanks_length comment) points_next
          ∙ blanks_step comment (get_or points at 0) (drop (at + 1) points)
          ∙ ap (λ s. blanks_after s (drop (at + 1) points)) (sym e)

      pub blanks_go : (b : Bool) → step ≡ Some b → blanks_length comment (drop at points) ≡ blanks_length b (drop (at + 1) points) + 1
      blanks_go b f = stepped ∙ ap (λ s. blanks_after s (drop (at + 1) points)) f

      pub blanks_stay : step ≡ None → blanks_length comment (drop at points) ≡ 0
      blanks_stay f = stepped ∙ ap (λ s. blanks_after s (drop (at + 1) points)) f

-- what is left from a place on
pub left_from : (xs : List ℕ) (a : ℕ) → take (length xs - a) (drop a xs) ≡ drop a xs
left_from xs a = grind (arith, common_steps)

-- a run is as long as the characters that pass from the front on
pub run_prefix : (f : ℕ → Bool) (cs : List ℕ) → run_length f cs ≡ prefix_len f cs
unfolding run_length
run_prefix f [] = refl
run_prefix f (c ∷ cs) = elim (decided (f c)) [ test.yes k ↦ rw k (omega (arith, run_prefix f cs)) | test.no k ↦ rw k refl ]

-- ---- the character at a place, or what stands behind the last
pub first_at : (points : List ℕ) (at : ℕ) (f : ℕ → Bool) → f past_end ≡ false → first_is f (drop at points) ≡ f (get_or points at past_end)
first_at points at f e =
    elim (dec_lt at (length points)) [
      | yes k ↦ ap (first_is f) (drop-cons points at past_end k)
      | no k ↦
          ap (first_is f) (drop_of_length-le points {i = at} (omega arith))
          ∙ sym (ap f (get_or-eq_default points past_end {n = at} (omega arith)) ∙ e)
    ]

module _ (points : List ℕ) (at : ℕ) where
  pub starts_at : (a : ℕ) → eqb past_end a ≡ false → starts_with a (drop at points) ≡ eqb (get_or points at past_end) a
  starts_at a e = first_at points at (λ c. eqb c a) e

  pub second_at : (f : ℕ → Bool) → f past_end ≡ false → first_is f (drop 1 (drop at points)) ≡ f (get_or points (at + 1) past_end)
  second_at f e =
      ap (first_is f) (drop-drop 1 at points) ∙ first_at points (at + 1) f e

  pub class_there : (f : ℕ → Bool) → f past_end ≡ false → f (get_or points at past_end) ≡ true → at < length points
  class_there f e t =
      elim (dec_lt at (length points)) [
        | yes k ↦ k
        | no k ↦ absurd_true t (ap f (get_or-eq_default points past_end {n = at} (omega arith)) ∙ e)
      ]
