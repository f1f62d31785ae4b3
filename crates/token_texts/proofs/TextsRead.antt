-- Texts from a place on, one step further.
use Prim.Native.Nat.{ℕ, zero, suc, ◌+◌, ◌-◌, ◌≤◌, ◌<◌}
use native.Mathlib.Omega.{arith}
use native.Mathlib.Nat.{add-zero}
use mathlib.Core.Path.{◌≡◌, refl, sym, ◌∙◌, ap}
use mathlib.Core.Bool.{Bool, ◌&&◌, ◌||◌, not, cond}
use mathlib.Core.List.{List, [], ◌∷◌}
use lib.Dec.{eqb}
use lib.ListN.{length, get_or, drop, drop_of_length-le, length-drop}
use lib.Seq.{drop-drop}
use Rattle.sequences.proofs.Booleans.{yes, no, decided}
use Rattle.characters.specs.Sequences.{no_point}
use Rattle.characters.specs.Escapes.{backslash}
use Rattle.tokens.specs.declared.TokenKind.TheVariants as kind
use Rattle.tokens.specs.declared.Token.{Token}
use Rattle.tokens.specs.Classes.{is_line_end, is_text_escape}
use Rattle.tokens.specs.Runs.{first_is}
use Rattle.tokens.specs.Numerals.{token}
use Rattle.tokens.specs.Texts.{two_more, text_from}
use Rattle.tokens.proofs.RunBounds.{first_some}
use Rattle.token_runs.specs.RunClasses.{past_end}
use Rattle.token_runs.proofs.Advancing.{points_next, first_at}
use Rattle.token_texts.specs.declared.TextEnding.{TextEnding}
use Rattle.token_texts.specs.declared.TextEnding.TheVariants as ending
use Rattle.std.specs.Prelude.{Result, Ok, Err}
use Rattle.token_texts.specs.TextSteps.{escape_step, text_step, text_end}

-- ---- quotes
-- what stands behind a backslash
pub escape_read : (points : List ℕ) (at : ℕ) → escape_step (get_or points at past_end)
    ≡ cond (first_is is_text_escape (drop at points)) (Ok 2) (Err ending.WrongEscape)
escape_read points at = ap (λ b. cond b (Ok 2) (Err ending.WrongEscape)) (sym (first_at points at is_text_escape refl))

-- ---- one step
abbrev text_after : Result ℕ TextEnding → Bool → ℕ → List ℕ → ℕ → Token
text_after (Ok k) long q cs n = text_from long q (k - 1) cs (n + 1)
text_after (Err e) long q cs n = text_end e long n

-- a step goes on by a character or more, and no further than there are
abbrev StepFits : ℕ → Result ℕ TextEnding → Type 0
StepFits l (Ok k) = (1 ≤ k) × (k ≤ suc l)
StepFits l (Err e) = Unit {0}

module _ (long : Bool) (q c : ℕ) (cs : List ℕ) where
  step_fits : StepFits (length cs) (text_step long q c cs)
  unfolding text_step
  step_fits =
      elim (decided (eqb c q && (not long || two_more q cs))) [
        | yes t ↦ rw t tt
        | no t ↦
            elim (decided (eqb c no_point)) [
              | yes u ↦ rw (t, u) tt
              | no u ↦
                  elim (decided (eqb c backslash)) [
                    | yes v ↦
                        elim (decided (first_is is_text_escape cs)) [
                          | yes w ↦ rw (t, u, v, w) (omega (arith, first_some is_text_escape cs w))
                          | no w ↦ rw (t, u, v, w) tt
                        ]
                    | no v ↦
                        elim (decided (is_line_end c && not long)) [ yes w ↦ rw (t, u, v, w) tt | no w ↦ rw (t, u, v, w) (omega arith) ]
                  ]
            ]
      ]

  text_first : (n : ℕ) → text_from long q 0 (c ∷ cs) n ≡ text_after (text_step long q c cs) long q cs n
  unfolding text_step text_from
  text_first n =
      elim (decided (eqb c q && (not long || two_more q cs))) [
        | yes t ↦ rw t refl
        | no t ↦
            elim (decided (eqb c no_point)) [
              | yes u ↦ rw (t, u) refl
              | no u ↦
                  elim (decided (eqb c backslash)) [
                    | yes v ↦
                        elim (decided (first_is is_text_escape cs)) [
                          | yes w ↦ rw (t, u, v, w) refl
                          | no w ↦ rw (t, u, v, w) refl
                        ]
                    | no v ↦ elim (decided (is_line_end c && not long)) [ yes w ↦ rw (t, u, v, w) refl | no w ↦ rw (t, u, v, w) refl ]
                  ]
            ]
      ]

-- characters that are still of an escape
text_behind : (long : Bool) (q k : ℕ) (cs : List ℕ) (n : ℕ) → k ≤ length cs → text_from long q k cs n ≡ text_from long q 0 (drop k cs) (n + k)
unfolding text_from
text_behind long q zero cs n h = ap (text_from long q 0 cs) (sym (add-zero n))
text_behind long q (suc k) [] n h = absurd (omega arith)
text_behind long q (suc k) (c ∷ cs) n h =
    let z : n + 1 + k ≡ n + suc k = omega arith in
    text_behind long q k cs (n + 1) (omega arith) ∙ ap (text_from long q 0 (drop k cs)) z

-- ---- from a place on
module _ (points : List ℕ) (long : Bool) (q at : ℕ) where
  pub text_over : (n : ℕ) → length points ≤ at → text_from long q 0 (drop at points) n ≡ token kind.Unended n
  unfolding text_from
  text_over n h = rw (drop_of_length-le points {i = at} h) refl

  module _ (h : at < length points) (s : Result ℕ TextEnding) (r : s ≡ text_step long q (get_or points at 0) (drop (at + 1) points)) where
    after : (n : ℕ) → text_from long q 0 (drop at points) n ≡ text_after s long q (drop (at + 1) points) n
    after n =
        ap (λ l. text_from long q 0 l n) (points_next points at h)
        ∙ text_first long q (get_or points at 0) (drop (at + 1) points) n
        ∙ ap (λ t. text_after t long q (drop (at + 1) points) n) (sym r)

    pub text_ends_lem : (e : TextEnding) → s ≡ Err e → (n : ℕ) → text_from long q 0 (drop at points) n ≡ text_end e long n
    text_ends_lem e f n = after n ∙ ap (λ t. text_after t long q (drop (at + 1) points) n) f

    pub text_going : (k : ℕ) → s ≡ Ok k → (1 ≤ k) × (at + k ≤ length points)
    text_going k f =
        let i : StepFits (length (drop (at + 1) points)) (Ok k) =
        rw (sym r ∙ f) at (step_fits long q (get_or points at 0) (drop (at + 1) points)) in
        omega (arith, i.0, i.1, length-drop (at + 1) points, h)

    pub text_goes : (k : ℕ) → s ≡ Ok k → (n : ℕ) → text_from long q 0 (drop at points) n ≡ text_from long q 0 (drop (at + k) points) (n + k)
    text_goes k f n =
        let i = text_going k f in
        let x : k - 1 ≤ length (drop (at + 1) points) = omega (arith, i.0, i.1, length-drop (at + 1) points) in
        let y : at + 1 + (k - 1) ≡ at + k = omega (arith, i.0) in
        let z : n + 1 + (k - 1) ≡ n + k = omega (arith, i.0) in
        after n
        ∙ ap (λ t. text_after t long q (drop (at + 1) points) n) f
        ∙ text_behind long q (k - 1) (drop (at + 1) points) (n + 1) x
        ∙ ap (text_from long q 0 (drop (k - 1) (drop (at + 1) points))) z
        ∙ ap (λ l. text_from long q 0 l (n + k)) (drop-drop (k - 1) (at + 1) points ∙ ap (λ m. drop m points) y)
