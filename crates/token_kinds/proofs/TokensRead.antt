-- Tokens from a place on, by the characters that stand there.
use Prim.Native.Nat.{◌+◌, ◌-◌, ◌≤◌, ℕ}
use native.Mathlib.Omega.{arith}
use native.Mathlib.Nat.{zero-add}
use mathlib.Core.Path.{◌∙◌, ◌≡◌, ap, refl, sym}
use mathlib.Core.Bool.{◌&&◌, cond, false}
use mathlib.Core.List.{List}
use lib.Dec.{eqb}
use lib.ListN.{get_or, drop}
use lib.Seq.{drop-drop}
use Rattle.characters.specs.Sequences.{no_point}
use Rattle.tokens.specs.declared.TokenKind.TheVariants as kind
use Rattle.tokens.specs.Classes.{is_ascii_letter, is_iri_character, is_name_base, begins_variable}
use Rattle.tokens.specs.Runs.{run_length, first_is, starts_with, dotted_end, name_item}
use Rattle.tokens.specs.Numerals.{token}
use Rattle.tokens.specs.Texts.{wrong_at}
use Rattle.tokens.specs.Tokens.{angle_by, angle_of, prefixed_of, word_token, named_by, named_of, blank_of, tag_end, tag_by, tag_of}
use Rattle.tokens.proofs.RunBounds.{dotted_shift, tag_shift}
use Rattle.token_runs.specs.RunClasses.{past_end}
use Rattle.token_runs.proofs.Advancing.{first_at, second_at, starts_at}

-- what stands behind the last character begins no variable
pub variable_past : begins_variable past_end ≡ false
unfolding is_name_base
variable_past = refl

pub first_variable : (points : List ℕ) (at : ℕ) → first_is begins_variable (drop at points) ≡ begins_variable (get_or points at past_end)
first_variable points at = first_at points at begins_variable variable_past

-- ---- where a run ends, counted from two places
pub dotted_place : (cs : List ℕ) (a b : ℕ) → dotted_end name_item 0 cs b b + a ≡ dotted_end name_item 0 cs a a + b
dotted_place cs a b =
    let p = ap (λ n. dotted_end name_item 0 cs n n) (sym (zero-add a)) ∙ dotted_shift name_item a 0 cs 0 0 in
    let q = ap (λ n. dotted_end name_item 0 cs n n) (sym (zero-add b)) ∙ dotted_shift name_item b 0 cs 0 0 in
    omega (arith, p, q)

pub tag_place : (cs : List ℕ) (a b : ℕ) → tag_end cs b + a ≡ tag_end cs a + b
tag_place cs a b =
    let p = ap (tag_end cs) (sym (zero-add a)) ∙ tag_shift a cs 0 in
    let q = ap (tag_end cs) (sym (zero-add b)) ∙ tag_shift b cs 0 in
    omega (arith, p, q)

module _ (points : List ℕ) (from : ℕ) where
  -- ---- <
  module _ (n : ℕ) (e : n ≡ run_length is_iri_character (drop from points)) where
    behind : (a : ℕ) → eqb past_end a ≡ false → starts_with a (drop n (drop from points)) ≡ eqb (get_or points (from + n) past_end) a
    behind a h = ap (starts_with a) (drop-drop n from points) ∙ starts_at points (from + n) a h

    pub angle_read : angle_of (drop from points)
        ≡ cond (eqb (get_or points (from + n) past_end) 0x3E) (token kind.Iri (n + 2))
        (cond (eqb (get_or points (from + n) past_end) no_point) (wrong_at kind.BadByte (n + 1))
        (token kind.Sign (cond (eqb (get_or points from past_end) 0x3D) 2 1)))
    angle_read =
        let cs = drop from points in
        let p = get_or points (from + n) past_end in
        let s = starts_with 0x3D cs in
        ap (λ m. angle_by m cs) (sym e)
        ∙ ap (λ b. cond b (token kind.Iri (n + 2)) (cond (starts_with no_point (drop n cs)) (wrong_at kind.BadByte (n + 1)) (token kind.Sign (cond s 2 1))))
        (behind 0x3E refl)
        ∙ ap (λ b. cond (eqb p 0x3E) (token kind.Iri (n + 2)) (cond b (wrong_at kind.BadByte (n + 1)) (token kind.Sign (cond s 2 1)))) (behind no_point refl)
        ∙ ap (λ b. cond (eqb p 0x3E) (token kind.Iri (n + 2)) (cond (eqb p no_point) (wrong_at kind.BadByte (n + 1)) (token kind.Sign (cond b 2 1))))
        (starts_at points from 0x3D refl)

  -- ---- names
  pub named_read : (c end : ℕ) → from ≤ end → end ≡ dotted_end name_item 0 (drop from points) from from
      → named_of c (drop from points)
      ≡ cond (eqb (get_or points end past_end) 0x3A) (prefixed_of (end - from + 1) (drop (end + 1) points)) (word_token c (drop from points))
  named_read c end h e =
      let cs = drop from points in
      let d : dotted_end name_item 0 cs 0 0 ≡ end - from = omega (arith, e, h, dotted_place cs from 0) in
      let y : from + (end - from) ≡ end = omega (arith, h) in
      let z : from + (end - from + 1) ≡ end + 1 = omega (arith, h) in
      ap (λ m. named_by m c cs) d
      ∙ ap (λ b. cond b (prefixed_of (end - from + 1) (drop (end - from + 1) cs)) (word_token c cs))
      (ap (starts_with 0x3A) (drop-drop (end - from) from points ∙ ap (λ m. drop m points) y) ∙ starts_at points end 0x3A refl)
      ∙ ap (λ l. cond (eqb (get_or points end past_end) 0x3A) (prefixed_of (end - from + 1) l) (word_token c cs))
      (drop-drop (end - from + 1) from points ∙ ap (λ m. drop m points) z)

  pub blank_read : blank_of (drop from points)
      ≡ cond (eqb (get_or points from past_end) 0x3A && begins_variable (get_or points (from + 1) past_end))
      (token kind.BlankLabel (dotted_end name_item 0 (drop (from + 2) points) 3 3)) (token kind.NoToken 1)
  blank_read =
      let cs = drop from points in
      let t = token kind.BlankLabel (dotted_end name_item 0 (drop 2 cs) 3 3) in
      ap (λ b. cond (b && first_is begins_variable (drop 1 cs)) t (token kind.NoToken 1)) (starts_at points from 0x3A refl)
      ∙ ap (λ b. cond (eqb (get_or points from past_end) 0x3A && b) t (token kind.NoToken 1)) (second_at points from begins_variable variable_past)
      ∙ ap (λ l. cond (eqb (get_or points from past_end) 0x3A && begins_variable (get_or points (from + 1) past_end))
      (token kind.BlankLabel (dotted_end name_item 0 l 3 3)) (token kind.NoToken 1)) (drop-drop 2 from points)

  -- ---- language tags
  pub tag_read : (n : ℕ) → n ≡ run_length is_ascii_letter (drop from points) → tag_of (drop from points)
      ≡ cond (eqb n 0) (token kind.NoToken 1)
      (token kind.LanguageTag (cond (eqb (get_or points (from + n) past_end) 0x2D) (tag_end (drop (from + n) points) (n + 1)) (n + 1)))
  tag_read n e =
      let cs = drop from points in
      ap (λ m. tag_by m cs) (sym e)
      ∙ ap (λ b. cond (eqb n 0) (token kind.NoToken 1) (token kind.LanguageTag (cond b (tag_end (drop n cs) (n + 1)) (n + 1))))
      (ap (starts_with 0x2D) (drop-drop n from points) ∙ starts_at points (from + n) 0x2D refl)
      ∙ ap (λ l. cond (eqb n 0) (token kind.NoToken 1)
      (token kind.LanguageTag (cond (eqb (get_or points (from + n) past_end) 0x2D) (tag_end l (n + 1)) (n + 1)))) (drop-drop n from points)
