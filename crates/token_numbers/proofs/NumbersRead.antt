-- Exponents and numbers from a place on.
use Prim.Native.Nat.{ℕ, ◌+◌}
use native.Mathlib.Omega.{arith}
use mathlib.Core.Path.{◌≡◌, refl, sym, ◌∙◌, ap}
use mathlib.Core.Bool.{Bool, true, false, cond}
use mathlib.Core.List.{List, [], ◌∷◌}
use lib.Dec.{eqb}
use lib.ListN.{get_or, drop}
use lib.Seq.{drop-drop}
use Rattle.tokens.specs.declared.Token.{Token}
use Rattle.tokens.specs.Classes.{is_one_of}
use Rattle.tokens.specs.Runs.{first_is, starts_with}
use Rattle.tokens.specs.Numerals.{is_plus_minus, digits_length, exponent_by, exponent_length, whole_or, pointed_or, number_by, number_or}
use Rattle.token_runs.specs.RunClasses.{past_end}
use Rattle.token_runs.proofs.Advancing.{first_at, second_at, starts_at}

-- an exponent, by its first two characters
abbrev exponent_of : Bool → Bool → ℕ → ℕ → ℕ
exponent_of letter signed two one = cond letter (cond signed (exponent_by two 2) (exponent_by one 1)) 0

module _ (points : List ℕ) (at : ℕ) (letter : Bool) (e : is_one_of (0x65 ∷ 0x45 ∷ []) (get_or points at past_end) ≡ letter) where
  letter_read : first_is (is_one_of (0x65 ∷ 0x45 ∷ [])) (drop at points) ≡ letter
  letter_read = first_at points at (is_one_of (0x65 ∷ 0x45 ∷ [])) refl ∙ e

  pub exponent_none : letter ≡ false → exponent_length (drop at points) ≡ 0
  exponent_none f =
      ap
      (λ b.
      exponent_of b (first_is is_plus_minus (drop 1 (drop at points))) (digits_length (drop 2 (drop at points)))
      (digits_length (drop 1 (drop at points))))
      (letter_read ∙ f)

  pub exponent_some : (signed : Bool) → is_plus_minus (get_or points (at + 1) past_end) ≡ signed → letter ≡ true
      → exponent_length (drop at points)
      ≡ cond signed (exponent_by (digits_length (drop (at + 2) points)) 2) (exponent_by (digits_length (drop (at + 1) points)) 1)
  exponent_some signed s t =
      ap
      (λ b.
      exponent_of b (first_is is_plus_minus (drop 1 (drop at points))) (digits_length (drop 2 (drop at points)))
      (digits_length (drop 1 (drop at points))))
      (letter_read ∙ t)
      ∙ ap (λ b. exponent_of true b (digits_length (drop 2 (drop at points))) (digits_length (drop 1 (drop at points))))
      (second_at points at is_plus_minus refl ∙ s)
      ∙ ap (λ l. exponent_of true signed (digits_length l) (digits_length (drop 1 (drop at points)))) (drop-drop 2 at points)
      ∙ ap (λ l. exponent_of true signed (digits_length (drop (at + 2) points)) (digits_length l)) (drop-drop 1 at points)

-- a number, by whether a point stands behind its first digits
module _ (points : List ℕ) (from : ℕ) (other : Token) (n : ℕ) (e : n ≡ digits_length (drop from points)) where
  by_digits : number_or other (drop from points) ≡ number_by other n (drop from points)
  unfolding number_or
  by_digits = ap (λ m. number_by other m (drop from points)) (sym e)

  point_read : starts_with 0x2E (drop n (drop from points)) ≡ eqb (get_or points (from + n) past_end) 0x2E
  point_read = ap (starts_with 0x2E) (drop-drop n from points) ∙ starts_at points (from + n) 0x2E refl

  pub number_whole : eqb (get_or points (from + n) past_end) 0x2E ≡ false → (x : ℕ) → x ≡ exponent_length (drop (from + n) points)
      → number_or other (drop from points) ≡ whole_or other n x
  number_whole f x h =
      by_digits
      ∙ rw (point_read, f) (ap (whole_or other n) (ap exponent_length (drop-drop n from points) ∙ sym h))

  pub number_pointed : eqb (get_or points (from + n) past_end) 0x2E ≡ true → (m x : ℕ) → m ≡ digits_length (drop (from + n + 1) points)
      → x ≡ exponent_length (drop (from + n + 1 + m) points) → number_or other (drop from points) ≡ pointed_or other n m x
  number_pointed t m x g h =
      let y : from + (n + 1) ≡ from + n + 1 = omega arith in
      let z : from + (n + 1 + m) ≡ from + n + 1 + m = omega arith in
      let d : digits_length (drop (n + 1) (drop from points)) ≡ m = ap digits_length (drop-drop (n + 1) from points ∙ ap (λ k. drop k points) y) ∙ sym g in
      let q : exponent_length (drop (n + 1 + m) (drop from points)) ≡ x =
      ap exponent_length (drop-drop (n + 1 + m) from points ∙ ap (λ k. drop k points) z) ∙ sym h in
      by_digits
      ∙ rw (point_read, t) (ap (λ k. pointed_or other n k (exponent_length (drop (n + 1 + k) (drop from points)))) d ∙ ap (pointed_or other n m) q)
