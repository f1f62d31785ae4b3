-- Of the terms that there were before numbers had a sign, each number counts for what it did, and all stand in the order in which they stood.
use Prim.Native.Nat.{ℕ, ◌+◌, ◌*◌}
use native.Mathlib.Omega.{arith}
use mathlib.Core.Path.{◌≡◌, refl, sym, ◌∙◌}
use mathlib.Core.Bool.{Bool, true, false, cond}
use lib.Dec.{ltb, leb}
use lib.IntN.{pos}
use borrow.Author.Tests.{eqb-true, eqb-false, lt-ltb, le-ltb, le-leb, lt-leb, ltb-true, ltb-false, leb-true, leb-false}
use Rattle.words.specs.Words.{number_kind, half_values, term_values, term_kind, term_value, is_number, is_variable}
use Rattle.words.specs.Words.{number_value, value_rank, key_rank}
use Rattle.words.specs.Former.{former_rank, former_key_rank, Former}
use Rattle.sequences.proofs.Orders.{less, same, more, three}
use Rattle.words.proofs.Signed.{pos_sub, signed_low}
use Rattle.words.proofs.Ranks.{number_rank, other_rank, rank_below}

-- a number counts for its 30 bits
pub value_as_before : (w : ℕ) → term_kind w ≡ number_kind → Former w → number_value w ≡ pos (term_value w)
value_as_before w e f = signed_low half_values (term_value w) (f e) ∙ sym (pos_sub (term_value w))

-- its place is as far up as there are numbers below zero; those of names and texts stay
moved : (w : ℕ) → Former w → value_rank w ≡ former_rank w + cond (is_number w) half_values 0
moved w f = go (is_number w) refl
  where
    go : (b : Bool) → is_number w ≡ b → value_rank w ≡ former_rank w + cond b half_values 0
    go true e =
        let k = eqb-true (term_kind w) number_kind e in
        let r = number_rank w k in
        let l = f k in
        omega arith
    go false e = let r = other_rank w (eqb-false (term_kind w) number_kind e) in omega arith

-- ---- among the terms of a kind
module _ (a b : ℕ) (f : Former a) (g : Former b) (e : term_kind a ≡ term_kind b) where
  up : ℕ
  up = cond (is_number b) half_values 0

  both : (value_rank a ≡ former_rank a + up) × (value_rank b ≡ former_rank b + up)
  unfolding up
  both = (moved a f ∙ (rw e), moved b g)

  pub less_as_before : ltb (value_rank a) (value_rank b) ≡ ltb (former_rank a) (former_rank b)
  less_as_before = go (ltb (former_rank a) (former_rank b)) refl
    where
      go : (t : Bool) → ltb (former_rank a) (former_rank b) ≡ t → ltb (value_rank a) (value_rank b) ≡ t
      go true p = lt-ltb (value_rank a) (value_rank b) (omega (arith, ltb-true (former_rank a) (former_rank b) p, both.0, both.1))
      go false p = le-ltb (value_rank a) (value_rank b) (omega (arith, ltb-false (former_rank a) (former_rank b) p, both.0, both.1))

  pub at_most_as_before : leb (value_rank a) (value_rank b) ≡ leb (former_rank a) (former_rank b)
  at_most_as_before = go (leb (former_rank a) (former_rank b)) refl
    where
      go : (t : Bool) → leb (former_rank a) (former_rank b) ≡ t → leb (value_rank a) (value_rank b) ≡ t
      go true p = le-leb (value_rank a) (value_rank b) (omega (arith, leb-true (former_rank a) (former_rank b) p, both.0, both.1))
      go false p = lt-leb (value_rank a) (value_rank b) (omega (arith, leb-false (former_rank a) (former_rank b) p, both.0, both.1))

-- ---- in the order of keys
pub key_less_as_before : (a b : ℕ) → Former a → Former b → ltb (key_rank a) (key_rank b) ≡ ltb (former_key_rank a) (former_key_rank b)
key_less_as_before a b f g = go (is_variable a) refl (is_variable b) refl
  where
    -- of bound terms, first by their kinds
    bound : ltb (1 + term_kind a * term_values + value_rank a) (1 + term_kind b * term_values + value_rank b)
        ≡ ltb (1 + term_kind a * term_values + former_rank a) (1 + term_kind b * term_values + former_rank b)
    bound =
        let l = rank_below a in
        let m = rank_below b in
        elim (three (term_kind a) (term_kind b)) [
          | less h ↦
              lt-ltb (1 + term_kind a * term_values + value_rank a) (1 + term_kind b * term_values + value_rank b) (omega arith)
              ∙ sym (lt-ltb (1 + term_kind a * term_values + former_rank a) (1 + term_kind b * term_values + former_rank b) (omega arith))
          | same h ↦ by_rank h (ltb (former_rank a) (former_rank b)) refl
          | more h ↦
              le-ltb (1 + term_kind a * term_values + value_rank a) (1 + term_kind b * term_values + value_rank b) (omega arith)
              ∙ sym (le-ltb (1 + term_kind a * term_values + former_rank a) (1 + term_kind b * term_values + former_rank b) (omega arith))
        ]
      where
        by_rank : term_kind a ≡ term_kind b → (t : Bool) → ltb (former_rank a) (former_rank b) ≡ t
            → ltb (1 + term_kind a * term_values + value_rank a) (1 + term_kind b * term_values + value_rank b)
            ≡ ltb (1 + term_kind a * term_values + former_rank a) (1 + term_kind b * term_values + former_rank b)
        by_rank h true p =
            let x = ltb-true (former_rank a) (former_rank b) p in
            let y = ltb-true (value_rank a) (value_rank b) (less_as_before a b f g h ∙ p) in
            lt-ltb (1 + term_kind a * term_values + value_rank a) (1 + term_kind b * term_values + value_rank b) (omega arith)
            ∙ sym (lt-ltb (1 + term_kind a * term_values + former_rank a) (1 + term_kind b * term_values + former_rank b) (omega arith))
        by_rank h false p =
            let x = ltb-false (former_rank a) (former_rank b) p in
            let y = ltb-false (value_rank a) (value_rank b) (less_as_before a b f g h ∙ p) in
            le-ltb (1 + term_kind a * term_values + value_rank a) (1 + term_kind b * term_values + value_rank b) (omega arith)
            ∙ sym (le-ltb (1 + term_kind a * term_values + former_rank a) (1 + term_kind b * term_values + former_rank b) (omega arith))

    go : (x : Bool) → is_variable a ≡ x → (y : Bool) → is_variable b ≡ y → ltb (key_rank a) (key_rank b) ≡ ltb (former_key_rank a) (former_key_rank b)
    go true p true q = rw (p, q)
    go true p false q =
        rw (p, q)
        (lt-ltb 0 (1 + term_kind b * term_values + value_rank b) (omega arith)
        ∙ sym (lt-ltb 0 (1 + term_kind b * term_values + former_rank b) (omega arith)))
    go false p true q =
        rw (p, q)
        (le-ltb (1 + term_kind a * term_values + value_rank a) 0 (omega arith)
        ∙ sym (le-ltb (1 + term_kind a * term_values + former_rank a) 0 (omega arith)))
    go false p false q = rw (p, q) bound
