-- Places whose fields ascend strictly, over any number of columns and of places: an earlier one has its fields before those of a
-- later one, and no two have the same. The three orders of the tables are instances.
use Prim.Native.Nat.{ℕ, zero, suc, ◌<◌}
use native.Mathlib.Omega.{arith}
use native.Mathlib.Decide.{dec_lt}
use mathlib.Core.Path.{◌≡◌, sym, subst}
use mathlib.Core.Bool.{true}
use mathlib.Core.List.{List}
use lib.ListN.{length}
use Rattle.sequences.specs.Sequences.{lex_before}
use Rattle.sequences.proofs.Booleans.{absurd_true}
use Rattle.sequences.proofs.Orders.{Three, less, same, more, three, lex_trans, lex_asym}

-- `count` places with a field for each of `columns` columns, which come before those of the next place
pub record Sorted (columns count : ℕ) (fields : ℕ → List ℕ) : Type 0 where
  pub width : (place : ℕ) → place < count → length (fields place) ≡ columns
  pub up : (place : ℕ) → suc place < count → lex_before (fields place) (fields (suc place)) ≡ true

module _ (columns count : ℕ) (fields : ℕ → List ℕ) (sorted : Sorted columns count fields) where
  -- an earlier place has its fields before those of a later one
  pub ascend : (j i : ℕ) → j < i → i < count → lex_before (fields j) (fields i) ≡ true
  ascend j zero h l = absurd (omega arith)
  ascend j (suc i) h l =
      elim (dec_lt j i) [
        | yes k ↦ lex_trans (fields j) (fields i) (fields (suc i)) (ascend j i k (omega arith)) (sorted.up i l)
        | no k ↦ subst (λ n. lex_before (fields n) (fields (suc i)) ≡ true) (let x : i ≡ j = omega arith in x) (sorted.up i l)
      ]

  apart : (j i : ℕ) → j < i → i < count → fields j ≡ fields i → ⊥
  apart j i h l e =
      let p : lex_before (fields j) (fields j) ≡ true = subst (λ xs. lex_before (fields j) xs ≡ true) (sym e) (ascend j i h l) in
      absurd_true p (lex_asym (fields j) (fields j) p)

  -- no two places have the same fields
  pub one_fields : (j i : ℕ) → j < count → i < count → fields j ≡ fields i → j ≡ i
  one_fields j i l k e = go (three j i)
    where
      go : Three j i → j ≡ i
      go (less h) = absurd (apart j i h k e)
      go (same h) = h
      go (more h) = absurd (apart i j h l (sym e))
