-- Tests 11, 12 and 14 for a best-of ending, by their parts; and lists that pass them may be merged.
use Prim.Native.Nat.{ℕ, ◌+◌, ◌*◌, ◌/◌, ◌%◌, ◌≤◌, ◌<◌, min}
use native.Mathlib.Nat.{min-eq_left, min-eq_right}
use Rattle.std.proofs.Math.Logic.{⊎_elim}
use Rattle.std.proofs.lemmas.Bool.{cases_lt}
use native.Mathlib.Omega.{arith}
use mathlib.Core.Path.{◌≡◌, refl, sym, ◌∙◌, ap}
use mathlib.Core.Bool.{Bool, true, false, ◌&&◌}
use mathlib.Core.List.{List, [], ◌∷◌}
use lib.Dec.{eqb, leb}
use lib.ListN.{length, take}
use lib.Seq.{length-take-le}
use borrow.Author.Tests.{eq-eqb, ne_eqb, le-leb, lt-leb, eqb-true, leb-true}
use Rattle.words.specs.Words.{is_value}
use Rattle.sequences.specs.Sequences.{all}
use Rattle.sequences.proofs.Booleans.{and_left, and_right}
use Rattle.plans.specs.Endings.{top}
use Rattle.lists.specs.Gathering.{threshold_right, list_right, merged}
use Rattle.list_best.specs.BestLists.{TopParts, BestList, Mergeable}
use Rattle.list_best.proofs.BestTests.{in_order}
use Rattle.list_best.proofs.MergingBest.{merged_most, merged_all_lem}

-- a test of which a part fails
and-false : (a : Bool) {b : Bool} → b ≡ false → a && b ≡ false
and-false true e = e
and-false false e = refl

-- ---- test 11
module _ (k : ℕ) (vs keys : List ℕ) where
  pub threshold_empty : (threshold : List ℕ) → length threshold ≡ 0 → true ≡ threshold_right (top k vs keys) threshold
  unfolding threshold_right
  threshold_empty [] e = refl
  threshold_empty (w ∷ ws) e = absurd (omega (arith, e))

  pub threshold_row : (threshold : List ℕ) → (length threshold ≡ 0 → ⊥) → length threshold ≡ length vs
      → {t : Bool} → t ≡ all is_value threshold → t ≡ threshold_right (top k vs keys) threshold
  unfolding threshold_right
  threshold_row [] n e p = absurd (n refl)
  threshold_row (w ∷ ws) n e p = p ∙ rw (eq-eqb (length (w ∷ ws)) (length vs) e)

  pub threshold_wrong : (threshold : List ℕ) → (length threshold ≡ 0 → ⊥) → (length threshold ≡ length vs → ⊥)
      → false ≡ threshold_right (top k vs keys) threshold
  unfolding threshold_right
  threshold_wrong [] n e = absurd (n refl)
  threshold_wrong (w ∷ ws) n e = rw (ne_eqb (length (w ∷ ws)) (length vs) e)

  -- ---- test 12
  module _ (ws : List ℕ) where
    pub part_row : (length ws % length vs ≡ 0 → ⊥) → false ≡ list_right (top k vs keys) ws
    unfolding list_right
    part_row n = rw (ne_eqb (length ws % length vs) 0 n)

    pub too_many_lem : k < length ws / length vs → false ≡ list_right (top k vs keys) ws
    unfolding list_right
    too_many_lem l =
        sym (and-false (eqb (length ws % length vs) 0)
        (and-false (all is_value ws) (rw (lt-leb (length ws / length vs) k l))))

    pub no_value : {t : Bool} → t ≡ all is_value ws → t ≡ false → false ≡ list_right (top k vs keys) ws
    unfolding list_right
    no_value e p = sym (and-false (eqb (length ws % length vs) 0) (rw (sym e ∙ p)))

    pub by_order : length ws % length vs ≡ 0 → length ws / length vs ≤ k → {t : Bool} → t ≡ all is_value ws → t ≡ true
        → {r : Bool} → r ≡ in_order vs keys ws → r ≡ list_right (top k vs keys) ws
    unfolding list_right
    by_order e l v p q =
        q ∙ rw (eq-eqb (length ws % length vs) 0 e, sym v ∙ p, le-leb (length ws / length vs) k l)

    -- what passes it is a best-of list
    pub right_best : list_right (top k vs keys) ws ≡ true → BestList k vs keys ws
    unfolding list_right
    right_best e =
        let a = and_right (eqb (length ws % length vs) 0) _ e in
        let b = and_right (all is_value ws) _ a in
        record {
          whole = eqb-true (length ws % length vs) 0 (and_left (eqb (length ws % length vs) 0) _ e);
          few = leb-true (length ws / length vs) k (and_left (leb (length ws / length vs) k) _ b);
          rising = and_right (leb (length ws / length vs) k) _ b;
        }

  -- ---- test 14: the words of both lists, or those of k rows
  module _ (kept : List ℕ) (used : ℕ) (list : List ℕ) (some : 0 < length vs) (fit : used ≤ length kept)
      (whole : length list % length vs ≡ 0) (b : BestList k vs keys (take used kept)) where
    front : length (take used kept) ≡ used
    front = length-take-le used kept fit

    room_both : used + length list < k * length vs
        → leb (used + length list) (length kept) ≡ leb (length (merged (top k vs keys) (take used kept) list)) (length kept)
    room_both h =
        ap (λ n. leb n (length kept))
        (sym (merged_all_lem k vs keys some (take used kept) b list whole (omega (arith, front)) ∙ ap (λ n. n + length list) front))

    room_most : k * length vs ≤ used + length list
        → leb (k * length vs) (length kept) ≡ leb (length (merged (top k vs keys) (take used kept) list)) (length kept)
    room_most h =
        ap (λ n. leb n (length kept)) (sym (merged_most k vs keys some (take used kept) b list whole (omega (arith, front))))

    pub room_least : leb (min (used + length list) (k * length vs)) (length kept)
        ≡ leb (length (merged (top k vs keys) (take used kept) list)) (length kept)
    room_least =
        ⊎_elim
        (λ (h : used + length list < k * length vs). ap (λ n. leb n (length kept)) (min-eq_left (omega arith)) ∙ room_both h)
        (λ (h : k * length vs ≤ used + length list). ap (λ n. leb n (length kept)) (min-eq_right h) ∙ room_most h)
        (cases_lt (used + length list) (k * length vs))

-- lists that pass tests 12 and 14 may be merged
pub mergeable : {k : ℕ} {vs keys kept : List ℕ} {used : ℕ} {list : List ℕ} → TopParts k vs keys → used ≤ length kept
    → list_right (top k vs keys) (take used kept) ≡ true → list_right (top k vs keys) list ≡ true
    → length (merged (top k vs keys) (take used kept) list) ≤ length kept → Mergeable k vs keys kept used list
mergeable {k} {vs} {keys} {kept} {used} {list} p f a b r =
    record {
      parts = p;
      fit = f;
      kept = right_best k vs keys (take used kept) a;
      whole = (right_best k vs keys list b).whole;
      room = r;
    }
