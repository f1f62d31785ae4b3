-- A delivered row taken up into a best-of list: only where it is ahead of the threshold, and then it is put in.
use Prim.Native.Nat.{ℕ, ◌*◌, ◌≤◌, ◌<◌}
use native.Mathlib.Omega.{arith}
use native.Mathlib.Nat.{mul-le-mul_right, div-add-mod'}
use mathlib.Core.Path.{◌≡◌, refl, sym, ◌∙◌, ap, ap₂}
use mathlib.Core.Bool.{Bool, true, false}
use mathlib.Core.List.{List, [], ◌∷◌, ◌++◌}
use lib.Dec.{eqb}
use lib.ListN.{length, take, drop, take-append-drop}
use lib.Seq.{length-take-le}
use borrow.Author.Tests.{eqb-true}
use Rattle.words.specs.Bindings.{Bindings, nothing_bound}
use Rattle.sequences.specs.Sequences.{over}
use Rattle.sequences.proofs.Booleans.{and_left, yes, no, decided}
use Rattle.sequences.proofs.Buffers.{take_over}
use Rattle.plans.specs.Endings.{top}
use Rattle.lists.specs.Rows.{project, row_before}
use Rattle.lists.specs.Gathering.{threshold_right}
use Rattle.lists.specs.Delivering.{is_ahead, with_best, with_row}
use Rattle.list_best.specs.BestLists.{BestList, Insertable, Deliverable}
use Rattle.lists.proofs.Writing.{length_project}
use Rattle.list_best.proofs.BestWords.{with_best_lem}

-- ---- the threshold
module _ (before : List ℕ → List ℕ → Bool) (threshold x : List ℕ) where
  pub none_sent : length threshold ≡ 0 → true ≡ is_ahead before threshold x
  none_sent e = go threshold e
    where
      go : (t : List ℕ) → length t ≡ 0 → true ≡ is_ahead before t x
      go [] e = refl
      go (w ∷ ws) e = absurd (omega (arith, e))

  pub one_sent : (length threshold ≡ 0 → ⊥) → {t : Bool} → t ≡ before x threshold → t ≡ is_ahead before threshold x
  one_sent n e = e ∙ go threshold n
    where
      go : (t : List ℕ) → (length t ≡ 0 → ⊥) → before x t ≡ is_ahead before t x
      go [] n = absurd (n refl)
      go (w ∷ ws) n = refl

-- a threshold that passes test 11 is a row
pub threshold_width : (k : ℕ) (vs keys threshold : List ℕ) → threshold_right (top k vs keys) threshold ≡ true
    → 0 < length threshold → length vs ≤ length threshold
unfolding threshold_right
threshold_width k vs keys [] e h = absurd (omega arith)
threshold_width k vs keys (w ∷ ws) e h =
    omega (arith, eqb-true (length (w ∷ ws)) (length vs) (and_left (eqb (length (w ∷ ws)) (length vs)) _ e))

-- ---- the list with a row
module _ (k : ℕ) (vs keys threshold list : List ℕ) (b : Bindings) where
  pub taken_up : is_ahead (row_before vs keys) threshold (project vs b) ≡ true
      → with_row (top k vs keys) threshold list b ≡ with_best k vs keys list (project vs b)
  unfolding with_row
  taken_up e = rw e

  pub left_behind : is_ahead (row_before vs keys) threshold (project vs b) ≡ false → with_row (top k vs keys) threshold list b ≡ list
  unfolding with_row
  left_behind e = rw e

-- at most the words of k rows
pub best_most : (k : ℕ) (vs keys ws : List ℕ) → BestList k vs keys ws → length ws ≤ k * length vs
best_most k vs keys ws b =
    omega (arith, div-add-mod' (length ws) (length vs), b.whole, mul-le-mul_right (length vs) b.few)

-- the list with a row has room in the output
pub with_room_lem : {k : ℕ} {vs keys threshold out : List ℕ} {used : ℕ} → Deliverable k vs keys threshold out used → (b : Bindings)
    → length (with_row (top k vs keys) threshold (take used out) b) ≤ length out
with_room_lem {k} {vs} {keys} {threshold} {out} {used} d b =
    let list = take used out in
    let best = with_best_lem k vs keys d.parts.some list (project vs b) d.best (length_project vs b) in
    elim (decided (is_ahead (row_before vs keys) threshold (project vs b))) [
      | yes e ↦ omega (arith, ap length (taken_up k vs keys threshold list b e), best_most k vs keys (with_best k vs keys list (project vs b)) best, d.room)
      | no e ↦ omega (arith, ap length (left_behind k vs keys threshold list b e), length-take-le used out d.fit, d.fit)
    ]

module _ {k : ℕ} {vs keys threshold out : List ℕ} {used : ℕ} (d : Deliverable k vs keys threshold out used) (b : Bindings)
    {row : List ℕ} (er : row ≡ over (project vs b) nothing_bound) where
  pub row_front : take (length vs) row ≡ project vs b
  row_front = ap₂ take (sym (length_project vs b)) er ∙ take_over (project vs b) nothing_bound

  pub row_width_lem : length (take (length vs) row) ≡ length vs
  row_width_lem = ap length row_front ∙ length_project vs b

  pub insertable : Insertable k vs keys (take (length vs) row) out used
  insertable =
      let w = with_best_lem k vs keys d.parts.some (take used out) (take (length vs) row) d.best row_width_lem in
      let m = best_most k vs keys (with_best k vs keys (take used out) (take (length vs) row)) w in
      record { parts = d.parts; width = row_width_lem; fit = d.fit; best = d.best; room = omega (arith, d.room) }

  module _ {t : Bool} (et : t ≡ is_ahead (row_before vs keys) threshold (take (length vs) row)) where
    ahead_is : is_ahead (row_before vs keys) threshold (project vs b) ≡ t
    ahead_is = sym (et ∙ ap (is_ahead (row_before vs keys) threshold) row_front)

    pub delivered_in_lem : t ≡ true → {r : ℕ} {after : List ℕ}
        → (r ≡ length (with_best k vs keys (take used out) (take (length vs) row)))
        × (after ≡ over (with_best k vs keys (take used out) (take (length vs) row)) out)
        → (r ≡ length (with_row (top k vs keys) threshold (take used out) b))
        × (after ≡ over (with_row (top k vs keys) threshold (take used out) b) out)
    delivered_in_lem p q =
        let e : with_best k vs keys (take used out) (take (length vs) row) ≡ with_row (top k vs keys) threshold (take used out) b =
        ap (with_best k vs keys (take used out)) row_front ∙ sym (taken_up k vs keys threshold (take used out) b (ahead_is ∙ p)) in
        (q.0 ∙ ap length e, q.1 ∙ ap (λ x. over x out) e)

    pub delivered_out : t ≡ false
        → (used ≡ length (with_row (top k vs keys) threshold (take used out) b))
        × (out ≡ over (with_row (top k vs keys) threshold (take used out) b) out)
    delivered_out p =
        let e : with_row (top k vs keys) threshold (take used out) b ≡ take used out =
        left_behind k vs keys threshold (take used out) b (ahead_is ∙ p) in
        let n = length-take-le used out d.fit in (
          sym (ap length e ∙ n),
          sym (ap (λ x. over x out) e ∙ ap (λ m. take used out ++ drop m out) n ∙ take-append-drop used out),
        )
