-- The fates after marking: what a place marks, and what no place marks.
use Prim.Native.Nat.{ℕ, zero, suc, ◌≤◌, ◌<◌}
use native.Mathlib.Omega.{arith}
use mathlib.Core.Path.{◌≡◌, refl, sym, ◌∙◌, ap, subst}
use mathlib.Core.Bool.{true}
use mathlib.Core.List.{List}
use lib.ListN.{length, get_or, set, length-set}
use lib.Seq.{get_or-set_same, get_or-set_other}
use Rattle.sequences.proofs.Booleans.{absurd_true, Decided, yes, no, decided}
use Rattle.sequences.proofs.Orders.{Three, less, same, more, three}
use Rattle.uploads.specs.Uploads.{repeat_code}
use Rattle.upload_fates.specs.Judging.{follows, marked}

module _ (up list fates : List ℕ) where
  pub marked_length : (p : ℕ) → length (marked up list fates p) ≡ length fates
  unfolding marked
  marked_length zero = refl
  marked_length (suc zero) = refl
  marked_length (suc (suc p)) = go (decided (follows up list (suc p))) (marked_length (suc p))
    where
      go : Decided (follows up list (suc p)) → length (marked up list fates (suc p)) ≡ length fates
          → length (marked up list fates (suc (suc p))) ≡ length fates
      go (yes e) ih = rw e (length-set (marked up list fates (suc p)) (get_or list (suc p) 0) repeat_code ∙ ih)
      go (no e) ih = rw e ih

  -- what no place marks
  pub unmarked : (i p : ℕ) → ((q : ℕ) → 1 ≤ q → q < p → follows up list q ≡ true → get_or list q 0 ≡ i → ⊥)
      → get_or (marked up list fates p) i 0 ≡ get_or fates i 0
  unfolding marked
  unmarked i zero h = refl
  unmarked i (suc zero) h = refl
  unmarked i (suc (suc p)) h = go (decided (follows up list (suc p))) (unmarked i (suc p) (λ q a b. h q a (omega arith)))
    where
      go : Decided (follows up list (suc p)) → get_or (marked up list fates (suc p)) i 0 ≡ get_or fates i 0
          → get_or (marked up list fates (suc (suc p))) i 0 ≡ get_or fates i 0
      go (yes e) ih =
          rw e
          (get_or-set_other (marked up list fates (suc p)) (get_or list (suc p) 0) i repeat_code 0
          (λ x. h (suc p) (omega arith) (omega arith) e (sym x)) ∙ ih)
      go (no e) ih = rw e ih

  -- what a place marks
  pub marked_at : (i p q : ℕ) → 1 ≤ q → q < p → follows up list q ≡ true → get_or list q 0 ≡ i → i < length fates
      → get_or (marked up list fates p) i 0 ≡ repeat_code
  unfolding marked
  marked_at i zero q a b f e h = absurd (omega arith)
  marked_at i (suc zero) q a b f e h = absurd (omega arith)
  marked_at i (suc (suc p)) q a b f e h =
      go (decided (follows up list (suc p))) (three q (suc p)) (three (get_or list (suc p) 0) i) (λ c. marked_at i (suc p) q a c f e h)
    where
      stays : i < length (marked up list fates (suc p))
      stays = let n = marked_length (suc p) in omega arith

      put : get_or list (suc p) 0 ≡ i → get_or (set (marked up list fates (suc p)) (get_or list (suc p) 0) repeat_code) i 0 ≡ repeat_code
      put x = rw x (get_or-set_same (marked up list fates (suc p)) i repeat_code 0 stays)

      go : Decided (follows up list (suc p)) → Three q (suc p) → Three (get_or list (suc p) 0) i
          → (q < suc p → get_or (marked up list fates (suc p)) i 0 ≡ repeat_code)
          → get_or (marked up list fates (suc (suc p))) i 0 ≡ repeat_code
      go (yes g) c (same x) ih = rw g (put x)
      go (yes g) (less c) (less x) ih =
          rw g (get_or-set_other (marked up list fates (suc p)) (get_or list (suc p) 0) i repeat_code 0 (λ y. omega arith) ∙ ih c)
      go (yes g) (less c) (more x) ih =
          rw g (get_or-set_other (marked up list fates (suc p)) (get_or list (suc p) 0) i repeat_code 0 (λ y. omega arith) ∙ ih c)
      go (yes g) (same c) (less x) ih = absurd (let y = ap (λ k. get_or list k 0) c in omega arith)
      go (yes g) (same c) (more x) ih = absurd (let y = ap (λ k. get_or list k 0) c in omega arith)
      go (yes g) (more c) (less x) ih = absurd (omega arith)
      go (yes g) (more c) (more x) ih = absurd (omega arith)
      go (no g) (less c) x ih = rw g (ih c)
      go (no g) (same c) x ih = absurd_true (subst (λ k. follows up list k ≡ true) c f) g
      go (no g) (more c) x ih = absurd (omega arith)
