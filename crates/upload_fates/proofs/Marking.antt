-- Marking row by row, and place by place.
use Prim.Native.Nat.{ℕ, zero, suc, ◌+◌, ◌≤◌, ◌<◌}
use native.Mathlib.Omega.{arith}
use native.Mathlib.Numerals.{add-one}
use mathlib.Core.Path.{◌≡◌, refl, sym, ◌∙◌, ap}
use mathlib.Core.Bool.{true, false, cond}
use mathlib.Core.List.{List, [], ◌∷◌, ◌++◌, append-nil}
use lib.ListN.{length, get_or, set}
use lib.Seq.{get_or-set_same, get_or-set_other}
use Rattle.sequences.specs.Sequences.{keep, numbers}
use Rattle.sequences.proofs.Keeping.{keep_append, keep_yes, keep_no, keep_nil}
use Rattle.sequences.proofs.Orders.{Three, less, same, more, three}
use Rattle.uploads.specs.Uploads.{kept_code, wrong_code, repeat_code, kinds_good}
use Rattle.upload_fates.specs.Judging.{good_numbers, Marked, follows, marked}

module _ (up : List ℕ) where
  pub good_none : [] ≡ good_numbers up 0
  unfolding numbers keep
  good_none = refl

  good_suc : (n : ℕ) → good_numbers up (suc n) ≡ good_numbers up n ++ keep (kinds_good up) (n ∷ [])
  unfolding numbers
  good_suc n = keep_append (kinds_good up) (numbers n) (n ∷ [])

  pub good_next : (n : ℕ) → kinds_good up n ≡ true → good_numbers up n ++ (n ∷ []) ≡ good_numbers up (n + 1)
  good_next n e =
      ap (λ l. good_numbers up n ++ l) (sym (keep_yes (kinds_good up) n [] e ∙ ap (λ l. n ∷ l) (keep_nil (kinds_good up))))
      ∙ sym (good_suc n) ∙ ap (good_numbers up) (sym (add-one n))

  pub good_skip : (n : ℕ) → kinds_good up n ≡ false → good_numbers up n ≡ good_numbers up (n + 1)
  good_skip n e =
      sym (append-nil (good_numbers up n))
      ∙ ap (λ l. good_numbers up n ++ l) (sym (keep_no (kinds_good up) n [] e ∙ keep_nil (kinds_good up)))
      ∙ sym (good_suc n) ∙ ap (good_numbers up) (sym (add-one n))

  pub mark_none : (fates : List ℕ) → Marked up fates 0
  mark_none fates = record { mark = λ row h. absurd (omega arith) }

  pub mark_next : (fates : List ℕ) (n v : ℕ) → Marked up fates n → n < length fates → v ≡ cond (kinds_good up n) kept_code wrong_code
      → Marked up (set fates n v) (n + 1)
  mark_next fates n v m h e = record { mark = λ row l. go row l (three row n) }
    where
      go : (row : ℕ) → row < n + 1 → Three row n → get_or (set fates n v) row 0 ≡ cond (kinds_good up row) kept_code wrong_code
      go row l (less k) = get_or-set_other fates n row v 0 (λ x. omega arith) ∙ m.mark row k
      go row l (same k) = rw k (get_or-set_same fates n v 0 h ∙ e)
      go row l (more k) = absurd (omega arith)

module _ (up list fates : List ℕ) where
  pub marked_one : fates ≡ marked up list fates 1
  unfolding marked
  marked_one = refl

  marked_zero : fates ≡ marked up list fates 0
  unfolding marked
  marked_zero = refl

  pub marked_end : (place : ℕ) → 1 ≤ place → length list ≤ place → (1 < place → place ≡ length list)
      → marked up list fates place ≡ marked up list fates (length list)
  marked_end place h l e = go (length list) refl place h l e
    where
      go : (n : ℕ) → length list ≡ n → (p : ℕ) → 1 ≤ p → length list ≤ p → (1 < p → p ≡ length list)
          → marked up list fates p ≡ marked up list fates n
      go n m zero h l e = absurd (omega arith)
      go n m (suc (suc p)) h l e = ap (marked up list fates) (e (omega arith) ∙ m)
      go zero m (suc zero) h l e = sym marked_one ∙ none
        where
          none : fates ≡ marked up list fates 0
          none = marked_zero
      go (suc zero) m (suc zero) h l e = refl
      go (suc (suc n)) m (suc zero) h l e = absurd (omega arith)

  module _ (place : ℕ) (h : 1 ≤ place) where
    pub marked_yes : follows up list place ≡ true → set (marked up list fates place) (get_or list place 0) repeat_code ≡ marked up list fates (place + 1)
    unfolding marked
    marked_yes e = rw (add-one place) (go place h e)
      where
        go : (p : ℕ) → 1 ≤ p → follows up list p ≡ true → set (marked up list fates p) (get_or list p 0) repeat_code ≡ marked up list fates (suc p)
        go zero h e = absurd (omega arith)
        go (suc p) h e = rw e

    pub marked_no : follows up list place ≡ false → marked up list fates place ≡ marked up list fates (place + 1)
    unfolding marked
    marked_no e = rw (add-one place) (go place h e)
      where
        go : (p : ℕ) → 1 ≤ p → follows up list p ≡ false → marked up list fates p ≡ marked up list fates (suc p)
        go zero h e = absurd (omega arith)
        go (suc p) h e = rw e
