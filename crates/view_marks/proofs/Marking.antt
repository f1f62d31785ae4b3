-- Marks, one row more.
use Prim.Native.Nat.{ℕ, ◌+◌, ◌≤◌, ◌<◌}
use native.Mathlib.Omega.{arith}
use native.Mathlib.Numerals.{add-one}
use mathlib.Core.Path.{◌≡◌, sym, ◌∙◌, ap}
use mathlib.Core.Bool.{Bool, cond}
use mathlib.Core.List.{List, [], ◌∷◌, ◌++◌, map, map-append}
use lib.ListN.{length, length-map, set}
use Rattle.sequences.specs.Sequences.{numbers, over}
use Rattle.sequences.proofs.Booleans.{Decided, yes, no, decided}
use Rattle.sequences.proofs.Buffers.{over_next}
use Rattle.sequences.proofs.Keeping.{length_keep}
use Rattle.sequences.proofs.Numbers.{numbers_none, numbers_next, numbers_length}
use Rattle.views.specs.Renumbered.{passed_before}
use Rattle.views.proofs.Renumbering.{passed_yes, passed_no}
use Rattle.view_marks.specs.Marks.{mark_of, marks_of}

module _ (f : ℕ → Bool) where
  pub marks_none : [] ≡ marks_of f 0
  unfolding marks_of
  marks_none = ap (map (mark_of f)) numbers_none

  pub marks_length : (n : ℕ) → length (marks_of f n) ≡ n
  unfolding marks_of
  marks_length n = length-map (numbers n) (mark_of f) ∙ numbers_length n

  pub marks_next : (n : ℕ) → marks_of f n ++ (mark_of f n ∷ []) ≡ marks_of f (n + 1)
  unfolding marks_of
  marks_next n =
      sym (map-append (mark_of f) (numbers n) (n ∷ []))
      ∙ ap (map (mark_of f)) (numbers_next n)
      ∙ ap (λ k. map (mark_of f) (numbers k)) (sym (add-one n))

  -- a mark more over a buffer
  pub marks_over : (n : ℕ) (before marks : List ℕ) (a : ℕ) → n < length before → marks ≡ over (marks_of f n) before
      → a ≡ mark_of f n → set marks n a ≡ over (marks_of f (n + 1)) before
  marks_over n before marks a h e m =
      let l = marks_length n in
      rw (e, m)
      (ap (λ k. set (over (marks_of f n) before) k (mark_of f n)) (sym l)
      ∙ over_next (marks_of f n) before (mark_of f n) (omega arith)
      ∙ ap (λ ws. over ws before) (marks_next n))

  pub number_most : (n : ℕ) → passed_before f n ≤ n
  number_most n = omega (arith, length_keep f (numbers n), numbers_length n)

  pub number_next : (n : ℕ) → cond (f n) (passed_before f n + 1) (passed_before f n) ≡ passed_before f (n + 1)
  number_next n = go (decided (f n))
    where
      go : Decided (f n) → cond (f n) (passed_before f n + 1) (passed_before f n) ≡ passed_before f (n + 1)
      go (yes e) = rw e (sym (passed_yes f n e) ∙ ap (passed_before f) (sym (add-one n)))
      go (no e) = rw e (sym (passed_no f n e) ∙ ap (passed_before f) (sym (add-one n)))
