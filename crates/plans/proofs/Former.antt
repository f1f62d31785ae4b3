-- Whoever writes 64 for 0 has the list of before, for every k.
use Prim.Native.Nat.{ℕ, zero, suc}
use native.Mathlib.Omega.{arith}
use mathlib.Core.Path.{◌≡◌, refl, ap, ◌∙◌}
use mathlib.Core.List.{List, ◌∷◌}
use borrow.Author.Tests.{ne_eqb}
use Rattle.words.specs.Words.{low}
use Rattle.plans.specs.declared.EndingKind.TheVariants.{Top}
use Rattle.plans.specs.Endings.{top, best_count, row_variables, after_rows, ending_as}
use Rattle.plans.specs.Former.{former_count, written}

pub as_before : (k : ℕ) → best_count (written k) ≡ former_count k
as_before zero = refl
as_before (suc k) = rw (ne_eqb (suc k) 0 (λ e. omega arith)) refl

-- so a best-of ending whose k is written so reads as the ending did before, whatever stands behind its first word
pub ending_as_before : (w v : ℕ) (ws : List ℕ) → low v ≡ written (low w)
    → ending_as Top (v ∷ ws) ≡ top (former_count (low w)) (row_variables ws) (after_rows ws)
unfolding ending_as
ending_as_before w v ws e = ap (λ k. top k (row_variables ws) (after_rows ws)) (ap best_count e ∙ as_before (low w))
