-- The last row of a list: its last words, and, where the list is sorted, a row that none of the list comes after.
use Prim.Native.Nat.{ℕ, suc, ◌+◌, ◌-◌}
use native.Mathlib.Omega.{arith}
use native.Mathlib.Nat.{suc-mul}
use mathlib.Core.Path.{◌≡◌, ◌∙◌, ap}
use mathlib.Core.Bool.{Bool, false, not}
use mathlib.Core.List.{List, [], ◌∷◌, ◌++◌, flatten, append-nil}
use lib.ListN.{length, drop, length-append}
use lib.Seq.{drop-append-add}
use Rattle.sequences.proofs.Booleans.{yes, no, decided}
use Rattle.sequences.proofs.Orders.{Ordered}
use Rattle.sequences.proofs.Each.{Each}
use Rattle.lists.proofs.Records.{Wide, length_flatten}
use Rattle.sequences.proofs.Sorting.{Sorted}
use Rattle.lists.proofs.Counts.{count, count_nil, count_yes}
use Rattle.lists.proofs.Thresholds.{up_to}

unfoldable pub last_of : {A : Type 0} → A → List A → A
last_of r [] = r
last_of r (s ∷ ss) = last_of s ss

-- its words are the last w of the list's
pub last_row_lem : (w : ℕ) (r : List ℕ) (rs : List (List ℕ)) → Wide w (r ∷ rs)
    → drop (length (flatten (r ∷ rs)) - w) (flatten (r ∷ rs)) ≡ last_of r rs
unfolding last_of flatten
last_row_lem w r [] h =
    let a = length-append r [] in
    let n : length (r ++ []) - w ≡ 0 = omega (arith, h.0) in
    ap (λ m. drop m (r ++ [])) n ∙ append-nil r
last_row_lem w r (s ∷ ss) h =
    let l = length_flatten w (s ∷ ss) h.1 in
    let m = suc-mul (length ss) w in
    let a = length-append r (flatten (s ∷ ss)) in
    let n : length (r ++ flatten (s ∷ ss)) - w ≡ length r + (length (flatten (s ∷ ss)) - w) = omega (arith, h.0) in
    ap (λ m. drop m (r ++ flatten (s ∷ ss))) n
    ∙ drop-append-add r (flatten (s ∷ ss)) (length (flatten (s ∷ ss)) - w)
    ∙ last_row_lem w s ss h.1

module _ {A : Type 0} (before : A → A → Bool) (o : Ordered before) where
  irreflexive : (x : A) → before x x ≡ false
  irreflexive x = elim (decided (before x x)) [ yes e ↦ o.asym x x e | no e ↦ e ]

  last_none : (x s : A) (ss : List A) → Each (λ y. before y x ≡ false) (s ∷ ss) → before (last_of s ss) x ≡ false
  unfolding last_of
  last_none x s [] n = n.0
  last_none x s (r ∷ ss) n = last_none x r ss n.1

  -- each of a sorted list is up to its last
  pub all_up_to : (r : A) (rs : List A) → Sorted before (r ∷ rs) → count (up_to before (last_of r rs)) (r ∷ rs) ≡ suc (length rs)
  unfolding last_of
  all_up_to r [] s = count_yes (up_to before r) r [] (ap not (irreflexive r)) ∙ ap suc (count_nil (up_to before r))
  all_up_to r (x ∷ xs) s =
      count_yes (up_to before (last_of x xs)) r (x ∷ xs) (ap not (last_none r x xs s.0)) ∙ ap suc (all_up_to x xs s.1)
