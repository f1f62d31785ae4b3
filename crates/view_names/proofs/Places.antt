-- Rows by their places: a test at some place, and the rows that pass one.
use Prim.Native.Nat.{ℕ, zero, suc, ◌≤◌, ◌<◌}
use native.Mathlib.Omega.{arith}
use mathlib.Core.Path.{◌≡◌, refl, sym, ◌∙◌, ap, ap₂}
use mathlib.Core.Bool.{Bool, ◌&&◌, not}
use mathlib.Core.List.{List, [], ◌∷◌, ◌++◌, map, map-append}
use lib.ListN.{length, get_or, take}
use lib.Seq.{take-suc, take-length}
use Rattle.sequences.specs.Sequences.{all, all_below, some_below, keep, numbers}
use Rattle.sequences.proofs.Booleans.{Decided, yes, no, decided}
use Rattle.sequences.proofs.Elements.{all_below_lem}
use Rattle.sequences.proofs.Keeping.{keep_append}
use Rattle.encodings.specs.StringRows.{StringRow}
use Rattle.view_names.specs.VisibleStrings.{some_row}

below_agree : (f g : ℕ → Bool) (n : ℕ) → ((i : ℕ) → i < n → f i ≡ g i) → all_below f n ≡ all_below g n
unfolding all_below
below_agree f g zero h = refl
below_agree f g (suc n) h = ap₂ ◌&&◌ (below_agree f g n (λ i l. h i (omega arith))) (h n (omega arith))

not_all : (f : StringRow → Bool) (rows : List StringRow) → not (all (λ r. not (f r)) rows) ≡ some_row f rows
unfolding all some_row
not_all f [] = refl
not_all f (r ∷ rows) = elim (decided (f r)) [ yes h ↦ rw h refl | no h ↦ rw h (not_all f rows) ]

pub some_place : (f : ℕ → Bool) (g : StringRow → Bool) (rows : List StringRow) (d : StringRow)
    → ((i : ℕ) → i < length rows → f i ≡ g (get_or rows i d)) → some_below f (length rows) ≡ some_row g rows
some_place f g rows d h =
    ap not
    (below_agree (λ i. not (f i)) (λ i. not (g (get_or rows i d))) (length rows) (λ i l. ap not (h i l))
    ∙ sym (all_below_lem (λ r. not (g r)) d rows))
    ∙ not_all g rows

-- what is kept of the first `n`
kept_first : {A B : Type 0} (h : ℕ → B) (k : A → B) (f : ℕ → Bool) (g : A → Bool) (xs : List A) (d : A)
    → ((i : ℕ) → i < length xs → f i ≡ g (get_or xs i d)) → ((i : ℕ) → i < length xs → h i ≡ k (get_or xs i d))
    → (n : ℕ) → n ≤ length xs → map h (keep f (numbers n)) ≡ map k (keep g (take n xs))
unfolding keep numbers
kept_first h k f g xs d p q zero l = refl
kept_first h k f g xs d p q (suc n) l =
    ap (map h) (keep_append f (numbers n) (n ∷ []))
    ∙ map-append h (keep f (numbers n)) (keep f (n ∷ []))
    ∙ ap₂ ◌++◌ (kept_first h k f g xs d p q n (omega arith)) (one (decided (f n)))
    ∙ sym (map-append k (keep g (take n xs)) (keep g (get_or xs n d ∷ [])))
    ∙ sym (ap (map k) (keep_append g (take n xs) (get_or xs n d ∷ [])))
    ∙ sym (ap (λ l. map k (keep g l)) (take-suc xs n d (omega arith)))
  where
    here : n < length xs
    here = omega arith

    one : Decided (f n) → map h (keep f (n ∷ [])) ≡ map k (keep g (get_or xs n d ∷ []))
    one (yes e) = rw (e, sym (p n here) ∙ e, q n here) refl
    one (no e) = rw (e, sym (p n here) ∙ e) refl

pub kept_places : {A B : Type 0} (h : ℕ → B) (k : A → B) (f : ℕ → Bool) (g : A → Bool) (xs : List A) (d : A)
    → ((i : ℕ) → i < length xs → f i ≡ g (get_or xs i d)) → ((i : ℕ) → i < length xs → h i ≡ k (get_or xs i d))
    → map h (keep f (numbers (length xs))) ≡ map k (keep g xs)
kept_places h k f g xs d p q =
    kept_first h k f g xs d p q (length xs) (omega arith) ∙ ap (λ l. map k (keep g l)) (take-length xs)
