-- Words written number by number: those of one more number, and of a part.
use Prim.Native.Nat.{ℕ, zero, suc, ◌+◌, ◌≤◌}
use native.Mathlib.Omega.{arith}
use mathlib.Core.Path.{◌≡◌, refl, sym, ◌∙◌, ap}
use mathlib.Core.Bool.{Bool, true, false}
use mathlib.Core.List.{List, [], ◌∷◌, ◌++◌, map, flatten, append-nil}
use lib.ListN.{length, take, drop, length-append, take-append-drop}
use Rattle.sequences.specs.Sequences.{keep, numbers}
use Rattle.sequences.proofs.Flattening.{flatten_append}
use Rattle.sequences.proofs.Keeping.{keep_append}
use Rattle.sequences.proofs.Orders.{Three, less, same, more, three}
use Rattle.upload_writes.specs.Writing.{written_for}

module _ (f : ℕ → Bool) (g : ℕ → List ℕ) where
  map-append : (xs ys : List ℕ) → map g (xs ++ ys) ≡ map g xs ++ map g ys
  map-append [] ys = refl
  map-append (x ∷ xs) ys = ap (λ l. g x ∷ l) (map-append xs ys)

  pub written_append : (xs ys : List ℕ) → written_for f g (xs ++ ys) ≡ written_for f g xs ++ written_for f g ys
  unfolding written_for
  written_append xs ys =
      ap (λ l. flatten (map g l)) (keep_append f xs ys)
      ∙ ap flatten (map-append (keep f xs) (keep f ys))
      ∙ flatten_append (map g (keep f xs)) (map g (keep f ys))

  pub written_none : [] ≡ written_for f g []
  unfolding written_for keep flatten
  written_none = refl

  one_yes : (x : ℕ) → f x ≡ true → written_for f g (x ∷ []) ≡ g x
  unfolding written_for flatten keep
  one_yes x e = rw e (append-nil (g x))

  one_no : (x : ℕ) → f x ≡ false → written_for f g (x ∷ []) ≡ []
  unfolding written_for flatten keep
  one_no x e = rw e

  pub written_yes : (xs : List ℕ) (x : ℕ) → f x ≡ true → written_for f g (xs ++ (x ∷ [])) ≡ written_for f g xs ++ g x
  written_yes xs x e = written_append xs (x ∷ []) ∙ ap (λ l. written_for f g xs ++ l) (one_yes x e)

  pub written_no : (xs : List ℕ) (x : ℕ) → f x ≡ false → written_for f g (xs ++ (x ∷ [])) ≡ written_for f g xs
  written_no xs x e = written_append xs (x ∷ []) ∙ ap (λ l. written_for f g xs ++ l) (one_no x e) ∙ append-nil (written_for f g xs)

  -- a part of a list takes no more words than the list
  pub written_part : (p : ℕ) (xs : List ℕ) → length (written_for f g (take p xs)) ≤ length (written_for f g xs)
  written_part p xs =
      let e = ap length (sym (written_append (take p xs) (drop p xs)) ∙ ap (written_for f g) (take-append-drop p xs)) in
      omega (arith, length-append (written_for f g (take p xs)) (written_for f g (drop p xs)), e)

  pub numbers_part : (p n : ℕ) → p ≤ n → length (written_for f g (numbers p)) ≤ length (written_for f g (numbers n))
  unfolding numbers
  numbers_part p zero h = let e : p ≡ 0 = omega arith in rw e (omega arith)
  numbers_part p (suc n) h =
      let e = ap length (written_append (numbers n) (n ∷ [])) in
      let l = length-append (written_for f g (numbers n)) (written_for f g (n ∷ [])) in
      go (three p (suc n)) (numbers_part p n) e l
    where
      go : Three p (suc n) → (p ≤ n → length (written_for f g (numbers p)) ≤ length (written_for f g (numbers n)))
          → length (written_for f g (numbers n ++ (n ∷ []))) ≡ length (written_for f g (numbers n) ++ written_for f g (n ∷ []))
          → length (written_for f g (numbers n) ++ written_for f g (n ∷ [])) ≡ length (written_for f g (numbers n)) + length (written_for f g (n ∷ []))
          → length (written_for f g (numbers p)) ≤ length (written_for f g (numbers n ++ (n ∷ [])))
      go (less k) ih e l = let i = ih (omega arith) in omega arith
      go (same k) ih e l = rw k (omega arith)
      go (more k) ih e l = absurd (omega arith)
