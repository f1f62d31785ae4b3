-- The elements of a list that pass a test: joining, tests that agree, one test after another, and how many they are.
use Prim.Native.Nat.{◌+◌, ◌≤◌}
use native.Mathlib.Omega.{arith}
use mathlib.Core.Path.{◌≡◌, refl, sym, ◌∙◌, ap}
use mathlib.Core.Bool.{Bool, true, false, not}
use mathlib.Core.List.{List, [], ◌∷◌, ◌++◌}
use lib.ListN.{length}
use Rattle.sequences.specs.Sequences.{keep}
use Rattle.sequences.proofs.Booleans.{absurd_true, Decided, yes, no, decided}
use Rattle.sequences.proofs.Each.{Each}

module _ {A : Type 0} (f : A → Bool) where
  pub keep_nil : keep f [] ≡ []
  unfolding keep
  keep_nil = refl

  pub keep_yes : (x : A) (xs : List A) → f x ≡ true → keep f (x ∷ xs) ≡ x ∷ keep f xs
  unfolding keep
  keep_yes x xs e = rw e

  pub keep_no : (x : A) (xs : List A) → f x ≡ false → keep f (x ∷ xs) ≡ keep f xs
  unfolding keep
  keep_no x xs e = rw e

  pub keep_append : (xs ys : List A) → keep f (xs ++ ys) ≡ keep f xs ++ keep f ys
  keep_append [] ys = rw keep_nil
  keep_append (x ∷ xs) ys =
      elim (decided (f x)) [
        | yes e ↦ rw (keep_yes x (xs ++ ys) e, keep_yes x xs e) (ap (λ l. x ∷ l) (keep_append xs ys))
        | no e ↦ rw (keep_no x (xs ++ ys) e, keep_no x xs e) (keep_append xs ys)
      ]

  -- fewer pass than there are; those that pass and those that do not are all
  pub length_keep : (xs : List A) → length (keep f xs) ≤ length xs
  unfolding keep
  length_keep [] = omega arith
  length_keep (x ∷ xs) =
      let i = length_keep xs in
      elim (decided (f x)) [ yes e ↦ rw e (omega arith) | no e ↦ rw e (omega arith) ]

  pub length_split : (xs : List A) → length (keep f xs) + length (keep (λ x. not (f x)) xs) ≡ length xs
  unfolding keep
  length_split [] = refl
  length_split (x ∷ xs) =
      let i = length_split xs in
      elim (decided (f x)) [ yes e ↦ rw e (omega arith) | no e ↦ rw e (omega arith) ]

-- by tests that agree at each element
pub keep_agree : {A : Type 0} (f g : A → Bool) (xs : List A) → Each (λ x. f x ≡ g x) xs → keep f xs ≡ keep g xs
unfolding keep
keep_agree f g [] h = refl
keep_agree f g (x ∷ xs) h = rw (h.0, keep_agree f g xs h.1)

-- a test after a weaker one
pub keep_keep : {A : Type 0} (f g : A → Bool) (xs : List A) → ((x : A) → f x ≡ true → g x ≡ true) → keep f (keep g xs) ≡ keep f xs
keep_keep f g [] h = ap (keep f) (keep_nil g)
keep_keep f g (x ∷ xs) h = go (decided (f x)) (decided (g x)) (keep_keep f g xs h)
  where
    go : Decided (f x) → Decided (g x) → keep f (keep g xs) ≡ keep f xs → keep f (keep g (x ∷ xs)) ≡ keep f (x ∷ xs)
    go (yes p) (yes q) ih = ap (keep f) (keep_yes g x xs q) ∙ keep_yes f x (keep g xs) p ∙ ap (λ l. x ∷ l) ih ∙ sym (keep_yes f x xs p)
    go (yes p) (no q) ih = absurd_true (h x p) q
    go (no p) (yes q) ih = ap (keep f) (keep_yes g x xs q) ∙ keep_no f x (keep g xs) p ∙ ih ∙ sym (keep_no f x xs p)
    go (no p) (no q) ih = ap (keep f) (keep_no g x xs q) ∙ ih ∙ sym (keep_no f x xs p)
