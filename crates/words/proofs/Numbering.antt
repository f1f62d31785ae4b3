-- Tests as numbers: 0 says that every test passes, and any other number is that of the first that fails. Of two lists of tests the
-- first decides where one of its tests fails, else the second.
use Prim.Native.Nat.{ℕ}
use native.Mathlib.Omega.{arith}
use mathlib.Core.Path.{◌≡◌, refl, sym, ◌∙◌, ap}
use mathlib.Core.Bool.{Bool, true, false}
use mathlib.Core.Option.{Option, none, some}
use mathlib.Core.List.{List, [], ◌∷◌, ◌++◌}
use lib.Dec.{ltb}
use borrow.Author.Tests.{ltb-true}
use Rattle.sequences.specs.Sequences.{all}
use Rattle.words.specs.Tests.{Test, first_failing, number_of}
use Rattle.sequences.proofs.Elements.{all_head, all_tail}
use Rattle.words.proofs.Testing.{none_some, or_else, first_append}

-- a number that is not 0 is that of the first that fails
pub one_fails : (o : Option ℕ) (n : ℕ) → n ≡ number_of o → (n ≡ 0 → ⊥) → o ≡ some n
one_fails none n e h = absurd (h e)
one_fails (some m) n e h = rw e

-- no test has the number 0
abbrev pub is_numbered : Test → Bool
is_numbered x = ltb 0 x.0

-- so 0 says that all pass
pub none_fails : (xs : List Test) → all is_numbered xs ≡ true → number_of (first_failing xs) ≡ 0 → first_failing xs ≡ none
unfolding first_failing
none_fails [] h e = refl
none_fails ((n, true) ∷ xs) h e = none_fails xs (all_tail is_numbered (n, true) xs h) e
none_fails ((n, false) ∷ xs) h e = absurd (omega (arith, ltb-true 0 n (all_head is_numbered (n, false) xs h)))

module _ (xs ys : List Test) where
  -- of two lists of tests: the first decides where one of its tests fails, else the second
  pub front_fails : (n : ℕ) → n ≡ number_of (first_failing xs) → (n ≡ 0 → ⊥) → first_failing (xs ++ ys) ≡ some n
  front_fails n e h = first_append xs ys ∙ ap (λ (o : Option ℕ). or_else o (first_failing ys)) (one_fails (first_failing xs) n e h)

  pub front_decides : (n : ℕ) → n ≡ number_of (first_failing xs) → (n ≡ 0 → ⊥) → n ≡ number_of (first_failing (xs ++ ys))
  front_decides n e h = sym (ap number_of (front_fails n e h))

  pub rest_decides : first_failing xs ≡ none → first_failing (xs ++ ys) ≡ first_failing ys
  rest_decides e = first_append xs ys ∙ ap (λ (o : Option ℕ). or_else o (first_failing ys)) e

  -- where all pass, those of each list do
  pub both_pass : first_failing (xs ++ ys) ≡ none → (first_failing xs ≡ none) × (first_failing ys ≡ none)
  both_pass e = go (first_failing xs) (first_failing ys) (sym (first_append xs ys) ∙ e)
    where
      go : (a b : Option ℕ) → or_else a b ≡ none → (a ≡ none) × (b ≡ none)
      go none b h = (refl, h)
      go (some n) b h = absurd (none_some (sym h))
