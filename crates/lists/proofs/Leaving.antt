-- The rows that a threshold leaves: all without one, and those strictly before it.
use Prim.Native.Nat.{ℕ}
use mathlib.Core.Path.{◌≡◌, refl}
use mathlib.Core.Bool.{Bool}
use mathlib.Core.List.{List, [], ◌∷◌}
use Rattle.sequences.specs.Sequences.{keep}
use Rattle.sequences.proofs.Each.{Each, each_keep}
use Rattle.lists.specs.Rows.{ahead}

module _ (before : List ℕ → List ℕ → Bool) where
  pub ahead_all : (xs : List (List ℕ)) → ahead before [] xs ≡ xs
  unfolding ahead
  ahead_all xs = refl

  -- a threshold row leaves the rows strictly before it
  pub ahead_row : (w : ℕ) (ws : List ℕ) (xs : List (List ℕ))
      → ahead before (w ∷ ws) xs ≡ keep (λ x. before x (w ∷ ws)) xs
  unfolding ahead
  ahead_row w ws xs = refl

  pub ahead_none : (threshold : List ℕ) → ahead before threshold [] ≡ []
  unfolding keep
  ahead_none [] = ahead_all []
  ahead_none (w ∷ ws) = ahead_row w ws []

pub each_ahead : (P : List ℕ → Type 0) (before : List ℕ → List ℕ → Bool) (threshold : List ℕ) (xs : List (List ℕ))
    → Each P xs → Each P (ahead before threshold xs)
each_ahead P before [] xs p = rw (ahead_all before xs) p
each_ahead P before (w ∷ ws) xs p = rw (ahead_row before w ws xs) (each_keep P (λ x. before x (w ∷ ws)) xs p)
