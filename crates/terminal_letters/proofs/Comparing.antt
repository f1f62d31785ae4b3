-- Two strings are the same where each character is.
use mathlib.Core.Path.{◌≡◌, refl, ap}
use mathlib.Core.Bool.{◌&&◌}
use mathlib.Core.List.{List, [], ◌∷◌}
use Prim.Native.Nat.{ℕ}
use lib.Dec.{eqb}
use lib.Pointwise.{pointwise}
use Rattle.dictionaries.specs.Strings.{same_string}

pub same_by_each : (a b : List ℕ) → pointwise eqb a b ≡ same_string a b
unfolding same_string
same_by_each [] [] = refl
same_by_each [] (y ∷ ys) = refl
same_by_each (x ∷ xs) [] = refl
same_by_each (x ∷ xs) (y ∷ ys) = ap (λ t. eqb x y && t) (same_by_each xs ys)
