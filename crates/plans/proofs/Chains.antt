-- What a slice's own tests answer, in the words of the definitions: `contains`, and `all` of an iterator.
use Prim.Native.Nat.{ℕ}
use mathlib.Core.Path.{◌≡◌, refl}
use mathlib.Core.Bool.{Bool}
use mathlib.Core.List.{List, [], ◌∷◌}
use Rattle.std.specs.Prelude.{nat_eq}
use Rattle.std.specs.List.{list_any, list_all}
use native.Mathlib.Omega.{arith}
use Rattle.std.proofs.lemmas.Bool.Decides.{nat_tests}
use Rattle.sequences.specs.Sequences.{all, member}

turned : (a b : ℕ) → nat_eq a b ≡ nat_eq b a
turned a b = grind (arith, nat_tests)

pub any_member : (w : ℕ) (xs : List ℕ) → list_any (λ x. nat_eq x w) xs ≡ member w xs
unfolding member
any_member w [] = refl
any_member w (x ∷ xs) = rw (any_member w xs, turned x w)

pub all_all : (f : ℕ → Bool) (xs : List ℕ) → list_all f xs ≡ all f xs
unfolding all
all_all f [] = refl
all_all f (x ∷ xs) = rw (all_all f xs)
