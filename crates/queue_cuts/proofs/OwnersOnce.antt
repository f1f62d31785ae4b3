-- An owner put in among others or taken out of them: who is there, and whether anybody stands twice.
use Prim.Native.Nat.{ℕ}
use mathlib.Core.Path.{◌≡◌, refl}
use mathlib.Core.Bool.{Bool, true, false, ◌&&◌, ◌||◌, not}
use mathlib.Core.List.{List, [], ◌∷◌, ◌++◌}
use lib.Dec.{eqb}
use Rattle.sequences.specs.Sequences.{member, distinct}
use Rattle.queues.proofs.Moving.{same_either_way}

either_first : (a b c : Bool) → a || (b || c) ≡ b || (a || c)
either_first true true c = refl
either_first true false c = refl
either_first false b c = refl

pub member_among : (x z : ℕ) (ys zs : List ℕ) → member x (ys ++ (z ∷ zs)) ≡ eqb x z || member x (ys ++ zs)
unfolding member
member_among x z [] zs = refl
member_among x z (y ∷ ys) zs = rw (member_among x z ys zs) (either_first (eqb x y) (eqb x z) (member x (ys ++ zs)))

apart : (a m n d : Bool) → not (a || m) && (not n && d) ≡ not (a || n) && (not m && d)
apart true m n d = refl
apart false true true d = refl
apart false true false d = refl
apart false false true d = refl
apart false false false d = refl

pub distinct_among : (z : ℕ) (ys zs : List ℕ) → distinct (ys ++ (z ∷ zs)) ≡ not (member z (ys ++ zs)) && distinct (ys ++ zs)
unfolding member distinct
distinct_among z [] zs = refl
distinct_among z (y ∷ ys) zs =
    rw (member_among y z ys zs, distinct_among z ys zs, same_either_way z y (eqb z y) refl)
    (apart (eqb z y) (member y (ys ++ zs)) (member z (ys ++ zs)) (distinct (ys ++ zs)))
