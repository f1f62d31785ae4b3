-- Strictly ascending lists: each element comes before all later ones, which is the same as before its neighbour.
use mathlib.Core.Path.{◌≡◌, refl}
use mathlib.Core.Bool.{Bool, true}
use mathlib.Core.List.{List, [], ◌∷◌}
use Rattle.sequences.specs.Sequences.{neighbours}
use Rattle.sequences.proofs.Booleans.{and_left, and_right, and_both}
use Rattle.sequences.proofs.Orders.{Ordered}
use Rattle.sequences.proofs.Each.{Each}
use Rattle.sequences.proofs.EachMore.{each_weaken}

-- x comes before each of the list; each comes before all later ones
abbrev pub Ahead : {A : Type 0} → (A → A → Bool) → A → List A → Type 0
Ahead before x xs = Each (λ y. before x y ≡ true) xs

abbrev pub Ascending : {A : Type 0} → (A → A → Bool) → List A → Type 0
Ascending before [] = Unit {0}
Ascending before (x ∷ xs) = Ahead before x xs × Ascending before xs

pub ascending_neighbours : {A : Type 0} (before : A → A → Bool) (xs : List A) → Ascending before xs
    → neighbours before xs ≡ true
unfolding neighbours
ascending_neighbours before [] a = refl
ascending_neighbours before (x ∷ []) a = refl
ascending_neighbours before (x ∷ y ∷ ys) a =
    and_both (before x y) (neighbours before (y ∷ ys)) a.0.0 (ascending_neighbours before (y ∷ ys) a.1)

module _ {A : Type 0} {before : A → A → Bool} (o : Ordered before) where
  -- what comes before the first comes before all
  pub ahead_less : (x y : A) (ys : List A) → before x y ≡ true → Ahead before y ys → Ahead before x ys
  ahead_less x y ys e a = each_weaken (λ z. o.trans x y z e) ys a

  pub neighbours_ascending : (xs : List A) → neighbours before xs ≡ true → Ascending before xs
  unfolding neighbours
  neighbours_ascending [] e = tt
  neighbours_ascending (x ∷ []) e = (tt, tt)
  neighbours_ascending (x ∷ y ∷ ys) e =
      let p = and_left (before x y) (neighbours before (y ∷ ys)) e in
      let a = neighbours_ascending (y ∷ ys) (and_right (before x y) (neighbours before (y ∷ ys)) e) in
      ((p, ahead_less x y ys p a.0), a)
