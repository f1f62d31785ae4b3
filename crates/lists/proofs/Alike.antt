-- Elements of one place, of which neither comes before the other: an equivalence, and which lists have one of a place.
use mathlib.Core.Path.{◌≡◌, refl}
use mathlib.Core.Bool.{Bool, true, false, not}
use mathlib.Core.List.{List, ◌∷◌}
use borrow.Author.Tests.{not-true}
use Rattle.sequences.proofs.Booleans.{absurd_true, and_left, and_right}
use Rattle.lists.proofs.Stable.{alike}
use Rattle.sequences.proofs.Each.{Each}
use Rattle.lists.proofs.Adding.{Joins, same_left}

-- an element of the place of y
pub data Among {A : Type 0} (before : A → A → Bool) (y : A) : List A → Type 0 where
  here : {x : A} {xs : List A} → alike before x y ≡ true → Among before y (x ∷ xs)
  there : {x : A} {xs : List A} → Among before y xs → Among before y (x ∷ xs)

module _ {A : Type 0} {before : A → A → Bool} {join : A → A → A} (j : Joins before join) where
  abbrev like : A → A → Bool
  like = alike before

  pub like_neither : (x y : A) → like x y ≡ true → (before x y ≡ false) × (before y x ≡ false)
  like_neither x y e = (
    not-true (before x y) (and_right (not (before y x)) (not (before x y)) e),
    not-true (before y x) (and_left (not (before y x)) (not (before x y)) e),
  )

  pub neither_like : (x y : A) → before x y ≡ false → before y x ≡ false → like x y ≡ true
  neither_like x y e f = rw (f, e)

  pub less_unlike : (x y : A) → before x y ≡ true → like x y ≡ false
  less_unlike x y e = rw (j.ordered.asym x y e, e)

  pub more_unlike : (x y : A) → before y x ≡ true → like x y ≡ false
  more_unlike x y e = rw e

  pub like_self : (x : A) → like x x ≡ true
  like_self x = go (before x x) refl
    where
      go : (b : Bool) → before x x ≡ b → like x x ≡ true
      go true e = absurd_true e (j.ordered.asym x x e)
      go false e = neither_like x x e e

  pub like_trans : (x y z : A) → like x y ≡ true → like y z ≡ true → like x z ≡ true
  like_trans x y z p q =
      let a = like_neither x y p in
      let b = like_neither y z q in
      neither_like x z (same_left j x y z a.0 b.0) (same_left j z y x b.1 a.1)

  pub like_sym : (x y : A) → like x y ≡ true → like y x ≡ true
  like_sym x y p = let a = like_neither x y p in neither_like y x a.1 a.0

  pub like_join : (x y z : A) → like (join x y) z ≡ like x z
  like_join x y z = rw (j.left x y z, j.right x y z)

  -- an element whose place no element of a list has, and one that has its place there
  pub unlike : (x y : A) {sums : List A} → Among before y sums → Each (λ s. like s x ≡ false) sums → like x y ≡ false
  unlike x y (here {x = s} e) u = go (like x y) refl
    where
      go : (b : Bool) → like x y ≡ b → like x y ≡ false
      go true f = absurd_true (like_trans s y x e (like_sym x y f)) u.0
      go false f = f
  unlike x y (there h) u = unlike x y h u.1
