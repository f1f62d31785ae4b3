-- Two lists that ascend strictly and have the same elements are equal.
use mathlib.Core.Path.{◌≡◌, refl, sym, ap₂, subst}
use mathlib.Core.Bool.{Bool, true, false}
use mathlib.Core.Logic.{◌⊎◌, inl, inr}
use mathlib.Core.List.Memᴰ
use mathlib.Core.List.{List, [], ◌∷◌, map, Memᴰ}
use Rattle.sequences.proofs.Booleans.{absurd_true}
use Rattle.sequences.proofs.Each.{Each}
use Rattle.sequences.proofs.EachMore.{each_weaken, each_both, each_member}
use Rattle.sequences.proofs.Ascending.{Ahead, Ascending}

-- each element of a list made from another
pub each_in_map : {A B : Type 0} (f : A → B) (xs : List A) → Each (λ x. Memᴰ (f x) (map f xs)) xs
each_in_map f [] = tt
each_in_map f (x ∷ xs) = (Memᴰ.head refl, each_weaken (λ y m. Memᴰ.tail m) xs (each_in_map f xs))

module _ {A : Type 0} (before : A → A → Bool) (asym : (x y : A) → before x y ≡ true → before y x ≡ false) where
  never : (x y : A) → before x y ≡ true → before y x ≡ true → ⊥
  never x y p q = absurd_true q (asym x y p)

  heads : (x y : A) (xs ys : List A) → Ahead before x xs → Ahead before y ys
      → (x ≡ y) ⊎ Memᴰ x ys → (y ≡ x) ⊎ Memᴰ y xs → x ≡ y
  heads x y xs ys a b (inl e) q = e
  heads x y xs ys a b (inr m) (inl e) = sym e
  heads x y xs ys a b (inr m) (inr n) =
      absurd (never x y (each_member (λ z. before x z ≡ true) n a) (each_member (λ z. before y z ≡ true) m b))

  -- what comes after x, and is x or further on, is further on
  further : (x z : A) (ys : List A) → before x z ≡ true → (z ≡ x) ⊎ Memᴰ z ys → Memᴰ z ys
  further x z ys p (inr m) = m
  further x z ys p (inl e) = let q = subst (λ w. before x w ≡ true) e p in absurd (never x x q q)

  tails : (x y : A) (xs ys : List A) → x ≡ y → Ahead before x xs → Each (λ z. Memᴰ z (y ∷ ys)) xs → Each (λ z. Memᴰ z ys) xs
  tails x y xs ys e a p =
      each_both (λ z q m. further x z ys q (Memᴰ.cases_cons (subst (λ w. Memᴰ z (w ∷ ys)) (sym e) m))) xs a p

  pub ascending_equal : (xs ys : List A) → Ascending before xs → Ascending before ys
      → Each (λ x. Memᴰ x ys) xs → Each (λ y. Memᴰ y xs) ys → xs ≡ ys
  ascending_equal [] [] a b p q = refl
  ascending_equal [] (y ∷ ys) a b p q = absurd (Memᴰ.not-nil q.0)
  ascending_equal (x ∷ xs) [] a b p q = absurd (Memᴰ.not-nil p.0)
  ascending_equal (x ∷ xs) (y ∷ ys) a b p q =
      let e = heads x y xs ys a.0 b.0 (Memᴰ.cases_cons p.0) (Memᴰ.cases_cons q.0) in
      ap₂ ◌∷◌ e
      (ascending_equal xs ys a.1 b.1 (tails x y xs ys e a.0 p.1) (tails y x ys xs (sym e) b.0 q.1))
