-- The elements of a list that pass a test: where none passes, and of a list made from another. Other laws of them stand in words.
use mathlib.Core.Path.{◌≡◌, refl, ap}
use mathlib.Core.Bool.{Bool, true, false, cond}
use mathlib.Core.List.Memᴰ
use mathlib.Core.List.{List, [], ◌∷◌, map, Memᴰ}
use mathlib.Core.Logic.{inl, inr}
use Rattle.sequences.specs.Sequences.{keep}
use Rattle.sequences.proofs.Each.{Each}
pub use Rattle.sequences.proofs.Keeping.{keep_agree}

pub keep_none : {A : Type 0} (f : A → Bool) (xs : List A) → Each (λ x. f x ≡ false) xs → keep f xs ≡ []
unfolding keep
keep_none f [] h = refl
keep_none f (x ∷ xs) h = rw h.0 (keep_none f xs h.1)

pub keep_map : {A B : Type 0} (f : A → B) (g : B → Bool) (xs : List A) → keep g (map f xs) ≡ map f (keep (λ x. g (f x)) xs)
unfolding keep
keep_map f g [] = refl
keep_map f g (x ∷ xs) = go (g (f x)) (keep_map f g xs)
  where
    go : (b : Bool) → keep g (map f xs) ≡ map f (keep (λ y. g (f y)) xs)
        → cond b (f x ∷ keep g (map f xs)) (keep g (map f xs)) ≡ map f (cond b (x ∷ keep (λ y. g (f y)) xs) (keep (λ y. g (f y)) xs))
    go true e = ap (λ l. f x ∷ l) e
    go false e = e

-- what is kept was there
pub keep_member : {A : Type 0} (f : A → Bool) (xs : List A) {a : A} → Memᴰ a (keep f xs) → Memᴰ a xs
unfolding keep
keep_member f [] m = m
keep_member f (x ∷ xs) {a} m = go (f x) m (λ n. keep_member f xs n)
  where
    go : (b : Bool) → Memᴰ a (cond b (x ∷ keep f xs) (keep f xs)) → (Memᴰ a (keep f xs) → Memᴰ a xs)
        → Memᴰ a (x ∷ xs)
    go true n ih = elim (Memᴰ.cases_cons n) [ inl e ↦ Memᴰ.head e | inr k ↦ Memᴰ.tail (ih k) ]
    go false n ih = Memᴰ.tail (ih n)
