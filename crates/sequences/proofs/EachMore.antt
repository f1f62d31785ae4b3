-- A property of each element: what follows from it, of a list made from another, of a permuted list, and of a member.
use mathlib.Core.Path.{sym, subst}
use mathlib.Core.List.{List, [], ◌∷◌, ◌++◌, map, Memᴰ, Permᴰ}
use Rattle.sequences.proofs.Each.{Each}

pub each_weaken : {A : Type 0} {P Q : A → Type 0} → ((x : A) → P x → Q x) → (xs : List A) → Each P xs → Each Q xs
each_weaken f [] p = tt
each_weaken f (x ∷ xs) p = (f x p.0, each_weaken f xs p.1)

pub each_always : {A : Type 0} {P : A → Type 0} → ((x : A) → P x) → (xs : List A) → Each P xs
each_always f [] = tt
each_always f (x ∷ xs) = (f x, each_always f xs)

-- what two properties of each element give
pub each_both : {A : Type 0} {P Q R : A → Type 0} → ((x : A) → P x → Q x → R x) → (xs : List A) → Each P xs → Each Q xs → Each R xs
each_both f [] p q = tt
each_both f (x ∷ xs) p q = (f x p.0 q.0, each_both f xs p.1 q.1)

module _ {A B : Type 0} (P : B → Type 0) (f : A → B) where
  pub each_mapped : (xs : List A) → Each (λ x. P (f x)) xs → Each P (map f xs)
  each_mapped [] p = tt
  each_mapped (x ∷ xs) p = (p.0, each_mapped xs p.1)

  pub each_unmapped : (xs : List A) → Each P (map f xs) → Each (λ x. P (f x)) xs
  each_unmapped [] p = tt
  each_unmapped (x ∷ xs) p = (p.0, each_unmapped xs p.1)

module _ {A : Type 0} (P : A → Type 0) where
  -- of two lists joined
  pub each_left : (xs ys : List A) → Each P (xs ++ ys) → Each P xs
  each_left [] ys p = tt
  each_left (x ∷ xs) ys p = (p.0, each_left xs ys p.1)

  pub each_right : (xs ys : List A) → Each P (xs ++ ys) → Each P ys
  each_right [] ys p = p
  each_right (x ∷ xs) ys p = each_right xs ys p.1

  pub each_member : {a : A} {xs : List A} → Memᴰ a xs → Each P xs → P a
  each_member (Memᴰ.head e) p = subst P (sym e) p.0
  each_member (Memᴰ.tail m) p = each_member m p.1

  pub each_permuted : {xs ys : List A} → Permᴰ xs ys → Each P xs → Each P ys
  each_permuted Permᴰ.nil p = tt
  each_permuted (Permᴰ.cons e h) p = (subst P e p.0, each_permuted h p.1)
  each_permuted (Permᴰ.swap e f) p = (subst P f p.1.0, (subst P e p.0, p.1.1))
  each_permuted (Permᴰ.trans h k) p = each_permuted k (each_permuted h p)
