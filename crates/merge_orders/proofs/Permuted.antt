-- Lists joined end to end, in another sequence.
use mathlib.Core.Path.{◌≡◌, refl, ◌∙◌, ap, subst}
use mathlib.Core.List.Permᴰ
use mathlib.Core.List.{List, [], ◌∷◌, ◌++◌, map, flatten, Permᴰ}

module _ {A : Type 0} where
  pub same_permuted : {xs ys : List A} → xs ≡ ys → Permᴰ xs ys
  same_permuted {xs} {ys} e = subst (Permᴰ xs) e (Permᴰ.refl xs)

  pub behind_permuted : (xs : List A) {ys zs : List A} → Permᴰ ys zs → Permᴰ (xs ++ ys) (xs ++ zs)
  behind_permuted [] p = p
  behind_permuted (x ∷ xs) p = Permᴰ.cons refl (behind_permuted xs p)

  -- an element past others
  pub past : (x : A) (ys zs : List A) → Permᴰ (x ∷ (ys ++ zs)) (ys ++ (x ∷ zs))
  past x [] zs = Permᴰ.refl (x ∷ zs)
  past x (y ∷ ys) zs = Permᴰ.trans (Permᴰ.swap refl refl) (Permᴰ.cons refl (past x ys zs))

  -- two parts in either sequence, before others
  pub swapped : (xs ys zs : List A) → Permᴰ (xs ++ (ys ++ zs)) (ys ++ (xs ++ zs))
  swapped [] ys zs = Permᴰ.refl (ys ++ zs)
  swapped (x ∷ xs) ys zs = Permᴰ.trans (Permᴰ.cons refl (swapped xs ys zs)) (past x ys (xs ++ zs))

pub joined_permuted : {A B : Type 0} (f : A → List B) {xs ys : List A} → Permᴰ xs ys
    → Permᴰ (flatten (map f xs)) (flatten (map f ys))
unfolding flatten
joined_permuted f Permᴰ.nil = Permᴰ.nil
joined_permuted f (Permᴰ.cons {a = a} {b = b} {l₁ = xs} {l₂ = ys} e p) =
    Permᴰ.trans (behind_permuted (f a) (joined_permuted f p)) (same_permuted (ap (λ c. f c ++ flatten (map f ys)) e))
joined_permuted f (Permᴰ.swap {a = a} {b = b} {a' = c} {b' = d} {l = l} e g) =
    Permᴰ.trans (swapped (f a) (f b) (flatten (map f l)))
    (same_permuted (ap (λ x. f x ++ (f a ++ flatten (map f l))) g ∙ ap (λ x. f c ++ (f x ++ flatten (map f l))) e))
joined_permuted f (Permᴰ.trans p q) = Permᴰ.trans (joined_permuted f p) (joined_permuted f q)
