-- Rows of which no two are equal in all keys: the best of them do not depend on their sequence.
use Prim.Native.Nat.{ℕ}
use mathlib.Core.Path.{◌≡◌, refl, sym, ◌∙◌, ap, subst}
use mathlib.Core.Logic.{inl, inr}
use mathlib.Core.Bool.{Bool, true}
use mathlib.Core.List.{List, [], ◌∷◌, Permᴰ}
use lib.ListN.{take}
use Rattle.sequences.proofs.Booleans.{absurd_true, Decided, yes, no, decided}
use Rattle.sequences.proofs.Orders.{Ordered}
use Rattle.sequences.specs.Sorting.{insert_by, insert_all_by, sort_by, best_by}
use Rattle.sequences.proofs.Inserting.{insert_nil, insert_here, insert_later}
use Rattle.sequences.proofs.Each.{Each}
use Rattle.sequences.proofs.EachMore.{each_permuted}
use Rattle.merge_orders.specs.Apart.{Differs, FromEach, Apart}

-- that an element differs from each of some, both ways round
pub to_each : {A : Type 0} (before : A → A → Bool) (x : A) (ys : List A) → FromEach before x ys → Each (Differs before x) ys
to_each before x [] h = tt
to_each before x (y ∷ ys) h = (h.0, to_each before x ys h.1)

pub of_each : {A : Type 0} (before : A → A → Bool) (x : A) (ys : List A) → Each (Differs before x) ys → FromEach before x ys
of_each before x [] h = tt
of_each before x (y ∷ ys) h = (h.0, of_each before x ys h.1)

module _ {A : Type 0} (before : A → A → Bool) (o : Ordered before) where
  ordered_swap : (x y : A) → before x y ≡ true → (zs : List A)
      → insert_by before x (insert_by before y zs) ≡ insert_by before y (insert_by before x zs)
  ordered_swap x y e [] =
      ap (insert_by before x) (insert_nil before y) ∙ insert_here before x y [] e
      ∙ sym (ap (insert_by before y) (insert_nil before x) ∙ insert_later before y x [] (o.asym x y e) ∙ ap (λ l. x ∷ l) (insert_nil before y))
  ordered_swap x y e (z ∷ zs) = go (decided (before y z)) (decided (before x z)) (ordered_swap x y e zs)
    where
      behind : insert_by before y (x ∷ z ∷ zs) ≡ x ∷ insert_by before y (z ∷ zs)
      behind = insert_later before y x (z ∷ zs) (o.asym x y e)

      go : Decided (before y z) → Decided (before x z) → insert_by before x (insert_by before y zs) ≡ insert_by before y (insert_by before x zs)
          → insert_by before x (insert_by before y (z ∷ zs)) ≡ insert_by before y (insert_by before x (z ∷ zs))
      go (yes p) (yes q) ih =
          ap (insert_by before x) (insert_here before y z zs p) ∙ insert_here before x y (z ∷ zs) e
          ∙ sym (ap (insert_by before y) (insert_here before x z zs q) ∙ behind ∙ ap (λ l. x ∷ l) (insert_here before y z zs p))
      go (yes p) (no q) ih = absurd_true (o.trans x y z e p) q
      go (no p) (yes q) ih =
          ap (insert_by before x) (insert_later before y z zs p) ∙ insert_here before x z (insert_by before y zs) q
          ∙ sym (ap (insert_by before y) (insert_here before x z zs q) ∙ behind ∙ ap (λ l. x ∷ l) (insert_later before y z zs p))
      go (no p) (no q) ih =
          ap (insert_by before x) (insert_later before y z zs p) ∙ insert_later before x z (insert_by before y zs) q
          ∙ ap (λ l. z ∷ l) ih
          ∙ sym (ap (insert_by before y) (insert_later before x z zs q) ∙ insert_later before y z (insert_by before x zs) p)

  either_swap : (x y : A) → Differs before x y → (zs : List A)
      → insert_by before x (insert_by before y zs) ≡ insert_by before y (insert_by before x zs)
  either_swap x y (inl e) zs = ordered_swap x y e zs
  either_swap x y (inr e) zs = sym (ordered_swap y x e zs)

  -- ---- a permutation
  differs_back : (x y : A) → Differs before x y → Differs before y x
  differs_back x y (inl e) = inr e
  differs_back x y (inr e) = inl e

  pub apart_permuted : {xs ys : List A} → Permᴰ xs ys → Apart before xs → Apart before ys
  apart_permuted Permᴰ.nil h = tt
  apart_permuted (Permᴰ.cons {a = a} {l₁ = xs} {l₂ = ys} e p) h = (
    subst (λ c. FromEach before c ys) e (of_each before a ys (each_permuted (Differs before a) p (to_each before a xs h.0))),
    apart_permuted p h.1,
  )
  apart_permuted (Permᴰ.swap {a = a} {b = b} {b' = d} {l = l} e g) h = (
    subst (λ c. FromEach before c (d ∷ l)) g (subst (Differs before b) e (differs_back a b h.0.0), h.1.0),
    (subst (λ c. FromEach before c l) e h.0.1, h.1.1),
  )
  apart_permuted (Permᴰ.trans p q) h = apart_permuted q (apart_permuted p h)

  insert_permuted : {xs ys : List A} → Permᴰ xs ys → Apart before xs → (zs : List A)
      → insert_all_by before zs xs ≡ insert_all_by before zs ys
  unfolding insert_all_by
  insert_permuted Permᴰ.nil h zs = refl
  insert_permuted (Permᴰ.cons {a = a} {l₂ = ys} e p) h zs =
      insert_permuted p h.1 (insert_by before a zs) ∙ ap (λ b. insert_all_by before (insert_by before b zs) ys) e
  insert_permuted (Permᴰ.swap {a = a} {b = b} {a' = c} {b' = d} {l = l} e g) h zs =
      ap (λ r. insert_all_by before r l) (either_swap b a (differs_back a b h.0.0) zs)
      ∙ ap (λ u. insert_all_by before (insert_by before a (insert_by before u zs)) l) g
      ∙ ap (λ u. insert_all_by before (insert_by before u (insert_by before c zs)) l) e
  insert_permuted (Permᴰ.trans p q) h zs = insert_permuted p h zs ∙ insert_permuted q (apart_permuted p h) zs

  -- the best of rows that no two of which are equal, in whatever sequence they come
  pub best_permuted : (k : ℕ) {xs ys : List A} → Permᴰ xs ys → Apart before xs → best_by before k xs ≡ best_by before k ys
  unfolding best_by sort_by
  best_permuted k p h = ap (take k) (insert_permuted p h [])
