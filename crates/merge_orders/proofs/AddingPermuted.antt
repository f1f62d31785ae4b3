-- Elements added up at their places: where a join does not depend on the sequence of its two parts, a sum does not depend on that of its elements.
use mathlib.Core.Path.{◌≡◌, refl, sym, ◌∙◌, ap, subst}
use mathlib.Core.Bool.{Bool, true, false}
use mathlib.Core.List.{List, [], ◌∷◌, ◌++◌, append_assoc, append-nil}
use mathlib.Core.List.{Permᴰ}
use Rattle.lists.specs.Groups.{add_by, add_all_by}
use Rattle.sequences.proofs.Each.{Each}
use Rattle.sequences.proofs.EachMore.{each_permuted}
use Rattle.sequences.proofs.Ascending.{Ahead, Ascending}
use Rattle.lists.proofs.Adding.{Joins, Places, less, same, more, places, commute, both_add, add_nil, add_more}

module _
    {A : Type 0}
    {before : A → A → Bool}
    {join : A → A → A}
    (j : Joins before join)
    (P : A → Type 0)
    (comm : (a b : A) → P a → P b → before a b ≡ false → before b a ≡ false → join a b ≡ join b a) where
  pub add_swap : (x y : A) → P x → P y → (l : List A) → add_by before join x (add_by before join y l) ≡ add_by before join y (add_by before join x l)
  add_swap x y p r l = go (places before x y)
    where
      go : Places before x y → add_by before join x (add_by before join y l) ≡ add_by before join y (add_by before join x l)
      go (less e) = commute j x y l e
      go (more e) = sym (commute j y x l e)
      go (same e f) = both_add j x y l e f ∙ ap (λ z. add_by before join z l) (comm y x r p f e) ∙ sym (both_add j y x l f e)

  pub add_all_permuted : {xs ys : List A} → Permᴰ xs ys → Each P xs → (zs : List A) → add_all_by before join zs xs ≡ add_all_by before join zs ys
  unfolding add_all_by
  add_all_permuted Permᴰ.nil h zs = refl
  add_all_permuted (Permᴰ.cons {a = a} {l₂ = ys} e p) h zs =
      add_all_permuted p h.1 (add_by before join a zs) ∙ ap (λ b. add_all_by before join (add_by before join b zs) ys) e
  add_all_permuted (Permᴰ.swap {a = a} {b = b} {a' = c} {b' = d} {l = l} e g) h zs =
      ap (λ r. add_all_by before join r l) (add_swap b a h.1.0 h.0 zs)
      ∙ ap (λ u. add_all_by before join (add_by before join a (add_by before join u zs)) l) g
      ∙ ap (λ u. add_all_by before join (add_by before join u (add_by before join c zs)) l) e
  add_all_permuted (Permᴰ.trans p q) h zs = add_all_permuted p h zs ∙ add_all_permuted q (each_permuted P p h) zs

-- ---- elements that ascend are added up already
module _ {A : Type 0} {before : A → A → Bool} {join : A → A → A} (j : Joins before join) where
  add_end : (x : A) (zs : List A) → Each (λ z. before z x ≡ true) zs → add_by before join x zs ≡ zs ++ (x ∷ [])
  add_end x [] h = add_nil j x
  add_end x (z ∷ zs) h = add_more j x z zs h.0 ∙ ap (λ l. z ∷ l) (add_end x zs h.1)

  before_all : (x : A) (zs xs : List A) → Ascending before (zs ++ (x ∷ xs)) → Each (λ z. before z x ≡ true) zs
  before_all x [] xs h = tt
  before_all x (z ∷ zs) xs h = (there zs h.0, before_all x zs xs h.1)
    where
      there : (ys : List A) → Ahead before z (ys ++ (x ∷ xs)) → before z x ≡ true
      there [] g = g.0
      there (y ∷ ys) g = there ys g.1

  ascending_added : (zs xs : List A) → Ascending before (zs ++ xs) → add_all_by before join zs xs ≡ zs ++ xs
  unfolding add_all_by
  ascending_added zs [] h = sym (append-nil zs)
  ascending_added zs (x ∷ xs) h =
      ap (λ l. add_all_by before join l xs) (add_end x zs (before_all x zs xs h))
      ∙ ascending_added (zs ++ (x ∷ [])) xs (subst (Ascending before) (sym (append_assoc zs (x ∷ []) xs)) h)
      ∙ append_assoc zs (x ∷ []) xs

  pub already_added : (xs : List A) → Ascending before xs → add_all_by before join [] xs ≡ xs
  already_added xs h = ascending_added [] xs h
