-- What a side says of the order: before, after, or neither.
use mathlib.Core.Path.{◌≡◌, refl, sym, ◌∙◌}
use mathlib.Core.Bool.{Bool, true, false, cond}
use Rattle.std.specs.declared.cmp.Ordering.{Ordering}
use Rattle.std.specs.declared.cmp.Ordering.TheVariants.{Less, Equal, Greater}
use Rattle.lists.specs.Sides.{side_by}

module _ {A : Type 0} (before : A → A → Bool) (x y : A) where
  side_cases : (s t : Bool) → (cond s Less (cond t Greater Equal) ≡ Less → s ≡ true)
      × (cond s Less (cond t Greater Equal) ≡ Equal → (s ≡ false) × (t ≡ false))
      × (cond s Less (cond t Greater Equal) ≡ Greater → (s ≡ false) × (t ≡ true))
  side_cases true t = (λ e. refl, λ e. (cc, cc), λ e. (cc, cc))
  side_cases false true = (λ e. cc, λ e. (refl, cc), λ e. (refl, refl))
  side_cases false false = (λ e. cc, λ e. (refl, refl), λ e. (refl, cc))

  pub side_before : side_by before x y ≡ Less → before x y ≡ true
  side_before e = (side_cases (before x y) (before y x)).0 e

  pub side_neither : side_by before x y ≡ Equal → (before x y ≡ false) × (before y x ≡ false)
  side_neither e = (side_cases (before x y) (before y x)).1 e

  pub side_after : side_by before x y ≡ Greater → before y x ≡ true
  side_after e = ((side_cases (before x y) (before y x)).2 e).1

  -- of the side that code found
  module _ (s : Ordering) (e : s ≡ side_by before x y) where
    pub is_before : s ≡ Less → true ≡ before x y
    is_before p = sym (side_before (sym e ∙ p))

    pub is_same : s ≡ Equal → false ≡ before x y
    is_same p = sym (side_neither (sym e ∙ p)).0

    pub is_after : s ≡ Greater → false ≡ before x y
    is_after p = sym ((side_cases (before x y) (before y x)).2 (sym e ∙ p)).0
