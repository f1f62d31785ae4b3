-- The order of the rows of a list, tested from a place on: no row comes before the one in front of it.
use Prim.Native.Nat.{ℕ, ◌+◌, ◌/◌, ◌%◌, ◌≤◌, ◌<◌}
use native.Mathlib.Omega.{arith}
use native.Mathlib.Nat.{div-le_of_le-mul}
use mathlib.Core.Path.{◌≡◌, refl, sym, ◌∙◌, ap}
use mathlib.Core.Bool.{Bool, true, false, not, ◌&&◌}
use mathlib.Core.List.{List, [], ◌∷◌}
use lib.ListN.{length, drop, length-drop}
use Rattle.sequences.specs.Sequences.{neighbours}
use Rattle.lists.specs.Rows.{row_before}
use Rattle.lists.specs.Gathering.{records_in}
use Rattle.lists.proofs.Records.{length_records}
use Rattle.list_best_places.proofs.RowWords.{row_at, next_row, row_length, rest_whole, row_records}

abbrev pub in_order : List ℕ → List ℕ → List ℕ → Bool
in_order vs keys ws = neighbours (λ x y. not (row_before vs keys y x)) (records_in (length vs) ws)

-- from some words on, of whole rows: the test is that of these rows
pub record Rising (vs keys list : List ℕ) (at : ℕ) : Type 0 where
  pub up_to : at ≤ length list
  pub whole : length (drop at list) % length vs ≡ 0
  pub same : in_order vs keys list ≡ in_order vs keys (drop at list)

-- at most one row is in order
short : {A : Type 0} (f : A → A → Bool) (xs : List A) → length xs ≤ 1 → neighbours f xs ≡ true
unfolding neighbours
short f [] h = refl
short f (x ∷ []) h = refl
short f (x ∷ y ∷ xs) h = absurd (omega arith)

next_two : {A : Type 0} (f : A → A → Bool) (x y : A) (xs : List A) → neighbours f (x ∷ y ∷ xs) ≡ f x y && neighbours f (y ∷ xs)
unfolding neighbours
next_two f x y xs = refl

pub rising_start : (vs keys list : List ℕ) → length list % length vs ≡ 0 → Rising vs keys list 0
rising_start vs keys list e = record { up_to = omega arith; whole = e; same = refl }

module _ {vs keys list : List ℕ} (pos : 0 < length vs) {at : ℕ} (r : Rising vs keys list at) where
  pub rising_end : length list ≤ at + length vs → true ≡ in_order vs keys list
  rising_end h =
      let d = length-drop at list in
      let few : length (drop at list) / length vs ≤ 1 = div-le_of_le-mul (length vs) (omega arith) in
      sym (r.same ∙ short (λ x y. not (row_before vs keys y x)) (records_in (length vs) (drop at list))
      (omega (arith, length_records (length vs) (drop at list))))

  module _ (more : at + length vs < length list) where
    first : at + length vs ≤ length list
    first = omega arith

    rest : length (drop (at + length vs) list) % length vs ≡ 0
    rest = rest_whole (length vs) list at first r.whole

    pub second : at + length vs + length vs ≤ length list
    second = next_row (length vs) list (at + length vs) rest more

    pub widths : (length (row_at (length vs) list at) ≡ length vs) × (length (row_at (length vs) list (at + length vs)) ≡ length vs)
    widths = (row_length (length vs) list at first, row_length (length vs) list (at + length vs) second)

    two : in_order vs keys (drop at list)
        ≡ not (row_before vs keys (row_at (length vs) list (at + length vs)) (row_at (length vs) list at))
        && in_order vs keys (drop (at + length vs) list)
    two =
        let f : List ℕ → List ℕ → Bool = λ x y. not (row_before vs keys y x) in
        let x = row_at (length vs) list at in
        let y = row_at (length vs) list (at + length vs) in
        let R = records_in (length vs) (drop (at + length vs + length vs) list) in
        let e = row_records (length vs) list (at + length vs) second pos in
        ap (neighbours f) (row_records (length vs) list at first pos ∙ ap (λ l. x ∷ l) e)
        ∙ next_two f x y R
        ∙ ap (λ l. f x y && neighbours f l) (sym e)

    module _ {t : Bool} (e : t ≡ row_before vs keys (row_at (length vs) list (at + length vs)) (row_at (length vs) list at)) where
      pub rising_more : t ≡ false → Rising vs keys list (at + length vs)
      rising_more p = record { up_to = first; whole = rest; same = r.same ∙ two ∙ rw (sym e ∙ p) }

      pub rising_stops : t ≡ true → false ≡ in_order vs keys list
      rising_stops p = sym (r.same ∙ two ∙ rw (sym e ∙ p))
