-- The fields of a list, one after the other, and how long they are at most.
use Prim.Native.Nat.{ℕ, zero, suc, ◌+◌, ◌*◌, ◌≤◌, ◌<◌}
use native.Mathlib.Omega.{arith}
use native.Mathlib.Nat.{mul-suc}
use native.Mathlib.Numerals.{add-one}
use mathlib.Core.Path.{◌≡◌, refl, ◌∙◌, ap}
use mathlib.Core.List.{List, [], ◌∷◌, ◌++◌, flatten}
use lib.ListN.{length, drop, get_or, length-append, drop_of_length-le}
use lib.Seq.{drop-cons}
use Rattle.print_texts.specs.Texts.{Text, fields}
use Rattle.print_texts.specs.Placing.{placed, PlacedText}
use Rattle.print_texts.proofs.Placements.{placed_both}

module _ (f : ℕ → Text) where
  pub fields_none : fields f [] ≡ []
  unfolding fields flatten
  fields_none = refl

  pub fields_cons : (w : ℕ) (ws : List ℕ) → fields f (w ∷ ws) ≡ f w ++ fields f ws
  unfolding fields flatten
  fields_cons w ws = refl

  module _ (ws : List ℕ) (i : ℕ) where
    pub fields_end : length ws ≤ i → fields f (drop i ws) ≡ []
    fields_end h = rw (drop_of_length-le ws h) fields_none

    pub fields_step : i < length ws → fields f (drop i ws) ≡ f (get_or ws i 0) ++ fields f (drop (i + 1) ws)
    fields_step h = rw (add-one, drop-cons ws i 0) (fields_cons (get_or ws i 0) (drop (suc i) ws))

    pub field_room : i < length ws → length (f (get_or ws i 0)) ≤ length (fields f (drop i ws))
    field_room h =
        let e = ap length (fields_step h) ∙ length-append (f (get_or ws i 0)) (fields f (drop (i + 1) ws)) in
        omega arith

    -- one field more: what is left of the text stands behind it
    module _ (at next : ℕ) (before after : List ℕ) (h : i < length ws) (room : at + length (fields f (drop i ws)) ≤ length before)
        (x : PlacedText (f (get_or ws i 0)) at before after next) where
      field_length : length (fields f (drop i ws)) ≡ length (f (get_or ws i 0)) + length (fields f (drop (i + 1) ws))
      field_length = ap length (fields_step h) ∙ length-append (f (get_or ws i 0)) (fields f (drop (i + 1) ws))

      pub field_next : next + length (fields f (drop (i + 1) ws)) ≡ at + length (fields f (drop i ws))
      field_next = let e = field_length in let n = x.0 in omega arith

      pub field_placed : placed (fields f (drop (i + 1) ws)) next after ≡ placed (fields f (drop i ws)) at before
      field_placed =
          let e = field_length in
          rw (x.0, x.1, fields_step h) (placed_both (f (get_or ws i 0)) (fields f (drop (i + 1) ws)) at before (omega arith))

  -- fields of at most m bytes
  pub fields_most : (m : ℕ) (ws : List ℕ) → ((i : ℕ) → length (f (get_or ws i 0)) ≤ m) → length (fields f ws) ≤ m * length ws
  fields_most m [] h = let e = ap length fields_none in omega arith
  fields_most m (w ∷ ws) h =
      let e = ap length (fields_cons w ws) ∙ length-append (f w) (fields f ws) in
      let ih = fields_most m ws (λ i. h (suc i)) in
      let a = h zero in
      let p = mul-suc m (length ws) in
      omega arith

-- three texts
pub three_length : (a b c : Text) → length (a ++ b ++ c) ≡ length a + length b + length c
three_length a b c = length-append (a ++ b) c ∙ ap (λ (k : ℕ). k + length c) (length-append a b)
