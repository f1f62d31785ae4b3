-- The place of a row among the rows of a best-of list, searched from the back: the rows behind the place are passed.
use Prim.Native.Nat.{ℕ, ◌+◌, ◌-◌, ◌*◌, ◌/◌, ◌%◌, ◌≤◌, ◌<◌}
use native.Mathlib.Omega.{arith}
use native.Mathlib.Nat.{div-add-mod', zero-mul}
use mathlib.Core.Path.{◌≡◌, sym, ◌∙◌, ap, subst}
use mathlib.Core.Bool.{Bool, true, false}
use mathlib.Core.List.{List, [], ◌∷◌, ◌++◌}
use lib.ListN.{length, take, drop, length-drop, take-append-drop}
use lib.Seq.{take-length, length-take-le}
use Rattle.lists.specs.Rows.{row_before}
use Rattle.lists.specs.Gathering.{records_in}
use Rattle.list_best_places.specs.Places.{Searchable, place_in, row_place, PlacedUpTo}
use Rattle.lists.proofs.Records.{length_records, records_nil}
use Rattle.sequences.proofs.Sorting.{Sorted, sorted_take}
use Rattle.list_best_places.proofs.Placing.{place_le, place_back, place_behind, place_front, sorted_neighbours}
use Rattle.lists.proofs.RowOrder.{rows_ordered}
use Rattle.list_best_places.proofs.RowWords.{records_snoc, records_append, records_take, whole_room, whole_less, whole_rest, last_row_lem}
use Rattle.list_best_places.proofs.RowWords.{row_at, row_records}

-- the row that ends at some words
abbrev pub row_back : ℕ → List ℕ → ℕ → List ℕ
row_back w list at = take (at - (at - w)) (drop (at - w) list)

module _ {vs keys row list : List ℕ} (s : Searchable vs keys row list) where
  pub placed_start : PlacedUpTo vs keys row list (length list)
  placed_start = record { up_to = omega arith; whole = s.whole; same = rw take-length }

  -- what code found of a row, wherever it is: the row comes before it, so its place is not behind that one
  module _ {at : ℕ} (h : at + length vs ≤ length list) (m : at % length vs ≡ 0) {t : Bool}
      (e : t ≡ row_before vs keys row (row_at (length vs) list at)) where
    pub placed_at : t ≡ true → PlacedUpTo vs keys row list at
    placed_at p =
        let front = records_in (length vs) (take at list) in
        let rest = records_in (length vs) (drop (at + length vs) list) in
        let n : length (take at list) ≡ at = length-take-le at list (omega arith) in
        let split : records_in (length vs) list ≡ front ++ (row_at (length vs) list at ∷ rest) =
        ap (records_in (length vs)) (sym (take-append-drop at list))
        ∙ records_append (length vs) s.some (take at list) (drop at list) (ap (λ x. x % length vs) n ∙ m)
        (ap (λ x. x % length vs) (length-drop at list) ∙ whole_rest (length vs) at (length list) m s.whole)
        ∙ ap (λ l. front ++ l) (row_records (length vs) list at h s.some) in
        record {
          up_to = omega arith;
          whole = m;
          same = ap (place_in (row_before vs keys) row) split ∙ place_behind (row_before vs keys) row (row_at (length vs) list at) rest front (sym e ∙ p);
        }

  module _ {at : ℕ} (inv : PlacedUpTo vs keys row list at) where
    pub placed_end : at ≡ 0 → at ≡ row_place vs keys row list * length vs
    placed_end z =
        let none : records_in (length vs) (take at list) ≡ [] =
        ap (λ n. records_in (length vs) (take n list)) z ∙ records_nil (length vs) in
        let p : row_place vs keys row list ≡ place_in (row_before vs keys) row [] =
        inv.same ∙ ap (place_in (row_before vs keys) row) none in
        let l = place_le (row_before vs keys) row [] in
        let q : row_place vs keys row list ≡ 0 = omega arith in
        z ∙ sym (ap (λ n. n * length vs) q ∙ zero-mul (length vs))

    module _ (more : 0 < at) where
      pub row_room : length vs ≤ at
      row_room = whole_room (length vs) at inv.whole more

      pub length_back : length (row_back (length vs) list at) ≡ length vs
      length_back =
          let r = row_room in
          let d = length-drop (at - length vs) list in
          let u = inv.up_to in
          length-take-le (at - (at - length vs)) (drop (at - length vs) list) (omega arith) ∙ omega arith

      rows : records_in (length vs) (take at list)
          ≡ records_in (length vs) (take (at - length vs) list) ++ (row_back (length vs) list at ∷ [])
      rows =
          let r = row_room in
          let u = inv.up_to in
          let n : length (take (at - length vs) list) ≡ at - length vs = length-take-le (at - length vs) list (omega arith) in
          ap (records_in (length vs)) (last_row_lem (length vs) at list r)
          ∙ records_snoc (length vs) s.some (take (at - length vs) list) (row_back (length vs) list at)
          (ap (λ m. m % length vs) n ∙ whole_less (length vs) at inv.whole r) length_back

      -- what code found of the row that ends there
      module _ {t : Bool} (e : t ≡ row_before vs keys row (row_back (length vs) list at)) where
        pub placed_back : t ≡ true → PlacedUpTo vs keys row list (at - length vs)
        placed_back p =
            let r = row_room in
            let u = inv.up_to in
            record {
              up_to = omega arith;
              whole = whole_less (length vs) at inv.whole r;
              same = inv.same
                  ∙ ap (place_in (row_before vs keys) row) rows
                  ∙ place_back (row_before vs keys) row (row_back (length vs) list at) (records_in (length vs) (take (at - length vs) list)) (sym e ∙ p);
            }

        pub placed_front : t ≡ false → at ≡ row_place vs keys row list * length vs
        placed_front f =
            let B = row_before vs keys in
            let R = records_in (length vs) (take (at - length vs) list) in
            let all : Sorted B (records_in (length vs) (take at list)) =
            subst (Sorted B) (sym (records_take (length vs) s.some at list inv.whole s.whole))
            (sorted_take B (at / length vs) (records_in (length vs) list)
            (sorted_neighbours B (rows_ordered vs keys) (records_in (length vs) list) s.rising)) in
            let p : row_place vs keys row list ≡ length (take at list) / length vs =
            inv.same
            ∙ ap (place_in B row) rows
            ∙ place_front B row (rows_ordered vs keys) (row_back (length vs) list at) R (sym e ∙ f) (subst (Sorted B) rows all)
            ∙ sym (ap length rows)
            ∙ length_records (length vs) (take at list) in
            let q : row_place vs keys row list ≡ at / length vs =
            p ∙ ap (λ n. n / length vs) (length-take-le at list inv.up_to) in
            let d = div-add-mod' at (length vs) in
            let m : at ≡ at / length vs * length vs = omega (arith, inv.whole) in
            m ∙ sym (ap (λ n. n * length vs) q)
