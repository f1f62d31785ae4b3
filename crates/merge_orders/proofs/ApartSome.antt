-- Some of the lists, none of them taken twice: where no two elements of all lists are equal, no two of theirs are.
use Prim.Native.Nat.{ℕ, zero, suc}
use mathlib.Core.Path.{◌≡◌, refl, sym, ◌∙◌, ap, ap₂, subst}
use mathlib.Core.Bool.{Bool, true, not}
use mathlib.Core.List.Permᴰ
use mathlib.Core.List.{List, [], ◌∷◌, ◌++◌, map, flatten, Permᴰ}
use lib.ListN.{length, get_or, set, get_or-map}
use borrow.Author.Tests.{not-true}
use Rattle.sequences.specs.Sequences.{member, distinct}
use Rattle.sequences.proofs.Booleans.{and_left, and_right}
use Rattle.sequences.proofs.Orders.{Ordered}
use Rattle.sequences.proofs.Each.{Each, each_append}
use Rattle.sequences.proofs.EachMore.{each_weaken, each_left, each_permuted}
use Rattle.lists.specs.Rows.{row_before}
use Rattle.lists.specs.Gathering.{records_in}
use Rattle.lists.proofs.Records.{records_nil}
use Rattle.lists.proofs.RowOrder.{rows_ordered}
use Rattle.lists.proofs.Chosen.{others}
use Rattle.merge_orders.specs.Apart.{Differs, Apart}
use Rattle.merge_orders.specs.Ways.{rows_merged}
use Rattle.merge_orders.proofs.Permuted.{behind_permuted, swapped}
use Rattle.merge_orders.proofs.Reordering.{apart_permuted}
use Rattle.merge_orders.proofs.ApartParts.{apart_append, apart_left, apart_right, apart_across}

module _ {A : Type 0} where
  -- one list before the others
  taken_out : (xss : List (List A)) (i : ℕ) → Permᴰ (flatten xss) (get_or xss i [] ++ flatten (set xss i []))
  unfolding flatten
  taken_out [] i = Permᴰ.nil
  taken_out (xs ∷ xss) zero = Permᴰ.refl (xs ++ flatten xss)
  taken_out (xs ∷ xss) (suc i) =
      Permᴰ.trans (behind_permuted xs (taken_out xss i)) (swapped xs (get_or xss i []) (flatten (set xss i [])))

  each_some : (P : A → Type 0) (is : List ℕ) (xss : List (List A)) → Each P (flatten xss) → Each P (flatten (map (λ i. get_or xss i []) is))
  unfolding flatten
  each_some P [] xss h = tt
  each_some P (i ∷ is) xss h =
      each_append P (get_or xss i []) (flatten (map (λ j. get_or xss j []) is))
      (each_left P (get_or xss i []) (flatten (set xss i [])) (each_permuted P (taken_out xss i) h)) (each_some P is xss h)

  apart_some : (before : A → A → Bool) → Ordered before → (is : List ℕ) (xss : List (List A)) → distinct is ≡ true
      → Apart before (flatten xss) → Apart before (flatten (map (λ i. get_or xss i []) is))
  unfolding distinct flatten
  apart_some before o [] xss d p = tt
  apart_some before o (i ∷ is) xss d p =
      let X = get_or xss i [] in
      let R = set xss i [] in
      let q = apart_permuted before o (taken_out xss i) p in
      let rest = apart_some before o is R (and_right (not (member i is)) (distinct is) d) (apart_right before X (flatten R) q) in
      let across = each_weaken (λ x. each_some (Differs before x) is R) X (apart_across before X (flatten R) q) in
      subst (λ l. Apart before (X ++ flatten l)) (others xss i is (not-true (member i is) (and_left (not (member i is)) (distinct is) d)))
      (apart_append before X (flatten (map (λ j. get_or R j []) is)) (apart_left before X (flatten R) q) rest across)

-- of rows
records_at_lem : (w : ℕ) (lists : List (List ℕ)) (is : List ℕ)
    → map (λ i. get_or (map (records_in w) lists) i []) is ≡ map (λ i. records_in w (get_or lists i [])) is
records_at_lem w lists [] = refl
records_at_lem w lists (i ∷ is) =
    ap₂ ◌∷◌ (ap (get_or (map (records_in w) lists) i) (sym (records_nil w)) ∙ get_or-map (records_in w) lists i []) (records_at_lem w lists is)

pub apart_merged : (vs keys : List ℕ) (lists : List (List ℕ)) (is : List ℕ) → distinct is ≡ true
    → Apart (row_before vs keys) (flatten (map (records_in (length vs)) lists)) → Apart (row_before vs keys) (rows_merged (length vs) lists is)
apart_merged vs keys lists is d p =
    subst (λ l. Apart (row_before vs keys) (flatten l)) (records_at_lem (length vs) lists is)
    (apart_some (row_before vs keys) (rows_ordered vs keys) is (map (records_in (length vs)) lists) d p)
