-- Laws of ranges among sorted places, over any number of columns and of places. A range holds exactly the places whose leading fields
-- are the fixed ones, and the side of a place says on which side of the range it lies: this is what a search goes by.
use Prim.Native.Nat.{ℕ, ◌≤◌, ◌<◌}
use native.Mathlib.Omega.{arith}
use mathlib.Core.Path.{◌≡◌, refl, sym, ap}
use mathlib.Core.Bool.{Bool, true, false, not, and-false}
use mathlib.Core.List.{List}
use lib.Dec.{leb, ltb}
use lib.ListN.{length, take}
use borrow.Author.Tests.{le-leb, lt-leb, lt-ltb, le-ltb, leb-true, ltb-true}
use Rattle.std.specs.declared.cmp.Ordering.{Ordering}
use Rattle.std.specs.declared.cmp.Ordering.TheVariants.{Less, Equal, Greater}
use Rattle.sequences.specs.Sequences.{lex_before}
use Rattle.sequences.proofs.Booleans.{absurd_true, and_left, and_right}
use Rattle.sequences.proofs.Orders.{lex_asym, lex_trans}
use Rattle.sequences.proofs.Counting.{count_le, count_mono}
use Rattle.sequences.proofs.Downward.{passes_below, fails_from}
use Rattle.tables.specs.Ranges.{start_among, end_among, between}
use Rattle.tables.specs.Sides.{side_of, is_within, bound_as, before_bound}
use Rattle.tables.proofs.Sides.{OnSide, before, within, after, on_side, neither_within, within_leading, leading_within}
use Rattle.tables.proofs.Sorted.{Sorted, ascend}

-- ---- where a place lies, against a start and an end
module _ (start end : ℕ) where
  abbrev pub LiesOn : Ordering → ℕ → Type 0
  LiesOn Less place = place < start
  LiesOn Equal place = (start ≤ place) × (place < end)
  LiesOn Greater place = end ≤ place

  pub lies_in : (s : Ordering) (place : ℕ) → LiesOn s place → between start end place ≡ is_within s
  lies_in Less place h = rw (lt-leb start place h)
  lies_in Equal place h = rw (le-leb start place h.0, lt-ltb place end h.1)
  lies_in Greater place h = rw (le-ltb place end h) (and-false (leb start place))

  pub in_lies : (place : ℕ) → between start end place ≡ true → LiesOn Equal place
  in_lies place e = (leb-true _ _ (and_left (leb start place) _ e), ltb-true _ _ (and_right (leb start place) _ e))

  -- whether it lies before a bound
  pub lies_before : (s : Ordering) (place : ℕ) → LiesOn s place → start ≤ end → (last : Bool)
      → before_bound s last ≡ ltb place (bound_as start end last)
  lies_before Less place h l true = sym (lt-ltb place end (omega arith))
  lies_before Less place h l false = sym (lt-ltb place start h)
  lies_before Equal place h l true = sym (lt-ltb place end h.1)
  lies_before Equal place h l false = sym (le-ltb place start h.0)
  lies_before Greater place h l true = sym (le-ltb place end h)
  lies_before Greater place h l false = sym (le-ltb place start (omega arith))

-- ---- among any places
module _ (count : ℕ) (fields : ℕ → List ℕ) (fixed : List ℕ) where
  -- what comes before the fixed fields does not come after them
  pub start_before_end : start_among fields count fixed ≤ end_among fields count fixed
  unfolding start_among end_among
  start_before_end = count_mono _ _ count (λ i l e. ap not (lex_asym (fields i) fixed e))

  pub end_in_count : end_among fields count fixed ≤ count
  unfolding end_among
  end_in_count = count_le _ count

-- ---- among sorted places
module _ (columns count : ℕ) (fields : ℕ → List ℕ) (sorted : Sorted columns count fields) (fixed : List ℕ) where
  abbrev start : ℕ
  start = start_among fields count fixed

  abbrev end : ℕ
  end = end_among fields count fixed

  -- a later place has its fields after those of an earlier one, so either test passes up to some place
  early_down : (j i : ℕ) → j < i → i < count → lex_before (fields i) fixed ≡ true → lex_before (fields j) fixed ≡ true
  early_down j i h l e = lex_trans (fields j) (fields i) fixed (ascend columns count fields sorted j i h l) e

  not_late_down : (j i : ℕ) → j < i → i < count → not (lex_before fixed (fields i)) ≡ true → not (lex_before fixed (fields j)) ≡ true
  not_late_down j i h l e = go (lex_before fixed (fields j)) refl
    where
      go : (b : Bool) → lex_before fixed (fields j) ≡ b → not (lex_before fixed (fields j)) ≡ true
      go true f = absurd_true e (ap not (lex_trans fixed (fields j) (fields i) f (ascend columns count fields sorted j i h l)))
      go false f = ap not f

  module _ (place : ℕ) (here : place < count) where
    start_past : lex_before (fields place) fixed ≡ true → place < start
    unfolding start_among
    start_past = passes_below (λ i. lex_before (fields i) fixed) count early_down place here

    start_upto : lex_before (fields place) fixed ≡ false → start ≤ place
    unfolding start_among
    start_upto = fails_from (λ i. lex_before (fields i) fixed) count early_down place here

    end_past : lex_before fixed (fields place) ≡ false → place < end
    unfolding end_among
    end_past e = passes_below (λ i. not (lex_before fixed (fields i))) count not_late_down place here (ap not e)

    end_upto : lex_before fixed (fields place) ≡ true → end ≤ place
    unfolding end_among
    end_upto e = fails_from (λ i. not (lex_before fixed (fields i))) count not_late_down place here (ap not e)

    -- a place lies on the side on which its fields stand
    pub side_on : (s : Ordering) → side_of (fields place) fixed ≡ s → LiesOn start end s place
    side_on s e = go s (on_side (fields place) fixed s e)
      where
        go : (s : Ordering) → OnSide (fields place) fixed s → LiesOn start end s place
        go Less (before p) = start_past p
        go Equal (within p q) = (start_upto p, end_past q)
        go Greater (after p q) = end_upto q

    pub side_between : (s : Ordering) → side_of (fields place) fixed ≡ s → between start end place ≡ is_within s
    side_between s e = lies_in start end s place (side_on s e)

    -- those whose leading fields are the fixed ones
    pub leading_between : take (length fixed) (fields place) ≡ fixed → between start end place ≡ true
    leading_between e =
        let n = leading_within (fields place) fixed e in
        side_between Equal (neither_within (fields place) fixed n.0 n.1)

  -- ---- the places of a range are those within
  pub between_within : (place : ℕ) → between start end place ≡ true → (place < count) × (side_of (fields place) fixed ≡ Equal)
  between_within place e =
      let l = in_lies start end place e in
      let k = end_in_count count fields fixed in
      let h : place < count = omega arith in
      (h, go h (side_of (fields place) fixed) refl)
    where
      go : place < count → (s : Ordering) → side_of (fields place) fixed ≡ s → s ≡ Equal
      go h Less p = absurd_true e (side_between place h Less p)
      go h Equal p = refl
      go h Greater p = absurd_true e (side_between place h Greater p)

  pub between_leading : (place : ℕ) → length fixed ≤ columns → between start end place ≡ true
      → take (length fixed) (fields place) ≡ fixed
  between_leading place l e =
      let w = between_within place e in
      go (let n = sorted.width place w.0 in omega arith) (on_side (fields place) fixed Equal w.1)
    where
      go : length fixed ≤ length (fields place) → OnSide (fields place) fixed Equal → take (length fixed) (fields place) ≡ fixed
      go k (within p q) = within_leading (fields place) fixed k p q
