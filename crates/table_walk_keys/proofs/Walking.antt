-- Laws of the walk over the orders: what each place adds, where a fault ends it, and which test that leaves to fail.
use Prim.Native.Nat.{ℕ, zero, suc, ◌+◌, ◌-◌, ◌≤◌, ◌<◌}
use native.Mathlib.Omega.{arith}
use native.Mathlib.Numerals.{add-one}
use mathlib.Core.Path.{◌≡◌, refl, ◌∙◌}
use mathlib.Core.Bool.{Bool, true, false, ◌&&◌, and-false}
use mathlib.Core.List.{List}
use lib.Dec.{ltb}
use borrow.Author.Tests.{lt-ltb, le-ltb, ltb-true, ltb-false}
use Rattle.std.specs.Prelude.{Some, None}
use Rattle.sequences.specs.Sequences.{all_below, lex_before}
use Rattle.sequences.proofs.Booleans.{and_left, and_right, and_both}
use Rattle.sequences.proofs.Counting.{all_at_lem, fails_below}
use Rattle.tables.specs.declared.Order.{Order}
use Rattle.tables.specs.Tables.{Tables, row_count, row_at}
use Rattle.table_walk_keys.specs.Walk.{order_at, order_count, keys_at, reading_at, right_upto, order_right, right_orders}

module _ (alike : Bool) (t : Tables) (o : Order) where
  abbrev names : ℕ → Bool
  names place = ltb (row_at o t place) (row_count t)

  abbrev climbs : ℕ → Bool
  climbs place = lex_before (keys_at alike o t place) (keys_at alike o t (suc place))

  -- ---- a place that was read
  module _ (place : ℕ) where
    read_row_keys : (b : Bool) → names place ≡ b → (keys : List ℕ) → Some keys ≡ reading_at alike t o place → (b ≡ true) × (keys ≡ keys_at alike o t place)
    read_row_keys true p keys e = (refl, (let f : Some keys ≡ Some (keys_at alike o t place) = e ∙ rw p in cc))
    read_row_keys false p keys e = (let f : Some keys ≡ None = e ∙ rw p in cc)

    pub read_row : (keys : List ℕ) → Some keys ≡ reading_at alike t o place → row_at o t place < row_count t
    read_row keys e = ltb-true _ _ (read_row_keys (names place) refl keys e).0

    pub read_keys : (keys : List ℕ) → Some keys ≡ reading_at alike t o place → keys ≡ keys_at alike o t place
    read_keys keys e = (read_row_keys (names place) refl keys e).1

    pub read_none : None ≡ reading_at alike t o place → row_count t ≤ row_at o t place
    read_none e = ltb-false _ _ (go (names place) refl)
      where
        go : (b : Bool) → names place ≡ b → names place ≡ false
        go true p = (let f : None ≡ Some (keys_at alike o t place) = e ∙ rw p in cc)
        go false p = p

  -- ---- what a place adds
  pub upto_none : right_upto alike t o 0 ≡ true
  unfolding right_upto all_below
  upto_none = refl

  pub upto_first : row_at o t 0 < row_count t → right_upto alike t o 1 ≡ true
  unfolding right_upto all_below
  upto_first h = rw (lt-ltb (row_at o t 0) (row_count t) h)

  pub upto_named : (n : ℕ) → right_upto alike t o n ≡ true → (p : ℕ) → p < n → row_at o t p < row_count t
  unfolding right_upto
  upto_named n e p h = ltb-true _ _ (all_at_lem names n (and_left (all_below names n) (all_below climbs (n - 1)) e) p h)

  upto_more : (p : ℕ) → right_upto alike t o (suc p) ≡ true → names (suc p) ≡ true → climbs p ≡ true → right_upto alike t o (suc (suc p)) ≡ true
  unfolding right_upto all_below
  upto_more p e n c =
      let a : suc p - 1 ≡ p = omega arith in
      let b : suc (suc p) - 1 ≡ suc p = omega arith in
      let e₁ : all_below names (suc p) && all_below climbs p ≡ true = rw a at e in
      rw b
      (and_both (all_below names (suc p) && names (suc p)) (all_below climbs p && climbs p)
      (and_both (all_below names (suc p)) (names (suc p)) (and_left (all_below names (suc p)) (all_below climbs p) e₁) n)
      (and_both (all_below climbs p) (climbs p) (and_right (all_below names (suc p)) (all_below climbs p) e₁) c))

  pub upto_next : (place : ℕ) → 1 ≤ place → right_upto alike t o place ≡ true → row_at o t place < row_count t
      → lex_before (keys_at alike o t (place - 1)) (keys_at alike o t place) ≡ true → right_upto alike t o (place + 1) ≡ true
  upto_next zero h e n c = absurd (omega arith)
  upto_next (suc p) h e n c =
      let a : suc p - 1 ≡ p = omega arith in
      rw (add-one (suc p)) (upto_more p e (lt-ltb _ _ n) (rw a at c))

  -- ---- what a fault says
  pub unnamed_fault : (place : ℕ) → place < row_count t → row_count t ≤ row_at o t place → order_right alike t o ≡ false
  unfolding right_upto
  unnamed_fault place h n = rw (fails_below names (row_count t) place h (le-ltb _ _ n))

  climbs_not : (p : ℕ) → suc p < row_count t → climbs p ≡ false → order_right alike t o ≡ false
  unfolding right_upto
  climbs_not p h e = rw (fails_below climbs (row_count t - 1) p (omega arith) e) (and-false (all_below names (row_count t)))

  pub descent_fault : (place : ℕ) → 1 ≤ place → place < row_count t
      → lex_before (keys_at alike o t (place - 1)) (keys_at alike o t place) ≡ false → order_right alike t o ≡ false
  descent_fault zero l h e = absurd (omega arith)
  descent_fault (suc p) l h e = let a : suc p - 1 ≡ p = omega arith in climbs_not p h (rw a at e)

-- ---- from order to order
module _ (alike : Bool) (t : Tables) where
  -- the orders before a number are right
  pub record RightBefore (turn : ℕ) : Type 0 where
    pub known : turn ≤ order_count
    pub right : (k : ℕ) → k < turn → order_right alike t (order_at k) ≡ true

  pub orders_none : RightBefore 0
  orders_none = record { known = omega arith; right = λ k h. absurd (omega arith) }

  -- the first order that is not right; none
  pub orders_fault : (turn : ℕ) → RightBefore turn → turn < order_count → order_right alike t (order_at turn) ≡ false → right_orders alike t ≡ turn
  unfolding right_orders
  orders_fault zero b h e = rw e
  orders_fault (suc zero) b h e = rw (b.right 0 (omega arith), e)
  orders_fault (suc (suc zero)) b h e = rw (b.right 0 (omega arith), b.right 1 (omega arith), e)
  orders_fault (suc (suc (suc n))) b h e = absurd (omega arith)

  pub orders_all : (turn : ℕ) → RightBefore turn → order_count ≤ turn → right_orders alike t ≡ turn
  unfolding right_orders
  orders_all turn b h =
      let k = b.known in
      let n : order_count ≡ turn = omega arith in
      rw (b.right 0 (omega arith), b.right 1 (omega arith), b.right 2 (omega arith)) n
