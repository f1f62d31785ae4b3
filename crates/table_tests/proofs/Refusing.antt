-- The number of the first test that tables fail, from what the parts of the check find.
use Prim.Native.Nat.{ℕ, zero, suc, ◌-◌, ◌≤◌, ◌<◌}
use native.Mathlib.Omega.{arith}
use mathlib.Core.Path.{◌≡◌, refl, sym, ◌∙◌, ap}
use mathlib.Core.Bool.{Bool, true, false, cond, ◌&&◌}
use mathlib.Core.Option.{Option, none, some}
use mathlib.Core.List.{List}
use lib.Dec.{ltb}
use lib.ListN.{length, get_or}
use borrow.Author.Tests.{ltb-true}
use Rattle.sequences.specs.Sequences.{all_below, lex_before}
use Rattle.words.specs.Tests.{first_failing, number_of}
use Rattle.sequences.proofs.Booleans.{Decided, yes, no, decided, absurd_true, and_right}
use Rattle.sequences.proofs.Counting.{all_at_lem}
use Rattle.sequences.proofs.Elements.{all_below_lem}
use Rattle.tables.specs.declared.Order.{Order}
use Rattle.tables.specs.declared.Order.TheVariants.{Spo, Pos, Osp}
use Rattle.tables.specs.Tables.{Tables, most_rows, row_count, row_at, fields_at, lengths_right, kinds_right, years_right, ascends, names_rows, table_tests}
use Rattle.tables.specs.Right.{Sized}
use Rattle.tables.proofs.RightTables.{sized_lengths}
use Rattle.table_walk_keys.specs.Walk.{order_count, keys_at, Words, right_upto, order_right, OneYear, right_orders}
use Rattle.table_walk_keys.proofs.Keys.{all_agree, keys_say, order_rows}
use Rattle.table_walk_keys.proofs.Walking.{upto_none, upto_named, orders_none, orders_fault}
use Rattle.table_tests.specs.Refusals.{rows_refusal, refusal_after, refusal_with}

-- the tests of the rows' order and of both lists, and the same by order
by_order : (s n m p o : Bool) → number_of (cond s (cond (n && (m && (p && o))) none (some 4)) (some 3))
    ≡ refusal_after (cond s (cond (n && p) (cond (m && o) 3 2) 1) 0)
by_order false n m p o = refl
by_order true false m p o = refl
by_order true true m false o = none_right m
  where
    none_right : (m : Bool) → number_of (cond (m && false) none (some 4)) ≡ 4
    none_right true = refl
    none_right false = refl
by_order true true false true o = refl
by_order true true true true false = refl
by_order true true true true true = refl

module _ (t : Tables) where
  -- ---- an order of a list is right by its tests, where the rows ascend in their own
  module _ (alike : Bool) (one : alike ≡ true → OneYear t.rows) (w : Words t.rows) (few : row_count t ≤ most_rows) (own : ascends Spo t ≡ true)
      (o : Order) (list : List ℕ) (l : length list ≡ row_count t) (e : row_at o t ≡ (λ place. get_or list place 0)) where
    abbrev names : Bool
    names = all_below (λ place. ltb (row_at o t place) (row_count t)) (row_count t)

    names_are : names ≡ names_rows t list
    unfolding names_rows
    names_are =
        ap (λ f. all_below (λ place. ltb (f place) (row_count t)) (row_count t)) e
        ∙ sym (all_below_lem (λ row. ltb row (row_count t)) 0 list ∙ ap (all_below (λ place. ltb (get_or list place 0) (row_count t))) l)

    climb_alike : names ≡ true → all_below (λ place. lex_before (keys_at alike o t place) (keys_at alike o t (suc place))) (row_count t - 1) ≡ ascends o t
    unfolding ascends
    climb_alike n =
        all_agree (λ place. lex_before (keys_at alike o t place) (keys_at alike o t (suc place)))
        (λ place. lex_before (fields_at o t place) (fields_at o t (suc place)))
        (row_count t - 1) (λ i h. keys_say t own w few (row_at o t i) (row_at o t (suc i)) (there i (omega arith)) (there (suc i) (omega arith)) alike one o)
      where
        there : (i : ℕ) → i < row_count t → row_at o t i < row_count t
        there i h = ltb-true _ _ (all_at_lem (λ place. ltb (row_at o t place) (row_count t)) (row_count t) n i h)

    order_list : order_right alike t o ≡ (names_rows t list && ascends o t)
    unfolding right_upto
    order_list = go (decided names)
      where
        go : Decided names → (names && all_below (λ place. lex_before (keys_at alike o t place) (keys_at alike o t (suc place))) (row_count t - 1))
            ≡ (names_rows t list && ascends o t)
        go (yes p) = rw (← names_are, p) (climb_alike p)
        go (no p) = rw (← names_are, p)

  -- ---- which test fails first
  pub lengths_first : lengths_right t ≡ false → number_of (first_failing (table_tests t)) ≡ 1
  unfolding first_failing
  lengths_first e = rw e

  -- by themselves the rows fail it where their refusal is not 0
  rows_by : (k y : Bool) (n : ℕ) (rest : Option ℕ) → n ≡ cond k (cond y 0 23) 2 → (n ≡ 0 → ⊥)
      → number_of (cond k (cond y rest (some 23)) (some 2)) ≡ n
  rows_by true true n rest e h = absurd (h e)
  rows_by true false n rest e h = sym e
  rows_by false y n rest e h = sym e

  pub rows_first : lengths_right t ≡ true → (n : ℕ) → n ≡ rows_refusal t → (n ≡ 0 → ⊥) → number_of (first_failing (table_tests t)) ≡ n
  unfolding first_failing
  rows_first l n e h = rw l (rows_by (kinds_right t) (years_right t) n _ e h)

  pub rows_pass : rows_refusal t ≡ 0 → (kinds_right t ≡ true) × (years_right t ≡ true)
  rows_pass e = go (kinds_right t) (years_right t) e
    where
      go : (k y : Bool) → ◌≡◌ {A = ℕ} (cond k (cond y 0 23) 2) 0 → (k ≡ true) × (y ≡ true)
      go true true e = (refl, refl)
      go true false e = absurd (omega arith)
      go false y e = absurd (omega arith)

  -- where kinds and years are right, by the orders
  module _ (s : Sized t) (w : Words t.rows) (p : (kinds_right t ≡ true) × (years_right t ≡ true)) where
    orders_first : (alike : Bool) → (alike ≡ true → OneYear t.rows) → ascends Spo t ≡ true
        → number_of (first_failing (table_tests t)) ≡ refusal_after (right_orders alike t)
    unfolding first_failing right_orders
    orders_first alike one u =
        rw (
          sized_lengths t s,
          p.0,
          p.1,
          order_rows alike t w,
          order_list alike one w s.few u Pos t.pos s.pos_length refl,
          order_list alike one w s.few u Osp t.osp s.osp_length refl,
        )
        (by_order (ascends Spo t) (names_rows t t.pos) (names_rows t t.osp) (ascends Pos t) (ascends Osp t))

    -- where the rows do not ascend, no order counts
    rows_fault : ascends Spo t ≡ false → number_of (first_failing (table_tests t)) ≡ 3
    unfolding first_failing
    rows_fault u = rw (sized_lengths t s, p.0, p.1, u)

    pub orders_say : (alike : Bool) → (ascends Spo t ≡ true → alike ≡ true → OneYear t.rows)
        → number_of (first_failing (table_tests t)) ≡ refusal_after (right_orders alike t)
    orders_say alike one = go (decided (ascends Spo t))
      where
        go : Decided (ascends Spo t) → number_of (first_failing (table_tests t)) ≡ refusal_after (right_orders alike t)
        go (yes u) = orders_first alike (one u) u
        go (no u) = rows_fault u ∙ sym (ap refusal_after (orders_fault alike t 0 (orders_none alike t) (omega arith) (order_rows alike t w ∙ u)))

  -- ---- tables all of whose orders are right
  module _ (s : Sized t) (w : Words t.rows) (alike : Bool) (one : ascends Spo t ≡ true → alike ≡ true → OneYear t.rows)
      (e : right_orders alike t ≡ order_count) where
    pub all_right : (o : Order) → order_right alike t o ≡ true
    unfolding right_orders
    all_right o = go (order_right alike t Spo) (order_right alike t Pos) (order_right alike t Osp) refl refl refl e o
      where
        go : (a b c : Bool) → order_right alike t Spo ≡ a → order_right alike t Pos ≡ b → order_right alike t Osp ≡ c
            → ◌≡◌ {A = ℕ} (cond a (cond b (cond c 3 2) 1) 0) 3 → (o : Order) → order_right alike t o ≡ true
        go true true true x y z e Spo = x
        go true true true x y z e Pos = y
        go true true true x y z e Osp = z
        go true true false x y z e o = absurd (omega arith)
        go true false c x y z e o = absurd (omega arith)
        go false b c x y z e o = absurd (omega arith)

    pub all_named : (o : Order) (place : ℕ) → place < row_count t → row_at o t place < row_count t
    all_named o place h = upto_named alike t o (row_count t) (all_right o) place h

    pub own_up : ascends Spo t ≡ true
    own_up = sym (order_rows alike t w) ∙ all_right Spo

    pub all_up : (o : Order) → ascends o t ≡ true
    all_up Spo = own_up
    all_up Pos =
        and_right (names_rows t t.pos) (ascends Pos t)
        (sym (order_list alike (one own_up) w s.few own_up Pos t.pos s.pos_length refl) ∙ all_right Pos)
    all_up Osp =
        and_right (names_rows t t.osp) (ascends Osp t)
        (sym (order_list alike (one own_up) w s.few own_up Osp t.osp s.osp_length refl) ∙ all_right Osp)

  -- no rows
  none_passes : row_count t ≡ 0 → (kinds_right t ≡ true) × (years_right t ≡ true)
  unfolding kinds_right years_right all_below
  none_passes e = (rw e, rw e)

  none_ascends : row_count t ≡ 0 → (o : Order) → ascends o t ≡ true
  unfolding ascends all_below
  none_ascends e o = rw e

  pub no_rows_fact : Sized t → Words t.rows → row_count t ≡ 0 → number_of (first_failing (table_tests t)) ≡ 0
  unfolding right_orders
  no_rows_fact s w e =
      orders_first s w (none_passes e) false (λ x. absurd_true x refl) (none_ascends e Spo)
      ∙ rw (e, upto_none false t Spo, upto_none false t Pos, upto_none false t Osp)

  -- ---- what the answer is where kinds and years are looked at
  pub refusal_with_lem : Sized t → (orders : ℕ)
      → ((kinds_right t ≡ true) × (years_right t ≡ true) → number_of (first_failing (table_tests t)) ≡ refusal_after orders)
      → number_of (first_failing (table_tests t)) ≡ refusal_with (rows_refusal t) orders
  refusal_with_lem s orders f = go (rows_refusal t) refl
    where
      go : (n : ℕ) → n ≡ rows_refusal t → number_of (first_failing (table_tests t)) ≡ refusal_with n orders
      go zero e = f (rows_pass (sym e))
      go (suc n) e = rows_first (sized_lengths t s) (suc n) e (λ x. omega arith)
