-- Tables are accepted by their tests exactly when they are right.
use Prim.Native.Nat.{ℕ, suc, ◌-◌, ◌%◌, ◌<◌}
use native.Mathlib.Omega.{arith}
use mathlib.Core.Path.{◌≡◌, refl}
use mathlib.Core.Bool.{true}
use mathlib.Core.Option.{none}
use mathlib.Core.List.{List}
use lib.Dec.{ltb, eqb}
use lib.ListN.{length, get_or}
use borrow.Author.Tests.{ltb-true, leb-true, eqb-true, lt-ltb, le-leb, eq-eqb}
use Rattle.sequences.specs.Sequences.{all, lex_before}
use Rattle.words.specs.Tests.{first_failing, number_of}
use Rattle.sequences.proofs.Booleans.{and_left, and_right, and_both}
use Rattle.words.proofs.Testing.{passes_all, all_passes, test_numbered, test_passed}
use Rattle.words.proofs.Numbering.{none_fails}
use Rattle.sequences.proofs.Counting.{all_at_lem, at_all}
use Rattle.sequences.proofs.Elements.{all_element, element_all}
use Rattle.tables.specs.declared.Order.{Order}
use Rattle.tables.specs.declared.Order.TheVariants.{Spo, Pos, Osp}
use Rattle.tables.specs.Tables.{Tables, column_count, most_rows, row_count, field_of, row_at, fields_at, field_right, row_right, table_tests}
use Rattle.tables.specs.Tables.{year_column, year_right, lengths_right, kinds_right, years_right, ascends, names_rows, lists_right}
use Rattle.tables.specs.Right.{Sized, Right}

module _ (t : Tables) where
  -- ---- each test is what it says
  -- test 1
  pub lengths_sized : lengths_right t ≡ true → Sized t
  unfolding lengths_right
  lengths_sized e =
      let e₁ = and_right (eqb (length t.rows % column_count) 0) _ e in
      let e₂ = and_right (eqb (length t.pos) (row_count t)) _ e₁ in
      let w : length t.rows % column_count ≡ 0 = eqb-true _ _ (and_left (eqb (length t.rows % column_count) 0) _ e) in
      record {
        whole = omega arith;
        few = leb-true _ _ (and_right (eqb (length t.osp) (row_count t)) _ e₂);
        pos_length = eqb-true _ _ (and_left (eqb (length t.pos) (row_count t)) _ e₁);
        osp_length = eqb-true _ _ (and_left (eqb (length t.osp) (row_count t)) _ e₂);
      }

  pub sized_lengths : Sized t → lengths_right t ≡ true
  unfolding lengths_right
  sized_lengths s =
      let w : length t.rows % column_count ≡ 0 = omega arith in
      rw (
        eq-eqb (length t.rows % column_count) 0 w,
        eq-eqb (length t.pos) (row_count t) s.pos_length,
        eq-eqb (length t.osp) (row_count t) s.osp_length,
        le-leb (row_count t) most_rows s.few,
      )

  -- test 2
  kinds_at : kinds_right t ≡ true → (row column : ℕ) → row < row_count t → column < column_count
      → field_right column (field_of t.rows row column) ≡ true
  unfolding kinds_right row_right
  kinds_at e row column h = all_at_lem _ column_count (all_at_lem _ (row_count t) e row h) column

  at_kinds : ((row column : ℕ) → row < row_count t → column < column_count → field_right column (field_of t.rows row column) ≡ true)
      → kinds_right t ≡ true
  unfolding kinds_right row_right
  at_kinds h = at_all _ (row_count t) (λ row l. at_all _ column_count (λ column k. h row column l k))

  -- test 23
  years_at : years_right t ≡ true → (row : ℕ) → row < row_count t → year_right (field_of t.rows row year_column) ≡ true
  unfolding years_right
  years_at e row h = all_at_lem _ (row_count t) e row h

  at_years : ((row : ℕ) → row < row_count t → year_right (field_of t.rows row year_column) ≡ true) → years_right t ≡ true
  unfolding years_right
  at_years h = at_all _ (row_count t) h

  -- tests 3 and 4
  abbrev Up : Order → Type 0
  Up o = (place : ℕ) → suc place < row_count t → lex_before (fields_at o t place) (fields_at o t (suc place)) ≡ true

  up_at : (o : Order) → ascends o t ≡ true → Up o
  unfolding ascends
  up_at o e place h = all_at_lem (λ p. lex_before (fields_at o t p) (fields_at o t (suc p))) (row_count t - 1) e place (omega arith)

  at_up : (o : Order) → Up o → ascends o t ≡ true
  unfolding ascends
  at_up o h = at_all (λ p. lex_before (fields_at o t p) (fields_at o t (suc p))) (row_count t - 1) (λ p l. h p (omega arith))

  module _ (list : List ℕ) (l : length list ≡ row_count t) where
    named_at : names_rows t list ≡ true → (place : ℕ) → place < row_count t → get_or list place 0 < row_count t
    unfolding names_rows
    named_at e place h = ltb-true _ _ (all_element (λ row. ltb row (row_count t)) 0 list e place (omega arith))

    at_named : ((place : ℕ) → place < row_count t → get_or list place 0 < row_count t) → names_rows t list ≡ true
    unfolding names_rows
    at_named h = element_all (λ row. ltb row (row_count t)) 0 list (λ i k. lt-ltb _ _ (h i (omega arith)))

  -- ---- the tests together
  pub right : first_failing (table_tests t) ≡ none → Right t
  right e =
      let p : (n : ℕ) → test_numbered n (table_tests t) ≡ true = λ n. test_passed n (table_tests t) (passes_all (table_tests t) e) in
      let s = lengths_sized (p 1) in
      let l₁ = and_right (names_rows t t.pos) _ (p 4) in
      let l₂ = and_right (names_rows t t.osp) _ l₁ in
      record {
        sized = s;
        kinds = kinds_at (p 2);
        years = years_at (p 23);
        named =
            named (named_at t.pos s.pos_length (and_left (names_rows t t.pos) _ (p 4)))
            (named_at t.osp s.osp_length (and_left (names_rows t t.osp) _ l₁));
        up = up (up_at Spo (p 3)) (up_at Pos (and_left (ascends Pos t) _ l₂)) (up_at Osp (and_right (ascends Pos t) _ l₂));
      }
    where
      named : ((p : ℕ) → p < row_count t → get_or t.pos p 0 < row_count t)
          → ((p : ℕ) → p < row_count t → get_or t.osp p 0 < row_count t)
          → (o : Order) (p : ℕ) → p < row_count t → row_at o t p < row_count t
      named a b Spo p h = h
      named a b Pos p h = a p h
      named a b Osp p h = b p h

      up : Up Spo → Up Pos → Up Osp → (o : Order) → Up o
      up a b c Spo = a
      up a b c Pos = b
      up a b c Osp = c

  pub accepted : Right t → first_failing (table_tests t) ≡ none
  accepted r =
      all_passes (table_tests t)
      (sized_lengths r.sized, (at_kinds r.kinds, (at_years r.years, (at_up Spo (r.up Spo), (lists, tt)))))
    where
      lists : lists_right t ≡ true
      lists =
          and_both (names_rows t t.pos) _ (at_named t.pos r.sized.pos_length (r.named Pos))
          (and_both (names_rows t t.osp) _ (at_named t.osp r.sized.osp_length (r.named Osp))
          (and_both (ascends Pos t) _ (at_up Pos (r.up Pos)) (at_up Osp (r.up Osp))))

  -- what an answer of 0 gives
  pub all_pass : number_of (first_failing (table_tests t)) ≡ 0 → first_failing (table_tests t) ≡ none
  unfolding all
  all_pass e = none_fails (table_tests t) refl e

  pub checked : number_of (first_failing (table_tests t)) ≡ 0 → Right t
  checked e = right (all_pass e)
