-- Non-interference: accepted tables that differ only in rows that are hidden where they stand give an adviser the same tables, and the
-- call answers and writes the same.
use Prim.Native.Nat.{ℕ, zero, suc, ◌<◌}
use native.Mathlib.Omega.{arith}
use mathlib.Core.Path.{◌≡◌, sym, ◌∙◌, ap, subst}
use mathlib.Core.Logic.{◌⊎◌, inl, inr}
use mathlib.Core.Bool.{Bool, true}
use mathlib.Core.Option.{none}
use mathlib.Core.List.{List, [], ◌∷◌, map, flatten, Memᴰ}
use lib.Dec.{ltb}
use lib.ListN.{length}
use borrow.Author.Tests.{ltb-true}
use Rattle.sequences.specs.Sequences.{member, lex_before, numbers}
use Rattle.words.specs.Tests.{first_failing}
use Rattle.sequences.proofs.Booleans.{absurd_true, Decided, yes, no, decided}
use Rattle.sequences.proofs.Orders.{Three, less, same, more, three, lex_asym, lex_equal}
use Rattle.sequences.proofs.Ascending.{Ascending}
use Rattle.sequences.proofs.Each.{Each}
use Rattle.sequences.proofs.EachMore.{each_weaken, each_both, each_mapped}
use Rattle.sequences.proofs.Numbers.{numbers_below, kept_numbers_lem}
use Rattle.sequences.proofs.SortedStrictly.{ascending_keep, ascending_snoc}
use Rattle.tables.specs.declared.Order.TheVariants.{Spo}
use Rattle.tables.specs.Tables.{Tables, column_count, row_count, field_of, fields_of, table_tests}
use Rattle.tables.specs.Tables.{year_column, subject_column, predicate_column, object_column}
use Rattle.tables.specs.Right.{Right}
use Rattle.tables.specs.RowLists.{RowIn, number_before, tables_from}
use Rattle.tables.proofs.Ascending.{ascend}
use Rattle.tables.proofs.Columns.{fields_length}
use Rattle.tables.proofs.RightTables.{right}
use Rattle.views.specs.Views.{admits, visible, visible_numbers, view_rows, view_of}
use Rattle.views.specs.Hidden.{HiddenAlone, DifferHidden}
use Rattle.views.proofs.Visible.{SeenRows, granted, admitted, seen, by_grant, by_row_lem, admits_seen}
use Rattle.views.proofs.Rows.{numbers_seen, numbers_there}
use Rattle.views.proofs.Equal.{each_in_map, ascending_equal}

-- ---- numbers in an order in which they ascend
numbers_climb : (before : ℕ → ℕ → Bool) (n : ℕ) → ((j i : ℕ) → j < i → i < n → before j i ≡ true) → Ascending before (numbers n)
unfolding numbers
numbers_climb before zero h = tt
numbers_climb before (suc n) h =
    ascending_snoc before (numbers n) n (numbers_climb before n (λ j i l k. h j i l (omega arith)))
    (each_weaken (λ x l. h x n (ltb-true x n l) (omega arith)) (numbers n) (numbers_below n n (omega arith)))

ascending_map : {A B : Type 0} (before : B → B → Bool) (f : A → B) (xs : List A) → Ascending (λ x y. before (f x) (f y)) xs
    → Ascending before (map f xs)
ascending_map before f [] a = tt
ascending_map before f (x ∷ xs) a = (each_mapped (λ z. before (f x) z ≡ true) f xs a.0, ascending_map before f xs a.1)

-- ---- rows with the same fields
module _ (rows others : List ℕ) (r q : ℕ) (e : fields_of Spo rows r ≡ fields_of Spo others q) where
  same_year : field_of rows r year_column ≡ field_of others q year_column
  unfolding fields_of
  same_year = cc

  same_subject : field_of rows r subject_column ≡ field_of others q subject_column
  unfolding fields_of
  same_subject = cc

  same_predicate : field_of rows r predicate_column ≡ field_of others q predicate_column
  unfolding fields_of
  same_predicate = cc

  same_object : field_of rows r object_column ≡ field_of others q object_column
  unfolding fields_of
  same_object = cc

-- they admit the same subjects in the same years
same_admits : (rows others grant : List ℕ) (membership year s z x r q : ℕ) → year ≡ z → s ≡ x → fields_of Spo rows r ≡ fields_of Spo others q
    → admits rows grant membership year s r ≡ admits others grant membership z x q
unfolding admits
same_admits rows others grant membership year s z x r q y c e =
    rw (y, c, same_year rows others r q e, same_subject rows others r q e, same_predicate rows others r q e, same_object rows others r q e)

-- ---- some fields stand in some tables, or not
module _ (u : Tables) (fields : List ℕ) (wide : length fields ≡ column_count) where
  itself : lex_before fields fields ≡ true → ⊥
  itself p = absurd_true p (lex_asym fields fields p)

  abbrev Found : ℕ → Type 0
  Found m = (q : ℕ) × ((q < m) × (fields_of Spo u.rows q ≡ fields))

  abbrev Missing : ℕ → Type 0
  Missing m = (q : ℕ) → q < m → fields_of Spo u.rows q ≡ fields → ⊥

  look : (n : ℕ) → Found n ⊎ Missing n
  look zero = inr (λ q h e. omega arith)
  look (suc n) = go (decided (lex_before (fields_of Spo u.rows n) fields)) (decided (lex_before fields (fields_of Spo u.rows n))) (look n)
    where
      more_missing : (fields_of Spo u.rows n ≡ fields → ⊥) → Missing n → Missing (suc n)
      more_missing x k q h e = at (three q n)
        where
          at : Three q n → ⊥
          at (less l) = k q l e
          at (same l) = x (ap (fields_of Spo u.rows) (sym l) ∙ e)
          at (more l) = omega arith

      further : (fields_of Spo u.rows n ≡ fields → ⊥) → Found n ⊎ Missing n → Found (suc n) ⊎ Missing (suc n)
      further x (inl f) = let l = f.1.0 in inl (f.0, (omega arith, f.1.1))
      further x (inr k) = inr (more_missing x k)

      go : Decided (lex_before (fields_of Spo u.rows n) fields) → Decided (lex_before fields (fields_of Spo u.rows n))
          → Found n ⊎ Missing n → Found (suc n) ⊎ Missing (suc n)
      go (yes p) d r = further (λ e. itself (subst (λ z. lex_before z fields ≡ true) e p)) r
      go (no p) (yes q) r = further (λ e. itself (subst (λ z. lex_before fields z ≡ true) e q)) r
      go (no p) (no q) r =
          inl (n, (omega arith, lex_equal (fields_of Spo u.rows n) fields (fields_length Spo u.rows n ∙ sym wide) p q))

  row_in : RowIn u fields ⊎ ¬ RowIn u fields
  row_in = go (look (row_count u))
    where
      go : Found (row_count u) ⊎ Missing (row_count u) → RowIn u fields ⊎ ¬ RowIn u fields
      go (inl f) = inl (record { row = f.0; there = f.1.0; is = f.1.1 })
      go (inr k) = inr (λ r. k r.row r.there r.is)

module _ (grant : List ℕ) (membership : ℕ) where
  -- the visible rows' fields ascend in right tables
  abbrev seen_rows : Tables → List (List ℕ)
  seen_rows t = map (fields_of Spo t.rows) (visible_numbers t.rows grant membership)

  rows_ascend : (t : Tables) → Right t → Ascending lex_before (seen_rows t)
  rows_ascend t w =
      ascending_map lex_before (fields_of Spo t.rows) (visible_numbers t.rows grant membership)
      (ascending_keep (number_before Spo t.rows) (visible t.rows grant membership) (numbers (row_count t))
      (numbers_climb (number_before Spo t.rows) (row_count t) (ascend t w Spo)))

  module _ (t u : Tables) (alone : HiddenAlone grant membership t u) where
    -- a visible row of the first tables stands in the second
    shown : (r : ℕ) → r < row_count t → visible t.rows grant membership r ≡ true → RowIn u (fields_of Spo t.rows r)
    shown r h v = go (row_in u (fields_of Spo t.rows r) (fields_length Spo t.rows r))
      where
        go : RowIn u (fields_of Spo t.rows r) ⊎ ¬ RowIn u (fields_of Spo t.rows r) → RowIn u (fields_of Spo t.rows r)
        go (inl k) = k
        go (inr k) = absurd_true v (alone r h k)

    -- and is visible there
    stays_visible : (r q : ℕ) → r < row_count t → fields_of Spo u.rows q ≡ fields_of Spo t.rows r
        → visible t.rows grant membership r ≡ true → visible u.rows grant membership q ≡ true
    stays_visible r q h e v = go (seen t.rows grant membership r v)
      where
        y : field_of u.rows q year_column ≡ field_of t.rows r year_column
        y = same_year u.rows t.rows q r e

        s : field_of u.rows q subject_column ≡ field_of t.rows r subject_column
        s = same_subject u.rows t.rows q r e

        go : SeenRows t.rows grant membership r → visible u.rows grant membership q ≡ true
        go (granted p) = by_grant u.rows grant membership q (ap (λ w. member w grant) s ∙ p)
        go (admitted m) =
            let n = m.which in
            let year = field_of t.rows r year_column in
            let subject = field_of t.rows r subject_column in
            let k = shown n m.below (admits_seen t.rows grant membership year subject n m.below m.passes) in
            by_row_lem u.rows grant membership q k.row k.there
            (same_admits u.rows t.rows grant membership (field_of u.rows q year_column) (field_of u.rows q subject_column) year subject
            k.row n y s k.is
            ∙ m.passes)

    -- so each visible row is among the other's visible rows
    all_shown : Each (λ x. Memᴰ x (seen_rows u)) (seen_rows t)
    all_shown =
        each_mapped (λ x. Memᴰ x (seen_rows u)) (fields_of Spo t.rows) (visible_numbers t.rows grant membership)
        (each_both one (visible_numbers t.rows grant membership) (numbers_there t grant membership) (numbers_seen t grant membership))
      where
        one : (r : ℕ) → ltb r (row_count t) ≡ true → visible t.rows grant membership r ≡ true
            → Memᴰ (fields_of Spo t.rows r) (seen_rows u)
        one r l v =
            let h = ltb-true r (row_count t) l in
            let k = shown r h v in
            subst (λ x. Memᴰ x (seen_rows u)) k.is
            (kept_numbers_lem (λ q. Memᴰ (fields_of Spo u.rows q) (seen_rows u)) (visible u.rows grant membership) (row_count u)
            (each_in_map (fields_of Spo u.rows) (visible_numbers u.rows grant membership))
            k.row k.there (stays_visible r k.row h k.is v))

  module _ (t u : Tables) (a : first_failing (table_tests t) ≡ none) (b : first_failing (table_tests u) ≡ none) (d : DifferHidden grant membership t u) where
    same_rows : view_rows t.rows grant membership ≡ view_rows u.rows grant membership
    unfolding view_rows
    same_rows =
        ap flatten
        (ascending_equal lex_before lex_asym (seen_rows t) (seen_rows u) (rows_ascend t (right t a)) (rows_ascend u (right u b))
        (all_shown t u d.first) (all_shown u t d.second))

    pub same_view : view_of t grant membership ≡ view_of u grant membership
    same_view = ap tables_from same_rows
