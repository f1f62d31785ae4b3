-- The rows of a wood: which stand where, that they are of right kinds and years, and that they ascend.
use Prim.Native.Nat.{ℕ, zero, suc, ◌+◌, ◌*◌, ◌≤◌, ◌<◌}
use native.Mathlib.Omega.{arith}
use mathlib.Core.Path.{◌≡◌, refl, ◌∙◌, ap}
use mathlib.Core.Bool.{true}
use mathlib.Core.List.{List, [], ◌∷◌, ◌++◌, flatten}
use lib.ListN.{length, get_or, length-append, get_or-append}
use lib.Seq.{get_or-append-add}
use borrow.Author.Tests.{eq-eqb, le-leb, lt-ltb}
use Rattle.words.specs.Words.{most_year, name_kind, number_kind, variable_kind, term_kind, term_value, number}
use Rattle.sequences.specs.Sequences.{lex_before}
use Rattle.sequences.proofs.Each.{each_append}
use Rattle.sequences.proofs.Flattening.{Wide}
use Rattle.sequences.proofs.Orders.{Three, less, same, more, three, lex_less, lex_same}
use Rattle.tables.specs.Tables.{column_count, year_column, field_right, year_right}
use Rattle.tables.specs.RowLists.{RowsRight}
use Rattle.tables.proofs.FlatRows.{flat_right}
use Rattle.woods.specs.Woods.{stand_of, diameter_of, stem_name, in_stand, has_diameter, stand_row, diameter_row, wood_rows}
use Rattle.woods.specs.Growing.{most_stems}

module _ (seed year : ℕ) where
  abbrev wood : ℕ → List (List ℕ)
  wood n = wood_rows seed year n

  pub wood_length : (n : ℕ) → length (wood_rows seed year n) ≡ 2 * n
  unfolding wood_rows
  wood_length zero = refl
  wood_length (suc n) =
      omega (arith, length-append (wood_rows seed year n) (stand_row seed year n ∷ diameter_row seed year n ∷ []), wood_length n)

  pub wood_wide : (n : ℕ) → Wide column_count (wood_rows seed year n)
  unfolding wood_rows
  wood_wide zero = tt
  wood_wide (suc n) =
      each_append (λ (x : List ℕ). length x ≡ column_count) (wood_rows seed year n) (stand_row seed year n ∷ diameter_row seed year n ∷ [])
      (wood_wide n) (refl, (refl, tt))

  -- ---- which row stands where
  module _ (n : ℕ) where
    abbrev last : List (List ℕ)
    last = stand_row seed year n ∷ diameter_row seed year n ∷ []

    pub stand_last : get_or (wood_rows seed year (suc n)) (2 * n) [] ≡ stand_row seed year n
    unfolding wood_rows
    stand_last =
        let z : 2 * n ≡ length (wood n) + 0 = omega (arith, wood_length n) in
        ap (λ k. get_or (wood n ++ last) k []) z ∙ get_or-append-add (wood n) last 0 []

    pub diameter_last : get_or (wood_rows seed year (suc n)) (2 * n + 1) [] ≡ diameter_row seed year n
    unfolding wood_rows
    diameter_last =
        let z : 2 * n + 1 ≡ length (wood n) + 1 = omega (arith, wood_length n) in
        ap (λ k. get_or (wood n ++ last) k []) z ∙ get_or-append-add (wood n) last 1 []

    pub earlier : (r : ℕ) → r < 2 * n → get_or (wood_rows seed year (suc n)) r [] ≡ get_or (wood_rows seed year n) r []
    unfolding wood_rows
    earlier r h = get_or-append (wood n) last [] r (omega (arith, wood_length n))

  -- a row is a stem's first or second
  pub data RowOf (n r : ℕ) : Type 0 where
    first : (j : ℕ) → j < n → r ≡ 2 * j → get_or (wood_rows seed year n) r [] ≡ stand_row seed year j → RowOf n r
    second : (j : ℕ) → j < n → r ≡ 2 * j + 1 → get_or (wood_rows seed year n) r [] ≡ diameter_row seed year j → RowOf n r

  pub row_of : (n r : ℕ) → r < 2 * n → RowOf n r
  row_of zero r h = absurd (omega arith)
  row_of (suc n) r h = go (three r (2 * n)) (row_of n r)
    where
      lift : r < 2 * n → RowOf n r → RowOf (suc n) r
      lift l (first j k e p) = first j (omega arith) e (earlier n r l ∙ p)
      lift l (second j k e p) = second j (omega arith) e (earlier n r l ∙ p)

      go : Three r (2 * n) → (r < 2 * n → RowOf n r) → RowOf (suc n) r
      go (less l) ih = lift l (ih l)
      go (same e) ih = first n (omega arith) e (ap (λ k. get_or (wood_rows seed year (suc n)) k []) e ∙ stand_last n)
      go (more l) ih =
          let e : r ≡ 2 * n + 1 = omega arith in
          second n (omega arith) e (ap (λ k. get_or (wood_rows seed year (suc n)) k []) e ∙ diameter_last n)

  -- ---- kinds
  module _ (ended : year ≤ most_year) (j : ℕ) (few : j < most_stems) where
    stand_kinds : (c : ℕ) → c < column_count → field_right c (get_or (stand_row seed year j) c 0) ≡ true
    stand_kinds zero k = eq-eqb (term_kind (number year)) number_kind (omega arith)
    stand_kinds (suc zero) k = eq-eqb (term_kind (stem_name j)) name_kind (omega arith)
    stand_kinds (suc (suc zero)) k = refl
    stand_kinds (suc (suc (suc zero))) k = lt-ltb (term_kind (stand_of seed j)) variable_kind (omega arith)
    stand_kinds (suc (suc (suc (suc c)))) k = absurd (omega arith)

    diameter_kinds : (c : ℕ) → c < column_count → field_right c (get_or (diameter_row seed year j) c 0) ≡ true
    diameter_kinds zero k = eq-eqb (term_kind (number year)) number_kind (omega arith)
    diameter_kinds (suc zero) k = eq-eqb (term_kind (stem_name j)) name_kind (omega arith)
    diameter_kinds (suc (suc zero)) k = refl
    diameter_kinds (suc (suc (suc zero))) k = lt-ltb (term_kind (diameter_of seed j)) variable_kind (omega arith)
    diameter_kinds (suc (suc (suc (suc c)))) k = absurd (omega arith)

  year_right_lem : 1 ≤ year → year ≤ most_year → year_right (number year) ≡ true
  year_right_lem b e = rw (le-leb 1 (term_value (number year)) (omega arith), le-leb (term_value (number year)) most_year (omega arith))

  -- ---- they ascend
  within : (j : ℕ) → lex_before (stand_row seed year j) (diameter_row seed year j) ≡ true
  within j =
      lex_same {x = number year} {y = number year} (stem_name j ∷ in_stand ∷ stand_of seed j ∷ [])
      (stem_name j ∷ has_diameter ∷ diameter_of seed j ∷ []) refl
      ∙ lex_same {x = stem_name j} {y = stem_name j} (in_stand ∷ stand_of seed j ∷ []) (has_diameter ∷ diameter_of seed j ∷ []) refl
      ∙ lex_less (stand_of seed j ∷ []) (diameter_of seed j ∷ []) (omega arith)

  across : (j : ℕ) → lex_before (diameter_row seed year j) (stand_row seed year (suc j)) ≡ true
  across j =
      lex_same {x = number year} {y = number year} (stem_name j ∷ has_diameter ∷ diameter_of seed j ∷ [])
      (stem_name (suc j) ∷ in_stand ∷ stand_of seed (suc j) ∷ []) refl
      ∙ lex_less (has_diameter ∷ diameter_of seed j ∷ []) (in_stand ∷ stand_of seed (suc j) ∷ []) (omega arith)

  rising : (n r : ℕ) → RowOf n r → RowOf n (suc r) → lex_before (get_or (wood_rows seed year n) r []) (get_or (wood_rows seed year n) (suc r) []) ≡ true
  rising n r (first j h e p) (first k l f q) = absurd (omega arith)
  rising n r (first j h e p) (second k l f q) = let z : k ≡ j = omega arith in rw (p, q, z) (within j)
  rising n r (second j h e p) (first k l f q) = let z : k ≡ suc j = omega arith in rw (p, q, z) (across j)
  rising n r (second j h e p) (second k l f q) = absurd (omega arith)

  -- ---- the wood's rows are rows that tables may have
  module _ (n : ℕ) (few : n ≤ most_stems) (begun : 1 ≤ year) (ended : year ≤ most_year) where
    kinds : (r c : ℕ) → RowOf n r → c < column_count → field_right c (get_or (get_or (wood_rows seed year n) r []) c 0) ≡ true
    kinds r c (first j h e p) k = ap (λ (x : List ℕ). field_right c (get_or x c 0)) p ∙ stand_kinds ended j (omega arith) c k
    kinds r c (second j h e p) k = ap (λ (x : List ℕ). field_right c (get_or x c 0)) p ∙ diameter_kinds ended j (omega arith) c k

    years : (r : ℕ) → RowOf n r → year_right (get_or (get_or (wood_rows seed year n) r []) year_column 0) ≡ true
    years r (first j h e p) = ap (λ (x : List ℕ). year_right (get_or x year_column 0)) p ∙ year_right_lem begun ended
    years r (second j h e p) = ap (λ (x : List ℕ). year_right (get_or x year_column 0)) p ∙ year_right_lem begun ended

    pub wood_right : RowsRight (flatten (wood_rows seed year n))
    wood_right =
        flat_right (wood_rows seed year n)
        (record {
          wide = wood_wide n;
          few = omega (arith, wood_length n);
          kinds = λ r c h k. kinds r c (row_of n r (omega (arith, wood_length n))) k;
          years = λ r h. years r (row_of n r (omega (arith, wood_length n)));
          up = λ r h. rising n r (row_of n r (omega (arith, wood_length n))) (row_of n (suc r) (omega (arith, wood_length n)));
        })
