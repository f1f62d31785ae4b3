-- Where the rows ascend in their own order, the keys of two rows say what the fields of an order say: a long word is compared as its two words
-- are, and rows that are the same in the fields before them have subjects, or subjects and predicates, in the order of their numbers.
use Prim.Native.Nat.{ℕ, suc, ◌-◌, ◌/◌, ◌%◌, ◌≤◌, ◌<◌}
use native.Mathlib.Omega.{arith}
use mathlib.Core.Path.{◌≡◌, refl, sym, ◌∙◌, ap, ap₂}
use mathlib.Core.Bool.{Bool, true, false}
use mathlib.Core.List.{List, [], ◌∷◌}
use lib.Dec.{ltb}
use lib.ListN.{length}
use borrow.Author.Tests.{lt-ltb}
use Rattle.sequences.specs.Sequences.{all_below, lex_before}
use Rattle.sequences.proofs.Booleans.{absurd_true}
use Rattle.sequences.proofs.Counting.{all_at_lem, at_all}
use Rattle.sequences.proofs.Elements.{same_test}
use Rattle.sequences.proofs.Orders.{Three, less, same, more, three, lex_less, lex_same, lex_more, lex_asym}
use Rattle.tables.specs.declared.Order.{Order}
use Rattle.tables.specs.declared.Order.TheVariants.{Spo, Pos, Osp}
use Rattle.tables.specs.Tables.{Tables, column_count, most_rows, row_count, field_of, fields_of, fields_at, ascends}
use Rattle.tables.specs.Tables.{year_column, subject_column, predicate_column, object_column}
use Rattle.tables.proofs.Columns.{fields_length}
use Rattle.tables.proofs.Sorted as sorted
use Rattle.table_walk_keys.specs.Walk.{long_of, key_count, year_read, keys_of, keys_at, Words, right_upto, order_right, OneYear}

pub keys_length : (alike : Bool) (o : Order) (rows : List ℕ) (row : ℕ) → length (keys_of alike o rows row) ≡ key_count
unfolding keys_of
keys_length alike Spo rows row = refl
keys_length alike Pos rows row = refl
keys_length alike Osp rows row = refl

-- the words of a long one, and a long one turned
module _ (pair first second : ℕ) (e : pair ≡ long_of first second) (h : second < 4294967296) where
  pub second_of_pair : pair % 4294967296 ≡ second
  second_of_pair = omega arith

  pub first_of_pair : pair / 4294967296 ≡ first
  first_of_pair = omega arith

  pub turned_long : long_of (pair % 4294967296) (pair / 4294967296) ≡ long_of second first
  turned_long = ap₂ long_of second_of_pair first_of_pair

-- a test that says the same at each number
pub all_agree : (f g : ℕ → Bool) (n : ℕ) → ((i : ℕ) → i < n → f i ≡ g i) → all_below f n ≡ all_below g n
all_agree f g n h =
    same_test (all_below f n) (all_below g n)
    (λ e. at_all g n (λ i l. sym (h i l) ∙ all_at_lem f n e i l))
    (λ e. at_all f n (λ i l. h i l ∙ all_at_lem g n e i l))

-- behind heads that are compared alike
behind : (x y : ℕ) (xs ys us vs : List ℕ) → (x ≡ y → lex_before xs ys ≡ lex_before us vs)
    → lex_before (x ∷ xs) (y ∷ ys) ≡ lex_before (x ∷ us) (y ∷ vs)
behind x y xs ys us vs f = go (three x y)
  where
    go : Three x y → lex_before (x ∷ xs) (y ∷ ys) ≡ lex_before (x ∷ us) (y ∷ vs)
    go (less k) = lex_less xs ys k ∙ sym (lex_less us vs k)
    go (same k) = lex_same xs ys k ∙ f k ∙ sym (lex_same us vs k)
    go (more k) = lex_more xs ys k ∙ sym (lex_more us vs k)

none_before_lem : lex_before [] [] ≡ false
unfolding lex_before
none_before_lem = refl

-- a long word is compared as its two words are
module _ (a b c d : ℕ) (xs ys : List ℕ) (hb : b < 4294967296) (hd : d < 4294967296) where
  pub long_says : lex_before (long_of a b ∷ xs) (long_of c d ∷ ys) ≡ lex_before (a ∷ b ∷ xs) (c ∷ d ∷ ys)
  long_says = go (three a c) (three b d)
    where
      go : Three a c → Three b d → lex_before (long_of a b ∷ xs) (long_of c d ∷ ys) ≡ lex_before (a ∷ b ∷ xs) (c ∷ d ∷ ys)
      go (less k) m = lex_less xs ys (omega arith) ∙ sym (lex_less (b ∷ xs) (d ∷ ys) k)
      go (same k) (less m) = lex_less xs ys (omega arith) ∙ sym (lex_same (b ∷ xs) (d ∷ ys) k ∙ lex_less xs ys m)
      go (same k) (same m) = lex_same xs ys (omega arith) ∙ sym (lex_same (b ∷ xs) (d ∷ ys) k ∙ lex_same xs ys m)
      go (same k) (more m) = lex_more xs ys (omega arith) ∙ sym (lex_same (b ∷ xs) (d ∷ ys) k ∙ lex_more xs ys m)
      go (more k) m = lex_more xs ys (omega arith) ∙ sym (lex_more (b ∷ xs) (d ∷ ys) k)

-- and two of them as the four
longs_say : (a b c d p q r s : ℕ) → b < 4294967296 → d < 4294967296 → q < 4294967296 → s < 4294967296
    → lex_before (long_of a b ∷ long_of c d ∷ []) (long_of p q ∷ long_of r s ∷ []) ≡ lex_before (a ∷ b ∷ c ∷ d ∷ []) (p ∷ q ∷ r ∷ s ∷ [])
longs_say a b c d p q r s hb hd hq hs =
    behind (long_of a b) (long_of p q) (long_of c d ∷ []) (long_of r s ∷ []) (c ∷ d ∷ []) (r ∷ s ∷ []) (λ e. long_says c d r s [] [] hd hs)
    ∙ long_says a b p q (c ∷ d ∷ []) (r ∷ s ∷ []) hb hq

-- in the rows' own order the keys say what the fields say
pub own_say : (alike : Bool) (rows : List ℕ) → Words rows → (a b : ℕ)
    → lex_before (keys_of alike Spo rows a) (keys_of alike Spo rows b) ≡ lex_before (fields_of Spo rows a) (fields_of Spo rows b)
unfolding keys_of fields_of
own_say alike rows w a b = longs_say _ _ _ _ _ _ _ _ (w _) (w _) (w _) (w _)

-- and so that order is right by its test
pub order_rows : (alike : Bool) (t : Tables) → Words t.rows → order_right alike t Spo ≡ ascends Spo t
unfolding right_upto ascends
order_rows alike t w =
    rw (at_all (λ place. ltb place (row_count t)) (row_count t) (λ i h. lt-ltb i (row_count t) h))
    (all_agree (λ place. lex_before (keys_at alike Spo t place) (keys_at alike Spo t (suc place)))
    (λ place. lex_before (fields_at Spo t place) (fields_at Spo t (suc place)))
    (row_count t - 1) (λ i h. own_say alike t.rows w i (suc i)))

module _ (t : Tables) (up : ascends Spo t ≡ true) where
  abbrev Y : ℕ → ℕ
  Y row = field_of t.rows row year_column

  abbrev S : ℕ → ℕ
  S row = field_of t.rows row subject_column

  abbrev P : ℕ → ℕ
  P row = field_of t.rows row predicate_column

  abbrev O : ℕ → ℕ
  O row = field_of t.rows row object_column

  each_up : (place : ℕ) → suc place < row_count t → lex_before (fields_of Spo t.rows place) (fields_of Spo t.rows (suc place)) ≡ true
  unfolding ascends
  each_up place h = all_at_lem (λ p. lex_before (fields_at Spo t p) (fields_at Spo t (suc p))) (row_count t - 1) up place (omega arith)

  climbs : (a b : ℕ) → a < b → b < row_count t → lex_before (Y a ∷ S a ∷ P a ∷ O a ∷ []) (Y b ∷ S b ∷ P b ∷ O b ∷ []) ≡ true
  unfolding fields_of
  climbs =
      sorted.ascend column_count (row_count t) (fields_of Spo t.rows)
      (record { width = λ row k. fields_length Spo t.rows row; up = each_up })

  -- years ascend with the rows' numbers: where the last is the first, there is one
  pub years_up : (a b : ℕ) → a ≤ b → b < row_count t → Y a ≤ Y b
  years_up a b h l = go (three a b)
    where
      go : Three a b → Y a ≤ Y b
      go (less k) = up_year (three (Y a) (Y b))
        where
          up_year : Three (Y a) (Y b) → Y a ≤ Y b
          up_year (less m) = omega arith
          up_year (same m) = omega arith
          up_year (more m) = absurd_true (climbs a b k l) (lex_more (S a ∷ P a ∷ O a ∷ []) (S b ∷ P b ∷ O b ∷ []) m)
      go (same k) = let e : Y a ≡ Y b = ap Y k in omega arith
      go (more k) = absurd (omega arith)

  pub one_year : Y 0 ≡ Y (row_count t - 1) → OneYear t.rows
  one_year e a b h k =
      let u = years_up 0 a (omega arith) h in
      let v = years_up a (row_count t - 1) (omega arith) (omega arith) in
      let w = years_up 0 b (omega arith) k in
      let x = years_up b (row_count t - 1) (omega arith) (omega arith) in
      omega arith

  -- rows of one year and one object
  module _ (a b : ℕ) (h : a < b) (l : b < row_count t) (y : Y a ≡ Y b) (o : O a ≡ O b) where
    rest : lex_before (S a ∷ P a ∷ O a ∷ []) (S b ∷ P b ∷ O b ∷ []) ≡ true
    rest = sym (lex_same (S a ∷ P a ∷ O a ∷ []) (S b ∷ P b ∷ O b ∷ []) y) ∙ climbs a b h l

    differ : S a ≡ S b → P a ≡ P b → ⊥
    differ s p =
        absurd_true rest
        (lex_same (P a ∷ O a ∷ []) (P b ∷ O b ∷ []) s ∙ lex_same (O a ∷ []) (O b ∷ []) p ∙ lex_same [] [] o ∙ none_before_lem)

    pair_up : lex_before (S a ∷ P a ∷ []) (S b ∷ P b ∷ []) ≡ true
    pair_up = go (three (S a) (S b)) (three (P a) (P b))
      where
        go : Three (S a) (S b) → Three (P a) (P b) → lex_before (S a ∷ P a ∷ []) (S b ∷ P b ∷ []) ≡ true
        go (less k) m = lex_less (P a ∷ []) (P b ∷ []) k
        go (same k) (less m) = lex_same (P a ∷ []) (P b ∷ []) k ∙ lex_less [] [] m
        go (same k) (same m) = absurd (differ k m)
        go (same k) (more m) =
            absurd_true rest (lex_same (P a ∷ O a ∷ []) (P b ∷ O b ∷ []) k ∙ lex_more (O a ∷ []) (O b ∷ []) m)
        go (more k) m = absurd_true rest (lex_more (P a ∷ O a ∷ []) (P b ∷ O b ∷ []) k)

    -- and of one predicate
    subject_up : P a ≡ P b → S a < S b
    subject_up p = go (three (S a) (S b))
      where
        go : Three (S a) (S b) → S a < S b
        go (less k) = k
        go (same k) = absurd (differ k p)
        go (more k) = absurd_true rest (lex_more (P a ∷ O a ∷ []) (P b ∷ O b ∷ []) k)

  module _ (w : Words t.rows) (few : row_count t ≤ most_rows) (a b : ℕ) (ha : a < row_count t) (hb : b < row_count t) where
    by_subject : Y a ≡ Y b → P a ≡ P b → O a ≡ O b → lex_before (a ∷ []) (b ∷ []) ≡ lex_before (S a ∷ []) (S b ∷ [])
    by_subject y p o = go (three a b)
      where
        go : Three a b → lex_before (a ∷ []) (b ∷ []) ≡ lex_before (S a ∷ []) (S b ∷ [])
        go (less k) = lex_less [] [] k ∙ sym (lex_less [] [] (subject_up a b k hb y o p))
        go (same k) = lex_same [] [] k ∙ sym (lex_same [] [] (ap S k))
        go (more k) = lex_more [] [] k ∙ sym (lex_more [] [] (subject_up b a k ha (sym y) (sym o) (sym p)))

    by_pair : Y a ≡ Y b → O a ≡ O b → lex_before (a ∷ []) (b ∷ []) ≡ lex_before (S a ∷ P a ∷ []) (S b ∷ P b ∷ [])
    by_pair y o = go (three a b)
      where
        go : Three a b → lex_before (a ∷ []) (b ∷ []) ≡ lex_before (S a ∷ P a ∷ []) (S b ∷ P b ∷ [])
        go (less k) = lex_less [] [] k ∙ sym (pair_up a b k hb y o)
        go (same k) = lex_same [] [] k ∙ sym (lex_same (P a ∷ []) (P b ∷ []) (ap S k) ∙ lex_same [] [] (ap P k))
        go (more k) = lex_more [] [] k ∙ sym (lex_asym (S b ∷ P b ∷ []) (S a ∷ P a ∷ []) (pair_up b a k ha (sym y) (sym o)))

    -- the words of which the keys are made, in POS and in OSP, say what the fields say
    pos_words : lex_before (Y a ∷ P a ∷ O a ∷ a ∷ []) (Y b ∷ P b ∷ O b ∷ b ∷ [])
        ≡ lex_before (fields_of Pos t.rows a) (fields_of Pos t.rows b)
    unfolding fields_of
    pos_words =
        behind (Y a) (Y b) _ _ _ _
        (λ y. behind (P a) (P b) _ _ _ _
        (λ p. behind (O a) (O b) _ _ _ _ (λ o. by_subject y p o)))

    osp_words : lex_before (Y a ∷ O a ∷ a ∷ []) (Y b ∷ O b ∷ b ∷ []) ≡ lex_before (fields_of Osp t.rows a) (fields_of Osp t.rows b)
    unfolding fields_of
    osp_words =
        behind (Y a) (Y b) _ _ _ _
        (λ y. behind (O a) (O b) _ _ _ _ (λ o. by_pair y o))

    -- where all years are alike, words behind nothing are compared as behind the years
    year_says : (alike : Bool) → (alike ≡ true → OneYear t.rows) → (xs ys : List ℕ)
        → lex_before (year_read alike t.rows a ∷ xs) (year_read alike t.rows b ∷ ys) ≡ lex_before (Y a ∷ xs) (Y b ∷ ys)
    year_says true f xs ys = lex_same {x = 0} {y = 0} xs ys refl ∙ sym (lex_same xs ys (f refl a b ha hb))
    year_says false f xs ys = refl

    year_fits : (alike : Bool) (row : ℕ) → year_read alike t.rows row < 4294967296
    year_fits true row = omega arith
    year_fits false row = w _

    pub keys_say : (alike : Bool) → (alike ≡ true → OneYear t.rows) → (o : Order)
        → lex_before (keys_of alike o t.rows a) (keys_of alike o t.rows b) ≡ lex_before (fields_of o t.rows a) (fields_of o t.rows b)
    unfolding keys_of
    keys_say alike f Spo = own_say alike t.rows w a b
    keys_say alike f Pos =
        longs_say (year_read alike t.rows a) (P a) (O a) a (year_read alike t.rows b) (P b) (O b) b (w _) (omega arith) (w _) (omega arith)
        ∙ year_says alike f (P a ∷ O a ∷ a ∷ []) (P b ∷ O b ∷ b ∷ [])
        ∙ pos_words
    keys_say alike f Osp =
        longs_say 0 (year_read alike t.rows a) (O a) a 0 (year_read alike t.rows b) (O b) b (year_fits alike a) (omega arith) (year_fits alike b)
        (omega arith)
        ∙ lex_same {x = 0} {y = 0} (year_read alike t.rows a ∷ O a ∷ a ∷ []) (year_read alike t.rows b ∷ O b ∷ b ∷ []) refl
        ∙ year_says alike f (O a ∷ a ∷ []) (O b ∷ b ∷ [])
        ∙ osp_words
