-- The places of POS that have a year and the membership predicate: their objects ascend, and no other row of the year admits its subject.
use Prim.Native.Nat.{ℕ, ◌+◌, ◌≤◌, ◌<◌}
use native.Mathlib.Omega.{arith}
use mathlib.Core.Path.{◌≡◌, refl, sym, ◌∙◌, ap, subst}
use mathlib.Core.Bool.{true, false, ◌&&◌}
use mathlib.Core.List.{List, [], ◌∷◌}
use lib.Dec.{ltb, leb}
use lib.ListN.{length, get_or, set}
use lib.Seq.{get_or-set_same, get_or-set_other}
use borrow.Author.Tests.{lt-ltb, le-ltb, le-leb, lt-leb, ltb-true, ltb-false}
use Rattle.std.specs.declared.cmp.Ordering.{Ordering}
use Rattle.std.specs.declared.cmp.Ordering.TheVariants.{Less, Equal, Greater}
use Rattle.sequences.specs.Sequences.{lex_before, member}
use Rattle.sequences.proofs.Booleans.{absurd_true}
use Rattle.sequences.proofs.Orders.{Three, less, same, more, three, lex_less, lex_same, lex_more}
use Rattle.tables.specs.declared.Order.TheVariants.{Pos}
use Rattle.tables.specs.declared.Prefix.{Prefix}
use Rattle.tables.specs.Tables.{Tables, row_count, field_of, fields_of, row_at}
use Rattle.tables.specs.Tables.{year_column, subject_column, predicate_column, object_column}
use Rattle.tables.specs.Right.{Right}
use Rattle.tables.specs.Ranges.{range_start, range_end}
use Rattle.tables.specs.Sides.{side_of, before_bound}
use Rattle.tables.proofs.Ascending.{ascend, one_place, place_of}
use Rattle.tables.proofs.Ranges.{side_bound}
use Rattle.views.proofs.Visible.{own_of, admits_else, admits_object}
use Rattle.view_grants.specs.Places.{first_from}
use Rattle.view_grants.proofs.Search.{first_later}
use Rattle.view_members.specs.Flags.{admits_own, flag_by, FlaggedAs, of_earlier, not_later}

-- the rows of a year and a predicate
abbrev pub members_of : ℕ → ℕ → Prefix
members_of year membership = record { order = Pos; count = 2; words = year ∷ membership ∷ 0 ∷ 0 ∷ [] }

-- ---- fields against a year and a predicate
module _ (y p year membership : ℕ) (rest : List ℕ) where
  abbrev side : Ordering
  side = side_of (y ∷ p ∷ rest) (year ∷ membership ∷ [])

  earlier_before : y < year → side ≡ Less
  unfolding side_of
  earlier_before h = rw (lex_less (p ∷ rest) (membership ∷ []) h)

  later_after : year < y → side ≡ Greater
  unfolding side_of
  later_after h = rw (lex_more (p ∷ rest) (membership ∷ []) h, lex_less (membership ∷ []) (p ∷ rest) h)

  module _ (e : y ≡ year) where
    less_before : p < membership → side ≡ Less
    unfolding side_of
    less_before h = rw (lex_same (p ∷ rest) (membership ∷ []) e, lex_less rest [] h)

    same_within : p ≡ membership → side ≡ Equal
    unfolding side_of lex_before
    same_within h =
        rw (
          lex_same (p ∷ rest) (membership ∷ []) e,
          lex_same (membership ∷ []) (p ∷ rest) (sym e),
          lex_same rest [] h,
          lex_same [] rest (sym h),
        )
        (go rest)
      where
        go : (xs : List ℕ) → side_of xs [] ≡ Equal
        go [] = refl
        go (x ∷ xs) = refl

    more_after : membership < p → side ≡ Greater
    unfolding side_of
    more_after h =
        rw (
          lex_same (p ∷ rest) (membership ∷ []) e,
          lex_same (membership ∷ []) (p ∷ rest) (sym e),
          lex_more rest [] h,
          lex_less [] rest h,
        )

-- ---- the flags of the places before one, and where the grant is walked to
pub record Upto (t : Tables) (grant : List ℕ) (year membership : ℕ) (flags : List ℕ) (place from : ℕ) : Type 0 where
  -- of the rows that admit their subject those at the places before it are flagged, no other
  pub done : (q : ℕ) → q < row_count t
      → get_or flags (row_at Pos t q) 0 ≡ flag_by (ltb q place && admits_own t.rows grant membership (row_at Pos t q))
  -- no object of the year and the membership predicate from it on stands before the place in the grant
  pub behind : (q : ℕ) → place ≤ q → q < range_end t (members_of year membership)
      → from ≤ first_from grant (field_of t.rows (row_at Pos t q) object_column)

module _ (t : Tables) (w : Right t) (grant : List ℕ) (year membership : ℕ) where
  abbrev row : ℕ → ℕ
  row q = row_at Pos t q

  abbrev year_of : ℕ → ℕ
  year_of q = field_of t.rows (row q) year_column

  abbrev predicate : ℕ → ℕ
  predicate q = field_of t.rows (row q) predicate_column

  abbrev object : ℕ → ℕ
  object q = field_of t.rows (row q) object_column

  abbrev start : ℕ
  start = range_start t (members_of year membership)

  abbrev end : ℕ
  end = range_end t (members_of year membership)

  abbrev rest : ℕ → List ℕ
  rest q = object q ∷ field_of t.rows (row q) subject_column ∷ []

  -- ---- a place on a side
  module _ (q : ℕ) (l : q < row_count t) where
    abbrev side_at : Ordering
    side_at = side_of (year_of q ∷ predicate q ∷ rest q) (year ∷ membership ∷ [])

    starts : (s : Ordering) → side_at ≡ s → ltb q start ≡ before_bound s false
    unfolding fields_of
    starts s e = sym (side_bound t w (members_of year membership) q l s e false)

    ends : (s : Ordering) → side_at ≡ s → ltb q end ≡ before_bound s true
    unfolding fields_of
    ends s e = sym (side_bound t w (members_of year membership) q l s e true)

    -- where it lies, by its year and predicate
    pub data Lies : Type 0 where
      earlier : year_of q < year → ltb q start ≡ true → ltb q end ≡ true → Lies
      under : year_of q ≡ year → (predicate q ≡ membership → ⊥) → ltb q start ≡ true → ltb q end ≡ true → Lies
      inside : year_of q ≡ year → predicate q ≡ membership → ltb q start ≡ false → ltb q end ≡ true → Lies
      above : year_of q ≡ year → (predicate q ≡ membership → ⊥) → ltb q start ≡ false → ltb q end ≡ false → Lies
      later : year < year_of q → ltb q start ≡ false → ltb q end ≡ false → Lies

    lies : Lies
    lies = go (three (year_of q) year) (three (predicate q) membership)
      where
        go : Three (year_of q) year → Three (predicate q) membership → Lies
        go (less h) k =
            let e = earlier_before (year_of q) (predicate q) year membership (rest q) h in
            earlier h (starts Less e) (ends Less e)
        go (same h) (less k) =
            let e = less_before (year_of q) (predicate q) year membership (rest q) h k in
            under h (λ d. omega arith) (starts Less e) (ends Less e)
        go (same h) (same k) =
            let e = same_within (year_of q) (predicate q) year membership (rest q) h k in
            inside h k (starts Equal e) (ends Equal e)
        go (same h) (more k) =
            let e = more_after (year_of q) (predicate q) year membership (rest q) h k in
            above h (λ d. omega arith) (starts Greater e) (ends Greater e)
        go (more h) k =
            let e = later_after (year_of q) (predicate q) year membership (rest q) h in
            later h (starts Greater e) (ends Greater e)

    -- the places of the range have the year and the predicate
    pub in_both_lem : range_start t (members_of year membership) ≤ q → q < range_end t (members_of year membership)
        → (field_of t.rows (row_at Pos t q) year_column ≡ year) × (field_of t.rows (row_at Pos t q) predicate_column ≡ membership)
    in_both_lem h k = go lies
      where
        go : Lies → (year_of q ≡ year) × (predicate q ≡ membership)
        go (earlier y a b) = absurd (let c = ltb-true q start a in omega arith)
        go (under y p a b) = absurd (let c = ltb-true q start a in omega arith)
        go (inside y p a b) = (y, p)
        go (above y p a b) = absurd (let c = ltb-false q end b in omega arith)
        go (later y a b) = absurd (let c = ltb-false q end b in omega arith)

  -- ---- a row of another predicate admits nothing
  other : (q : ℕ) → (predicate q ≡ membership → ⊥) → admits_own t.rows grant membership (row q) ≡ false
  other q n =
      admits_else t.rows grant membership (field_of t.rows (row q) year_column) (field_of t.rows (row q) subject_column) (row q)
      (own_of t.rows (row q)) n

  -- objects of one year and predicate do not fall
  objects_rise : (j i : ℕ) → j < i → i < row_count t → year_of j ≡ year_of i → predicate j ≡ predicate i → object j ≤ object i
  unfolding fields_of
  objects_rise j i h l y e = go (three (object j) (object i))
    where
      up : lex_before (rest j) (rest i) ≡ true
      up = sym (lex_same (rest j) (rest i) e) ∙ sym (lex_same (predicate j ∷ rest j) (predicate i ∷ rest i) y) ∙ ascend t w Pos j i h l

      go : Three (object j) (object i) → object j ≤ object i
      go (less k) = omega arith
      go (same k) = omega arith
      go (more k) = absurd_true up (lex_more (field_of t.rows (row j) subject_column ∷ []) (field_of t.rows (row i) subject_column ∷ []) k)

  -- ---- before the walk, and after it
  pub upto_start : (flags : List ℕ) → FlaggedAs (of_earlier t.rows year) t.rows grant membership flags
      → Upto t grant year membership flags (range_start t (members_of year membership)) 0
  upto_start flags f =
      record {
        done = λ q l. f.each (row q) (w.named Pos q l) ∙ at q l (lies q l);
        behind = λ q h l. omega arith;
      }
    where
      at : (q : ℕ) (l : q < row_count t) → Lies q l
          → flag_by (ltb (year_of q) year && admits_own t.rows grant membership (row q))
          ≡ flag_by (ltb q start && admits_own t.rows grant membership (row q))
      at q l (earlier y a b) = rw (lt-ltb (year_of q) year y, a)
      at q l (under y p a b) = rw (le-ltb (year_of q) year (omega arith), a, other q p)
      at q l (inside y p a b) = rw (le-ltb (year_of q) year (omega arith), a)
      at q l (above y p a b) = rw (le-ltb (year_of q) year (omega arith), a)
      at q l (later y a b) = rw (le-ltb (year_of q) year (omega arith), a)

  pub upto_end : (flags : List ℕ) (from : ℕ) → row_count t ≤ length flags
      → Upto t grant year membership flags (range_end t (members_of year membership)) from
      → FlaggedAs (not_later t.rows year) t.rows grant membership flags
  upto_end flags from long u =
      record {
        long = long;
        each = λ r h.
            let p = place_of t w Pos r h in
            subst (λ x. get_or flags x 0 ≡ flag_by (leb (field_of t.rows x year_column) year && admits_own t.rows grant membership x)) p.is
            (u.done p.from p.below ∙ at p.from p.below (lies p.from p.below));
      }
    where
      at : (q : ℕ) (l : q < row_count t) → Lies q l
          → flag_by (ltb q end && admits_own t.rows grant membership (row q))
          ≡ flag_by (leb (year_of q) year && admits_own t.rows grant membership (row q))
      at q l (earlier y a b) = rw (le-leb (year_of q) year (omega arith), b)
      at q l (under y p a b) = rw (le-leb (year_of q) year (omega arith), b)
      at q l (inside y p a b) = rw (le-leb (year_of q) year (omega arith), b)
      at q l (above y p a b) = rw (le-leb (year_of q) year (omega arith), b, other q p)
      at q l (later y a b) = rw (lt-leb (year_of q) year y, b)

  -- ---- one place more
  module _ (flags : List ℕ) (place from : ℕ) (u : Upto t grant year membership flags place from)
      (lo : range_start t (members_of year membership) ≤ place) (hi : place < range_end t (members_of year membership)) (l : place < row_count t) where
    pub sought_behind : from ≤ first_from grant (field_of t.rows (row_at Pos t place) object_column)
    sought_behind = u.behind place (omega arith) hi

    pub upto_next : (most : range_end t (members_of year membership) ≤ row_count t) (next flag : ℕ)
        → next ≡ first_from grant (field_of t.rows (row_at Pos t place) object_column)
        → flag ≡ flag_by (member (field_of t.rows (row_at Pos t place) object_column) grant)
        → row_at Pos t place < length flags
        → Upto t grant year membership (set flags (row_at Pos t place) flag) (place + 1) next
    upto_next most next flag n f h =
        record {
          done = λ q k. at q k (three q place);
          behind = λ q k m.
              let b = in_both_lem q (omega arith) (omega arith) m in
              let a = objects_rise place q (omega arith) (omega arith) (e.0 ∙ sym b.0) (e.1 ∙ sym b.1) in
              omega (arith, n, first_later grant (object place) (object q) a);
        }
      where
        e : (year_of place ≡ year) × (predicate place ≡ membership)
        e = in_both_lem place l lo hi

        own : admits_own t.rows grant membership (row place) ≡ member (object place) grant
        own =
            admits_object t.rows grant membership (field_of t.rows (row place) year_column) (field_of t.rows (row place) subject_column)
            (row place) (own_of t.rows (row place)) e.1

        apart : (q : ℕ) → q < row_count t → (q ≡ place → ⊥) → get_or (set flags (row place) flag) (row q) 0 ≡ get_or flags (row q) 0
        apart q k d = get_or-set_other flags (row place) (row q) flag 0 (λ x. d (one_place t w Pos q place k l x))

        at : (q : ℕ) → q < row_count t → Three q place
            → get_or (set flags (row place) flag) (row q) 0 ≡ flag_by (ltb q (place + 1) && admits_own t.rows grant membership (row q))
        at q k (less m) =
            apart q k (λ d. omega arith) ∙ u.done q k
            ∙ ap (λ b. flag_by (b && admits_own t.rows grant membership (row q))) (lt-ltb q place m ∙ sym (lt-ltb q (place + 1) (omega arith)))
        at q k (more m) =
            apart q k (λ d. omega arith) ∙ u.done q k
            ∙ ap (λ b. flag_by (b && admits_own t.rows grant membership (row q)))
            (le-ltb q place (omega arith) ∙ sym (le-ltb q (place + 1) (omega arith)))
        at q k (same m) =
            ap (λ x. get_or (set flags (row place) flag) (row x) 0) m
            ∙ get_or-set_same flags (row place) flag 0 h
            ∙ f
            ∙ ap flag_by (sym own)
            ∙ ap (λ x. flag_by (admits_own t.rows grant membership (row x))) (sym m)
            ∙ ap (λ b. flag_by (b && admits_own t.rows grant membership (row q))) (sym (lt-ltb q (place + 1) (omega arith)))
