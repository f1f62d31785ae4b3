-- Non-interference over strings: rows of strings that differ only in rows that are hidden where they stand are the same to an adviser, names and
-- dictionaries included.
use Prim.Native.Nat.{ℕ}
use mathlib.Core.Path.{◌≡◌, refl, sym, ◌∙◌, ap}
use mathlib.Core.Bool.{Bool, true, ◌&&◌, ◌||◌, not}
use mathlib.Core.Option.{some}
use mathlib.Core.List.{List, [], ◌∷◌}
use lib.Dec.{eqb}
use borrow.Author.Tests.{eqb-true, eq-eqb}
use Rattle.sequences.specs.Sequences.{keep}
use Rattle.sequences.proofs.Booleans.{absurd_true, and_left, and_right, Decided, yes, no, decided}
use Rattle.sequences.proofs.Each.{Each, all_each}
use Rattle.sequences.proofs.EachMore.{each_weaken, each_both, each_always}
use Rattle.sequences.proofs.Elements.{same_test}
use Rattle.sequences.proofs.Keeping.{keep_agree}
use Rattle.tables.specs.Tables.{Tables}
use Rattle.uploads.specs.Uploads.{made_tables}
use Rattle.plans.specs.Conditions.{next}
use Rattle.dictionaries.specs.Strings.{same_string}
use Rattle.dictionaries.specs.Dictionaries.{is_among}
use Rattle.dictionaries.proofs.Strings.{same_self, same_equal}
use Rattle.sparql.specs.Terms.{same_term}
use Rattle.sparql_strings.proofs.Terms.{term_equal}
use Rattle.sparql_strings.proofs.Strings.{strings_equality}
use Rattle.encodings.specs.StringRows.{StringRow, same_string_row, row_dictionaries, row_words}
use Rattle.encodings.proofs.Gathered.{or_later}
use Rattle.view_turns.proofs.Adviser.{same_queries}
use Rattle.view_names.specs.VisibleStrings.{some_row, is_granted, admits_row, is_visible, visible_rows, adviser_tables}
use Rattle.view_names.specs.VisibleStrings.{stands_in, HiddenRows, RowsDiffer, SameStrings}

-- ---- a test that passes at some row
or_first : (a b : Bool) → a ≡ true → a || b ≡ true
or_first a b e = rw e refl

-- each row of a list is one that a test may pass at
pub each_some : (rows : List StringRow) → Each (λ a. (f : StringRow → Bool) → f a ≡ true → some_row f rows ≡ true) rows
unfolding some_row
each_some [] = tt
each_some (r ∷ rows) =
    (λ f e. or_first (f r) (some_row f rows) e, each_weaken (λ a k f e. or_later (f r) (some_row f rows) (k f e)) rows (each_some rows))

pub some_elim : {R : Type 0} (f : StringRow → Bool) (rows : List StringRow) → some_row f rows ≡ true → Each (λ a. f a ≡ true → R) rows → R
unfolding some_row
some_elim f [] e k = absurd_true e refl
some_elim f (r ∷ rows) e k = elim (decided (f r)) [ yes h ↦ k.0 h | no h ↦ some_elim f rows (rw h at e) k.1 ]

-- the same rows
pub row_equal : (r q : StringRow) → same_string_row r q ≡ true → r ≡ q
row_equal r q e =
    let c = same_term r.object q.object in
    let b = same_string r.predicate q.predicate && c in
    let a = same_string r.subject q.subject && b in
    let f = and_right (eqb r.year q.year) a e in
    let g = and_right (same_string r.subject q.subject) b f in
    let y = eqb-true r.year q.year (and_left (eqb r.year q.year) a e) in
    let s = same_equal r.subject q.subject (and_left (same_string r.subject q.subject) b f) in
    let p = same_equal r.predicate q.predicate (and_left (same_string r.predicate q.predicate) c g) in
    let o = term_equal strings_equality r.object q.object (and_right (same_string r.predicate q.predicate) c g) in
    λ i. record { year = y i; subject = s i; predicate = p i; object = o i }

keep_within : {A : Type 0} (f g : A → Bool) (xs : List A) → Each (λ x. f x ≡ true → g x ≡ true) xs → keep f (keep g xs) ≡ keep f xs
unfolding keep
keep_within f g [] e = refl
keep_within f g (x ∷ xs) e =
    elim (decided (f x)) [
      | yes h ↦ rw (e.0 h, h, keep_within f g xs e.1) refl
      | no h ↦ elim (decided (g x)) [ yes k ↦ rw (k, h, keep_within f g xs e.1) refl | no k ↦ rw (k, h, keep_within f g xs e.1) refl ]
    ]

module _ (grant : List (List ℕ)) (membership : List ℕ) where
  -- a row that admits another is itself admitted
  admits_itself : (r a : StringRow) → admits_row grant membership r a ≡ true → admits_row grant membership a a ≡ true
  admits_itself r a e =
      let c = is_granted grant a.object in
      let b = same_string a.predicate membership && c in
      let d = same_string a.subject r.subject && b in
      rw (eq-eqb a.year a.year refl, same_self a.subject)
      (and_right (same_string a.subject r.subject) b (and_right (eqb a.year r.year) d e))

  module _ (rows others : List StringRow) (hidden : HiddenRows grant membership rows others) where
    stays : (a : StringRow) → stands_in others a || not (is_visible grant membership rows a) ≡ true
        → is_visible grant membership rows a ≡ true → stands_in others a ≡ true
    stays a h v = go (decided (stands_in others a))
      where
        go : Decided (stands_in others a) → stands_in others a ≡ true
        go (yes e) = e
        go (no e) = absurd_true h (rw (e, v) refl)

    -- what is visible in the first stands in the second
    all_stay : Each (λ a. is_visible grant membership rows a ≡ true → stands_in others a ≡ true) rows
    all_stay = each_weaken stays rows (all_each (λ a. stands_in others a || not (is_visible grant membership rows a)) rows hidden)

    -- so what admits a row in the first does in the second
    admitted : (r : StringRow) → some_row (admits_row grant membership r) rows ≡ true → some_row (admits_row grant membership r) others ≡ true
    admitted r e = some_elim (admits_row grant membership r) rows e (each_both one rows (each_some rows) all_stay)
      where
        one : (a : StringRow) → ((f : StringRow → Bool) → f a ≡ true → some_row f rows ≡ true)
            → (is_visible grant membership rows a ≡ true → stands_in others a ≡ true)
            → admits_row grant membership r a ≡ true → some_row (admits_row grant membership r) others ≡ true
        one a found stay h =
            let v = or_later (is_among grant a.subject) (some_row (admits_row grant membership a) rows)
            (found (admits_row grant membership a) (admits_itself r a h)) in
            some_elim (same_string_row a) others (stay v)
            (each_weaken (λ b k s. k (admits_row grant membership r) (ap (admits_row grant membership r) (sym (row_equal a b s)) ∙ h)) others
            (each_some others))

    still_visible : (r : StringRow) → is_visible grant membership rows r ≡ true → is_visible grant membership others r ≡ true
    still_visible r v = go (decided (is_among grant r.subject))
      where
        go : Decided (is_among grant r.subject) → is_visible grant membership others r ≡ true
        go (yes e) = or_first (is_among grant r.subject) (some_row (admits_row grant membership r) others) e
        go (no e) =
            or_later (is_among grant r.subject) (some_row (admits_row grant membership r) others) (admitted r (rw e at v))

  module _ (rows others : List StringRow) (d : RowsDiffer grant membership rows others) where
    both_visible : (r : StringRow) → is_visible grant membership rows r ≡ is_visible grant membership others r
    both_visible r =
        same_test (is_visible grant membership rows r) (is_visible grant membership others r) (still_visible rows others d.first r)
        (still_visible others rows d.second r)

    same_visible : visible_rows grant membership rows ≡ visible_rows grant membership others
    same_visible =
        sym (keep_within (is_visible grant membership rows) (stands_in others) rows (all_stay rows others d.first))
        ∙ ap (keep (is_visible grant membership rows)) d.common
        ∙ keep_agree (is_visible grant membership rows) (is_visible grant membership others) (keep (stands_in rows) others)
        (each_always both_visible (keep (stands_in rows) others))
        ∙ keep_within (is_visible grant membership others) (stands_in rows) others (all_stay others rows d.second)

    some_equal : (t u : Tables) → adviser_tables grant membership rows ≡ some t → adviser_tables grant membership others ≡ some u → t ≡ u
    some_equal t u e f =
        let g : some t ≡ some u = sym e ∙ ap (λ rs. next (row_words rs) (λ ws. some (made_tables ws))) same_visible ∙ f in cc

    pub hidden_names : SameStrings grant membership rows others
    hidden_names =
        record {
          visible = same_visible;
          dictionaries = ap row_dictionaries same_visible;
          tables = ap (λ rs. next (row_words rs) (λ ws. some (made_tables ws))) same_visible;
          queries = λ t u e f. same_queries t u (some_equal t u e f);
        }
