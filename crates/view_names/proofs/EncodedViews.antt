-- What the call view shows of the words of rows of strings are the words of the visible rows, by the same dictionaries.
use Prim.Native.Nat.{ℕ, ◌/◌, ◌<◌}
use native.Mathlib.Omega.{arith}
use mathlib.Core.Path.{◌≡◌, refl, sym, ◌∙◌, ap, ap₂}
use mathlib.Core.Bool.{Bool, true, false, ◌&&◌, ◌||◌}
use mathlib.Core.Option.{some}
use mathlib.Core.List.{List, [], ◌∷◌, map, flatten}
use lib.Dec.{eqb}
use lib.IntN.{pos}
use lib.ListN.{length, get_or}
use Rattle.sequences.specs.Sequences.{some_below, keep, member, numbers}
use Rattle.sequences.proofs.Each.{Each, each_keep}
use Rattle.sequences.proofs.Somewhere.{each_at}
use Rattle.tables.specs.declared.Order.TheVariants.{Spo}
use Rattle.tables.specs.Tables.{column_count, field_of, fields_of, year_column, subject_column, predicate_column, object_column}
use Rattle.views.specs.Views.{admits, visible, view_rows}
use Rattle.dictionaries.specs.Strings.{same_string}
use Rattle.dictionaries.specs.Dictionaries.{is_among}
use Rattle.sparql.specs.Terms.{iri, integer, text}
use Rattle.sparql_strings.specs.Strings.{Dictionaries, RightDictionaries}
use Rattle.encodings.specs.Encodings.{StringTerm, word_of, words_of}
use Rattle.encodings.specs.StringRows.{StringRow, row_terms}
use Rattle.encodings.proofs.Encoded.{split}
use Rattle.encodings.proofs.SameWords.{same_words_lem}
use Rattle.encodings.proofs.RowWords.{word_in, fields_in, HasWords, rows_known, words_known, rows_counted, field_is, fields_are}
use Rattle.view_names.specs.VisibleStrings.{is_granted, admits_row, is_visible, visible_rows}
use Rattle.view_names.specs.EncodedViews.{HaveWords}
use Rattle.view_names.proofs.Places.{some_place, kept_places}

and_four : (a b c d : Bool) → (a && b) && (c && d) ≡ a && (b && (c && d))
and_four true b c d = refl
and_four false b c d = refl

module _ (d : Dictionaries) (r : RightDictionaries d) (grant : List (List ℕ)) (membership : List ℕ) where
  -- a granted name
  member_granted : (names : List (List ℕ)) (gs : List ℕ) → words_of d (map iri names) ≡ some gs → (x : StringTerm) (w : ℕ) → word_of d x ≡ some w
      → member w gs ≡ is_granted names x
  unfolding words_of member is_among
  member_granted [] gs e (iri s) w f = let g : gs ≡ [] = cc in ap (member w) g
  member_granted [] gs e (integer n) w f = let g : gs ≡ [] = cc in ap (member w) g
  member_granted [] gs e (text s) w f = let g : gs ≡ [] = cc in ap (member w) g
  member_granted (g ∷ names) gs e (iri s) w f =
      let a = split d (iri g) (map iri names) gs e in
      ap (member w) a.whole
      ∙ ap₂ ◌||◌ (same_words_lem d r (iri s) (iri g) w a.word f a.first) (member_granted names a.rest a.others (iri s) w f)
  member_granted (g ∷ names) gs e (integer n) w f =
      let a = split d (iri g) (map iri names) gs e in
      ap (member w) a.whole
      ∙ ap₂ ◌||◌ (same_words_lem d r (integer n) (iri g) w a.word f a.first) (member_granted names a.rest a.others (integer n) w f)
  member_granted (g ∷ names) gs e (text s) w f =
      let a = split d (iri g) (map iri names) gs e in
      ap (member w) a.whole
      ∙ ap₂ ◌||◌ (same_words_lem d r (text s) (iri g) w a.word f a.first) (member_granted names a.rest a.others (text s) w f)

  module _ (rows : List StringRow) (gs : List ℕ) (m : ℕ) (of_grant : words_of d (map iri grant) ≡ some gs)
      (of_membership : word_of d (iri membership) ≡ some m) (has : Each (HasWords d) rows) (q : StringRow) where
    abbrev ws : List ℕ
    ws = flatten (map (fields_in d) rows)

    has_at : (i : ℕ) → i < length rows → HasWords d (get_or rows i q)
    has_at i h = each_at (HasWords d) rows q has i h

    admits_is : (p : StringRow) → HasWords d p → (j : ℕ) → j < length rows
        → admits ws gs m (word_in d (integer (pos p.year))) (word_in d (iri p.subject)) j ≡ admits_row grant membership p (get_or rows j q)
    unfolding admits
    admits_is p hp j h =
        let a = get_or rows j q in
        let ha = has_at j h in
        let y : eqb (field_of ws j year_column) (word_in d (integer (pos p.year))) ≡ eqb a.year p.year =
        ap (λ w. eqb w (word_in d (integer (pos p.year)))) (field_is d rows q j 0 h (omega arith))
        ∙ same_words_lem d r (integer (pos a.year)) (integer (pos p.year)) (word_in d (integer (pos a.year))) (word_in d (integer (pos p.year)))
        ha.year hp.year in
        let s : eqb (field_of ws j subject_column) (word_in d (iri p.subject)) ≡ same_string a.subject p.subject =
        ap (λ w. eqb w (word_in d (iri p.subject))) (field_is d rows q j 1 h (omega arith))
        ∙ same_words_lem d r (iri a.subject) (iri p.subject) (word_in d (iri a.subject)) (word_in d (iri p.subject)) ha.subject hp.subject in
        let k : eqb (field_of ws j predicate_column) m ≡ same_string a.predicate membership =
        ap (λ w. eqb w m) (field_is d rows q j 2 h (omega arith))
        ∙ same_words_lem d r (iri a.predicate) (iri membership) (word_in d (iri a.predicate)) m ha.predicate of_membership in
        let o : member (field_of ws j object_column) gs ≡ is_granted grant a.object =
        ap (λ w. member w gs) (field_is d rows q j 3 h (omega arith))
        ∙ member_granted grant gs of_grant a.object (word_in d a.object) ha.object in
        ap₂ ◌&&◌ (ap₂ ◌&&◌ y s) (ap₂ ◌&&◌ k o)
        ∙ and_four (eqb a.year p.year) (same_string a.subject p.subject) (same_string a.predicate membership) (is_granted grant a.object)

    visible_is : (i : ℕ) → i < length rows → visible ws gs m i ≡ is_visible grant membership rows (get_or rows i q)
    unfolding visible
    visible_is i h =
        let p = get_or rows i q in
        let hp = has_at i h in
        let y = field_is d rows q i 0 h (omega arith) in
        let s = field_is d rows q i 1 h (omega arith) in
        ap₂ ◌||◌ (ap (λ w. member w gs) s ∙ member_granted grant gs of_grant (iri p.subject) (word_in d (iri p.subject)) hp.subject)
        (ap₂ (λ z x. some_below (admits ws gs m z x) (length ws / column_count)) y s
        ∙ ap (some_below (admits ws gs m (word_in d (integer (pos p.year))) (word_in d (iri p.subject)))) (rows_counted d rows)
        ∙ some_place (admits ws gs m (word_in d (integer (pos p.year))) (word_in d (iri p.subject))) (admits_row grant membership p) rows q
        (admits_is p hp))

    view_is : view_rows ws gs m ≡ flatten (map (fields_in d) (visible_rows grant membership rows))
    unfolding view_rows
    view_is =
        ap (λ n. flatten (map (fields_of Spo ws) (keep (visible ws gs m) (numbers n)))) (rows_counted d rows)
        ∙ ap flatten (kept_places (fields_of Spo ws) (fields_in d) (visible ws gs m) (is_visible grant membership rows) rows q visible_is (fields_are d rows q))

  -- for every right dictionaries by which rows, grant and membership have words
  pub view_encoded : (rows : List StringRow) (ws gs : List ℕ) (m : ℕ) → HaveWords d grant membership rows ws gs m
      → words_of d (row_terms (visible_rows grant membership rows)) ≡ some (view_rows ws gs m)
  view_encoded rows ws gs m h =
      let k = rows_known d rows ws h.of_rows_fact in
      let q : StringRow = record { year = 0; subject = []; predicate = []; object = text [] } in
      words_known d (visible_rows grant membership rows) (each_keep (HasWords d) (is_visible grant membership rows) rows k.0)
      ∙ ap some (sym (view_is rows gs m h.of_grant h.of_membership k.0 q) ∙ ap (λ us. view_rows us gs m) (sym k.1))
