-- The words of rows of strings, four to a row.
use Prim.Native.Nat.{ℕ, ◌/◌, ◌<◌}
use native.Mathlib.Omega.{arith}
use mathlib.Core.Path.{◌≡◌, refl, sym, ◌∙◌, ap}
use mathlib.Core.Option.{Option, none, some}
use mathlib.Core.List.{List, [], ◌∷◌, map, flatten}
use lib.ListN.{length, get_or, length-map}
use lib.IntN.{pos}
use Rattle.sequences.proofs.Each.{Each, each_map}
use Rattle.sequences.proofs.Flattening.{Wide, length_flatten, flatten_at}
use Rattle.sequences.proofs.Somewhere.{map_at}
use Rattle.tables.specs.declared.Order.TheVariants.{Spo}
use Rattle.tables.specs.Tables.{column_count, field_of, fields_of}
use Rattle.sparql.specs.Terms.{iri, integer}
use Rattle.sparql_strings.specs.Strings.{Dictionaries}
use Rattle.encodings.specs.Encodings.{StringTerm, word_of, words_of}
use Rattle.encodings.specs.StringRows.{StringRow, row_terms}
use Rattle.encodings.proofs.Encoded.{split}

abbrev known : Option ℕ → ℕ
known none = 0
known (some w) = w

module _ (d : Dictionaries) where
  -- the word of a term that has one
  abbrev pub word_in : StringTerm → ℕ
  word_in x = known (word_of d x)

  abbrev pub fields_in : StringRow → List ℕ
  fields_in q = word_in (integer (pos q.year)) ∷ word_in (iri q.subject) ∷ word_in (iri q.predicate) ∷ word_in q.object ∷ []

  pub record HasWords (q : StringRow) : Type 0 where
    pub year : word_of d (integer (pos q.year)) ≡ some (word_in (integer (pos q.year)))
    pub subject : word_of d (iri q.subject) ≡ some (word_in (iri q.subject))
    pub predicate : word_of d (iri q.predicate) ≡ some (word_in (iri q.predicate))
    pub object : word_of d q.object ≡ some (word_in q.object)

  its_word : (x : StringTerm) (w : ℕ) → word_of d x ≡ some w → w ≡ word_in x
  its_word x w e = sym (ap known e)

  pub has_word : (x : StringTerm) (w : ℕ) → word_of d x ≡ some w → word_of d x ≡ some (word_in x)
  has_word x w e = e ∙ ap some (its_word x w e)

  -- rows with words are these
  pub rows_known : (rows : List StringRow) (ws : List ℕ) → words_of d (row_terms rows) ≡ some ws
      → Each HasWords rows × (ws ≡ flatten (map fields_in rows))
  unfolding flatten words_of
  rows_known [] ws e = (tt, let f : ws ≡ [] = cc in f)
  rows_known (q ∷ rows) ws e =
      let a = split d (integer (pos q.year)) (iri q.subject ∷ iri q.predicate ∷ q.object ∷ row_terms rows) ws e in
      let b = split d (iri q.subject) (iri q.predicate ∷ q.object ∷ row_terms rows) a.rest a.others in
      let c = split d (iri q.predicate) (q.object ∷ row_terms rows) b.rest b.others in
      let o = split d q.object (row_terms rows) c.rest c.others in
      let k = rows_known rows o.rest o.others in (
        (
          record {
            year = has_word (integer (pos q.year)) a.word a.first;
            subject = has_word (iri q.subject) b.word b.first;
            predicate = has_word (iri q.predicate) c.word c.first;
            object = has_word q.object o.word o.first;
          },
          k.0,
        ),
        put (its_word (integer (pos q.year)) a.word a.first) a.whole
            (put (its_word (iri q.subject) b.word b.first) b.whole
            (put (its_word (iri q.predicate) c.word c.first) c.whole
            (put (its_word q.object o.word o.first) o.whole k.1))),
      )
    where
      put : {ws us vs : List ℕ} {w v : ℕ} → w ≡ v → ws ≡ w ∷ us → us ≡ vs → ws ≡ v ∷ vs
      put p e f = cc

  -- and rows each of which has words have them together
  one_more_fact : (x : StringTerm) (xs : List StringTerm) (w : ℕ) (ws : List ℕ) → word_of d x ≡ some w → words_of d xs ≡ some ws
      → words_of d (x ∷ xs) ≡ some (w ∷ ws)
  unfolding words_of
  one_more_fact x xs w ws e f = rw (e, f) refl

  pub words_known : (rows : List StringRow) → Each HasWords rows → words_of d (row_terms rows) ≡ some (flatten (map fields_in rows))
  unfolding flatten words_of
  words_known [] h = refl
  words_known (q ∷ rows) h =
      one_more_fact (integer (pos q.year)) (iri q.subject ∷ iri q.predicate ∷ q.object ∷ row_terms rows) (word_in (integer (pos q.year)))
      (word_in (iri q.subject) ∷ word_in (iri q.predicate) ∷ word_in q.object ∷ flatten (map fields_in rows)) h.0.year
      (one_more_fact (iri q.subject) (iri q.predicate ∷ q.object ∷ row_terms rows) (word_in (iri q.subject))
      (word_in (iri q.predicate) ∷ word_in q.object ∷ flatten (map fields_in rows)) h.0.subject
      (one_more_fact (iri q.predicate) (q.object ∷ row_terms rows) (word_in (iri q.predicate))
      (word_in q.object ∷ flatten (map fields_in rows)) h.0.predicate
      (one_more_fact q.object (row_terms rows) (word_in q.object) (flatten (map fields_in rows)) h.0.object (words_known rows h.1))))

  -- ---- by their places
  wide : (rows : List StringRow) → Wide column_count (map fields_in rows)
  wide rows = each_map (λ l. length l ≡ column_count) fields_in (λ q. refl) rows

  pub rows_counted : (rows : List StringRow) → length (flatten (map fields_in rows)) / column_count ≡ length rows
  rows_counted rows =
      let f = length_flatten column_count (map fields_in rows) (wide rows) in
      let m = length-map rows fields_in in
      omega arith

  pub field_is : (rows : List StringRow) (q : StringRow) (i c : ℕ) → i < length rows → c < column_count
      → field_of (flatten (map fields_in rows)) i c ≡ get_or (fields_in (get_or rows i q)) c 0
  field_is rows q i c h k =
      let m = length-map rows fields_in in
      flatten_at column_count (map fields_in rows) (wide rows) i c (omega arith) k ∙ ap (λ l. get_or l c 0) (map_at fields_in rows q [] i h)

  pub fields_are : (rows : List StringRow) (q : StringRow) (i : ℕ) → i < length rows
      → fields_of Spo (flatten (map fields_in rows)) i ≡ fields_in (get_or rows i q)
  unfolding fields_of
  fields_are rows q i h =
      rw (field_is rows q i 0 h (omega arith), field_is rows q i 1 h (omega arith), field_is rows q i 2 h (omega arith), field_is rows q i 3 h (omega arith))
      refl
