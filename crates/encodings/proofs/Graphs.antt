-- What the words of rows of strings stand for is the graph of these rows, year by year; so SPARQL's solutions over what tables stand for are those over
-- the given rows.
use Prim.Native.Nat.{ℕ}
use native.Mathlib.Omega.{arith}
use mathlib.Core.Path.{◌≡◌, sym, ◌∙◌, ap, ap₂}
use mathlib.Core.Bool.{◌&&◌, ◌||◌}
use mathlib.Core.Option.{none, some}
use mathlib.Core.List.{List, [], ◌∷◌, flatten}
use lib.Dec.{eqb}
use lib.IntN.{pos}
use borrow.Author.Tests.{eqb-true, eqb-false, eq-eqb, ne_eqb}
use Rattle.words.specs.Words as words
use Rattle.sequences.proofs.Booleans.{Decided, yes, no, decided}
use Rattle.tables.specs.Tables.{Tables}
use Rattle.plans.specs.Plans.{Plan}
use Rattle.sparql.specs.Terms.{iri, integer, TripleOver, same_triple}
use Rattle.sparql.specs.Algebra.{unions}
use Rattle.sparql.specs.Reading.{triple_in, has_triple}
use Rattle.sparql_strings.specs.Carrying.{carry_triple}
use Rattle.sparql_strings.specs.Decoding.{triple_decoded, branch_decoded, decoded_in}
use Rattle.sparql_strings.specs.Strings.{by_string, Dictionaries, RightDictionaries, decoding}
use Rattle.encodings.specs.Encodings.{is_signed30, word_of, words_of}
use Rattle.encodings.specs.StringRows.{StringRow, row_terms}
use Rattle.encodings.specs.StringGraphs.{triple_given, graph_given}
use Rattle.encodings.proofs.Encoded.{split, term_encoded}

-- a year's word
year_word_lem : (d : Dictionaries) (y w : ℕ) → word_of d (integer (pos y)) ≡ some w → w ≡ words.number y
year_word_lem d y w e = go (decided (is_signed30 (pos y)))
  where
    go : Decided (is_signed30 (pos y)) → w ≡ words.number y
    go (yes h) = let f : some (words.number y) ≡ some w = (rw h at e) in cc
    go (no h) = absurd (let f : none ≡ some w = (rw h at e) in let z : ◌≡◌ {A = ℕ} 0 1 = cc in omega arith)

same_years : (y year : ℕ) → eqb (words.number y) (words.number year) ≡ eqb y year
same_years y year =
    elim (decided (eqb y year)) [
      | yes h ↦ (let e = eqb-true y year h in eq-eqb (words.number y) (words.number year) (ap words.number e)) ∙ sym h
      | no h ↦ ne_eqb (words.number y) (words.number year) (λ e. eqb-false y year h (omega arith)) ∙ sym h
    ]

module _ (d : Dictionaries) (r : RightDictionaries d) where
  -- one row's words before those of others
  row_encoded : (q : StringRow) (rows : List StringRow) (year : ℕ) (x : TripleOver by_string) (ws : List ℕ) (y s p o : ℕ) (us vs zs rest : List ℕ)
      → ws ≡ y ∷ us → us ≡ s ∷ vs → vs ≡ p ∷ zs → zs ≡ o ∷ rest
      → word_of d (integer (pos q.year)) ≡ some y → word_of d (iri q.subject) ≡ some s → word_of d (iri q.predicate) ≡ some p
      → word_of d q.object ≡ some o → has_triple (triple_decoded (decoding d)) (words.number year) rest x ≡ graph_given year rows x
      → has_triple (triple_decoded (decoding d)) (words.number year) ws x ≡ graph_given year (q ∷ rows) x
  unfolding has_triple graph_given
  row_encoded q rows year x ws y s p o us vs zs rest e f g h a b c k l =
      let subject = term_encoded d r (iri q.subject) s b in
      let predicate = term_encoded d r (iri q.predicate) p c in
      let object = term_encoded d r q.object o k in
      let whole : ws ≡ y ∷ s ∷ p ∷ o ∷ rest = cc in
      let years : eqb y (words.number year) ≡ eqb q.year year =
      ap (λ w. eqb w (words.number year)) (year_word_lem d q.year y a) ∙ same_years q.year year in
      let given : carry_triple (decoding d) (triple_in s p o) ≡ triple_given q =
      λ i. record { subject = subject i; predicate = predicate i; object = object i } in
      ap (λ us. has_triple (triple_decoded (decoding d)) (words.number year) us x) whole
      ∙ ap₂ (λ same z. (same && same_triple x z) || has_triple (triple_decoded (decoding d)) (words.number year) rest x) years given
      ∙ ap (λ others. (eqb q.year year && same_triple x (triple_given q)) || others) l

  pub graph_encoded : (rows : List StringRow) (ws : List ℕ) → words_of d (row_terms rows) ≡ some ws → (year : ℕ) (x : TripleOver by_string)
      → has_triple (triple_decoded (decoding d)) (words.number year) ws x ≡ graph_given year rows x
  unfolding flatten words_of has_triple graph_given
  graph_encoded [] ws e year x = let f : ws ≡ [] = cc in ap (λ vs. has_triple (triple_decoded (decoding d)) (words.number year) vs x) f
  graph_encoded (q ∷ rows) ws e year x =
      let a = split d (integer (pos q.year)) (iri q.subject ∷ iri q.predicate ∷ q.object ∷ row_terms rows) ws e in
      let b = split d (iri q.subject) (iri q.predicate ∷ q.object ∷ row_terms rows) a.rest a.others in
      let c = split d (iri q.predicate) (q.object ∷ row_terms rows) b.rest b.others in
      let o = split d q.object (row_terms rows) c.rest c.others in
      row_encoded q rows year x ws a.word b.word c.word o.word a.rest b.rest c.rest o.rest
      a.whole b.whole c.whole o.whole a.first b.first c.first o.first (graph_encoded rows o.rest o.others year x)

  -- the solutions of a plan in a year, over tables of these words
  pub solutions_encoded : (rows : List StringRow) (t : Tables) → words_of d (row_terms rows) ≡ some t.rows → (q : Plan) (year : ℕ)
      → decoded_in (decoding d) t q year ≡ unions (branch_decoded (decoding d) (graph_given year rows)) q.branches
  solutions_encoded rows t e q year =
      ap (λ g. unions (branch_decoded (decoding d) g) q.branches) (λ i x. graph_encoded rows t.rows e year x i)
