-- A row query has one answer: of some delivered rows no two lists of words meet RowsAnswer; and whatever was delivered, any two that do have the same
-- rows, each as often.
use Prim.Native.Nat.{ℕ}
use native.Mathlib.Omega.{arith}
use mathlib.Core.Path.{◌≡◌, refl, sym, ◌∙◌, ap, ap₂, subst}
use mathlib.Core.Bool.{true}
use mathlib.Core.List.{List, [], ◌∷◌, ◌++◌, map, flatten, Permᴰ}
use Rattle.words.specs.Bindings.{Bindings}
use Rattle.sequences.specs.Sequences.{all}
use Rattle.sequences.proofs.Booleans.{and_left, and_right}
use Rattle.sequences.proofs.Each.{Each}
use Rattle.sequences.proofs.EachMore.{each_permuted}
use Rattle.tables.specs.Tables.{Tables}
use Rattle.plans.specs.Plans.{Plan}
use Rattle.sparql.specs.Terms.{Mapping}
use Rattle.sparql.specs.Algebra.{ToList}
use Rattle.sparql.specs.Reading.{mapping_of, solutions_of, is_value_word}
use Rattle.sparql.specs.Answers.{RowsAnswer}
use Rattle.sparql.proofs.GroupKeys.{key_injective}
use Rattle.sparql.proofs.Permuted.{same_permuted}

-- a row whose words are values or unbound
abbrev Valued : List ℕ → Type 0
Valued row = all is_value_word row ≡ true

-- ---- rows whose words are values are those that their values are read from
parts_all : (xs ys : List ℕ) → all is_value_word (xs ++ ys) ≡ true → (all is_value_word xs ≡ true) × (all is_value_word ys ≡ true)
unfolding all
parts_all [] ys e = (refl, e)
parts_all (x ∷ xs) ys e =
    let i = parts_all xs ys (and_right (is_value_word x) _ e) in
    (rw (and_left (is_value_word x) _ e) i.0, i.1)

rows_all : (rows : List (List ℕ)) → all is_value_word (flatten rows) ≡ true → Each Valued rows
unfolding flatten
rows_all [] e = tt
rows_all (row ∷ rows) e = let p = parts_all row (flatten rows) e in (p.0, rows_all rows p.1)

rows_same : (xs ys : List (List ℕ)) → Each Valued xs → Each Valued ys
    → map mapping_of xs ≡ map mapping_of ys → xs ≡ ys
rows_same [] [] p q e = refl
rows_same [] (y ∷ ys) p q e = absurd (let z : ◌≡◌ {A = ℕ} 0 1 = cc in omega arith)
rows_same (x ∷ xs) [] p q e = absurd (let z : ◌≡◌ {A = ℕ} 0 1 = cc in omega arith)
rows_same (x ∷ xs) (y ∷ ys) p q e =
    let h : mapping_of x ≡ mapping_of y = cc in
    let t : map mapping_of xs ≡ map mapping_of ys = cc in
    ap₂ ◌∷◌ (key_injective x y p.0 q.0 h) (rows_same xs ys p.1 q.1 t)

-- those of a list of values
list_valued : (list : List ℕ) (rows : List (List ℕ)) → list ≡ flatten rows → all is_value_word list ≡ true → Each Valued rows
list_valued list rows p v = rows_all rows (ap (all is_value_word) (sym p) ∙ v)

pub words_same : (a b : List ℕ) (rows others : List (List ℕ)) → a ≡ flatten rows → b ≡ flatten others
    → all is_value_word a ≡ true → all is_value_word b ≡ true → map mapping_of rows ≡ map mapping_of others → a ≡ b
words_same a b rows others p q v w read =
    p ∙ ap flatten (rows_same rows others (list_valued a rows p v) (list_valued b others q w) read) ∙ sym q

-- ---- a permutation of what is made of some elements is made of a permutation of them
unmapped : {A B : Type 0} (f : A → B) (xs : List A) {made moved : List B} → Permᴰ made moved → made ≡ map f xs
    → (ys : List A) × ((moved ≡ map f ys) × Permᴰ xs ys)
unmapped f [] Permᴰ.nil p = ([], (refl, Permᴰ.nil))
unmapped f (x ∷ xs) Permᴰ.nil p = absurd (let z : ◌≡◌ {A = ℕ} 0 1 = cc in omega arith)
unmapped f [] (Permᴰ.cons e h) p = absurd (let z : ◌≡◌ {A = ℕ} 0 1 = cc in omega arith)
unmapped f (x ∷ xs) (Permᴰ.cons {a = a} {b = b} e h) p =
    let r = unmapped f xs h cc in
    (x ∷ r.0, (ap₂ ◌∷◌ (let z : b ≡ f x = cc in z) r.1.0, Permᴰ.cons refl r.1.1))
unmapped f [] (Permᴰ.swap e g) p = absurd (let z : ◌≡◌ {A = ℕ} 0 1 = cc in omega arith)
unmapped f (x ∷ []) (Permᴰ.swap e g) p = absurd (let z : ◌≡◌ {A = ℕ} 0 1 = cc in omega arith)
unmapped f (x ∷ (y ∷ xs)) (Permᴰ.swap e g) p = (y ∷ (x ∷ xs), (cc, Permᴰ.swap refl refl))
unmapped f xs (Permᴰ.trans h k) p =
    let r = unmapped f xs h p in
    let s = unmapped f r.0 k r.1.0 in
    (s.0, (s.1.0, Permᴰ.trans r.1.1 s.1.1))

-- ---- one answer
module _ (t : Tables) (q : Plan) (vs : List ℕ) where
  pub rows_unique : (delivered : List Bindings) (a b : List ℕ) → RowsAnswer t q delivered vs a → RowsAnswer t q delivered vs b → a ≡ b
  rows_unique delivered a b x y =
      words_same a b x.rows y.rows x.words y.words x.values y.values (x.order ∙ sym y.order)

  -- whatever was delivered
  pub rows_as_often : (xs : List Mapping) → ToList (solutions_of t q) xs → (first second : List Bindings) (a b : List ℕ)
      → (x : RowsAnswer t q first vs a) (y : RowsAnswer t q second vs b) → Permᴰ x.rows y.rows
  rows_as_often xs solved first second a b x y =
      let valued = list_valued a x.rows x.words x.values in
      let r =
      unmapped mapping_of x.rows
      (same_permuted (map mapping_of x.rows) (map mapping_of y.rows) (λ row. x.counts xs solved row ∙ sym (y.counts xs solved row))) refl in
      let same : r.0 ≡ y.rows =
      rows_same r.0 y.rows (each_permuted Valued r.1.1 valued) (list_valued b y.rows y.words y.values) (sym r.1.0) in
      subst (Permᴰ x.rows) same r.1.1
