-- A text or a name that a dictionary does not have, by strings; a whole number that no table can hold. Assumes nothing: these are definitions.
use Rattle.std.specs.Prelude.{ℕ, ◌<◌, ◌≤◌, ◌≡◌, Bool, true, false, not, eqb, ltb, ℤ}
use Rattle.words.specs.Words.{term_values, term_kind, term_value, number_kind, text_kind}
use Rattle.sparql.specs.Integers.{same_integer, is_less}
use Rattle.sparql.specs.Reading.{whole_number}
use Rattle.sparql.specs.Terms.{Vocabulary, by_number}
use Rattle.sparql_strings.specs.Carrying.{Carrier}

-- none of the first `count` texts is `s`, and those before it are those below `rank`
pub record AbsentText {M : Vocabulary} (c : Carrier by_number M) (count rank : ℕ) (s : M.Name) : Type 0 where
  pub fits : count < term_values
  pub within : rank ≤ count
  pub before : (n : ℕ) → n < count → M.before (c.text n) s ≡ ltb n rank
  pub apart : (n : ℕ) → n < count → M.same (c.text n) s ≡ false

-- a word that is a text is one of the first `count`
abbrev pub TextWithin : ℕ → ℕ → Type 0
TextWithin count w = eqb (term_kind w) text_kind ≡ true → term_value w < count

-- none of the first `count` names is `s`
pub record AbsentName {M : Vocabulary} (c : Carrier by_number M) (count : ℕ) (s : M.Name) : Type 0 where
  pub fits : count < term_values
  pub apart : (n : ℕ) → n < count → M.same (c.name n) s ≡ false

-- a word that is a name is one of the first `count`
abbrev pub NameWithin : ℕ → ℕ → Type 0
NameWithin count w = eqb (term_kind w) number_kind ≡ false → eqb (term_kind w) text_kind ≡ false → w < count

-- a whole number above all that a table can hold, or below them all
pub record FarNumber (is_above : Bool) (z : ℤ) : Type 0 where
  pub more : (v : ℕ) → v < term_values → is_less (whole_number v) z ≡ is_above
  pub fewer : (v : ℕ) → v < term_values → is_less z (whole_number v) ≡ not is_above
  pub apart : (v : ℕ) → v < term_values → same_integer (whole_number v) z ≡ false
