-- What an adviser may see of rows of strings, and the dictionaries and tables of just this: the strings of visible rows are numbered by themselves, so
-- that no gap tells of others. Assumes nothing: these are definitions.
use Rattle.std.specs.Prelude.{ℕ, ◌≡◌, Bool, true, false, ◌&&◌, ◌||◌, not, List, [], ◌∷◌, eqb}
use Rattle.std.proofs.Math.Option.{Option, some}
use Rattle.sequences.specs.Sequences.{all, keep}
use Rattle.tables.specs.Tables.{Tables}
use Rattle.plans.specs.Conditions.{next}
use Rattle.uploads.specs.Uploads.{made_tables}
use Rattle.dictionaries.specs.Strings.{same_string}
use Rattle.dictionaries.specs.Dictionaries.{is_among}
use Rattle.sparql.specs.Terms.{iri, integer, text}
use Rattle.sparql_strings.specs.Strings.{Dictionaries}
use Rattle.encodings.specs.Encodings.{StringTerm}
use Rattle.encodings.specs.StringRows.{StringRow, same_string_row, row_dictionaries, row_words}
use Rattle.view_turns.specs.Adviser.{SameQueries}

-- a test passes at some row
unfoldable pub some_row : (StringRow → Bool) → List StringRow → Bool
some_row f [] = false
some_row f (r ∷ rows) = f r || some_row f rows

-- ---- as views has it of words (Views.antt), for a grant of names and the name of the membership predicate
abbrev pub is_granted : List (List ℕ) → StringTerm → Bool
is_granted grant (iri s) = is_among grant s
is_granted grant (integer n) = false
is_granted grant (text s) = false

-- a row says of the subject of another, within its year, that it belongs to something granted
abbrev pub admits_row : List (List ℕ) → List ℕ → StringRow → StringRow → Bool
admits_row grant membership r a =
    eqb a.year r.year
    && (same_string a.subject r.subject && (same_string a.predicate membership && is_granted grant a.object))

abbrev pub is_visible : List (List ℕ) → List ℕ → List StringRow → StringRow → Bool
is_visible grant membership rows r = is_among grant r.subject || some_row (admits_row grant membership r) rows

abbrev pub visible_rows : List (List ℕ) → List ℕ → List StringRow → List StringRow
visible_rows grant membership rows = keep (is_visible grant membership rows) rows

-- ---- what an adviser gets: dictionaries and tables of the visible rows alone, and none where one of their whole numbers is out of its 30 bits
abbrev pub adviser_dictionaries : List (List ℕ) → List ℕ → List StringRow → Dictionaries
adviser_dictionaries grant membership rows = row_dictionaries (visible_rows grant membership rows)

abbrev pub adviser_tables : List (List ℕ) → List ℕ → List StringRow → Option Tables
adviser_tables grant membership rows = next (row_words (visible_rows grant membership rows)) (λ ws. some (made_tables ws))

-- ---- rows that differ only in hidden ones
abbrev pub stands_in : List StringRow → StringRow → Bool
stands_in rows r = some_row (same_string_row r) rows

-- each row that stands in the first and not in the second is hidden in the first
abbrev pub HiddenRows : List (List ℕ) → List ℕ → List StringRow → List StringRow → Type 0
HiddenRows grant membership rows others = all (λ r. stands_in others r || not (is_visible grant membership rows r)) rows ≡ true

pub record RowsDiffer (grant : List (List ℕ)) (membership : List ℕ) (rows others : List StringRow) : Type 0 where
  pub first : HiddenRows grant membership rows others
  pub second : HiddenRows grant membership others rows
  -- what stands in both stands there in one sequence
  pub common : keep (stands_in others) rows ≡ keep (stands_in rows) others

-- the same to an adviser: rows, dictionaries, tables, and every opening, turn, join and serving over these, so the same steps and saved words
pub record SameStrings (grant : List (List ℕ)) (membership : List ℕ) (rows others : List StringRow) : Type 0 where
  pub visible : visible_rows grant membership rows ≡ visible_rows grant membership others
  pub dictionaries : adviser_dictionaries grant membership rows ≡ adviser_dictionaries grant membership others
  pub tables : adviser_tables grant membership rows ≡ adviser_tables grant membership others
  pub queries : (t u : Tables) → adviser_tables grant membership rows ≡ some t → adviser_tables grant membership others ≡ some u → SameQueries t u
