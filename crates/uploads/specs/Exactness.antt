-- What made tables hold, and what a report says: exactly the kept rows, and exactly the dropped ones. Assumes nothing: these are definitions.
use Rattle.std.specs.Prelude.{ℕ, suc, ◌+◌, ◌*◌, ◌/◌, ◌%◌, ◌<◌, ◌≡◌, ◌⊎◌, ◌↔◌, true, false, List, length, take, get_or}
use Rattle.std.proofs.Math.Option.{none}
use Rattle.words.specs.Tests.{first_failing}
use Rattle.tables.specs.declared.Order.TheVariants.{Spo}
use Rattle.tables.specs.Tables.{Tables, tables_of, row_count, fields_of, table_tests}
use Rattle.tables.specs.RowLists.{RowIn}
use Rattle.uploads.specs.Uploads.{upload_count, wrong_code, repeat_code, kinds_good, is_kept, entry_words}
use Rattle.uploads.specs.Making.{MakeInput, MakeResult, make_of, made_words}

-- ---- what a call leaves: the first words of its buffers, as many as it answers
abbrev pub tables_made : MakeResult → Tables
tables_made r =
    let n = made_words r.answer in
    tables_of (take n.rows r.buffers.rows) (take n.pos r.buffers.pos) (take n.osp r.buffers.osp)

abbrev pub report_in : MakeResult → List ℕ
report_in r = take (made_words r.answer).report r.buffers.report

-- ---- the tables
-- a kept row of an upload has these fields
pub record KeptRow (up fields : List ℕ) : Type 0 where
  pub row : ℕ
  pub there : row < upload_count up
  pub passes : is_kept up row ≡ true
  pub is : fields_of Spo up row ≡ fields

pub record ExactlyKept (up : List ℕ) (t : Tables) : Type 0 where
  -- each row is that of a kept row of the upload
  pub from : (row : ℕ) → row < row_count t → KeptRow up (fields_of Spo t.rows row)
  -- each row of right kinds, kept or a repeat, stands there
  pub holds : (row : ℕ) → row < upload_count up → kinds_good up row ≡ true → RowIn t (fields_of Spo up row)
  -- and no two are the same
  pub once : (j i : ℕ) → j < row_count t → i < row_count t → fields_of Spo t.rows j ≡ fields_of Spo t.rows i → j ≡ i

-- ---- the report
-- how many rows it names; the place and the code of one
abbrev pub entry_count : List ℕ → ℕ
entry_count report = length report / entry_words

abbrev pub entry_place_at : List ℕ → ℕ → ℕ
entry_place_at report e = get_or report (e * entry_words) 0

abbrev pub code_at : List ℕ → ℕ → ℕ
code_at report e = get_or report (e * entry_words + 1) 0

-- it names a row with a code
pub record Names (report : List ℕ) (row code : ℕ) : Type 0 where
  pub entry : ℕ
  pub there : entry < entry_count report
  pub place : entry_place_at report entry ≡ row
  pub is : code_at report entry ≡ code

-- an earlier row of right kinds has the same fields
pub record Earlier (up : List ℕ) (row : ℕ) : Type 0 where
  pub first : ℕ
  pub before : first < row
  pub right : kinds_good up first ≡ true
  pub is : fields_of Spo up first ≡ fields_of Spo up row

pub record Reported (up report : List ℕ) : Type 0 where
  -- whole entries, whose places ascend and are the upload's
  pub whole : length report % entry_words ≡ 0
  pub ascends : (e : ℕ) → suc e < entry_count report → entry_place_at report e < entry_place_at report (suc e)
  pub there : (e : ℕ) → e < entry_count report → entry_place_at report e < upload_count up
  pub codes : (e : ℕ) → e < entry_count report → (code_at report e ≡ wrong_code) ⊎ (code_at report e ≡ repeat_code)
  -- a row is named with 1 exactly where its kinds are wrong, and with 2 exactly where they are right and an earlier row is the same
  pub wrong : (row : ℕ) → row < upload_count up → Names report row wrong_code ↔ (kinds_good up row ≡ false)
  pub repeats : (row : ℕ) → row < upload_count up → Names report row repeat_code ↔ ((kinds_good up row ≡ true) × Earlier up row)

-- ---- what a served call leaves
pub record MadeRight (i : MakeInput) : Type 0 where
  -- the tests accept the tables
  pub accepted : first_failing (table_tests (tables_made (make_of i))) ≡ none
  pub exact : ExactlyKept i.upload (tables_made (make_of i))
  pub told : Reported i.upload (report_in (make_of i))
