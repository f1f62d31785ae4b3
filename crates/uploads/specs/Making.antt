-- Making tables from an upload: the tests in order, the answer, and the buffers at exit. Assumes nothing: these are definitions.
use Rattle.std.specs.Prelude.{ℕ, ◌%◌, Bool, ◌&&◌, List, [], ◌∷◌, eqb, leb, length}
use Rattle.sequences.specs.Sequences.{over}
use Rattle.words.specs.Tests.{Test}
use Rattle.calls.specs.Calls.{CallSchema, CallResult, result_of_call}
use Rattle.tables.specs.Tables.{Tables, column_count, most_rows}
use Rattle.uploads.specs.declared.Made.{Made}
use Rattle.uploads.specs.declared.Made.TheVariants.{Words, Refused}
use Rattle.uploads.specs.Uploads.{upload_count, made_tables, dropped_report}

-- the buffers that a call writes to
pub record MadeBuffers : Type 0 where
  pub rows : List ℕ
  pub pos : List ℕ
  pub osp : List ℕ
  pub report : List ℕ

abbrev pub make_buffers : List ℕ → List ℕ → List ℕ → List ℕ → MadeBuffers
make_buffers rows pos osp report = record { rows = rows; pos = pos; osp = osp; report = report }

-- what a call lends
pub record MakeInput : Type 0 where
  pub upload : List ℕ
  pub buffers : MadeBuffers

abbrev pub make_input : List ℕ → List ℕ → List ℕ → List ℕ → List ℕ → MakeInput
make_input upload rows pos osp report = record { upload = upload; buffers = make_buffers rows pos osp report }

-- ---- the tests
-- 15: whole rows, and not too many
unfoldable pub upload_right : List ℕ → Bool
upload_right up = eqb (length up % column_count) 0 && leb (upload_count up) most_rows

-- 16: each buffer has room for what is written to it
unfoldable pub make_room_right : Tables → List ℕ → MadeBuffers → Bool
make_room_right t report b =
    leb (length t.rows) (length b.rows)
    && (leb (length t.pos) (length b.pos) && (leb (length t.osp) (length b.osp) && leb (length report) (length b.report)))

abbrev pub make_tests : MakeInput → List Test
make_tests i =
    (15, upload_right i.upload)
    ∷ (16, make_room_right (made_tables i.upload) (dropped_report i.upload) i.buffers)
    ∷ []

-- ---- what a call answers, and what it leaves
abbrev pub MakeResult : Type 0
MakeResult = CallResult Made MadeBuffers

-- tables and a report, over the first words of the buffers
abbrev pub made_with : Tables → List ℕ → MadeBuffers → MakeResult
made_with t report b =
    record {
      answer = Words (length t.rows) (length t.pos) (length t.osp) (length report);
      buffers = make_buffers (over t.rows b.rows) (over t.pos b.pos) (over t.osp b.osp) (over report b.report);
    }

-- ---- the numbers and values of an answer
-- the number of the test that refused a call, 0 where it was served
abbrev pub made_refusal : Made → ℕ
made_refusal (Words rows pos osp report) = 0
made_refusal (Refused x) = x

-- the words written to each buffer: none by a refused call
pub record MadeWords : Type 0 where
  pub rows : ℕ
  pub pos : ℕ
  pub osp : ℕ
  pub report : ℕ

abbrev pub no_made_words : MadeWords
no_made_words = record { rows = 0; pos = 0; osp = 0; report = 0 }

abbrev pub made_words : Made → MadeWords
made_words (Words rows pos osp report) = record { rows = rows; pos = pos; osp = osp; report = report }
made_words (Refused x) = no_made_words

-- the words of some tables and a report
abbrev pub make_words_of : Tables → List ℕ → MadeWords
make_words_of t report = record { rows = length t.rows; pos = length t.pos; osp = length t.osp; report = length report }

-- ---- the call
abbrev pub make_schema : CallSchema MakeInput Made Made MadeBuffers MadeWords
make_schema =
    record {
      tests = make_tests;
      numbers = λ i. 15 ∷ 16 ∷ [];
      lent = λ i. i.buffers;
      refuses = Refused;
      serves = λ i. (made_with (made_tables i.upload) (dropped_report i.upload) i.buffers).answer;
      leaves = λ i. (made_with (made_tables i.upload) (dropped_report i.upload) i.buffers).buffers;
      counts = λ i. make_words_of (made_tables i.upload) (dropped_report i.upload);
      says = λ a. a;
      refusal = Refused;
      tells = made_refusal;
      counted = made_words;
      nothing = no_made_words;
    }

abbrev pub make_of : MakeInput → MakeResult
make_of = result_of_call make_schema
