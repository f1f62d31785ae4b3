-- Calls that write tables to three lent buffers: the room, the answer, and the buffers at exit. Assumes nothing: these are definitions.
use Rattle.std.specs.Prelude.{ℕ, Bool, ◌&&◌, List, leb, length, take}
use Rattle.sequences.specs.Sequences.{over}
use Rattle.words.specs.Tests.{Test}
use Rattle.calls.specs.Calls.{CallSchema, CallResult}
use Rattle.tables.specs.Tables.{Tables, tables_of}
use Rattle.table_answers.specs.declared.TablesWritten.{TablesWritten}
use Rattle.table_answers.specs.declared.TablesWritten.TheVariants.{Words, Refused}

-- the buffers that a call writes to
pub record TableBuffers : Type 0 where
  pub rows : List ℕ
  pub pos : List ℕ
  pub osp : List ℕ

abbrev pub table_buffers : List ℕ → List ℕ → List ℕ → TableBuffers
table_buffers rows pos osp = record { rows = rows; pos = pos; osp = osp }

-- each buffer has room for what is written to it
unfoldable pub tables_room : Tables → TableBuffers → Bool
tables_room t b =
    leb (length t.rows) (length b.rows) && (leb (length t.pos) (length b.pos) && leb (length t.osp) (length b.osp))

-- ---- what a call answers, and what it leaves
abbrev pub TablesResult : Type 0
TablesResult = CallResult TablesWritten TableBuffers

-- some tables over the first words of the buffers
abbrev pub written_with : Tables → TableBuffers → TablesResult
written_with t b =
    record {
      answer = Words (length t.rows) (length t.pos) (length t.osp);
      buffers = table_buffers (over t.rows b.rows) (over t.pos b.pos) (over t.osp b.osp);
    }

-- ---- the numbers and values of an answer
-- the number of the test that refused a call, 0 where it was served
abbrev pub tables_refusal : TablesWritten → ℕ
tables_refusal (Words rows pos osp) = 0
tables_refusal (Refused x) = x

-- the words written to each buffer: none by a refused call
pub record TableWords : Type 0 where
  pub rows : ℕ
  pub pos : ℕ
  pub osp : ℕ

abbrev pub no_table_words : TableWords
no_table_words = record { rows = 0; pos = 0; osp = 0 }

abbrev pub table_words : TablesWritten → TableWords
table_words (Words rows pos osp) = record { rows = rows; pos = pos; osp = osp }
table_words (Refused x) = no_table_words

-- what a call leaves: the first words of its buffers, as many as it answers
abbrev pub tables_left : TablesResult → Tables
tables_left r =
    let n = table_words r.answer in
    tables_of (take n.rows r.buffers.rows) (take n.pos r.buffers.pos) (take n.osp r.buffers.osp)

-- ---- a call that writes tables, by its tests and their numbers, its buffers, and the tables that it writes
abbrev pub writes_tables : {I : Type 0} → (I → List Test) → List ℕ → (I → TableBuffers) → (I → Tables)
    → CallSchema I TablesWritten TablesWritten TableBuffers TableWords
writes_tables tests numbers lent tables =
    record {
      tests = tests;
      numbers = λ i. numbers;
      lent = lent;
      refuses = Refused;
      serves = λ i. (written_with (tables i) (lent i)).answer;
      leaves = λ i. (written_with (tables i) (lent i)).buffers;
      counts = λ i. record { rows = length (tables i).rows; pos = length (tables i).pos; osp = length (tables i).osp };
      says = λ a. a;
      refusal = Refused;
      tells = tables_refusal;
      counted = table_words;
      nothing = no_table_words;
    }
