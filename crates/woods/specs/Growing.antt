-- Growing a wood: the tests in order, the answer, and the buffers at exit. Assumes nothing: these are definitions.
use Rattle.std.specs.Prelude.{ℕ, Bool, ◌&&◌, List, [], ◌∷◌, leb}
use Rattle.words.specs.Words.{most_year}
use Rattle.words.specs.Tests.{Test}
use Rattle.calls.specs.Calls.{CallSchema, result_of_call}
use Rattle.tables.specs.Tables.{Tables}
use Rattle.table_answers.specs.declared.TablesWritten.{TablesWritten}
use Rattle.table_answers.specs.Writing.{TableBuffers, table_buffers, tables_room, TablesResult, TableWords, writes_tables}
use Rattle.woods.specs.Woods.{wood_of}

abbrev pub most_stems : ℕ
most_stems = 32768

-- what a call is given
pub record GrowInput : Type 0 where
  pub seed : ℕ
  pub stems : ℕ
  pub year : ℕ
  pub buffers : TableBuffers

abbrev pub grow_input : ℕ → ℕ → ℕ → List ℕ → List ℕ → List ℕ → GrowInput
grow_input seed stems year rows pos osp = record { seed = seed; stems = stems; year = year; buffers = table_buffers rows pos osp }

-- the wood asked for
abbrev pub wood_in : GrowInput → Tables
wood_in i = wood_of i.seed i.stems i.year

-- ---- the tests
-- 24: not too many stems, and a year that rows may have
unfoldable pub asked_right : ℕ → ℕ → Bool
asked_right stems year = leb stems most_stems && (leb 1 year && leb year most_year)

-- 24, and then 25: each buffer has room for what is written to it
abbrev pub grow_tests : GrowInput → List Test
grow_tests i = (24, asked_right i.stems i.year) ∷ (25, tables_room (wood_in i) i.buffers) ∷ []

-- ---- the call
abbrev pub grow_schema : CallSchema GrowInput TablesWritten TablesWritten TableBuffers TableWords
grow_schema = writes_tables grow_tests (24 ∷ 25 ∷ []) (λ i. i.buffers) wood_in

abbrev pub grow_of : GrowInput → TablesResult
grow_of = result_of_call grow_schema
