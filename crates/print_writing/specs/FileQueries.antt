-- The query in a file's bytes: its tables, its plan and its quantum; and the buffers that the printer lends it. Assumes nothing: these are
-- definitions.
use Rattle.std.specs.Prelude.{ℕ, Ok, ◌*◌, ◌≡◌, List, take, drop}
use Rattle.tables.specs.Tables.{Tables, tables_of, column_count}
use Rattle.plans.specs.Plans.{plan_of}
use Rattle.steps.specs.Saved.{least_state_words}
use Rattle.lists.specs.Gathering.{width}
use Rattle.turns.specs.Surveys.{Survey, under_number, survey_of}
use Rattle.print_reading.specs.declared.FileParts.{FileParts}
use Rattle.print_reading.specs.Files.{file_words, row_count_in, quantum_in, rows_at, pos_at, osp_at, plan_at, layout_of}

-- ---- the parts of a file's words
abbrev pub rows_in : List ℕ → List ℕ
rows_in ws = take (column_count * row_count_in ws) (drop rows_at ws)

abbrev pub pos_in : List ℕ → List ℕ
pos_in ws = take (row_count_in ws) (drop (pos_at (row_count_in ws)) ws)

abbrev pub osp_in : List ℕ → List ℕ
osp_in ws = take (row_count_in ws) (drop (osp_at (row_count_in ws)) ws)

abbrev pub plan_in : List ℕ → List ℕ
plan_in ws = drop (plan_at (row_count_in ws)) ws

-- ---- the query of a file's bytes
unfoldable pub file_tables : List ℕ → Tables
file_tables bytes = tables_of (rows_in (file_words bytes)) (pos_in (file_words bytes)) (osp_in (file_words bytes))

-- a file's tables have no number of their own, and stand under 0
abbrev pub file_number : ℕ
file_number = 0

abbrev pub file_survey : List ℕ → Survey
file_survey bytes = under_number file_number (file_tables bytes)

unfoldable pub file_plan : List ℕ → List ℕ
file_plan bytes = plan_in (file_words bytes)

unfoldable pub file_quantum : List ℕ → ℕ
file_quantum bytes = quantum_in (file_words bytes)

-- the file's size is accepted
abbrev pub IsAccepted : List ℕ → Type 0
IsAccepted bytes = (p : FileParts) × (layout_of bytes ≡ Ok p)

-- what the calls are lent, under that number
abbrev pub lent_survey : List ℕ → List ℕ → List ℕ → Survey
lent_survey rows pos osp = survey_of rows pos osp file_number

-- and that it is the file's
pub record Asks (bytes rows pos osp plan : List ℕ) (quantum : ℕ) : Type 0 where
  pub accepted : IsAccepted bytes
  pub tables : tables_of rows pos osp ≡ file_tables bytes
  pub plan_words_fact : plan ≡ file_plan bytes
  pub quantum_word : quantum ≡ file_quantum bytes

-- ---- the printer's buffers: a state, an output of exactly 64 rows or records, and a kept list
abbrev pub state_room : ℕ
state_room = least_state_words

abbrev pub output_room : List ℕ → ℕ
output_room plan = 64 * width (plan_of plan).ending

abbrev pub kept_room : ℕ
kept_room = 8192
