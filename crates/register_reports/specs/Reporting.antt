-- The report on a kept list of registers: its tests in order, its answer, and the buffer at exit. Assumes nothing: these are definitions.
use Rattle.std.specs.Prelude.{ℕ, suc, ◌≡◌, List, [], ◌∷◌, ◌&&◌, length, take, leb}
use Rattle.words.specs.declared.Written.{Written}
use Rattle.words.specs.Answers.{words_in}
use Rattle.words.specs.Tests.{Test}
use Rattle.calls.specs.Calls.{CallSchema, result_of_call}
use Rattle.calls.specs.Words.{WordsResult, WordsOver, writes_words}
use Rattle.registers.specs.Registers.{register_count, most_rank, kept_registers, report_on, total}

pub record ReportInput : Type 0 where
  pub kept : List ℕ
  pub given : ℕ
  pub report : List ℕ

-- what a call lends
abbrev pub report_input : List ℕ → ℕ → List ℕ → ReportInput
report_input kept given report = record { kept = kept; given = given; report = report }

-- a kept list is the first words of its buffer, as many as the call gives
abbrev pub given_registers : ReportInput → List ℕ
given_registers i = take i.given i.kept

-- a count for each value from 0 to 61
abbrev pub report_words : ℕ
report_words = suc most_rank

abbrev pub reported_words : ReportInput → List ℕ
reported_words i = report_on (given_registers i)

-- 7: room for the report; 12: the kept list
abbrev pub report_tests : ReportInput → List Test
report_tests i =
    (7, leb report_words (length i.report))
    ∷ (12, leb i.given (length i.kept) && kept_registers (given_registers i))
    ∷ []

-- ---- the call
abbrev pub report_schema : CallSchema ReportInput Written Written (List ℕ) ℕ
report_schema = writes_words report_tests (7 ∷ 12 ∷ []) (λ i. i.report) reported_words

abbrev pub report_of : ReportInput → WordsResult
report_of = result_of_call report_schema

-- a served report writes its counts over the first words of its buffer, which has room for them; there are 62, and they make 16
pub record ReportWrites (i : ReportInput) : Type 0 where
  pub report : WordsOver (reported_words i) i.report (report_of i)
  pub counts : words_in (report_of i).answer ≡ report_words
  pub whole : total (take report_words (report_of i).buffers) ≡ register_count
