-- What a report answers, by its tests.
use Prim.Native.Nat.{ℕ, ◌≤◌, ◌<◌}
use native.Mathlib.Omega.{arith}
use mathlib.Core.Path.{◌≡◌, refl, sym, ◌∙◌, ap₂}
use mathlib.Core.Bool.{Bool, true, false, ◌||◌}
use mathlib.Core.List.{List}
use lib.Dec.{eqb}
use lib.ListN.{length, take}
use borrow.Author.Tests.{eqb-true, le-leb, lt-leb}
use Rattle.words.specs.declared.Written.TheVariants.{Words, Refused}
use Rattle.sequences.specs.Sequences.{all, over}
use Rattle.words.specs.Tests.{first_failing}
use Rattle.sequences.proofs.Booleans.{and_left}
use Rattle.registers.specs.Registers.{register_count, is_rank, are_registers, kept_registers, report_on}
use Rattle.calls.specs.Calls.{result_of_call}
use Rattle.calls.specs.Words.{WordsResult}
use Rattle.register_reports.specs.Reporting.{report_input, report_words, report_of}
use Rattle.registers.proofs.Reports.{report_length}

-- a kept list that passes test 12 has at most 16 words
pub kept_short : (ws : List ℕ) → kept_registers ws ≡ true → length ws ≤ register_count
kept_short ws h = go (eqb (length ws) 0) refl h
  where
    go : (b : Bool) → eqb (length ws) 0 ≡ b → b || are_registers ws ≡ true → length ws ≤ register_count
    go true p e = omega (arith, eqb-true (length ws) 0 p)
    go false p e = omega (arith, eqb-true (length ws) register_count (and_left (eqb (length ws) register_count) (all is_rank ws) e))

abbrev answered : ℕ → List ℕ → WordsResult
answered n ws = record { answer = Words n; buffers = ws }

module _ (kept : List ℕ) (given : ℕ) (report : List ℕ) where
  pub no_room : length report < report_words → record { answer = Refused 7; buffers = report } ≡ report_of (report_input kept given report)
  unfolding result_of_call first_failing
  no_room h = rw (lt-leb report_words (length report) h)

  module _ (room : report_words ≤ length report) where
    pub given_long : length kept < given → record { answer = Refused 12; buffers = report } ≡ report_of (report_input kept given report)
    unfolding result_of_call first_failing
    given_long h = rw (le-leb report_words (length report) room, lt-leb given (length kept) h)

    module _ (there : given ≤ length kept) where
      pub no_registers : kept_registers (take given kept) ≡ false
          → record { answer = Refused 12; buffers = report } ≡ report_of (report_input kept given report)
      unfolding result_of_call first_failing
      no_registers h = rw (le-leb report_words (length report) room, le-leb given (length kept) there, h)

      pub counts_written : {after : List ℕ} → kept_registers (take given kept) ≡ true → after ≡ over (report_on (take given kept)) report
          → record { answer = Words report_words; buffers = after } ≡ report_of (report_input kept given report)
      unfolding result_of_call first_failing
      counts_written {after} h e =
          let said : ◌≡◌ {A = WordsResult} (answered report_words after)
          (answered (length (report_on (take given kept))) (over (report_on (take given kept)) report)) =
          ap₂ answered (sym (report_length (take given kept))) e in
          said ∙ rw (le-leb report_words (length report) room, le-leb given (length kept) there, h)
