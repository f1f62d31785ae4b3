-- The limits that are too long to run by computation, 65,536 rows and 1,000,000 steps: stated of the definitions all the same.
-- The program `trial_limits` runs both on both sides.
use Rattle.std.specs.Prelude.{ℕ, ◌*◌, ◌≡◌, true, List, [], ◌∷◌, replicate}
use Rattle.words.specs.declared.Written.TheVariants.{Refused}
use Rattle.tables.specs.Tables.{Tables, lengths_right}
use Rattle.turns.specs.declared.TurnEnding.TheVariants.{Done}
use Rattle.turns.specs.Opening.{open_of}
use Rattle.turns.specs.Turns.{TurnInput, turn_of, result_of}
use Rattle.uploads.specs.declared.Made.TheVariants as made
use Rattle.uploads.specs.Making.{MadeBuffers, upload_right, make_of}
use Rattle.worked_cases.specs.Calls.{surveyed, turn_call}
use Rattle.worked_cases.specs.Literals.{stems}

-- `n` rows, all words 0: for test 1, which looks at lengths alone
abbrev pub zero_rows : ℕ → Tables
zero_rows n = record { rows = replicate (n * 4) 0; pos = replicate n 0; osp = replicate n 0 }

-- 65,536 rows pass test 1; with 65,537 an opening is refused by 1, whatever the plan
pub record RowLimit : Type 0 where
  pub most : lengths_right (zero_rows 65536) ≡ true
  pub more : (plan state : List ℕ) → open_of (surveyed (zero_rows 65537)) plan state ≡ record { answer = Refused 1; buffers = state }

-- 65,536 uploaded rows pass test 15; 65,537 are refused by it, whatever the buffers
pub record UploadLimit : Type 0 where
  pub most : upload_right (replicate (65536 * 4) 0) ≡ true
  pub more : (b : MadeBuffers) → make_of (record { upload = replicate (65537 * 4) 0; buffers = b }) ≡ record { answer = made.Refused 15; buffers = b }

-- a turn of ?0 n11 ?1, an empty range, with a quantum
abbrev pub empty_turn : ℕ → TurnInput
empty_turn quantum =
    turn_call stems (0x10000001 ∷ 0x20000001 ∷ 0xC0000000 ∷ 0x0000000B ∷ 0xC0000001 ∷ 0x30000000 ∷ 0x80000001 ∷ 0xC0000000 ∷ [])
    (0xD0000007 ∷ 0x000007EA ∷ 0xE0000001 ∷ 0xF0000003 ∷ []) quantum [] 128

-- a quantum of 1,000,000 runs
abbrev pub StepLimit : Type 0
StepLimit = turn_of (empty_turn 1000000) ≡ result_of (empty_turn 1000000) Done 1 [] []
