-- What the printer may print of a file: turns of the uncut run with their rows, its whole list at the end, and the number that refuses it.
-- Assumes nothing: these are definitions.
use Rattle.std.specs.Prelude.{ℕ, Err, ◌≤◌, ◌≡◌, List, length, take}
use Rattle.words.specs.declared.Written.TheVariants as written
use Rattle.turns.specs.declared.Turned.{Turned}
use Rattle.turns.specs.Surveys.{Survey}
use Rattle.turns.specs.Opening.{open_of, Opens}
use Rattle.queries.specs.declared.Keeping.TheVariants.{Merged}
use Rattle.queries.specs.declared.Played.{Played}
use Rattle.queries.specs.declared.Played.TheVariants.{Finished, Unfinished, Stopped, Refused}
use Rattle.queries.specs.Playing.{Stops, Shows, IsWhole}
use Rattle.print_reading.specs.Files.{layout_of}
use Rattle.print_writing.specs.FileQueries.{file_tables, file_survey, file_plan, file_quantum, IsAccepted, state_room, output_room, kept_room}

-- as many turns as 64 bits count
abbrev pub most_turns : ℕ
most_turns = 18446744073709551615

-- the query opens with some state buffer
abbrev pub CanOpen : Survey → List ℕ → Type 0
CanOpen v plan = (lent : List ℕ) × Opens v plan lent

-- ---- of a file's bytes
-- a turn's number, its steps, its ending and its list are those of the uncut run's turn with that number
abbrev pub TurnShown : List ℕ → ℕ → Turned → List ℕ → Type 0
TurnShown bytes number turned list =
    Shows (file_tables bytes) (file_plan bytes) (file_quantum bytes) (output_room (file_plan bytes)) number turned list

-- the merged list is that of the uncut run at its end
abbrev pub ListShown : List ℕ → List ℕ → Type 0
ListShown bytes list = IsWhole Merged (file_tables bytes) (file_plan bytes) list

-- by what a file is refused: for its size; by the opening of its query; or by what stops that, once it is opened
pub data RefusedBy (bytes : List ℕ) : ℕ → Type 0 where
  for_size : (x : ℕ) → layout_of bytes ≡ Err x → RefusedBy bytes x
  by_opening : IsAccepted bytes → (state : List ℕ) → length state ≡ state_room
      → (x : ℕ) → (open_of (file_survey bytes) (file_plan bytes) state).answer ≡ written.Refused x → RefusedBy bytes x
  by_turns_fact : IsAccepted bytes → CanOpen (file_survey bytes) (file_plan bytes) → (before kept : List ℕ) → length before ≡ kept_room
      → (x : ℕ) → Stops Merged (file_tables bytes) (file_plan bytes) (file_quantum bytes) most_turns (output_room (file_plan bytes)) before kept x
      → RefusedBy bytes x

-- what is left to print when the turns are over, by how the query came out
abbrev pub LeftToShow : List ℕ → List ℕ → Played → Type 0
LeftToShow bytes kept (Finished words) = (words ≤ length kept) × ListShown bytes (take words kept)
LeftToShow bytes kept (Unfinished saved words) = Unit {0}
LeftToShow bytes kept (Stopped x) = RefusedBy bytes x
LeftToShow bytes kept (Refused x) = ⊥

-- ---- lines
-- the first `n` bytes of `line` are `text`
abbrev pub IsLine : List ℕ → List ℕ → ℕ → Type 0
IsLine text line n = (n ≤ length line) × (take n line ≡ text)
