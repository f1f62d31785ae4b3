-- The answers of the calls for C in literal numbers: each ending, and each call's answer, served and refused. In each call the values of one served
-- answer all differ, so that none can stand for another. Assumes nothing: these are definitions.
use Rattle.std.specs.Prelude.{ℕ, ◌≡◌, [], ◌∷◌, map}
use Rattle.words.specs.declared.Written.TheVariants as written
use Rattle.turns.specs.declared.TurnEnding.{TurnEnding}
use Rattle.turns.specs.declared.TurnEnding.TheVariants.{Done, Spent, Full, Refused}
use Rattle.turns.specs.declared.Turned.{Turned}
use Rattle.uploads.specs.declared.Made.TheVariants as made
use Rattle.table_answers.specs.declared.TablesWritten.TheVariants as tables
use Rattle.queues.specs.declared.Queued.TheVariants as queued
use Rattle.queues.specs.declared.Service.{Service}
use Rattle.dictionaries.specs.declared.StringKind.TheVariants.{Names, Texts}
use Rattle.dictionary_numberings.specs.declared.DictionaryWritten.TheVariants as sizes
use Rattle.dictionary_lookups.specs.declared.StringFound.TheVariants as found
use Rattle.dictionary_lookups.specs.declared.StringBounds.TheVariants as bounds
use Rattle.call_numbers.specs.declared.WrittenNumbers.{WrittenNumbers}
use Rattle.call_numbers.specs.declared.EndingNumbers.{EndingNumbers}
use Rattle.call_numbers.specs.declared.TurnedNumbers.{TurnedNumbers}
use Rattle.call_numbers.specs.declared.MadeNumbers.{MadeNumbers}
use Rattle.call_numbers.specs.declared.TablesNumbers.{TablesNumbers}
use Rattle.call_numbers.specs.declared.QueuedNumbers.{QueuedNumbers}
use Rattle.call_numbers.specs.declared.ServiceNumbers.{ServiceNumbers}
use Rattle.call_numbers.specs.declared.NumberedNumbers.{NumberedNumbers}
use Rattle.call_numbers.specs.declared.FoundNumbers.{FoundNumbers}
use Rattle.call_numbers.specs.declared.BoundsNumbers.{BoundsNumbers}
use Rattle.call_numbers.specs.Numbers.{written_numbers, ending_numbers, turned_numbers, made_numbers, tables_numbers, queued_numbers}
use Rattle.call_numbers.specs.Numbers.{service_numbers, kind_of, numbered_numbers, found_numbers, bounds_numbers}

-- ---- answers of the calls, with these values
abbrev pub turned_with : TurnEnding → ℕ → ℕ → ℕ → Turned
turned_with ending steps saved listed = record { steps = steps; ending = ending; saved = saved; listed = listed }

abbrev pub served_with : Turned → ℕ → ℕ → ℕ → ℕ → Service
served_with turned owner left waiting resting = record { turned = turned; owner = owner; left = left; waiting = waiting; resting = resting }

-- ---- numbers, in the sequence of bindings/c/sotjarn.h
abbrev pub in_written : ℕ → ℕ → WrittenNumbers
in_written refused words = record { refused = refused; words = words }

abbrev pub in_ending : ℕ → ℕ → EndingNumbers
in_ending ending refused = record { ending = ending; refused = refused }

abbrev pub in_turned : ℕ → ℕ → ℕ → ℕ → ℕ → TurnedNumbers
in_turned ending refused steps saved listed = record { ending = ending; refused = refused; steps = steps; saved = saved; listed = listed }

abbrev pub in_made : ℕ → ℕ → ℕ → ℕ → ℕ → MadeNumbers
in_made refused rows pos osp report = record { refused = refused; rows = rows; pos = pos; osp = osp; report = report }

abbrev pub in_tables : ℕ → ℕ → ℕ → ℕ → TablesNumbers
in_tables refused rows pos osp = record { refused = refused; rows = rows; pos = pos; osp = osp }

abbrev pub in_queued : ℕ → ℕ → ℕ → QueuedNumbers
in_queued refused waiting resting = record { refused = refused; waiting = waiting; resting = resting }

abbrev pub in_service : ℕ → ℕ → ℕ → ℕ → ℕ → ℕ → ℕ → ℕ → ℕ → ServiceNumbers
in_service ending refused steps owner left saved listed waiting resting =
    record {
      ending = ending;
      refused = refused;
      steps = steps;
      owner = owner;
      left = left;
      saved = saved;
      listed = listed;
      waiting = waiting;
      resting = resting;
    }

abbrev pub in_numbered : ℕ → ℕ → ℕ → NumberedNumbers
in_numbered refused bytes strings = record { refused = refused; bytes = bytes; strings = strings }

abbrev pub in_found : ℕ → ℕ → ℕ → FoundNumbers
in_found refused present number = record { refused = refused; present = present; number = number }

abbrev pub in_bounds : ℕ → ℕ → ℕ → ℕ → BoundsNumbers
in_bounds refused present start end = record { refused = refused; present = present; start = start; end = end }

-- ---- the cases
pub record NumbersWorked : Type 0 where
  -- done, spent, full, refused
  pub endings : map ending_numbers (Done ∷ Spent ∷ Full ∷ Refused 9 ∷ []) ≡ in_ending 0 0 ∷ in_ending 1 0 ∷ in_ending 2 0 ∷ in_ending 3 9 ∷ []
  -- opening, merging, a report and the words that an output has at least
  pub writing : map written_numbers (written.Words 11 ∷ written.Refused 5 ∷ []) ≡ in_written 0 11 ∷ in_written 5 0 ∷ []
  -- a turn
  pub turning : map turned_numbers (turned_with Done 10 0 4 ∷ turned_with Spent 9 5 4 ∷ turned_with Full 7 6 4 ∷ turned_with (Refused 9) 0 0 0 ∷ [])
      ≡ in_turned 0 0 10 0 4 ∷ in_turned 1 0 9 5 4 ∷ in_turned 2 0 7 6 4 ∷ in_turned 3 9 0 0 0 ∷ []
  -- making tables; writing a view and growing a wood
  pub making : map made_numbers (made.Words 24 6 5 4 ∷ made.Refused 15 ∷ []) ≡ in_made 0 24 6 5 4 ∷ in_made 15 0 0 0 0 ∷ []
  pub writing_tables : map tables_numbers (tables.Words 24 6 5 ∷ tables.Refused 20 ∷ tables.Refused 24 ∷ [])
      ≡ in_tables 0 24 6 5 ∷ in_tables 20 0 0 0 ∷ in_tables 24 0 0 0 ∷ []
  -- joining and topping up
  pub queueing : map queued_numbers (queued.Lists 3 2 ∷ queued.Refused 17 ∷ []) ≡ in_queued 0 3 2 ∷ in_queued 17 0 0 ∷ []
  -- serving
  pub serving : map service_numbers
      (served_with (turned_with Done 10 0 4) 7 90 3 2
      ∷ served_with (turned_with Spent 9 5 4) 7 91 3 2
      ∷ served_with (turned_with Full 8 6 4) 7 92 3 2
      ∷ served_with (turned_with (Refused 19) 0 0 0) 0 0 0 0
      ∷ [])
      ≡ in_service 0 0 10 7 90 0 4 3 2
      ∷ in_service 1 0 9 7 91 5 4 3 2
      ∷ in_service 2 0 8 7 92 6 4 3 2
      ∷ in_service 3 19 0 0 0 0 0 0 0
      ∷ []
  -- the kinds of strings: names, texts, and what else a caller may send
  pub kinds : map kind_of (0 ∷ 1 ∷ 2 ∷ 4294967295 ∷ []) ≡ Names ∷ Texts ∷ Texts ∷ Texts ∷ []
  -- numbering strings, looking for one, and the string of a number
  pub numbering : map numbered_numbers (sizes.Sizes 24 6 ∷ sizes.Refused 26 ∷ sizes.Refused 27 ∷ [])
      ≡ in_numbered 0 24 6 ∷ in_numbered 26 0 0 ∷ in_numbered 27 0 0 ∷ []
  pub finding : map found_numbers (found.At 6 ∷ found.Absent 6 ∷ found.Refused 28 ∷ []) ≡ in_found 0 1 6 ∷ in_found 0 0 6 ∷ in_found 28 0 0 ∷ []
  pub lending : map bounds_numbers (bounds.Part 5 9 ∷ bounds.Past ∷ bounds.Refused 28 ∷ [])
      ≡ in_bounds 0 1 5 9 ∷ in_bounds 0 0 0 0 ∷ in_bounds 28 0 0 0 ∷ []
