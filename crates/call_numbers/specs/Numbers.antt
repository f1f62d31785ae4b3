-- The answers of the calls as numbers, for programs in other languages. Assumes nothing: these are definitions.
use Rattle.std.specs.Prelude.{ℕ, cond, eqb}
use Rattle.words.specs.declared.Written.{Written}
use Rattle.words.specs.Answers.{refusal_in, words_in}
use Rattle.turns.specs.declared.TurnEnding.{TurnEnding}
use Rattle.turns.specs.declared.TurnEnding.TheVariants.{Done, Spent, Full, Refused}
use Rattle.turns.specs.declared.Turned.{Turned}
use Rattle.turns.specs.Turns.{refusal_of}
use Rattle.uploads.specs.declared.Made.{Made}
use Rattle.uploads.specs.Making.{made_refusal, made_words}
use Rattle.table_answers.specs.declared.TablesWritten.{TablesWritten}
use Rattle.table_answers.specs.Writing.{tables_refusal, table_words}
use Rattle.queues.specs.declared.Queued.{Queued}
use Rattle.queues.specs.declared.Service.{Service}
use Rattle.queues.specs.Changing.{refusal_by, entry_counts}
use Rattle.dictionaries.specs.declared.StringKind.{StringKind}
use Rattle.dictionaries.specs.declared.StringKind.TheVariants.{Names, Texts}
use Rattle.dictionary_numberings.specs.declared.DictionaryWritten.{DictionaryWritten}
use Rattle.dictionary_numberings.specs.NumberCall.{written_refusal, written_sizes}
use Rattle.dictionary_lookups.specs.declared.StringFound.{StringFound}
use Rattle.dictionary_lookups.specs.declared.StringFound.TheVariants as found
use Rattle.dictionary_lookups.specs.declared.StringBounds.{StringBounds}
use Rattle.dictionary_lookups.specs.declared.StringBounds.TheVariants as bounds
use Rattle.call_numbers.specs.declared.WrittenNumbers.{WrittenNumbers}
use Rattle.call_numbers.specs.declared.EndingNumbers.{EndingNumbers}
use Rattle.call_numbers.specs.declared.TurnedNumbers.{TurnedNumbers}
use Rattle.call_numbers.specs.declared.MadeNumbers.{MadeNumbers}
use Rattle.call_numbers.specs.declared.TablesNumbers.{TablesNumbers}
use Rattle.call_numbers.specs.declared.QueuedNumbers.{QueuedNumbers}
use Rattle.call_numbers.specs.declared.ServiceNumbers.{ServiceNumbers}
use Rattle.call_numbers.specs.declared.NumberedNumbers.{NumberedNumbers}
use Rattle.call_numbers.specs.declared.FoundNumbers.{FoundNumbers}
use Rattle.call_numbers.specs.declared.BoundsNumbers.{BoundsNumbers}

-- the endings of a turn, counted from 0 in the order in which the rules name them; then refused
abbrev pub ending_number : TurnEnding → ℕ
ending_number Done = 0
ending_number Spent = 1
ending_number Full = 2
ending_number (Refused x) = 3

abbrev pub written_numbers : Written → WrittenNumbers
written_numbers w = record { refused = refusal_in w; words = words_in w }

abbrev pub ending_numbers : TurnEnding → EndingNumbers
ending_numbers e = record { ending = ending_number e; refused = refusal_of e }

abbrev pub turned_numbers : Turned → TurnedNumbers
turned_numbers t =
    record {
      ending = ending_number t.ending;
      refused = refusal_of t.ending;
      steps = t.steps;
      saved = t.saved;
      listed = t.listed;
    }

abbrev pub made_numbers : Made → MadeNumbers
made_numbers m =
    record {
      refused = made_refusal m;
      rows = (made_words m).rows;
      pos = (made_words m).pos;
      osp = (made_words m).osp;
      report = (made_words m).report;
    }

abbrev pub tables_numbers : TablesWritten → TablesNumbers
tables_numbers t = record { refused = tables_refusal t; rows = (table_words t).rows; pos = (table_words t).pos; osp = (table_words t).osp }

abbrev pub queued_numbers : Queued → QueuedNumbers
queued_numbers q = record { refused = refusal_by q; waiting = (entry_counts q).waiting; resting = (entry_counts q).resting }

abbrev pub service_numbers : Service → ServiceNumbers
service_numbers s =
    record {
      ending = ending_number s.turned.ending;
      refused = refusal_of s.turned.ending;
      steps = s.turned.steps;
      owner = s.owner;
      left = s.left;
      saved = s.turned.saved;
      listed = s.turned.listed;
      waiting = s.waiting;
      resting = s.resting;
    }

-- ---- the dictionary's calls
-- the kind that a number means: 0 names, every other texts
abbrev pub kind_of : ℕ → StringKind
kind_of n = cond (eqb n 0) Names Texts

abbrev pub numbered_numbers : DictionaryWritten → NumberedNumbers
numbered_numbers d = record { refused = written_refusal d; bytes = (written_sizes d).bytes; strings = (written_sizes d).strings }

-- a string that is there, or how many come before it; `present` is 1 where it is there
abbrev pub found_numbers : StringFound → FoundNumbers
found_numbers (found.At n) = record { refused = 0; present = 1; number = n }
found_numbers (found.Absent rank) = record { refused = 0; present = 0; number = rank }
found_numbers (found.Refused x) = record { refused = x; present = 0; number = 0 }

-- from where to where a number's string goes; `present` is 1 where the dictionary has the number
abbrev pub bounds_numbers : StringBounds → BoundsNumbers
bounds_numbers (bounds.Part a e) = record { refused = 0; present = 1; start = a; end = e }
bounds_numbers bounds.Past = record { refused = 0; present = 0; start = 0; end = 0 }
bounds_numbers (bounds.Refused x) = record { refused = x; present = 0; start = 0; end = 0 }
