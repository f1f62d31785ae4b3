-- Calls that write words over one lent buffer and answer how many: the answer, the buffer at exit, and the call. Assumes nothing: these are definitions.
use Rattle.std.specs.Prelude.{ℕ, ◌≤◌, List, length}
use Rattle.sequences.specs.Sequences.{over}
use Rattle.sequences.specs.Buffers.{Overwritten}
use Rattle.words.specs.declared.Written.{Written}
use Rattle.words.specs.declared.Written.TheVariants.{Words, Refused}
use Rattle.words.specs.Answers.{refusal_in, words_in}
use Rattle.words.specs.Tests.{Test}
use Rattle.calls.specs.Calls.{CallSchema, CallResult}

abbrev pub WordsResult : Type 0
WordsResult = CallResult Written (List ℕ)

-- some words over the first ones of a buffer
abbrev pub written_over : List ℕ → List ℕ → WordsResult
written_over ws before = record { answer = Words (length ws); buffers = over ws before }

-- a call that writes words, by its tests and their numbers, its buffer, and the words that it writes
abbrev pub writes_words : {I : Type 0} → (I → List Test) → List ℕ → (I → List ℕ) → (I → List ℕ)
    → CallSchema I Written Written (List ℕ) ℕ
writes_words tests numbers lent words =
    record {
      tests = tests;
      numbers = λ i. numbers;
      lent = lent;
      refuses = Refused;
      serves = λ i. (written_over (words i) (lent i)).answer;
      leaves = λ i. (written_over (words i) (lent i)).buffers;
      counts = λ i. length (words i);
      says = λ a. a;
      refusal = Refused;
      tells = refusal_in;
      counted = words_in;
      nothing = 0;
    }

-- some words stand over the first ones of a buffer, which has room for them, and are counted
pub record WordsOver (ws before : List ℕ) (r : WordsResult) : Type 0 where
  pub buffer : Overwritten ws before r.buffers (words_in r.answer)
  pub room : words_in r.answer ≤ length before
