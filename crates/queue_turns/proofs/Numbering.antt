-- The tests that serving makes besides those of a turn, as the code makes them, one after the other.
use Prim.Native.Nat.{ℕ, ◌<◌, ◌≤◌}
use native.Mathlib.Omega.{arith}
use mathlib.Core.Path.{◌≡◌, refl, ap, ◌∙◌}
use mathlib.Core.Bool.{Bool, true, false, not}
use mathlib.Core.List.{◌++◌}
use lib.Dec.{eqb}
use borrow.Author.Tests.{le-leb, lt-leb, eq-eqb, ne_eqb}
use Rattle.sequences.specs.Sequences.{all}
use Rattle.words.specs.Tests.{first_failing, number_of}
use Rattle.sequences.proofs.Booleans.{absurd_true}
use Rattle.tables.specs.Tables.{Tables, table_tests}
use Rattle.steps.specs.Saved.{number_right}
use Rattle.turns.specs.Turns.{most_steps}
use Rattle.queues.specs.Serving.{quantum_tests, number_tests, queue_tests_by}
use Rattle.queue_changes.specs.Changes.{first_number}
use Rattle.queue_changes.proofs.Following.{numbers_follow}

-- ---- 17, 18, 19
module _ (n : ℕ) where
  abbrev number : Bool → Bool → ℕ
  number entries room = number_of (first_failing (queue_tests_by entries room (not (eqb n 0))))

  pub entries_fail : (entries room : Bool) → not entries ≡ true → 17 ≡ number entries room
  unfolding first_failing
  entries_fail true room h = absurd_true h refl
  entries_fail false room h = refl

  pub room_fails : (entries room : Bool) → not entries ≡ false → not room ≡ true → 18 ≡ number entries room
  unfolding first_failing
  room_fails true true h g = absurd_true g refl
  room_fails true false h g = refl
  room_fails false room h g = absurd_true refl h

  pub line_empty : (entries room : Bool) → not entries ≡ false → not room ≡ false → n ≡ 0 → 19 ≡ number entries room
  unfolding first_failing
  line_empty true true h g e = rw (eq-eqb n 0 e)
  line_empty true false h g e = absurd_true refl g
  line_empty false room h g e = absurd_true refl h

  pub all_pass : (entries room : Bool) → not entries ≡ false → not room ≡ false → (n ≡ 0 → ⊥) → 0 ≡ number entries room
  unfolding first_failing
  all_pass true true h g e = rw (ne_eqb n 0 e)
  all_pass true false h g e = absurd_true refl g
  all_pass false room h g e = absurd_true refl h

-- ---- 8
module _ (quantum : ℕ) where
  abbrev asked : ℕ
  asked = number_of (first_failing (quantum_tests quantum))

  pub quantum_none : quantum ≡ 0 → 8 ≡ asked
  unfolding first_failing
  quantum_none e = rw (lt-leb 1 quantum (omega arith))

  pub quantum_long : (quantum ≡ 0 → ⊥) → most_steps < quantum → 8 ≡ asked
  unfolding first_failing
  quantum_long e h = rw (le-leb 1 quantum (omega arith), lt-leb quantum most_steps h)

  pub quantum_right_fact : (quantum ≡ 0 → ⊥) → quantum ≤ most_steps → 0 ≡ asked
  unfolding first_failing
  quantum_right_fact e h = rw (le-leb 1 quantum (omega arith), le-leb quantum most_steps h)

-- ---- 22
module _ (survey : ℕ) where
  pub number_long : number_right survey ≡ false → 22 ≡ number_of (first_failing (number_tests survey))
  unfolding first_failing
  number_long h = rw h

  pub number_short : number_right survey ≡ true → 0 ≡ number_of (first_failing (number_tests survey))
  unfolding first_failing
  number_short h = rw h

-- the tables, then the quantum, then the survey's number
pub tables_then : (t : Tables) (quantum survey : ℕ)
    → first_number (number_of (first_failing (table_tests t)))
    (first_number (number_of (first_failing (quantum_tests quantum))) (number_of (first_failing (number_tests survey))))
    ≡ number_of (first_failing (table_tests t ++ (quantum_tests quantum ++ number_tests survey)))
unfolding all
tables_then t quantum survey =
    ap (first_number (number_of (first_failing (table_tests t)))) (numbers_follow (quantum_tests quantum) (number_tests survey) refl)
    ∙ numbers_follow (table_tests t) (quantum_tests quantum ++ number_tests survey) refl
