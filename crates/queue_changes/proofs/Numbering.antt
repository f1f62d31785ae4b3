-- Tests 17 and 18 as the code makes them, one after the other.
use Prim.Native.Nat.{ℕ}
use native.Mathlib.Omega.{arith}
use mathlib.Core.Path.{◌≡◌, refl}
use mathlib.Core.Bool.{Bool, true, false, not}
use Rattle.words.specs.Tests.{first_failing, number_of}
use Rattle.sequences.proofs.Booleans.{absurd_true}
use Rattle.queues.specs.ToppingUp.{top_up_tests_by}

module _ (entries room : Bool) where
  abbrev number : ℕ
  number = number_of (first_failing (top_up_tests_by entries room))

pub entries_fail : (entries room : Bool) → not entries ≡ true → 17 ≡ number entries room
unfolding first_failing
entries_fail true room h = absurd_true h refl
entries_fail false room h = refl

pub room_fails : (entries room : Bool) → not entries ≡ false → not room ≡ true → 18 ≡ number entries room
unfolding first_failing
room_fails true true h g = absurd_true g refl
room_fails true false h g = refl
room_fails false room h g = absurd_true refl h

pub both_pass : (entries room : Bool) → not entries ≡ false → not room ≡ false → 0 ≡ number entries room
unfolding first_failing
both_pass true true h g = refl
both_pass true false h g = absurd_true refl g
both_pass false room h g = absurd_true refl h

-- a call with the number 0 passed both
pub both_passed : (entries room : Bool) → number entries room ≡ 0 → (entries ≡ true) × (room ≡ true)
unfolding first_failing
both_passed true true h = (refl, refl)
both_passed true false h = absurd (omega arith)
both_passed false room h = absurd (omega arith)
