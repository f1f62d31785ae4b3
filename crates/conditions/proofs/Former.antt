-- Of the terms that there were before numbers had a sign, the inequalities are as they were. Equality did not change: it is that of the words.
use Prim.Native.Nat.{ℕ}
use mathlib.Core.Path.{◌≡◌, refl, ap}
use mathlib.Core.Bool.{Bool, true, false}
use lib.Dec.{ltb, leb}
use Rattle.words.specs.Former.{Former}
use Rattle.words.proofs.Former.{less_as_before, at_most_as_before}
use Rattle.conditions.specs.Truth.{of_test, inequality}
use Rattle.conditions.specs.Values.{have_order}
use Rattle.conditions.specs.Former.{former_inequality}
use Rattle.conditions.proofs.ComparisonCases.{one_kind}

module _ (a b : ℕ) (f : Former a) (g : Former b) where
  pub inequality_as_before : (inequality ltb a b ≡ former_inequality ltb a b) × (inequality leb a b ≡ former_inequality leb a b)
  unfolding inequality former_inequality
  inequality_as_before = go (have_order a b) refl
    where
      go : (t : Bool) → have_order a b ≡ t → (inequality ltb a b ≡ former_inequality ltb a b) × (inequality leb a b ≡ former_inequality leb a b)
      go true e =
          let k = (one_kind a b e).0 in
          (rw e (ap of_test (less_as_before a b f g k)), rw e (ap of_test (at_most_as_before a b f g k)))
      go false e = (rw e, rw e)
