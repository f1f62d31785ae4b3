-- What a reader gives: whether something was read, what it is, and its words.
use Prim.Native.Nat.{ℕ}
use native.Mathlib.Omega.{arith}
use mathlib.Core.Path.{◌≡◌, refl}
use mathlib.Core.Bool.{Bool, true, false, cond}
use mathlib.Core.Option.{Option, none, some}
use Rattle.words.proofs.Testing.{none_some}
use Rattle.plans.specs.Conditions.{Read}
use Rattle.plans.specs.Reading.{is_read, read_or, Gives}

-- ---- of what was read
pub gives : {A : Type 0} (other : A) (r : Read A) → is_read r ≡ true → Gives r (read_or other r)
gives other none e = let z : ◌≡◌ {A = ℕ} 0 1 = cc in absurd (omega arith)
gives other (some x) e = refl

pub given_read : {A : Type 0} (a : A) (r : Read A) → Gives r a → is_read r ≡ true
given_read a r e = rw e

pub given_is : {A : Type 0} (a other : A) (r : Read A) → Gives r a → read_or other r ≡ a
given_is a other r e = rw e

-- ---- of a test before a reader
pub cond_some : {A : Type 0} (t : Bool) (x : Option A) (a : A) → cond t x none ≡ some a → (t ≡ true) × (x ≡ some a)
cond_some true x a e = (refl, e)
cond_some false x a e = absurd (none_some e)

pub cond_none : {A : Type 0} (t : Bool) (x : Option A) (a : A) → cond t none x ≡ some a → (t ≡ false) × (x ≡ some a)
cond_none true x a e = absurd (none_some e)
cond_none false x a e = (refl, e)
