-- `one_more_fact` meets its contract: what is seen is one as a number.
use Prim.Native.Nat.{ℕ, ◌+◌, ◌≤◌}
use mathlib.Core.Path.{◌≡◌, refl}
use mathlib.Core.Bool.{Bool, true, false, cond}
use native.Mathlib.Omega.{arith}
use mir.Val.{bool_byte}
use Rattle.view_marks.proofs.one_more.Goals as goal

at_most_one : (b : Bool) → bool_byte b ≤ 1
at_most_one true = omega arith
at_most_one false = omega arith

counted : (b : Bool) (n : ℕ) → n + bool_byte b ≡ cond b (n + 1) n
counted true n = refl
counted false n = omega arith

pub overflow_cast-result : goal.overflow_cast-result
overflow_cast-result c = omega (arith, at_most_one c.args.seen)

pub overflow_add-result : goal.overflow_add-result
overflow_add-result c = omega (arith, at_most_one c.args.seen)

pub returns : goal.returns
returns c = counted c.args.seen c.args.number
