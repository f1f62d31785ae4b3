-- Two right records of one group, joined in either sequence.
use Prim.Native.Nat.{◌+◌}
use native.Mathlib.Omega.{arith}
use mathlib.Core.Path.{◌≡◌}
use mathlib.Core.Bool.{true, false}
use lib.ListN.{length}
use lib.IntN.{+ℤ_comm}
use Rattle.lists.specs.Groups.{Group, together, keys_before}
use Rattle.lists.specs.Gathering.{group_right}
use Rattle.lists.proofs.Keys.{keys_same}
use Rattle.lists.proofs.Extremes.{Measured, nothing, number, lesser_comm, greater_comm}
use Rattle.lists.proofs.GroupsRight.{Extremes, none, some, right_is}

measured_least : (g : Group) → Extremes g → Measured g.least
measured_least g (none p q r s) = nothing r
measured_least g (some p q r s) = number q

measured_greatest : (g : Group) → Extremes g → Measured g.greatest
measured_greatest g (none p q r s) = nothing s
measured_greatest g (some p q r s) = number r

pub together_comm : (g h : Group) → length g.keys ≡ length h.keys → group_right g ≡ true → group_right h ≡ true
    → keys_before g h ≡ false → keys_before h g ≡ false → together g h ≡ together h g
unfolding keys_before
together_comm g h l p q e f =
    let a = right_is g p in
    let b = right_is h q in
    let k = keys_same g.keys h.keys l a.keys b.keys e f in
    let r : g.rows + h.rows ≡ h.rows + g.rows = omega arith in
    let n : g.numbers + h.numbers ≡ h.numbers + g.numbers = omega arith in
    let s = +ℤ_comm g.sum h.sum in
    let x = lesser_comm g.least h.least (measured_least g a.extremes) (measured_least h b.extremes) in
    let y = greater_comm g.greatest h.greatest (measured_greatest g a.extremes) (measured_greatest h b.extremes) in
    λ i. record { keys = k i; rows = r i; numbers = n i; sum = s i; least = x i; greatest = y i }
