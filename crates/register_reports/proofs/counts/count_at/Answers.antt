-- `count_at` meets its contract: what is counted, and what is left to count.
use Prim.Native.Nat.{ℕ, ◌+◌, ◌≤◌}
use native.Mathlib.Omega.{arith}
use mathlib.Core.Path.{◌≡◌, ap, ◌∙◌}
use mathlib.Core.Bool.{Bool, true, false, cond}
use lib.Dec.{eqb}
use lib.ListN.{get_or}
use Rattle.std.specs.Int.{from_bool}
use Rattle.register_reports.proofs.Counting.{count_end, count_step}
use Rattle.register_reports.proofs.counts.count_at.Goals as goal

-- one more where a test passes
counted_on : (b : Bool) (n i all rest : ℕ) → n ≤ i → all ≡ n + (cond b 1 0 + rest) → (n + from_bool b ≤ i + 1) × (all ≡ n + from_bool b + rest)
counted_on true n i all rest h e = (omega arith, omega arith)
counted_on false n i all rest h e = (omega arith, omega arith)

pub loop-register-init : goal.loop-register-init
loop-register-init c = (omega arith, omega arith)

pub loop-register-preserved : goal.loop-register-preserved
loop-register-preserved c =
    let a = c.args in
    let l = c.loop-register in
    let e = l.invariant.1 ∙ ap (λ n. l.count + n) (count_step a.value a.list.now l.register-index c.loop-register-test.true) in
    rw c.from-count.ensures (counted_on (eqb (get_or a.list.now l.register-index 0) a.value) l.count l.register-index _ _ l.invariant.0 e)

pub returns : goal.returns
returns c =
    let a = c.args in
    let e = count_end a.value a.list.now c.loop-register.register-index (omega arith) in
    omega (arith, c.loop-register.invariant.1, e)
