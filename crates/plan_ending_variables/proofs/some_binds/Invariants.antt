use Prim.Native.Nat.{◌-◌}
use mathlib.Core.Path.{◌≡◌}
use lib.ListN.{drop}
use Rattle.plans.specs.Branches.{binds}
use Rattle.plans.specs.Reading.{branches_in}
use Rattle.plans.proofs.BranchWalk.{BranchesWalked}
use Rattle.plan_ending_variables.proofs.some_binds.Given as goal

abbrev pub invariant-loop : goal.invariant-loop
invariant-loop l = BranchesWalked l.count l.p l.at (l.count - l.counter) ×
    (binds (branches_in l.count l.p) l.word ≡ binds (branches_in (l.count - l.counter) (drop l.at l.p)) l.word)
