use Prim.Native.Nat.{◌-◌}
use Rattle.plans.proofs.BranchWalk.{BranchesWalked}
use Rattle.plan_parts.proofs.branches.branches_words.Given as goal

abbrev pub invariant-loop : goal.invariant-loop
invariant-loop l = BranchesWalked l.count l.p l.at (l.count - l.counter)
