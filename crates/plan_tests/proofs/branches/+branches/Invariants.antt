use Rattle.plan_tests.proofs.branches.+branches.Given as goal

abbrev pub decreases-branches : goal.decreases-branches
decreases-branches l = l.count
