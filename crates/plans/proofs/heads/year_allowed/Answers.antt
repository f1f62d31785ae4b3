-- `year_allowed` meets its contract: a year that is named is at most the last.
use Rattle.plans.proofs.heads.year_allowed.Goals as goal

pub returns-in-Named : goal.returns-in-Named
returns-in-Named c = rw c.in-Named.is
