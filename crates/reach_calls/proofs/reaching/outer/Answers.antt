-- `outer` meets its contract: the place of level 0, or the last where that is level 0.
use Rattle.reach_calls.proofs.Cases as r
use Rattle.reach_calls.proofs.reaching.outer.Goals as goal

pub returns-then-c-eq0 : goal.returns-then-c-eq0
returns-then-c-eq0 c =
    let a = c.args.c in
    r.outer_last a.upper a.level a.place.0 c.if-c-eq0.true

pub returns-else-c-eq0 : goal.returns-else-c-eq0
returns-else-c-eq0 c =
    let a = c.args.c in
    r.outer_place a.upper a.level a.place.0 c.if-c-eq0.false
