-- `first_range` meets its contract: the first pattern's prefix, and its range.
use mathlib.Core.Path.{◌∙◌, ap}
use Rattle.tables.specs.Tables.{tables_of, section_of}
use Rattle.tables.specs.Ranges.{range_start, range_end}
use Rattle.plans.specs.Plans.{plan_of, branch_at}
use Rattle.reach_calls.proofs.Cases as r
use Rattle.reach_calls.proofs.reaching.first_range.Goals as goal

pub level_of-f-requires : goal.level_of-f-requires
level_of-f-requires c =
    r.first_inside c.args.plan.now c.args.branch c.requires.plan_value.0 c.requires.plan_value.1 _ c.branch_terms.ensures

pub returns : goal.returns
returns c = let t = tables_of c.args.rows.now c.args.pos.now c.args.osp.now in
    let x = section_of c.args.rows.now c.args.pos.now c.args.osp.now c.args.year in
    let p = r.first_prefix x (branch_at (plan_of c.args.plan.now) c.args.branch).terms _ c.branch_terms.ensures
    c.level_of-f.result c.level_of-f.ensures in
    record { first_value = c.level_range.ensures.first_value ∙ ap (range_start t) p; end_value = c.level_range.ensures.end_value ∙ ap (range_end t) p }
