-- `far` meets its contract: which year and branch, and the places of the first level.
use mathlib.Core.Path.{◌∙◌, ap, ap₂}
use mathlib.Core.List.{[]}
use Rattle.tables.specs.Tables.{tables_of}
use Rattle.reach.specs.Reach.{year_count, year_number}
use Rattle.reach_calls.proofs.Cases as r
use Rattle.reach_calls.proofs.reaching.far.Goals as goal

pub returns : goal.returns
returns c =
    let rows = c.args.rows.now in
    let x = c.args.c in
    r.far_is rows c.args.pos.now c.args.osp.now c.args.plan.now x c.requires.plan_value.0 c.requires.year_value
    c.year_count-years.result c.year_number-year.result c.branch_count.result c.first_range-range.result.first.0 c.first_range-range.result.end.0
    c.outer-place.result.0 c.saturating_sub.result c.saturating_sub-2.result
    (c.year_count-years.ensures ∙ ap (year_count (tables_of rows [] [])) c.years_in.ensures)
    (c.year_number-year.ensures ∙ ap₂ (year_number (tables_of rows [] [])) c.years_in-2.ensures c.value.ensures)
    c.branch_count.ensures.0
    c.first_range-range.ensures.first_value c.first_range-range.ensures.end_value c.outer-place.ensures
    c.saturating_sub.ensures c.saturating_sub-2.ensures
