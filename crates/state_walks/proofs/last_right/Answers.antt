-- `last_right` meets its contract: from the first place of the range on, its end decides.
use native.Mathlib.Omega.{arith}
use mathlib.Core.Path.{◌≡◌, refl, sym, ap, ◌∙◌}
use Prim.Native.Nat.{◌≤◌}
use lib.Dec.{leb}
use borrow.Author.Tests.{le-leb, lt-leb}
use Rattle.state_saving.specs.Loading.{up_to_end}
use Rattle.tables.specs.declared.Prefix.{Prefix}
use Rattle.tables.specs.Tables.{Tables, tables_of}
use Rattle.tables.specs.Ranges.{range_start, range_end}
use Rattle.steps.specs.Levels.{prefix_of, level_prefix}
use Rattle.step_levels.proofs.LevelFields.{level_prefix_lem}
use Rattle.state_saving.proofs.Restoring.{before_start, from_start}
use Rattle.state_walks.proofs.last_right.Goals as goal
use Rattle.state_walks.proofs.last_right.Goals.{After-level_range-range, Start}

abbrev lent : Start → Tables
lent s = tables_of s.args.rows.now s.args.pos.now s.args.osp.now

abbrev selected : Start → Prefix
selected s = level_prefix s.args.year s.args.terms.now s.args.level s.args.bound.now

-- the bounds that were found are those of the level's range
prefix_is : (r : After-level_range-range) → prefix_of r.level_of.result ≡ (level_prefix r.args.year r.args.terms.now r.args.level r.args.bound.now)
prefix_is r =
    sym (level_prefix_lem r.args.year r.args.terms.now r.args.level r.args.bound.now r.level_of.result r.level_of.ensures _ refl)

first_is_lem : (r : After-level_range-range) →
    r.level_range-range.result.first.0 ≡ range_start ((tables_of r.args.rows.now r.args.pos.now r.args.osp.now))
    ((level_prefix r.args.year r.args.terms.now r.args.level r.args.bound.now))
first_is_lem r = r.level_range-range.ensures.first_value ∙ ap (range_start ((tables_of r.args.rows.now r.args.pos.now r.args.osp.now))) (prefix_is r)

end_is : (r : After-level_range-range) →
    r.level_range-range.result.end.0 ≡ range_end ((tables_of r.args.rows.now r.args.pos.now r.args.osp.now))
    ((level_prefix r.args.year r.args.terms.now r.args.level r.args.bound.now))
end_is r = r.level_range-range.ensures.end_value ∙ ap (range_end ((tables_of r.args.rows.now r.args.pos.now r.args.osp.now))) (prefix_is r)

-- from the first place on, the end decides
decided_lem : (r : After-level_range-range) → r.level_range-range.result.first.0 ≤ r.args.place.0 → leb r.args.place.0 r.level_range-range.result.end.0
    ≡ up_to_end (tables_of r.args.rows.now r.args.pos.now r.args.osp.now)
    (level_prefix r.args.year r.args.terms.now r.args.level r.args.bound.now) r.args.place.0
decided_lem r h =
    from_start (tables_of r.args.rows.now r.args.pos.now r.args.osp.now) (level_prefix r.args.year r.args.terms.now r.args.level r.args.bound.now)
    r.args.place.0 (omega (arith, first_is_lem r, h)) _ (end_is r)

pub returns-then-place-range : goal.returns-then-place-range
returns-then-place-range c =
    let r = (goal.at.returns-then-place-range c).After-level_range-range in
    let s = (goal.at.returns-then-place-range c).Start in
    record { right_value = sym (before_start (lent s) (selected s) c.args.place.0 (omega (arith, first_is_lem r, c.if-place-range.true))); ends = tt }

pub returns-then-place-range-2 : goal.returns-then-place-range-2
returns-then-place-range-2 c =
    let r = (goal.at.returns-then-place-range-2 c).After-level_range-range in
    record { right_value = sym (le-leb _ _ c.if-place-range-2.true) ∙ decided_lem r c.if-place-range.false; ends = end_is r }

pub returns : goal.returns
returns c =
    let r = (goal.at.returns c).After-level_range-range in
    record { right_value = sym (lt-leb _ _ c.if-place-range-2.false) ∙ decided_lem r c.if-place-range.false; ends = tt }
