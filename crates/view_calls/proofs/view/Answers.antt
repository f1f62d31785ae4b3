-- `view` meets its contract: the tests of the tables, then 20, then the rest.
use Prim.Native.Nat.{ℕ}
use mathlib.Core.Path.{sym, ◌∙◌}
use lib.ListN.{length-replicate}
use borrow.Author.Tests.{not-true, not-false}
use Rattle.calls.proofs.Refusals.{call_told}
use Rattle.tables.specs.Tables.{Tables, tables_of, most_rows}
use Rattle.tables.proofs.RightTables.{all_pass, checked}
use Rattle.views.specs.Viewing.{ViewInput, view_input, view_schema}
use Rattle.views.proofs.Refusals.{view_is_right}
use Rattle.view_calls.proofs.Shown.{none_flagged}
use Rattle.view_calls.proofs.Outcome.{wrong_tables, wrong_grant}
use Rattle.view_calls.proofs.view.Goals as goal
use Rattle.view_calls.proofs.view.Goals.{Start}

abbrev tables : Start → Tables
tables s = tables_of s.args.rows.now s.args.pos.now s.args.osp.now

abbrev lent : Start → ViewInput
lent s =
    view_input s.args.rows.now s.args.pos.now s.args.osp.now s.args.grant.now s.args.membership
    s.args.view_rows.now s.args.view_pos.now s.args.view_osp.now

pub returns-then-refused-ne0 : goal.returns-then-refused-ne0
returns-then-refused-ne0 c =
    let shown = call_told view_schema view_is_right (lent (goal.at.returns-then-refused-ne0 c).Start)
    (wrong_tables (lent (goal.at.returns-then-refused-ne0 c).Start) c.check-refused.result c.check-refused.ensures c.if-refused-ne0.true) in
    record { view_osp_after = shown.0; number = shown.1 }

pub returns-then-not-grant_right : goal.returns-then-not-grant_right
returns-then-not-grant_right c =
    let shown = call_told view_schema view_is_right (lent (goal.at.returns-then-not-grant_right c).Start)
    (wrong_grant (lent (goal.at.returns-then-not-grant_right c).Start)
    (all_pass (tables (goal.at.returns-then-not-grant_right c).Start) (sym c.check-refused.ensures ∙ c.if-refused-ne0.false))
    (sym c.grant_right.ensures ∙ not-true c.grant_right.result c.if-not-grant_right.true-raw)) in
    record { view_osp_after = shown.0; number = shown.1 }

pub view_within-requires : goal.view_within-requires
view_within-requires c = let w = checked (tables (goal.at.view_within-requires c).Start) (sym c.check-refused.ensures ∙ c.if-refused-ne0.false) in
    record {
      right = w;
      grant_value = sym c.grant_right.ensures ∙ not-false c.grant_right.result c.if-not-grant_right.false-raw;
      marks_len =
          length-replicate {A = ℕ} most_rows 0;
      unflagged = none_flagged c.args.rows.now most_rows w.sized.few;
    }

pub returns : goal.returns
returns c =
    let shown = call_told view_schema view_is_right (lent (goal.at.returns c).Start) c.view_within.ensures in
    record { view_osp_after = shown.0; number = shown.1 }
