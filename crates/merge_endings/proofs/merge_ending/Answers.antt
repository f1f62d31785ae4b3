-- `merge_ending` meets its contract: each kind of ending with its pieces.
use mathlib.Core.Path.{refl, sym, ◌∙◌, subst}
use Rattle.plans.specs.Endings.{ending_at}
use Rattle.plans.proofs.EndingRead.{some_kind}
use Rattle.merge_lists.specs.Answering.{AcceptedPlan, PiecesRight}
use Rattle.merge_endings.proofs.Tested.{rows_wrong}
use Rattle.merge_endings.proofs.ByKind.{rows_of, top_of, group_of, registers_of_lem}
use Rattle.merge_endings.proofs.merge_ending.Goals as goal

pub best_count-requires : goal.best_count-requires
best_count-requires c = (
  c.requires.0,
  sym c.ending_kind.ensures ∙ c.in-Top.is,
)

pub merge_top-requires : goal.merge_top-requires
merge_top-requires c =
    let is = top_of (ending_at c.args.e.now) c.ending_kind.ensures
    c.in-Top.is c.best_count.ensures c.variables-vars.ensures
    c.keys-keys.ensures in
    (subst PiecesRight is c.requires.1, c.requires.2)

pub merge_groups-requires : goal.merge_groups-requires
merge_groups-requires c =
    let is = group_of (ending_at c.args.e.now) c.ending_kind.ensures c.in-Group.is
    c.variables.ensures in
    (subst PiecesRight is c.requires.1, c.requires.2)

pub returns-in-Rows : goal.returns-in-Rows
returns-in-Rows c =
    λ plan a. rows_wrong _ (subst (AcceptedPlan plan) (rows_of _ c.ending_kind.ensures c.in-Rows.is) a) c.requires.2

pub returns-in-Top : goal.returns-in-Top
returns-in-Top c =
    let is = top_of (ending_at c.args.e.now) c.ending_kind.ensures
    c.in-Top.is c.best_count.ensures
    c.variables-vars.ensures c.keys-keys.ensures in
    λ plan a. c.merge_top.ensures plan (subst (AcceptedPlan plan) is a)

pub returns-in-Group : goal.returns-in-Group
returns-in-Group c =
    let is = group_of (ending_at c.args.e.now) c.ending_kind.ensures
    c.in-Group.is c.variables.ensures in
    λ plan a. c.merge_groups.ensures _ _ refl plan (subst (AcceptedPlan plan) is a)

pub returns-in-Registers : goal.returns-in-Registers
returns-in-Registers c =
    let is = registers_of_lem (ending_at c.args.e.now) c.ending_kind.ensures
    c.in-Registers.is in
    λ plan a. c.merge_registers.ensures _ plan (subst (AcceptedPlan plan) is a)

pub returns-in-Invalid : goal.returns-in-Invalid
returns-in-Invalid c =
    absurd (some_kind (ending_at c.args.e.now)
    (sym c.ending_kind.ensures ∙ c.in-Invalid.is))
