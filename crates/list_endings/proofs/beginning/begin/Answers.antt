-- `begin` meets its contract: by the kind of the ending.
use native.Mathlib.Omega.{arith}
use Prim.Native.Nat.{ℕ}
use mathlib.Core.Path.{◌≡◌, sym, ◌∙◌}
use Rattle.plans.specs.Endings.{ending_at}
use Rattle.plans.proofs.EndingRead.{some_kind}
use Rattle.list_endings.proofs.NoRows.{none_listed, registers_room, registers_listed}
use Rattle.list_endings.proofs.beginning.begin.Goals as goal

pub no_values-requires : goal.no_values-requires
no_values-requires c =
    registers_room (ending_at c.args.ending.now) c.args.out.now (sym c.ending_kind.ensures ∙ c.in-Registers.is) c.requires.ending_in_bounds

pub returns-in-Rows : goal.returns-in-Rows
returns-in-Rows c =
    none_listed (ending_at c.args.ending.now) c.args.out.now (sym c.ending_kind.ensures ∙ c.in-Rows.is)
    (λ z. let y : ◌≡◌ {A = ℕ} 0 1 = cc in omega arith)

pub returns-in-Top : goal.returns-in-Top
returns-in-Top c =
    none_listed (ending_at c.args.ending.now) c.args.out.now (sym c.ending_kind.ensures ∙ c.in-Top.is)
    (λ z. let y : ◌≡◌ {A = ℕ} 0 1 = cc in omega arith)

pub returns-in-Group : goal.returns-in-Group
returns-in-Group c =
    none_listed (ending_at c.args.ending.now) c.args.out.now (sym c.ending_kind.ensures ∙ c.in-Group.is)
    (λ z. let y : ◌≡◌ {A = ℕ} 0 1 = cc in omega arith)

pub returns-in-Registers : goal.returns-in-Registers
returns-in-Registers c =
    registers_listed (ending_at c.args.ending.now) c.args.out.now (sym c.ending_kind.ensures ∙ c.in-Registers.is) _ _
    c.no_values.ensures

pub returns-in-Invalid : goal.returns-in-Invalid
returns-in-Invalid c =
    absurd (some_kind (ending_at c.args.ending.now) (sym c.ending_kind.ensures ∙ c.in-Invalid.is))
