-- `are_registers` meets its contract: the turn's list is tested where the kept one is right.
use mathlib.Core.Path.{sym, ◌∙◌, ap}
use mathlib.Core.Bool.{◌&&◌}
use Rattle.registers.specs.Registers.{are_registers}
use Rattle.merge_lists.proofs.Registers.{both_registers}
use Rattle.merge_lists.proofs.are_registers.Goals as goal

pub returns-then-kept_registers : goal.returns-then-kept_registers
returns-then-kept_registers c =
    let list = c.args.list.now in
    λ v. c.are_registers.ensures ∙ ap (λ b. b && are_registers list) (sym (sym c.kept_registers.ensures ∙ c.if-kept_registers.true))
    ∙ both_registers v c.args.kept.now list

pub returns : goal.returns
returns c =
    let list = c.args.list.now in
    λ v. ap (λ b. b && are_registers list) (sym (sym c.kept_registers.ensures ∙ c.if-kept_registers.false)) ∙ both_registers v c.args.kept.now list
