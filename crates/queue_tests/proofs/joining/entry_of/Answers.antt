-- `entry_of` meets its contract: the words of plan and state over arrays of 0.
use mathlib.Core.Path.{◌∙◌}
use lib.ListN.{length}
use Rattle.queues.specs.Lists.{entry_plan_room, entry_state_room}
use Rattle.queue_tests.proofs.Joins.{pasted}
use Rattle.queue_tests.proofs.joining.entry_of.Goals as goal

pub returns : goal.returns
returns c =
    let a = c.args in
    λ i. record {
      allowance = a.allowance;
      owner = a.owner;
      planned = length a.plan.now;
      saved = length a.state.now;
      plan = (c.copy_in.ensures ∙ pasted entry_plan_room a.plan.now) i;
      state = (c.copy_in-2.ensures ∙ pasted entry_state_room a.state.now) i;
    }
