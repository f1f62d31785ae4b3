-- `least_rows` meets its contract.
use mathlib.Core.Path.{sym, ap}
use Rattle.lists.specs.Gathering.{least_rows}
use Rattle.list_group_merges.proofs.GroupTesting.{least_some}
use Rattle.list_group_merges.proofs.validity.least_rows.Goals as goal

pub returns-then-keys-eq0 : goal.returns-then-keys-eq0
returns-then-keys-eq0 c = sym (ap least_rows c.if-keys-eq0.true)

pub returns : goal.returns
returns c = least_some c.args.keys c.if-keys-eq0.false
