-- `one_more_fact` meets its contract.
use borrow.Author.Tests.{lt-ltb, le-ltb}
use Rattle.view_marks.specs.Marks.{hidden_mark}
use Rattle.view_calls.proofs.writing.one_more.Goals as goal

pub returns-then-mark-lt-HIDDEN : goal.returns-then-mark-lt-HIDDEN
returns-then-mark-lt-HIDDEN c = rw (lt-ltb c.args.mark hidden_mark c.if-mark-lt-HIDDEN.true)

pub returns-else-mark-lt-HIDDEN : goal.returns-else-mark-lt-HIDDEN
returns-else-mark-lt-HIDDEN c = rw (le-ltb c.args.mark hidden_mark c.if-mark-lt-HIDDEN.false)
