-- `start` meets its contract: the length, then the survey's number.
use native.Mathlib.Omega.{arith}
use mathlib.Core.Path.{sym, ◌∙◌}
use lib.ListN.{length}
use borrow.Author.Tests.{not-true, not-false}
use Rattle.turn_sizes.proofs.Sizing.{start_short, start_number_lem, start_right}
use Rattle.turn_sizes.proofs.start.Goals as goal

pub returns-then-state-lt-STATE_WORDS : goal.returns-then-state-lt-STATE_WORDS
returns-then-state-lt-STATE_WORDS c =
    start_short (length c.args.state.now) c.args.survey c.if-state-lt-STATE_WORDS.true

pub returns-then-not-number_right : goal.returns-then-not-number_right
returns-then-not-number_right c =
    start_number_lem (length c.args.state.now) c.args.survey (omega arith) (sym c.number_right.ensures ∙ not-true _ c.if-not-number_right.true-raw)

pub returns : goal.returns
returns c =
    start_right (length c.args.state.now) c.args.survey (omega arith) (sym c.number_right.ensures ∙ not-false _ c.if-not-number_right.false-raw)
