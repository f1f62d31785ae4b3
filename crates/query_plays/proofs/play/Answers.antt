-- `play` meets its contract: the opening, and where it is served the rounds from what it leaves.
use mathlib.Core.Path.{ap}
use Rattle.calls.specs.Words.{WordsResult}
use Rattle.queries.specs.declared.Keeping.TheVariants.{All}
use Rattle.queries.proofs.Rounds.{play_refused, play_opened}
use Rattle.query_plays.proofs.play.Goals as goal

pub returns-in-Refused : goal.returns-in-Refused
returns-in-Refused c =
    let o = c.«open» in
    play_refused All _ _ _ _ _ _ _ (ap (λ (r : WordsResult). r.answer) o.ensures.state_after) (ap (λ (r : WordsResult). r.buffers) o.ensures.state_after) _
    c.in-Refused.is

pub returns-in-Words : goal.returns-in-Words
returns-in-Words c =
    let o = c.«open» in
    play_opened All _ _ _ _ _ _ _ (ap (λ (r : WordsResult). r.answer) o.ensures.state_after) (ap (λ (r : WordsResult). r.buffers) o.ensures.state_after) _
    c.in-Words.is _ c.go_on.ensures
