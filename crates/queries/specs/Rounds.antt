-- A query played, call by call: an opening, rounds of one turn whose list is taken, and what a play answers and leaves. Assumes nothing: these
-- are definitions.
use Rattle.std.specs.Prelude.{ℕ, List, []}
use Rattle.words.specs.declared.Written.{Written}
use Rattle.words.specs.declared.Written.TheVariants as written
use Rattle.sequences.specs.Sequences.{iterate}
use Rattle.turns.specs.Surveys.{Survey}
use Rattle.turns.specs.Opening.{open_of}
use Rattle.turns.specs.Turns.{TurnInput}
use Rattle.queries.specs.declared.Keeping.{Keeping}
use Rattle.queries.specs.declared.Played.{Played}
use Rattle.queries.specs.declared.Played.TheVariants as played
use Rattle.queries.specs.declared.Went.{Went}
use Rattle.queries.specs.declared.Went.TheVariants.{On, Over, Stopped}
use Rattle.queries.specs.Stepping.{Stepped, take_turn_of, went_of}

-- the buffers lent to a play
pub record Lent : Type 0 where
  pub state : List ℕ
  pub output : List ℕ
  pub kept : List ℕ

abbrev pub buffers : List ℕ → List ℕ → List ℕ → Lent
buffers state output kept = record { state = state; output = output; kept = kept }

-- how a query goes on after its last turn, and what the buffers hold
pub record QueryStanding : Type 0 where
  pub went : Went
  pub held : Lent

-- ---- rounds
abbrev pub standing_of : Stepped → QueryStanding
standing_of s = record { went = went_of s.answer; held = buffers s.state s.output s.kept }

-- the turn of a round, with no threshold
abbrev pub round_input : Survey → List ℕ → ℕ → ℕ → Lent → TurnInput
round_input v plan quantum saved l =
    record { survey = v; plan = plan; state = l.state; given = saved; quantum = quantum; threshold = []; output = l.output }

-- a query that is over or stopped makes no more turns
abbrev pub round_as : Keeping → Survey → List ℕ → ℕ → Went → Lent → QueryStanding
round_as keep v plan quantum (On saved used) l = standing_of (take_turn_of keep (round_input v plan quantum saved l) l.kept used)
round_as keep v plan quantum (Over words) l = record { went = Over words; held = l }
round_as keep v plan quantum (Stopped x) l = record { went = Stopped x; held = l }

unfoldable pub round : Keeping → Survey → List ℕ → ℕ → QueryStanding → QueryStanding
round keep v plan quantum p = round_as keep v plan quantum p.went p.held

-- at most `most` turns
unfoldable pub rounds : Keeping → Survey → List ℕ → ℕ → ℕ → QueryStanding → QueryStanding
rounds keep v plan quantum most p = iterate (round keep v plan quantum) most p

-- ---- a play
-- what it answers, and the buffers at exit
pub record PlayResult : Type 0 where
  pub answer : Played
  pub held : Lent

abbrev pub play_answer : Went → Played
play_answer (On saved words) = played.Unfinished saved words
play_answer (Over words) = played.Finished words
play_answer (Stopped x) = played.Stopped x

abbrev pub result_at : QueryStanding → PlayResult
result_at p = record { answer = play_answer p.went; held = p.held }

-- the saved words of an opening, and no list kept
abbrev pub first_position : ℕ → Lent → QueryStanding
first_position opened l = record { went = On opened 0; held = l }

-- by what the opening answers, with what it leaves: it is refused where that is, and an opened query is never
abbrev pub played_as : Keeping → Survey → List ℕ → ℕ → ℕ → Written → Lent → PlayResult
played_as keep v plan quantum most (written.Words opened) l = result_at (rounds keep v plan quantum most (first_position opened l))
played_as keep v plan quantum most (written.Refused x) l = record { answer = played.Refused x; held = l }

-- the opening of a state buffer, the other buffers as they were
abbrev pub after_opening : Survey → List ℕ → Lent → Lent
after_opening v plan l = record { state = (open_of v plan l.state).buffers; output = l.output; kept = l.kept }

unfoldable pub play_of : Keeping → Survey → List ℕ → ℕ → ℕ → Lent → PlayResult
play_of keep v plan quantum most l = played_as keep v plan quantum most (open_of v plan l.state).answer (after_opening v plan l)
