-- Non-interference, whole: accepted tables that differ only in rows that are hidden where they stand are the same to an adviser, for every
-- plan, state, quantum, threshold and buffer, and for every owner and both lists of a queue, under one survey's number.
use Prim.Native.Nat.{ℕ}
use mathlib.Core.Path.{◌≡◌, ap}
use mathlib.Core.Option.{none}
use mathlib.Core.List.{List}
use Rattle.words.specs.Tests.{first_failing}
use Rattle.tables.specs.Tables.{Tables, table_tests}
use Rattle.turns.specs.Surveys.{under_number}
use Rattle.turns.specs.Opening.{open_of}
use Rattle.turns.specs.Turns.{turn_of}
use Rattle.queues.specs.Joining.{join_queue_of}
use Rattle.queues.specs.Serving.{serve_of}
use Rattle.table_answers.specs.Writing.{TableBuffers, tables_left}
use Rattle.views.specs.Hidden.{DifferHidden, lending}
use Rattle.views.proofs.SameCalls.{same_calls}
use Rattle.view_turns.specs.Adviser.{turn_over, SameQueries, SameToAdviser}

pub same_queries : (v w : Tables) → v ≡ w → SameQueries v w
same_queries v w e =
    record {
      opens = λ number plan state. ap (λ t. open_of (under_number number t) plan state) e;
      turns = λ number plan state given quantum threshold output. ap (λ t. turn_of (turn_over number plan state given quantum threshold output t)) e;
      joins = λ number l j. ap (λ t. join_queue_of (under_number number t) l j) e;
      serves = λ number l s. ap (λ t. serve_of (under_number number t) l s) e;
    }

pub same_to_adviser : (grant : List ℕ) (membership : ℕ) (b : TableBuffers) (t u : Tables) → first_failing (table_tests t) ≡ none
    → first_failing (table_tests u) ≡ none → DifferHidden grant membership t u
    → SameToAdviser (lending grant membership b t) (lending grant membership b u)
same_to_adviser grant membership b t u p q d =
    let e = same_calls grant membership b t u p q d in
    record { call = e; queries = same_queries _ _ (ap tables_left e) }
