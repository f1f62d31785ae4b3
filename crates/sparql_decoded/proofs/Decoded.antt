-- Demands 2 and 3 over strings: a query that is finished, and a play that finishes, have the rows, best-of list, groups or registers that SPARQL gives
-- over the strings that their tables stand for by two right dictionaries, whatever the turns, merges and joins were.
-- Decoding is total, and no premise is on tables or plans: a number past a dictionary stands for what is no string (noString), after all strings. So the
-- decoded rows are strings exactly where the tables' numbers are below the dictionaries' lengths.
use Prim.Native.Nat.{ℕ}
use mathlib.Core.Path.{◌≡◌}
use mathlib.Core.Bool.{true}
use mathlib.Core.List.{List, []}
use lib.ListN.{take}
use Rattle.tables.specs.Tables.{Tables}
use Rattle.plans.specs.Plans.{plan_of}
use Rattle.steps.specs.Steps.{after}
use Rattle.turns.specs.Surveys.{Survey}
use Rattle.turns.specs.Opening.{open_of, Opens}
use Rattle.cuts.specs.Histories.{Event, served_in, done_in, history, fresh}
use Rattle.cuts.specs.Premises.{Premises}
use Rattle.cuts.specs.TurnRows.{delivered_in}
use Rattle.cuts.specs.Unsent.{BestUnsent}
use Rattle.cuts.proofs.Sending.{premises_hold}
use Rattle.queries.specs.declared.Keeping.TheVariants.{All}
use Rattle.queries.specs.declared.Played.TheVariants as played
use Rattle.queries.specs.Rounds.{Lent, play_of}
use Rattle.sparql_finished.specs.Finished.{SparqlAnswer, SparqlAnswerOver, FinishedOver, PlayedOver}
use Rattle.sparql_finished.proofs.Finished.{finished}
use Rattle.sparql_finished.proofs.Played.{played_out}
use Rattle.sparql_strings.specs.Decoding.{read_decoded}
use Rattle.sparql_strings.specs.Strings.{Dictionaries, RightDictionaries, decoding}
use Rattle.sparql_strings.proofs.Answers.{carried, carried_run, carried_years}
use Rattle.sparql_strings.proofs.Strings.{strings_equality, decoding_keeps}

module _ (d : Dictionaries) (r : RightDictionaries d) where
  -- an answer over numbers is one over the strings that they stand for
  pub answer_decoded : (t : Tables) (plan : List ℕ) (steps : ℕ) (list : List ℕ) → SparqlAnswer t plan steps list
      → SparqlAnswerOver (read_decoded (decoding d) t (plan_of plan)) t plan steps list
  answer_decoded t plan steps list a =
      let q = plan_of plan in
      let rows = (after t q steps).delivered in
      record {
        ends = a.ends;
        run = carried_run (decoding d) (decoding_keeps d r) strings_equality t q rows a.run;
        years = carried_years (decoding d) (decoding_keeps d r) strings_equality t q rows a.years;
        answer = carried (decoding d) (decoding_keeps d r) strings_equality t q rows q.ending list a.answer;
        words = a.words;
      }

  -- for every opening that is served and every list of events, refused ones included, under demand 3's premises
  pub finished_decoded : (v : Survey) (plan state : List ℕ) → Opens v plan state → (es : List Event)
      → Premises v plan (fresh (open_of v plan state)) es
      → done_in (served_in (history v plan (fresh (open_of v plan state)) es)) ≡ true
      → (history v plan (fresh (open_of v plan state)) es).waiting ≡ []
      → FinishedOver (read_decoded (decoding d) v.tables (plan_of plan)) v.tables plan (delivered_in v plan (fresh (open_of v plan state)) es)
      (history v plan (fresh (open_of v plan state)) es)
  finished_decoded v plan state o es p done taken =
      let h = history v plan (fresh (open_of v plan state)) es in
      let rows = delivered_in v plan (fresh (open_of v plan state)) es in
      let f = finished v plan state o es p done taken in
      record {
        steps = f.steps;
        kept = answer_decoded v.tables plan f.steps h.kept f.kept;
        no_more = f.no_more;
        delivered = λ u. carried_run (decoding d) (decoding_keeps d r) strings_equality v.tables (plan_of plan) rows (f.delivered u);
        years = λ u. carried_years (decoding d) (decoding_keeps d r) strings_equality v.tables (plan_of plan) rows (f.years u);
        as_many = f.as_many;
      }

  -- with no premise of demand 3
  pub finished_unsent_decoded : (v : Survey) (plan state : List ℕ) → Opens v plan state → (es : List Event)
      → BestUnsent (plan_of plan).ending (served_in (history v plan (fresh (open_of v plan state)) es))
      → done_in (served_in (history v plan (fresh (open_of v plan state)) es)) ≡ true
      → (history v plan (fresh (open_of v plan state)) es).waiting ≡ []
      → FinishedOver (read_decoded (decoding d) v.tables (plan_of plan)) v.tables plan (delivered_in v plan (fresh (open_of v plan state)) es)
      (history v plan (fresh (open_of v plan state)) es)
  finished_unsent_decoded v plan state o es u = finished_decoded v plan state o es (premises_hold v plan state es u)

  -- of the calls themselves
  pub played_decoded : (v : Survey) (plan : List ℕ) (quantum most : ℕ) (before : Lent) (words : ℕ)
      → (play_of All v plan quantum most before).answer ≡ played.Finished words
      → PlayedOver (read_decoded (decoding d) v.tables (plan_of plan)) v.tables plan before.kept
      (play_of All v plan quantum most before).held.kept words
  played_decoded v plan quantum most before words e =
      let left = (play_of All v plan quantum most before).held in
      let p = played_out v plan quantum most before words e in
      record {
        steps = p.steps;
        front = answer_decoded v.tables plan p.steps (take words left.kept) p.front;
        rest = p.rest;
      }
