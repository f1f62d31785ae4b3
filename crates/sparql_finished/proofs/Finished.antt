-- Demands 2 and 3 together: a query that is finished, done answered and every list taken, has SPARQL's rows, best-of list or groups
-- of its tables and its plan, whatever the turns, merges and joins were.
use Prim.Native.Nat.{ℕ}
use native.Mathlib.Omega.{arith}
use mathlib.Core.Path.{◌≡◌, sym, ◌∙◌, ap, subst}
use mathlib.Core.Bool.{true}
use mathlib.Core.List.{List, [], ◌++◌, map, append-nil}
use Rattle.sequences.specs.Sequences.{all}
use Rattle.tables.specs.Tables.{Tables}
use Rattle.plans.specs.Plans.{plan_of}
use Rattle.steps.specs.Steps.{after}
use Rattle.lists.specs.Gathering.{gathered}
use Rattle.lists.specs.Closing.{closed, list_at}
use Rattle.turns.specs.Surveys.{Survey}
use Rattle.turns.specs.Opening.{open_of, Opens}
use Rattle.turns.specs.Turns.{is_over}
use Rattle.cuts.specs.Histories.{Event, served_in, steps_in, done_in, history, fresh}
use Rattle.cuts.specs.Premises.{Premises}
use Rattle.cuts.specs.TurnRows.{delivered_in}
use Rattle.cuts.specs.Uncut.{EndsAt, run_fits, run_list}
use Rattle.cuts.specs.Unsent.{BestUnsent}
use Rattle.cuts.specs.Accepting.{Accepted}
use Rattle.cuts.proofs.Accepting.{opening_accepts}
use Rattle.cuts.proofs.AnyCut.{any_cut}
use Rattle.cuts.proofs.TurnRows.{rows_are_uncut}
use Rattle.cuts.proofs.Placing.{placed_most}
use Rattle.cuts.proofs.Sending.{none_sent_but_best, premises_hold}
use Rattle.cuts.proofs.Unsent.{upto_is}
use Rattle.sparql.specs.Algebra.{ToList}
use Rattle.sparql.specs.Reading.{mapping_of, solutions_of, is_word}
use Rattle.sparql.specs.Answers.{YearByYear, Answer}
use Rattle.sparql.proofs.Solutions.{solutions, year_by_year}
use Rattle.sparql.proofs.Answered.{answered, answered_words}
use Rattle.sparql_finished.specs.Finished.{SparqlAnswer, FinishedBy}

-- the list of the whole uncut run, with totals that fit
pub run_answers : (t : Tables) (plan : List ℕ) → Accepted t plan → (steps : ℕ) → EndsAt t (plan_of plan) steps
    → run_fits (plan_of plan).ending (after t (plan_of plan) steps) ≡ true
    → (list : List ℕ) → list ≡ run_list (plan_of plan).ending (after t (plan_of plan) steps) → SparqlAnswer t plan steps list
run_answers t plan a steps ends fits list l =
    let q = plan_of plan in
    let rows = (after t q steps).delivered in
    let e : list ≡ closed q.ending (gathered q.ending [] rows) = l ∙ ap (λ o. list_at q.ending [] (is_over o) rows) ends.over in
    record {
      ends = ends;
      run = solutions t plan (plan_of plan) a.tables a.read a.variables steps ends.over;
      years = year_by_year t plan (plan_of plan) a.tables a.read a.variables steps ends.over;
      answer =
          subst (Answer t (plan_of plan) (after t (plan_of plan) steps).delivered (plan_of plan).ending) (sym e)
          (answered t plan (plan_of plan) a.tables a.read a.variables steps ends.over fits);
      words = ap (all is_word) e ∙ answered_words t plan (plan_of plan) a.tables a.read a.variables steps ends.over fits;
    }

-- for every opening that is served and every list of events, refused ones included, under demand 3's premises
pub finished : (v : Survey) (plan state : List ℕ) → Opens v plan state → (es : List Event)
    → Premises v plan (fresh (open_of v plan state)) es
    → done_in (served_in (history v plan (fresh (open_of v plan state)) es)) ≡ true
    → (history v plan (fresh (open_of v plan state)) es).waiting ≡ []
    → FinishedBy v.tables plan (delivered_in v plan (fresh (open_of v plan state)) es) (history v plan (fresh (open_of v plan state)) es)
finished v plan state o es p done taken =
    let h = history v plan (fresh (open_of v plan state)) es in
    let c = any_cut v plan state o es p in
    let f = c.finished done taken in
    let all_taken : served_in h ≡ h.taken = ap (λ l. h.taken ++ l) taken ∙ append-nil h.taken in
    let to : BestUnsent (plan_of plan).ending (served_in h) → c.upto ≡ steps_in h.taken
    = λ u. upto_is v (plan_of plan) h (none_sent_but_best v plan state es u) c in
    let rows : BestUnsent (plan_of plan).ending (served_in h)
    → delivered_in v plan (fresh (open_of v plan state)) es ≡ (after v.tables (plan_of plan) c.upto).delivered
    = λ u.
    rows_are_uncut v plan state o es u
    ∙ ap (λ l. (after v.tables (plan_of plan) (steps_in l)).delivered) all_taken
    ∙ ap (λ n. (after v.tables (plan_of plan) n).delivered) (sym (to u)) in
    let k = run_answers v.tables plan (opening_accepts v plan state o) c.upto f.0 c.fits h.kept f.1 in
    record {
      steps = c.upto;
      kept = k;
      no_more = omega (arith, placed_most v (plan_of plan) 0 c.upto h.taken c.taken);
      delivered = λ u. subst (λ bs. ToList (solutions_of v.tables (plan_of plan)) (map mapping_of bs)) (sym (rows u)) k.run;
      years = λ u. subst (YearByYear v.tables (plan_of plan)) (sym (rows u)) k.years;
      as_many = λ u. sym (to u);
    }

-- the same with no premise of demand 3: of rows, groups and registers it holds of itself, and of a best-of query where no threshold was sent
pub finished_unsent : (v : Survey) (plan state : List ℕ) → Opens v plan state → (es : List Event)
    → BestUnsent (plan_of plan).ending (served_in (history v plan (fresh (open_of v plan state)) es))
    → done_in (served_in (history v plan (fresh (open_of v plan state)) es)) ≡ true
    → (history v plan (fresh (open_of v plan state)) es).waiting ≡ []
    → FinishedBy v.tables plan (delivered_in v plan (fresh (open_of v plan state)) es) (history v plan (fresh (open_of v plan state)) es)
finished_unsent v plan state o es u = finished v plan state o es (premises_hold v plan state es u)
