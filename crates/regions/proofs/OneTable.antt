-- A region of one table says what demands 2 and 3 say of one query, in whatever way its turns' lists were joined or merged.
use Prim.Native.Nat.{ℕ, ◌+◌}
use native.Mathlib.Omega.{arith}
use mathlib.Core.Path.{◌≡◌, subst}
use mathlib.Core.Bool.{true}
use mathlib.Core.List.{List, [], ◌∷◌, map, append-nil}
use Rattle.words.specs.Bindings.{Bindings}
use Rattle.sequences.specs.Sequences.{all}
use Rattle.tables.specs.Tables.{Tables}
use Rattle.plans.specs.Plans.{Plan, plan_of}
use Rattle.steps.specs.Steps.{after}
use Rattle.turns.specs.Surveys.{Survey}
use Rattle.turns.specs.Opening.{open_of, Opens}
use Rattle.cuts.specs.Histories.{Event, turns, merges, joins, Phone, served_in, done_in, happens, history, fresh}
use Rattle.cuts.specs.Premises.{Premises}
use Rattle.cuts.proofs.Accepting.{opening_accepts}
use Rattle.sparql.specs.Algebra.{unions, ToList}
use Rattle.sparql.specs.Terms.{by_number}
use Rattle.sparql.specs.Reading.{mapping_of, solutions_in, solutions_of, is_word}
use Rattle.sparql.specs.Answers.{Readings, read_solutions, read_by_number, AnswerOver}
use Rattle.sparql.proofs.Solutions.{year_by_year}
use Rattle.regions.specs.Regions.{RegionPart, turns_of_part, region_lists, PremisesBeside, Makes, PartsAt, runs_to, rows_of_runs}
use Rattle.regions.specs.Answers.{region_readings, AllEnd, RegionAnswer}
use Rattle.regions.specs.OneTable.{OneTable}
use Rattle.regions.proofs.Answered.{region_answered}

-- demand 3's premise is the region's
premises_one : (v : Survey) (plan : List ℕ) (h : Phone) (es : List Event) → Premises v plan h es → PremisesBeside [] v plan h es
premises_one v plan h [] p = tt
premises_one v plan h (turns behind quantum threshold output ∷ es) p =
    (p.0, premises_one v plan (happens v plan h (turns behind quantum threshold output)) es p.1)
premises_one v plan h (merges behind ∷ es) p = (tt, premises_one v plan (happens v plan h (merges behind)) es p.1)
premises_one v plan h (joins ∷ es) p = (tt, premises_one v plan (happens v plan h joins) es p.1)

-- the solutions of one table
one_reading : (t : Tables) (q : Plan) → region_readings (t ∷ []) q ≡ read_by_number t q
unfolding unions
one_reading t q =
    let none : (n : ℕ) → n + 0 ≡ n = λ n. omega arith in
    λ i. read_solutions (λ μ. none (solutions_of t q μ) i) (λ year μ. none (solutions_in t q year μ) i)

module _ (v : Survey) (plan state : List ℕ) (opens : Opens v plan state) (es : List Event) where
  abbrev q : Plan
  q = plan_of plan

  abbrev t : Tables
  t = v.tables

  abbrev p : RegionPart
  p = record { survey = v; state = state; events = es }

  abbrev xs : ℕ → List Bindings
  xs n = (after t q n).delivered

  one_run : (n : ℕ) → rows_of_runs (runs_to q (p ∷ []) (n ∷ [])) ≡ xs n
  unfolding runs_to rows_of_runs
  one_run n = append-nil (xs n)

  from_run : (list : List ℕ) (ns : List ℕ) → PartsAt plan (p ∷ []) ns → AllEnd q (p ∷ []) ns
      → ToList (region_readings (t ∷ []) q).solutions (map mapping_of (rows_of_runs (runs_to q (p ∷ []) ns)))
      → AnswerOver (region_readings (t ∷ []) q) (rows_of_runs (runs_to q (p ∷ []) ns)) q.ending list
      → all is_word list ≡ true → OneTable v plan (turns_of_part plan p) list
  from_run list [] a e r w b = absurd a
  from_run list (n ∷ m ∷ ns) a e r w b = absurd a.1
  from_run list (n ∷ []) a e r w b =
      let c = opening_accepts v plan state opens in
      record {
        steps = n;
        answer = record {
          ends = e.0;
          run = subst (λ (y : Readings by_number). ToList y.solutions (map mapping_of (xs n))) (one_reading t q)
              (subst (λ bs. ToList (region_readings (t ∷ []) q).solutions (map mapping_of bs)) (one_run n) r);
          years = year_by_year t plan q c.tables c.read c.variables n e.0.over;
          answer = subst (λ y. AnswerOver y (xs n) q.ending list) (one_reading t q)
              (subst (λ bs. AnswerOver (region_readings (t ∷ []) q) bs q.ending list) (one_run n) w);
          words = b;
        };
        no_more = a.0.steps;
        as_many = a.0.as_many;
      }

  of_one : (list : List ℕ) → RegionAnswer plan (p ∷ []) list → OneTable v plan (turns_of_part plan p) list
  of_one list a = from_run list a.lengths a.placed a.whole a.run a.answer a.words

pub one_table : (v : Survey) (plan state : List ℕ) → Opens v plan state → (es : List Event)
    → Premises v plan (fresh (open_of v plan state)) es
    → done_in (served_in (history v plan (fresh (open_of v plan state)) es)) ≡ true
    → (list : List ℕ) → Makes (plan_of plan).ending plan (region_lists plan (record { survey = v; state = state; events = es } ∷ [])) list
    → OneTable v plan (served_in (history v plan (fresh (open_of v plan state)) es)) list
one_table v plan state o es pr d list x =
    let p : RegionPart = record { survey = v; state = state; events = es } in
    of_one v plan state o es list
    (region_answered plan p [] (o, tt) (premises_one v plan (fresh (open_of v plan state)) es pr, tt) (d, tt) list x)
