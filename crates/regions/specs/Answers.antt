-- SPARQL's answer over a region: over the solutions of all its tables together. Assumes nothing: these are definitions.
use Rattle.std.specs.Prelude.{ℕ, ◌+◌, ◌≤◌, ◌≡◌, true, List, [], ◌∷◌, map}
use Rattle.sequences.specs.Sequences.{all}
use Rattle.tables.specs.Tables.{Tables}
use Rattle.plans.specs.Plans.{Plan, plan_of}
use Rattle.registers.specs.Registers.{total}
use Rattle.cuts.specs.Histories.{steps_in}
use Rattle.cuts.specs.Uncut.{EndsAt}
use Rattle.cuts.specs.Unsent.{BestUnsent}
use Rattle.sparql.specs.Terms.{by_number}
use Rattle.sparql.specs.Algebra.{Multiset, unions, ToList}
use Rattle.sparql.specs.Reading.{mapping_of, solutions_in, solutions_of, is_word}
use Rattle.sparql.specs.Answers.{Readings, read_solutions, AnswerOver}
use Rattle.regions.specs.Regions.{RegionPart, turns_of_part, PartsAt, runs_to, rows_of_runs}

-- no row joins across tables, so that the solutions of the region are those of its tables, each as often as in all of them together
abbrev pub region_solutions : List Tables → Plan → Multiset
region_solutions ts q = unions (λ t. solutions_of t q) ts

abbrev pub region_readings : List Tables → Plan → Readings by_number
region_readings ts q = read_solutions (region_solutions ts q) (λ year. unions (λ t. solutions_in t q year) ts)

abbrev pub tables_of_parts : List RegionPart → List Tables
tables_of_parts ps = map (λ (p : RegionPart). p.survey.tables) ps

-- the steps of all turns
unfoldable pub region_steps : List ℕ → List RegionPart → ℕ
region_steps plan [] = 0
region_steps plan (p ∷ ps) = steps_in (turns_of_part plan p) + region_steps plan ps

-- no threshold was sent with a best-of query
abbrev pub RegionUnsent : List ℕ → List RegionPart → Type 0
RegionUnsent plan [] = Unit {0}
RegionUnsent plan (p ∷ ps) = BestUnsent (plan_of plan).ending (turns_of_part plan p) × RegionUnsent plan ps

-- each position is the end of its table's uncut run
abbrev pub AllEnd : Plan → List RegionPart → List ℕ → Type 0
AllEnd q [] ns = Unit {0}
AllEnd q (p ∷ ps) [] = ⊥
AllEnd q (p ∷ ps) (n ∷ ns) = EndsAt p.survey.tables q n × AllEnd q ps ns

-- each table's uncut run is whole; all of them have delivered the region's solutions, each as often; and the list is SPARQL's answer, equals in the
-- sequence of the tables, in words of 32 bits. The turns' steps are no more than those of all runs, and as many where no threshold was sent
pub record RegionAnswer (plan : List ℕ) (ps : List RegionPart) (list : List ℕ) : Type 0 where
  pub lengths : List ℕ
  pub placed : PartsAt plan ps lengths
  pub whole : AllEnd (plan_of plan) ps lengths
  pub run : ToList (region_solutions (tables_of_parts ps) (plan_of plan)) (map mapping_of (rows_of_runs (runs_to (plan_of plan) ps lengths)))
  pub answer : AnswerOver (region_readings (tables_of_parts ps) (plan_of plan)) (rows_of_runs (runs_to (plan_of plan) ps lengths)) (plan_of plan).ending list
  pub words : all is_word list ≡ true
  pub no_more : region_steps plan ps ≤ total lengths
  pub as_many : RegionUnsent plan ps → region_steps plan ps ≡ total lengths
