-- Regions of the three-stem wood and of a property with one stem, n7 of i310, in words. Assumes nothing: these are definitions.
use Rattle.std.specs.Prelude.{ℕ, ◌≡◌, true, false, List, [], ◌∷◌, ◌++◌, replicate}
use Rattle.std.proofs.Math.Option.{some}
use Rattle.words.specs.Words.{name, number, variable, word, head_kind, branch_kind, unbound}
use Rattle.tables.specs.Tables.{Tables}
use Rattle.plans.specs.Plans.{plan_of}
use Rattle.lists.specs.Closing.{list_at}
use Rattle.turns.specs.Surveys.{under_number}
use Rattle.cuts.specs.Histories.{turns, done_in}
use Rattle.merge_orders.specs.Ways.{turn, into, given}
use Rattle.sparql.specs.Reading.{mapping_of}
use Rattle.regions.specs.Regions.{RegionPart, turns_of_part, region_lists, runs_to, rows_of_runs, some_over}
use Rattle.regions.specs.Answers.{region_solutions}
use Rattle.region_splits.specs.Splits.{separable}
use Rattle.worked_cases.specs.Wood.{i2026, wood, no_rows, always, group1, top_falling, plan_with, plan_group, stem, no_rows_record, three_stems}
use Rattle.worked_cases.specs.Prunings.{diameter_second}

abbrev pub one_stem : Tables
one_stem =
    record {
      rows = i2026 ∷ name 7 ∷ name 10 ∷ name 100 ∷ i2026 ∷ name 7 ∷ name 12 ∷ number 310 ∷ [];
      pos = 0 ∷ 1 ∷ [];
      osp = 0 ∷ 1 ∷ [];
    }

-- a table under a number, asked to its end in one turn, with a threshold
abbrev pub asked : ℕ → Tables → List ℕ → RegionPart
asked survey t threshold =
    record { survey = under_number survey t; state = replicate 11 7; events = turns (replicate 7 1) 100 threshold (replicate 128 9) ∷ [] }

-- ---- groups: the records are added up
abbrev pub stem_sum : List ℕ
stem_sum = 1 ∷ 0 ∷ 1 ∷ 0 ∷ 310 ∷ 0 ∷ number 310 ∷ number 310 ∷ []

abbrev pub both_sum : List ℕ
both_sum = 4 ∷ 0 ∷ 4 ∷ 0 ∷ 975 ∷ 0 ∷ number 45 ∷ number 310 ∷ []

abbrev pub two_woods : List RegionPart
two_woods = asked 7 wood [] ∷ asked 8 one_stem [] ∷ []

pub record SumsAdd : Type 0 where
  pub done : (done_in (turns_of_part plan_group (asked 7 wood [])) ≡ true) × (done_in (turns_of_part plan_group (asked 8 one_stem [])) ≡ true)
  pub lists : region_lists plan_group two_woods ≡ three_stems ∷ stem_sum ∷ []
  pub made : given plan_group (region_lists plan_group two_woods) (into (turn 1) [] (turn 0)) ≡ some both_sum
  -- of the runs, 10 and 4 steps long
  pub runs : list_at (plan_of plan_group).ending [] (some_over (runs_to (plan_of plan_group) two_woods (10 ∷ 4 ∷ [])))
      (rows_of_runs (runs_to (plan_of plan_group) two_woods (10 ∷ 4 ∷ []))) ≡ both_sum
  -- n1 with i45 is a solution of the wood, and of two such tables it is two
  pub once : region_solutions (wood ∷ one_stem ∷ []) (plan_of plan_group) (mapping_of (name 1 ∷ number 45 ∷ replicate 14 unbound)) ≡ 1
  pub twice : region_solutions (wood ∷ one_stem ∷ wood ∷ []) (plan_of plan_group) (mapping_of (name 1 ∷ number 45 ∷ replicate 14 unbound)) ≡ 2

-- ---- the record of nothing: of a table without rows, and once where every table has none
abbrev pub none_first : List RegionPart
none_first = asked 7 no_rows [] ∷ asked 8 one_stem [] ∷ []

abbrev pub none_at_all : List RegionPart
none_at_all = asked 7 no_rows [] ∷ asked 8 no_rows [] ∷ []

pub record NothingOnce : Type 0 where
  pub lists : region_lists plan_group none_first ≡ no_rows_record ∷ stem_sum ∷ []
  pub some_rows : given plan_group (region_lists plan_group none_first) (into (turn 0) [] (turn 1)) ≡ some stem_sum
  pub no_rows_fact : given plan_group (region_lists plan_group none_at_all) (into (turn 0) [] (turn 1)) ≡ some no_rows_record

-- ---- the best row by ?1 falling: n2, n3 and n7 are equal, and the first table's is kept
abbrev pub largest2 : List ℕ
largest2 = plan_with always (top_falling 2)

pub record FirstKept : Type 0 where
  pub in_sequence : given diameter_second (region_lists diameter_second two_woods) (into (turn 0) [] (turn 1)) ≡ some (stem 2 310)
  pub other_sequence : given diameter_second (region_lists diameter_second (asked 8 one_stem [] ∷ asked 7 wood [] ∷ []))
      (into (turn 0) [] (turn 1)) ≡ some (stem 7 310)
  -- the first table's row as threshold for the second: nothing is lost
  pub earlier_threshold : region_lists diameter_second (asked 7 wood [] ∷ asked 8 one_stem (stem 2 310) ∷ []) ≡ stem 2 310 ∷ [] ∷ []
  -- the second's as threshold for the first: a row that comes first among equals is lost
  pub later_threshold : given diameter_second (region_lists diameter_second (asked 7 wood (stem 7 310) ∷ asked 8 one_stem [] ∷ []))
      (into (turn 0) (9 ∷ 9 ∷ []) (turn 1))
      ≡ some (stem 7 310)

-- ---- the two best: the list of one stem is not full, and its last row as threshold loses a row
pub record FullAsked : Type 0 where
  pub right : given largest2 (region_lists largest2 (asked 8 one_stem [] ∷ asked 7 wood [] ∷ [])) (into (turn 0) (9 ∷ 9 ∷ []) (turn 1))
      ≡ some (stem 7 310 ++ stem 2 310)
  pub unfinished : given largest2 (region_lists largest2 (asked 8 one_stem [] ∷ asked 7 wood (stem 7 310) ∷ [])) (into (turn 0) (9 ∷ 9 ∷ []) (turn 1))
      ≡ some (stem 7 310)

-- ---- separable: ?0 is the subject of both patterns. A stem that stands in what another pattern names joins across subjects
abbrev pub chained : List ℕ
chained = word head_kind 1 ∷ word branch_kind 2 ∷ variable 0 ∷ name 10 ∷ variable 1 ∷ variable 1 ∷ name 12 ∷ variable 2 ∷ (always ++ group1)

abbrev pub of_one_name : List ℕ
of_one_name = word head_kind 1 ∷ word branch_kind 1 ∷ name 1 ∷ name 12 ∷ variable 1 ∷ (always ++ group1)

pub record SeparableOnes : Type 0 where
  pub one : separable (plan_of plan_group) ≡ true
  pub across : separable (plan_of chained) ≡ false
  pub no_variable : separable (plan_of of_one_name) ≡ false
