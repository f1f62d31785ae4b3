-- Worked cases of the former meanings. A wood of three stems, the third of which has a number of 2^29: there the former list and the list that comes now
-- differ, and without it they are the same; and the two callers who wrote no k, word by word. Assumes nothing: these are definitions.
use Rattle.std.specs.Prelude.{ℕ, ◌≡◌, true, List, [], ◌∷◌, ◌++◌, length}
use Rattle.std.proofs.Math.Option.{none}
use Rattle.words.specs.Words.{name, number, variable}
use Rattle.tables.specs.Tables.{Tables}
use Rattle.plans.specs.Endings.{top}
use Rattle.plans.specs.Plans.{Plan, plan_of, has_form, read_plan}
use Rattle.plans.specs.Former.{written}
use Rattle.steps.specs.Steps.{after}
use Rattle.cuts.specs.Uncut.{run_list}
use Rattle.former.specs.Runs.{former_after, FormerQuery}
use Rattle.former.specs.Finished.{former_run_list}
use Rattle.former.specs.Callers.{ending_place, former_plan_of, asking, ListAsBefore}

-- the row of a stem with a diameter, in the year 2026
abbrev pub measured_stem : ℕ → ℕ → List ℕ
measured_stem j diameter = number 2026 ∷ name j ∷ name 12 ∷ number diameter ∷ []

-- ---- stems n1, n2 and n3
abbrev pub wood_of_three : ℕ → Tables
wood_of_three third =
    record { rows = measured_stem 1 45 ++ (measured_stem 2 310 ++ measured_stem 3 third); pos = 0 ∷ 1 ∷ 2 ∷ []; osp = 0 ∷ 1 ∷ 2 ∷ [] }

-- ?0 n12 ?1, a condition and an ending
abbrev pub stems_asked : List ℕ → List ℕ → List ℕ
stems_asked condition ending =
    0x1000_0001 ∷ 0x2000_0001 ∷ 0xC000_0000 ∷ 12 ∷ 0xC000_0001 ∷ (condition ++ ending)

-- ?1 at least i70, as rows ?0; the best row ?0 by ?1, falling; the groups of no variable, measuring ?1
abbrev pub thick_stems : List ℕ
thick_stems = stems_asked (0x7000_0005 ∷ 0xC000_0001 ∷ 0x4000_0046 ∷ []) (0x8000_0001 ∷ 0xC000_0000 ∷ [])

abbrev pub thickest : List ℕ
thickest = stems_asked (0x3000_0000 ∷ []) (0x9000_0001 ∷ 0x8000_0002 ∷ 0xC000_0000 ∷ 0xC000_0001 ∷ 0xB000_0001 ∷ [])

abbrev pub all_together : List ℕ
all_together = stems_asked (0x3000_0000 ∷ []) (0xC000_0000 ∷ 0xC000_0001 ∷ [])

-- the groups of ?1, measuring ?1
abbrev pub by_diameter : List ℕ
by_diameter = stems_asked (0x3000_0000 ∷ []) (0xC000_0001 ∷ 0xC000_0001 ∷ 0xC000_0001 ∷ [])

-- the list of the former run at its end, and that of the run, which ends as soon
pub record FormerAndNow (plan : List ℕ) (third : ℕ) (before now : List ℕ) : Type 0 where
  pub over : (former_after (wood_of_three third) (plan_of plan) 4).state ≡ none
  pub before_it : former_run_list (wood_of_three third) (plan_of plan) 4 ≡ before
  pub over_now : (after (wood_of_three third) (plan_of plan) 4).state ≡ none
  pub now_it : run_list (plan_of plan).ending (after (wood_of_three third) (plan_of plan) 4) ≡ now

-- a record of one group of three numbers
abbrev pub three_numbers : ℕ → ℕ → ℕ → ℕ → List ℕ
three_numbers low high least greatest = 3 ∷ 0 ∷ 3 ∷ 0 ∷ low ∷ high ∷ least ∷ greatest ∷ []

abbrev pub one_number : ℕ → ℕ → ℕ → List ℕ
one_number word low high = word ∷ 1 ∷ 0 ∷ 1 ∷ 0 ∷ low ∷ high ∷ word ∷ word ∷ []

pub record FormerLists : Type 0 where
  -- 2^29 - 1 was and is the greatest number
  pub thick : FormerAndNow thick_stems 0x1FFF_FFFF (2 ∷ 3 ∷ []) (2 ∷ 3 ∷ [])
  pub best : FormerAndNow thickest 0x1FFF_FFFF (3 ∷ 0x5FFF_FFFF ∷ []) (3 ∷ 0x5FFF_FFFF ∷ [])
  pub total : FormerAndNow all_together 0x1FFF_FFFF (three_numbers 0x2000_0162 0 0x4000_002D 0x5FFF_FFFF) (three_numbers 0x2000_0162 0 0x4000_002D 0x5FFF_FFFF)
  -- 2^29 was above it, and is the least
  pub thick_past : FormerAndNow thick_stems 0x2000_0000 (2 ∷ 3 ∷ []) (2 ∷ [])
  pub best_past : FormerAndNow thickest 0x2000_0000 (3 ∷ 0x6000_0000 ∷ []) (2 ∷ 0x4000_0136 ∷ [])
  pub total_past : FormerAndNow all_together 0x2000_0000 (three_numbers 0x2000_0163 0 0x4000_002D 0x6000_0000)
      (three_numbers 0xE000_0163 0xFFFF_FFFF 0x6000_0000 0x4000_0136)
  pub groups_past : FormerAndNow by_diameter 0x2000_0000
      (one_number 0x4000_002D 45 0 ++ (one_number 0x4000_0136 310 0 ++ one_number 0x6000_0000 0x2000_0000 0))
      (one_number 0x6000_0000 0xE000_0000 0xFFFF_FFFF ++ (one_number 0x4000_002D 45 0 ++ one_number 0x4000_0136 310 0))

-- a query of former words, and one that is none
pub record FormerMet : Type 0 where
  pub met : FormerQuery (wood_of_three 0x1FFF_FFFF) (plan_of thick_stems)
  pub not_met : ¬ FormerQuery (wood_of_three 0x2000_0000) (plan_of thick_stems)

-- ---- the thinning list and the yearly export: the words before the ending, and behind its first word
abbrev pub thinning_front : List ℕ
thinning_front =
    0x1000_0001 ∷ 0x2000_0002 ∷ 0xC000_0000 ∷ 10 ∷ 100 ∷ 0xC000_0000 ∷ 12 ∷ 0xC000_0001 ∷ 0x4000_0000 ∷ 0x7000_0005 ∷ 0xC000_0001
    ∷ 0x4000_0046 ∷ 0x6000_0000 ∷ 0x7000_0004 ∷ 0xC000_0001 ∷ 0x4000_0190 ∷ []

abbrev pub thinning_rest : List ℕ
thinning_rest = 0x8000_0002 ∷ 0xC000_0000 ∷ 0xC000_0001 ∷ 0xA000_0001 ∷ []

abbrev pub export_front : List ℕ
export_front =
    0x1000_0002 ∷ 0x2000_0003 ∷ 0xC000_0000 ∷ 10 ∷ 0xC000_0001 ∷ 0xC000_0000 ∷ 11 ∷ 0xC000_0002 ∷ 0xC000_0000 ∷ 12 ∷ 0xC000_0003
    ∷ 0x3000_0000 ∷ 0x2000_0003 ∷ 0xC000_0000 ∷ 9 ∷ 0x4000_07EA ∷ 0xC000_0000 ∷ 11 ∷ 0xC000_0002 ∷ 0xC000_0000 ∷ 12 ∷ 0xC000_0003
    ∷ 0x3000_0000 ∷ []

abbrev pub export_rest : List ℕ
export_rest = 0x8000_0004 ∷ 0xC000_0001 ∷ 0xC000_0002 ∷ 0xC000_0003 ∷ 0xC000_0000 ∷ 0xA000_0001 ∷ 0xA000_0002 ∷ 0xB000_0003 ∷ []

-- a caller who wrote a k of 0: the words then and now, in which 64 stands for it; how the ending was read, and how words with a k of 0 are read now; and
-- that the list comes out as before, over whatever tables and however it is cut
pub record NoNumber (front rest vs keys : List ℕ) : Type 0 where
  pub wrote : asking front 0 rest ≡ front ++ (0x9000_0000 ∷ rest)
  pub writes : asking front (written 0) rest ≡ front ++ (0x9000_0040 ∷ rest)
  pub form : has_form (read_plan (asking front 0 rest)) ≡ true
  pub place : ending_place (asking front 0 rest) ≡ length front
  pub was_read : (former_plan_of (asking front 0 rest)).ending ≡ top 64 vs keys
  pub is_read_fact : (plan_of (asking front 0 rest)).ending ≡ top 10 vs keys
  pub lists : ListAsBefore front 0 rest

pub record TwoCallers : Type 0 where
  pub thinning : NoNumber thinning_front thinning_rest (variable 0 ∷ variable 1 ∷ []) (0xA000_0001 ∷ [])
  pub export : NoNumber export_front export_rest (variable 1 ∷ variable 2 ∷ variable 3 ∷ variable 0 ∷ [])
      (0xA000_0001 ∷ 0xA000_0002 ∷ 0xB000_0003 ∷ [])

-- ---- eleven stems, with the diameters i45 to i55: the thinnest of them, as rows ?1, where no k was written
abbrev pub eleven_stems : Tables
eleven_stems =
    record {
      rows = measured_stem 1 45 ++ (measured_stem 2 46 ++ (measured_stem 3 47 ++ (measured_stem 4 48 ++ (measured_stem 5 49 ++ (measured_stem 6 50
          ++ (measured_stem 7 51 ++ (measured_stem 8 52 ++ (measured_stem 9 53 ++ (measured_stem 10 54 ++ measured_stem 11 55)))))))));
      pos = 0 ∷ 1 ∷ 2 ∷ 3 ∷ 4 ∷ 5 ∷ 6 ∷ 7 ∷ 8 ∷ 9 ∷ 10 ∷ [];
      osp = 0 ∷ 1 ∷ 2 ∷ 3 ∷ 4 ∷ 5 ∷ 6 ∷ 7 ∷ 8 ∷ 9 ∷ 10 ∷ [];
    }

abbrev pub thin_front : List ℕ
thin_front = 0x1000_0001 ∷ 0x2000_0001 ∷ 0xC000_0000 ∷ 12 ∷ 0xC000_0001 ∷ 0x3000_0000 ∷ []

abbrev pub thin_rest : List ℕ
thin_rest = 0x8000_0001 ∷ 0xC000_0001 ∷ 0xA000_0001 ∷ []

abbrev pub ten_thin : List ℕ
ten_thin =
    0x4000_002D ∷ 0x4000_002E ∷ 0x4000_002F ∷ 0x4000_0030 ∷ 0x4000_0031
    ∷ 0x4000_0032 ∷ 0x4000_0033 ∷ 0x4000_0034 ∷ 0x4000_0035 ∷ 0x4000_0036 ∷ []

-- the list of a plan over them
abbrev pub thin_list : Plan → List ℕ
thin_list q = run_list q.ending (after eleven_stems q 12)

pub record ElevenStems : Type 0 where
  pub then : thin_list (former_plan_of (asking thin_front 0 thin_rest)) ≡ ten_thin ++ (0x4000_0037 ∷ [])
  pub written_now : thin_list (plan_of (asking thin_front 64 thin_rest)) ≡ ten_thin ++ (0x4000_0037 ∷ [])
  pub no_number_now : thin_list (plan_of (asking thin_front 0 thin_rest)) ≡ ten_thin
