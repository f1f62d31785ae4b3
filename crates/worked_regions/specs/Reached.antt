-- How far states of the worked woods are, in numbers: years, year, branches, branch, places, passed. Assumes nothing: these are definitions.
use Rattle.std.specs.Prelude.{◌≡◌, [], ◌∷◌}
use Rattle.reach.specs.declared.HowFar.TheVariants.{At, Refused}
use Rattle.reach.specs.Reach.{reached_of}
use Rattle.worked_cases.specs.Wood.{wood, plan_a, year_state, state_at}
use Rattle.worked_cases.specs.Calls.{surveyed}
use Rattle.worked_cases.specs.Prunings.{largest, at_diameters, six_on, without_key, in_second}
use Rattle.worked_cases.specs.Years.{two_years, plan_of_year}

pub record ReachedCases : Type 0 where
  -- three diameters: at the first; at the third; within the third, where a deeper level is open; at their end
  pub first : reached_of (surveyed wood) largest at_diameters ≡ At 1 0 1 0 3 0
  pub third : reached_of (surveyed wood) largest six_on ≡ At 1 0 1 0 3 2
  pub deeper : reached_of (surveyed wood) largest (state_at (5 ∷ 4 ∷ [])) ≡ At 1 0 1 0 3 2
  pub at_end : reached_of (surveyed wood) largest (state_at (6 ∷ [])) ≡ At 1 0 1 0 3 3
  -- the second of two branches
  pub branch : reached_of (surveyed wood) without_key (in_second 1) ≡ At 1 0 2 1 3 1
  -- each of two years, and one of them alone
  pub year_one : reached_of (surveyed two_years) (plan_of_year 0 plan_a) (year_state 2025 (0 ∷ [])) ≡ At 2 0 1 0 1 0
  pub year_two : reached_of (surveyed two_years) (plan_of_year 0 plan_a) (year_state 2026 (3 ∷ [])) ≡ At 2 1 1 0 1 1
  pub alone : reached_of (surveyed two_years) (plan_of_year 2026 plan_a) (year_state 2026 (2 ∷ [])) ≡ At 1 0 1 0 1 0
  -- refusals as a turn's
  pub no_words : reached_of (surveyed wood) largest [] ≡ Refused 9
  pub past_end_fact : reached_of (surveyed wood) largest (state_at (7 ∷ [])) ≡ Refused 10
