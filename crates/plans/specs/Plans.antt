-- Plans: the years, a head, its branches and one ending, read from words; tests 5, 6 and 23. Assumes nothing: these are definitions.
use Rattle.std.specs.Prelude.{ℕ, Bool, true, false, cond, ◌&&◌, not, List, [], ◌∷◌, eqb, leb, length, drop}
use Rattle.std.proofs.Math.Option.{Option, none, some}
use Rattle.words.specs.Words.{kind, low, head_kind}
use Rattle.sequences.specs.Sequences.{all}
use Rattle.words.specs.Tests.{Test}
use Rattle.plans.specs.declared.Years.{Years}
use Rattle.plans.specs.declared.Years.TheVariants.{Latest}
use Rattle.plans.specs.Years.{years_in, head_of, body_of, year_allowed}
use Rattle.plans.specs.Conditions.{Read}
use Rattle.plans.specs.Branches.{Branch, read_branches, branch_right, binds, nth_branch}
use Rattle.plans.specs.Endings.{Ending, rows, ending_form, ending_at, ending_right}

pub record Plan : Type 0 where
  pub years : Years
  pub branches : List Branch
  pub ending : Ending

abbrev pub most_branches : ℕ
most_branches = 4

abbrev pub most_plan_words : ℕ
most_plan_words = 256

-- the branches that a head names, 0 where it is no such word
abbrev pub branch_count : ℕ → ℕ
branch_count w = cond (eqb (kind w) head_kind) (cond (leb (low w) most_branches) (low w) 0) 0

-- the plan of some years whose branches were read, where all that is left is one ending
abbrev pub with_ending : Years → List ℕ → Read (List Branch) → Option Plan
with_ending years ws none = none
with_ending years ws (some x) =
    cond (ending_form (drop x.1 ws)) (some (record { years = years; branches = x.0; ending = ending_at (drop x.1 ws) })) none

-- the plan that words stand for, none where their form is wrong
unfoldable pub read_plan : List ℕ → Option Plan
read_plan ws =
    cond (leb (length ws) most_plan_words && not (eqb (branch_count (head_of ws)) 0))
    (with_ending (years_in ws) (body_of ws) (read_branches (branch_count (head_of ws)) (body_of ws))) none

-- ---- tests 5, 6 and 23
abbrev pub variables_right : Plan → Bool
variables_right q = all branch_right q.branches && ending_right (binds q.branches) q.ending

abbrev pub has_form : Option Plan → Bool
has_form none = false
has_form (some q) = true

-- a plan without branches stands for words that have not the form: no call reads more of it
abbrev pub plan_or : Option Plan → Plan
plan_or none = record { years = Latest; branches = []; ending = rows [] }
plan_or (some q) = q

abbrev pub plan_of : List ℕ → Plan
plan_of ws = plan_or (read_plan ws)

abbrev pub plan_tests : List ℕ → List Test
plan_tests ws = (5, has_form (read_plan ws)) ∷ (6, variables_right (plan_of ws)) ∷ (23, year_allowed (plan_of ws).years) ∷ []

-- branch number `i` of a plan, from 0
abbrev pub branch_at : Plan → ℕ → Branch
branch_at q i = nth_branch q.branches i
