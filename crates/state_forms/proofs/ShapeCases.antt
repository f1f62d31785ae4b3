-- Test 9 by cases: of the word behind a year's, of all words behind it, and with the survey's and the year's; and test 22.
use Prim.Native.Nat.{ℕ, ◌+◌, ◌≤◌, ◌<◌}
use native.Mathlib.Omega.{arith}
use mathlib.Core.Path.{◌≡◌, sym, ◌∙◌, ap, ap₂}
use mathlib.Core.Bool.{Bool, true, false, ◌&&◌, and-false}
use mathlib.Core.List.{List}
use lib.Dec.{eqb}
use lib.ListN.{length, get_or, drop, length-drop}
use borrow.Author.Tests.{lt-ltb, le-ltb, eq-eqb, ne_eqb}
use Rattle.words.specs.Words.{kind, low, survey_kind, year_kind, position_kind, branch_of, depth_of}
use Rattle.sequences.specs.Sequences.{all}
use Rattle.sequences.proofs.Walking.{first_none}
use Rattle.tables.specs.Tables.{Tables}
use Rattle.plans.specs.declared.Years.{Years}
use Rattle.plans.specs.Years.{years_in}
use Rattle.plans.specs.Plans.{Plan, read_plan, has_form, plan_of, branch_at}
use Rattle.plans.proofs.PlanRead.{plan_in_lem}
use Rattle.steps.specs.Years.{is_year_read}
use Rattle.steps.specs.Saved.{is_place, depth_right, position_right, year_in, behind_year, shape_behind, shape_right, number_right}

module _ (q : Plan) (w : ℕ) where
  pub position_of_no_kind : (kind w ≡ position_kind → ⊥) → position_right q w ≡ false
  position_of_no_kind h = rw (ne_eqb (kind w) position_kind h)

  module _ (k : kind w ≡ position_kind) where
    pub position_past : length q.branches ≤ branch_of w → position_right q w ≡ false
    position_past h = rw (eq-eqb (kind w) position_kind k, le-ltb (branch_of w) (length q.branches) h)

    pub position_in_lem : branch_of w < length q.branches
        → position_right q w ≡ depth_right (branch_at q (branch_of w)).terms (depth_of w)
    position_in_lem h = rw (eq-eqb (kind w) position_kind k, lt-ltb (branch_of w) (length q.branches) h)

module _ (q : Plan) (ws : List ℕ) where
  pub shape_elsewhere : position_right q (get_or ws 0 0) ≡ false → shape_behind q ws ≡ false
  unfolding shape_behind
  shape_elsewhere h = rw h

  -- a missing word reads as 0, which is of no kind
  pub shape_none : length ws ≡ 0 → shape_behind q ws ≡ false
  shape_none h = shape_elsewhere (ap (position_right q) (first_none ws h))

  module _ (p : position_right q (get_or ws 0 0) ≡ true) where
    pub shape_longer : (length ws ≡ 1 + depth_of (get_or ws 0 0) → ⊥) → shape_behind q ws ≡ false
    unfolding shape_behind
    shape_longer h = rw (p, ne_eqb (length ws) (1 + depth_of (get_or ws 0 0)) h)

    pub shape_places : length ws ≡ 1 + depth_of (get_or ws 0 0) → shape_behind q ws ≡ all is_place (drop 1 ws)
    unfolding shape_behind
    shape_places h = rw (p, eq-eqb (length ws) (1 + depth_of (get_or ws 0 0)) h)

-- ---- with the survey's word and the year's
module _ (t : Tables) (q : Plan) (ws : List ℕ) where
  -- a position's word is missing
  pub form_short : length ws < 2 → shape_right t q ws ≡ false
  form_short h =
      rw (shape_none q (behind_year ws) (omega (arith, length-drop 2 ws)), and-false, and-false, and-false)

  pub form_elsewhere : (kind (get_or ws 0 0) ≡ survey_kind → ⊥) → shape_right t q ws ≡ false
  form_elsewhere h = rw (ne_eqb (kind (get_or ws 0 0)) survey_kind h)

  module _ (survey : kind (get_or ws 0 0) ≡ survey_kind) where
    pub form_yearless : (kind (get_or ws 1 0) ≡ year_kind → ⊥) → shape_right t q ws ≡ false
    form_yearless h = rw (eq-eqb (kind (get_or ws 0 0)) survey_kind survey, ne_eqb (kind (get_or ws 1 0)) year_kind h)

    module _ (year : kind (get_or ws 1 0) ≡ year_kind) (read : Bool) (er : read ≡ is_year_read t q.years (year_in ws)) where
      by_year : shape_right t q ws ≡ (read && shape_behind q (behind_year ws))
      by_year = rw (eq-eqb (kind (get_or ws 0 0)) survey_kind survey, eq-eqb (kind (get_or ws 1 0)) year_kind year, er)

      pub form_unread : read ≡ false → shape_right t q ws ≡ false
      form_unread h = by_year ∙ rw h

      pub form_behind : read ≡ true → shape_right t q ws ≡ shape_behind q (behind_year ws)
      form_behind h = by_year ∙ rw h

-- the year that was read, with the plan's years as code finds them
pub year_told : (t : Tables) (plan ws : List ℕ) → has_form (read_plan plan) ≡ true → (years : Years) → years ≡ years_in plan
    → (n : ℕ) → n ≡ year_in ws → is_year_read t years n ≡ is_year_read t (plan_of plan).years (year_in ws)
year_told t plan ws h years ey n en = ap₂ (is_year_read t) (ey ∙ sym (plan_in_lem plan h).years) en

-- ---- its number
module _ (survey w : ℕ) where
  pub number_long : number_right survey ≡ false → number_right survey && eqb (low w) survey ≡ false
  number_long h = rw h

  pub number_short : number_right survey ≡ true → (n : ℕ) → n ≡ low w → eqb n survey ≡ (number_right survey && eqb (low w) survey)
  number_short h n e = rw (h, e)
