-- What the code of `reached` comes to, case by case: the rows that begin a year, the first level's place, and the range of the first pattern.
use Prim.Native.Nat.{ℕ, zero, suc, ◌+◌, ◌-◌, ◌/◌, ◌≤◌, ◌<◌}
use native.Mathlib.Omega.{arith}
use mathlib.Core.Path.{◌≡◌, refl, sym, ◌∙◌, ap, ap₂}
use mathlib.Core.Bool.{Bool, true, false, cond, ◌&&◌}
use mathlib.Core.Option.{none}
use mathlib.Core.List.{List, []}
use lib.Dec.{ltb}
use lib.ListN.{length}
use Rattle.sequences.specs.Sequences.{all, count_below}
use Rattle.tables.specs.declared.Place.{Place}
use Rattle.words.specs.Words.{term_values, number}
use Rattle.words.specs.Tests.{Test, first_failing, number_of}
use Rattle.words.proofs.Numbering.{one_fails, none_fails, front_fails, rest_decides}
use Rattle.calls.specs.Calls.{CallResult, AnswersRight, result_of_call}
use Rattle.calls.proofs.Refusals.{by_number_lem, by_none, call_told}
use Rattle.tables.specs.declared.Prefix.{Prefix}
use Rattle.tables.specs.Tables.{Tables, Section, column_count, tables_of, section_of}
use Rattle.tables.specs.Ranges.{range_start, range_end}
use Rattle.tables.specs.Years.{year_at}
use Rattle.words.specs.Bindings.{nothing_bound}
use Rattle.plans.specs.declared.Years.{Years}
use Rattle.plans.specs.declared.Years.TheVariants.{Latest, Every, Named}
use Rattle.plans.specs.Years.{years_in, head_of}
use Rattle.plans.specs.Plans.{branch_count, read_plan, has_form, plan_of, branch_at}
use Rattle.plans.proofs.PlanRead.{plan_in_lem}
use Rattle.steps.specs.Saved.{state_in}
use Rattle.state_saving.specs.Loading.{state_tests, state_refusal}
use Rattle.turns.specs.Surveys.{Survey}
use Rattle.turns.specs.Opening.{OpenInput, open_input}
use Rattle.turn_tests.proofs.Numbering.{early_tests, early_pass}
use Rattle.step_cursors.specs.declared.Cursor.{Cursor}
use Rattle.steps.specs.declared.Fields.{Fields}
use Rattle.steps.specs.Levels.{Inside, fields_fixed, prefix_of, level_prefix, bindings, under}
use Rattle.step_cursors.proofs.Cursors.{form_of}
use Rattle.step_cursors.specs.Carried.{year_of, place_at}
use Rattle.step_cursors.specs.Held.{upper_of, state_of}
use Rattle.reach.specs.declared.HowFar.{HowFar}
use Rattle.reach.specs.declared.HowFar.TheVariants.{At, Refused}
use Rattle.reach.specs.Reach.{begins_year, years_before, or_one, year_count, year_number, outermost, far_of, reach_tests, as_answer, reach_schema, reached_of}
use Rattle.reach.proofs.Refusals.{reach_is_right}

-- one row more is counted, or not
pub none_counted : (f : ℕ → Bool) → 0 ≡ count_below f 0
unfolding count_below
none_counted f = refl

pub one_more_fact : (f : ℕ → Bool) (n : ℕ) → count_below f n + cond (f n) 1 0 ≡ count_below f (n + 1)
unfolding count_below
one_more_fact f n = let z : n + 1 ≡ suc n = omega arith in go (f n) ∙ sym (ap (count_below f) z)
  where
    go : (b : Bool) → count_below f n + cond b 1 0 ≡ cond b (count_below f n + 1) (count_below f n)
    go true = refl
    go false = omega arith

pub at_most_one : (b : Bool) → cond b 1 0 ≤ 1
at_most_one true = omega arith
at_most_one false = omega arith

-- all rows, of which the lists of row numbers say nothing
pub all_counted : (rows pos osp : List ℕ) (year : ℕ)
    → count_below (λ n. begins_year (tables_of rows pos osp) n && ltb (year_at (tables_of rows pos osp) n) year) (length rows / column_count)
    ≡ years_before (tables_of rows pos osp) year
unfolding years_before
all_counted rows pos osp year = refl

module _ (rows pos osp : List ℕ) where
  rows_alone : (year : ℕ) → years_before (tables_of rows [] []) year ≡ years_before (tables_of rows pos osp) year
  unfolding years_before
  rows_alone year = refl

  pub count_alone : (years : Years) → year_count (tables_of rows [] []) years ≡ year_count (tables_of rows pos osp) years
  count_alone Latest = refl
  count_alone Every = ap or_one (rows_alone term_values)
  count_alone (Named y) = refl

  pub number_alone : (years : Years) (year : ℕ) → year_number (tables_of rows [] []) years year ≡ year_number (tables_of rows pos osp) years year
  number_alone Latest year = refl
  number_alone Every year = rows_alone year
  number_alone (Named y) year = refl

-- the outermost place above a level
pub outer_place : (ps : List Place) (level place : ℕ) → (level ≡ 0 → ⊥) → place_at ps 0 ≡ outermost (upper_of ps level) place
unfolding upper_of outermost
outer_place ps zero place h = absurd (h refl)
outer_place ps (suc zero) place h = refl
outer_place ps (suc (suc level)) place h = outer_place ps (suc level) (place_at ps (suc level)) (λ e. omega arith)

pub outer_last : (ps : List Place) (level place : ℕ) → level ≡ 0 → place ≡ outermost (upper_of ps level) place
unfolding upper_of outermost
outer_last ps zero place e = refl
outer_last ps (suc level) place e = absurd (omega arith)

-- ---- the first pattern of a branch
pub first_inside : (ws : List ℕ) (i : ℕ) → has_form (read_plan ws) ≡ true → i < length (plan_of ws).branches
    → (ts : List ℕ) → ts ≡ (branch_at (plan_of ws) i).terms → Inside ts 0
first_inside ws i h l ts e = rw e (let b = (form_of ws h).branch i l in omega (arith, b.width, b.least))

pub first_prefix : (t : Section) (terms ts : List ℕ) → ts ≡ terms → (f : Fields) → f ≡ fields_fixed t.year ts 0 nothing_bound
    → prefix_of f ≡ under t terms []
unfolding level_prefix bindings
first_prefix t terms ts e f g = ap prefix_of (g ∙ ap (λ l. fields_fixed t.year l 0 nothing_bound) e)

-- ---- a cursor
module _ (rows pos osp plan : List ℕ) (c : Cursor) (h : has_form (read_plan plan) ≡ true) (numbered : c.fields.year ≡ number (year_of c)) where
  abbrev t : Tables
  t = tables_of rows pos osp

  abbrev range : ℕ → Prefix
  range year = under (section_of rows pos osp year) (branch_at (plan_of plan) c.branch).terms []

  pub far_is : (years year branches first end outer places passed : ℕ)
      → years ≡ year_count (tables_of rows [] []) (years_in plan)
      → year ≡ year_number (tables_of rows [] []) (years_in plan) (year_of c)
      → branches ≡ branch_count (head_of plan)
      → first ≡ range_start t (range c.fields.year) → end ≡ range_end t (range c.fields.year)
      → outer ≡ outermost (upper_of c.upper c.level) c.place.0
      → places ≡ end - first → passed ≡ outer - first
      → At years year branches c.branch places passed ≡ as_answer (far_of t (plan_of plan) (state_of c))
  far_is years year branches first end outer places passed a b d e f g x y =
      let p = plan_in_lem plan h in
      let m = a ∙ count_alone rows pos osp (years_in plan) ∙ ap (year_count t) (sym p.years) in
      let n = b ∙ number_alone rows pos osp (years_in plan) (year_of c) ∙ ap (λ ys. year_number t ys (year_of c)) (sym p.years) in
      let k = d ∙ p.head in
      let lo = e ∙ ap (λ w. range_start t (range w)) numbered in
      let hi = f ∙ ap (λ w. range_end t (range w)) numbered in
      let u = x ∙ ap₂ ◌-◌ hi lo in
      let v = y ∙ ap₂ ◌-◌ g lo in
      λ i. At (m i) (n i) (k i) c.branch (u i) (v i)

-- ---- the call's answer, by the tests made so far
module _ (v : Survey) (plan state : List ℕ) where
  abbrev lent : OpenInput
  lent = open_input v plan state

  abbrev early : List Test
  early = early_tests v.tables plan

  abbrev late : List Test
  late = state_tests v.tables v.number (plan_of plan) state

  abbrev pub Answered : HowFar → Type 0
  Answered a = (a ≡ reached_of v plan state) × AnswersRight reach_schema lent a

  told : (a : HowFar) → result_of_call reach_schema lent ≡ record { answer = a; buffers = tt } → Answered a
  told a e =
      let t = call_told reach_schema reach_is_right lent (sym e) in
      (ap (λ (o : CallResult HowFar (Unit {0})). o.answer) t.0, t.1)

  pub early_refused : (n : ℕ) → n ≡ number_of (first_failing early) → (n ≡ 0 → ⊥) → Answered (Refused n)
  early_refused n e h = told (Refused n) (by_number_lem reach_schema reach_is_right lent n (front_fails early late n e h))

  module _ (z : number_of (first_failing early) ≡ 0) (n : ℕ) (e : n ≡ state_refusal v.tables v.number (plan_of plan) state) where
    decides : first_failing (reach_tests lent) ≡ first_failing late
    decides = rest_decides early late (early_pass v.tables plan z)

    pub late_refused : (n ≡ 0 → ⊥) → Answered (Refused n)
    late_refused h = told (Refused n) (by_number_lem reach_schema reach_is_right lent n (decides ∙ one_fails (first_failing late) n e h))

    late_pass : n ≡ 0 → first_failing late ≡ none
    unfolding all
    late_pass y = none_fails late refl (sym e ∙ y)

    pub far_served : n ≡ 0 → (a : HowFar) → a ≡ as_answer (far_of v.tables (plan_of plan) (state_in state)) → Answered a
    far_served y a f =
        told a (by_none reach_schema reach_is_right lent (decides ∙ late_pass y) ∙ (λ j. record { answer = sym f j; buffers = tt }))
