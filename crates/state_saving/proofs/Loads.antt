-- Loading: what words that pass test 9 have, what the number of the first failing test is, and that the cursor read from
-- words that pass all tests can go on.
use Prim.Native.Nat.{ℕ, ◌+◌, ◌-◌, ◌≤◌, ◌<◌}
use native.Mathlib.Omega.{arith}
use native.Mathlib.Decide.{dec_lt}
use mathlib.Core.Path.{◌≡◌, sym, ◌∙◌, ap, subst}
use mathlib.Core.Bool.{Bool, true, false}
use mathlib.Core.List.{List}
use lib.Dec.{eqb, ltb, leb}
use lib.ListN.{length, get_or, drop, length-drop, drop_of_length-le}
use borrow.Author.Tests.{eqb-true, ltb-true, leb-true}
use Rattle.words.specs.Words.{kind, number, position_kind, branch_of, depth_of}
use Rattle.words.specs.Bindings.{Bindings}
use Rattle.words.specs.Tests.{first_failing}
use Rattle.sequences.proofs.Booleans.{and_left, and_right}
use Rattle.tables.specs.declared.Place.{Place}
use Rattle.tables.specs.Tables.{Tables, Section, section}
use Rattle.tables.specs.Ranges.{range_end}
use Rattle.plans.specs.Branches.{most_patterns, read_branch}
use Rattle.plans.specs.Plans.{Plan, read_plan, has_form, plan_of, branch_at}
use Rattle.plans.specs.Reading.{Gives}
use Rattle.steps.specs.declared.Fields.{Fields}
use Rattle.steps.specs.Levels.{has_level, fields_fixed, level_prefix, bindings, under, Inside}
use Rattle.steps.specs.Positions.{Position, state_right}
use Rattle.steps.specs.Years.{is_year_read}
use Rattle.steps.specs.Saved.{year_in, behind_year, is_survey, is_year, position_right, shape_behind, shape_right, survey_right, position_in, state_in}
use Rattle.steps.proofs.SavedWords.{shape_of}
use Rattle.step_cursors.specs.declared.Cursor.{Cursor}
use Rattle.step_cursors.specs.Carried.{year_of}
use Rattle.step_cursors.specs.Held.{upper_of, position_of, state_of, current_branch, BeginsAt, HeldIn, Held, EndsAbove, EndsIn, EndsHeld}
use Rattle.step_cursors.proofs.Agreement.{agrees_refl}
use Rattle.step_cursors.proofs.Cursors.{upper_length, bound_length, level_inside, level_few}
use Rattle.step_cursors.proofs.OverYears.{held_year}
use Rattle.state_saving.specs.Loading.{Whole, places_behind, places_refusal, state_refusal}

-- ---- the number of the first test that fails
module _ (t : Section) (q : Plan) (ws : List ℕ) where
  refused_places : places_behind t q ws ≡ false → places_refusal t q ws ≡ 10
  unfolding first_failing
  refused_places h = rw h

  refused_none : places_behind t q ws ≡ true → places_refusal t q ws ≡ 0
  unfolding first_failing
  refused_none h = rw h

module _ (t : Tables) (survey : ℕ) (q : Plan) (ws : List ℕ) where
  pub refused_shape : shape_right t q ws ≡ false → state_refusal t survey q ws ≡ 9
  unfolding first_failing
  refused_shape h = rw h

  module _ (shape : shape_right t q ws ≡ true) where
    pub refused_survey : survey_right survey ws ≡ false → state_refusal t survey q ws ≡ 22
    unfolding first_failing
    refused_survey h = rw (shape, h)

    pub refused_behind : survey_right survey ws ≡ true → state_refusal t survey q ws ≡ places_refusal (section t (year_in ws)) q (behind_year ws)
    unfolding first_failing
    refused_behind h = rw (shape, h)

-- words that pass test 9 are two and more
pub two_words_lem : (t : Tables) (q : Plan) (ws : List ℕ) → shape_right t q ws ≡ true → 2 ≤ length ws
two_words_lem t q ws e = omega (arith, ap length (shape_of t q ws e).words)

-- those behind the year's have the shape
pub behind_right : (t : Tables) (q : Plan) (ws : List ℕ) → shape_right t q ws ≡ true → shape_behind q (behind_year ws) ≡ true
behind_right t q ws e =
    and_right (is_year_read t q.years (year_in ws)) _ (and_right (is_year (get_or ws 1 0)) _ (and_right (is_survey (get_or ws 0 0)) _ e))

-- ---- words behind the year's that pass test 9
-- the branch and the level are in the plan, and there is a place for each level to the last
pub record CursorPlaced (q : Plan) (ws : List ℕ) : Type 0 where
  pub branch : branch_of (get_or ws 0 0) < length q.branches
  pub level : has_level (branch_at q (branch_of (get_or ws 0 0))).terms (depth_of (get_or ws 0 0) - 1) ≡ true
  pub deep : 1 ≤ depth_of (get_or ws 0 0)
  pub long : length ws ≡ 1 + depth_of (get_or ws 0 0)

pub placed : (q : Plan) (ws : List ℕ) → shape_behind q ws ≡ true → CursorPlaced q ws
unfolding shape_behind
placed q ws e =
    let w = get_or ws 0 0 in
    let f = and_right (eqb (kind w) position_kind) _ (and_left (position_right q w) _ e) in
    let g = and_right (ltb (branch_of w) (length q.branches)) _ f in
    record {
      branch = ltb-true (branch_of w) (length q.branches) (and_left (ltb (branch_of w) (length q.branches)) _ f);
      level = and_right (leb 1 (depth_of w)) _ g;
      deep = leb-true 1 (depth_of w) (and_left (leb 1 (depth_of w)) _ g);
      long = eqb-true (length ws) (1 + depth_of w) (and_left (eqb (length ws) (1 + depth_of w)) _ (and_right (position_right q w) _ e));
    }

-- ---- where a branch's part begins
-- a part to the end of a list starts where what is before it ends
drop_back : (ws : List ℕ) (n : ℕ) → drop (length ws - length (drop n ws)) ws ≡ drop n ws
drop_back ws n =
    let l = length-drop n ws in
    elim (dec_lt n (length ws)) [
      | yes h ↦ ap (λ k. drop k ws) (let e : length ws - length (drop n ws) ≡ n = omega arith in e)
      | no h ↦
          drop_of_length-le ws {i = length ws - length (drop n ws)} (omega arith)
          ∙ sym (drop_of_length-le ws {i = n} (omega arith))
    ]

pub begins : (plan part : List ℕ) (i j n at : ℕ) → part ≡ drop n plan → Gives (read_branch part) (branch_at (plan_of plan) i)
    → i ≡ j → at ≡ length plan - length part → BeginsAt plan j at
begins plan part i j n at e g p a = rw (a, e, drop_back plan n, ← e, ← p) g

-- ---- the cursor read from words that pass test 9
-- with the fixed fields of its last level, and the ends of all
abbrev pub with_ends : Cursor → Fields → Place → List Place → Cursor
with_ends c f end ends =
    record {
      branch = c.branch;
      at = c.at;
      level = c.level;
      place = c.place;
      end = end;
      upper = c.upper;
      ends = ends;
      fields = f;
    }

module _ (plan ws : List ℕ) (planned : has_form (read_plan plan) ≡ true) (shape : shape_behind (plan_of plan) ws ≡ true) where
  abbrev q : Plan
  q = plan_of plan

  pub whole : Whole ws
  whole =
      let p = placed q ws shape in
      let f = level_few plan planned (branch_of (get_or ws 0 0)) (depth_of (get_or ws 0 0) - 1) p.branch p.level in
      record { deep = p.deep; whole = p.long; few = omega arith }

  module _ (c : Cursor) (e : position_of c ≡ position_in ws) (d : c.level + 1 ≡ depth_of (get_or ws 0 0)) (terms : List ℕ)
      (et : terms ≡ (branch_at q (branch_of (get_or ws 0 0))).terms) where
    branch_is : c.branch ≡ branch_of (get_or ws 0 0)
    unfolding position_in
    branch_is = ap (λ (s : Position). s.branch) e

    terms_are : terms ≡ (current_branch plan c).terms
    terms_are = et ∙ ap (λ i. (branch_at q i).terms) (sym branch_is)

    in_plan : c.branch < length q.branches
    in_plan = let p = placed q ws shape in let b = branch_is in omega (arith, p.branch)

    has_level_lem : has_level (current_branch plan c).terms c.level ≡ true
    has_level_lem =
        let l : depth_of (get_or ws 0 0) - 1 ≡ c.level = omega arith in
        subst (λ n. has_level (current_branch plan c).terms n ≡ true) l
        (subst (λ i. has_level (branch_at q i).terms (depth_of (get_or ws 0 0) - 1) ≡ true) (sym branch_is) (placed q ws shape).level)

    pub level_there : Inside terms c.level × (c.level < most_patterns)
    level_there = (
      rw terms_are (level_inside plan planned c.branch c.level in_plan has_level_lem),
      level_few plan planned c.branch c.level in_plan has_level_lem,
    )

    -- the ends that its walk found
    pub loads_ends : (t : Section) (b : Bindings) → b ≡ bindings t terms (upper_of c.upper c.level)
        → (f : Fields) (end : Place) (ends : List Place) → end.0 ≡ range_end t.tables (level_prefix t.year terms c.level b)
        → length ends ≡ most_patterns → EndsAbove t terms c.upper ends c.level
        → EndsIn t (current_branch plan (with_ends c f end ends)).terms (with_ends c f end ends)
    loads_ends t b eb f end ends last room above =
        let x : level_prefix t.year terms c.level b ≡ under t terms (upper_of c.upper c.level) = rw (upper_length c.upper c.level, eb) in
        rw (← terms_are) (record { room = room; last = last ∙ ap (range_end t.tables) x; above = above })

    module _ (t : Section) (r : Bool) (er : r ≡ state_right t terms (position_of c)) where
      places_are : places_behind t q ws ≡ r
      places_are =
          ap (λ (s : Position). state_right t (branch_at q s.branch).terms s) (sym e)
          ∙ ap (λ (us : List ℕ). state_right t us (position_of c)) (sym terms_are)
          ∙ sym er

      pub loads_not : r ≡ false → places_refusal t q ws ≡ 10
      loads_not h = refused_places t q ws (places_are ∙ h)

      pub loads : r ≡ true → places_refusal t q ws ≡ 0
      loads h = refused_none t q ws (places_are ∙ h)

      pub loads_held : r ≡ true → BeginsAt plan (branch_of (get_or ws 0 0)) c.at → length c.upper ≡ most_patterns
          → (b : Bindings) → b ≡ bindings t terms (upper_of c.upper c.level)
          → (f : Fields) → f ≡ fields_fixed t.year terms c.level b → (end : Place) (ends : List Place) → HeldIn t plan (with_ends c f end ends) b
      loads_held h a l b eb f ef end ends =
          record {
            planned = planned;
            branch = in_plan;
            begins = rw branch_is a;
            level = has_level_lem;
            places = l;
            right = rw (← terms_are) (sym er ∙ h);
            agrees = rw (← terms_are, ← eb) (agrees_refl b (rw eb (bound_length t terms (upper_of c.upper c.level))));
            fields = rw (← terms_are) ef;
          }

-- ---- the cursor that is held over the rows of a state's year, by its word
module _ (t : Tables) (plan ws : List ℕ) (shape : shape_right t (plan_of plan) ws ≡ true) (word : ℕ) (ew : word ≡ number (year_in ws))
    (c : Cursor) (b : Bindings) (k : HeldIn (record { tables = t; year = word }) plan c b) where
  year_word_lem : c.fields.year ≡ word
  year_word_lem = held_year (record { tables = t; year = word }) plan c b k

  year_is : year_of c ≡ year_in ws
  year_is = omega (arith, year_word_lem, ew)

  pub loaded_state : position_of c ≡ position_in (behind_year ws) → state_of c ≡ state_in ws
  loaded_state e = let y = year_is in λ i. record { year = y i; position = e i }

  pub loaded_held : Held t plan c b
  loaded_held =
      record {
        numbered = year_word_lem ∙ ew ∙ ap number (sym year_is);
        read = rw year_is (shape_of t (plan_of plan) ws shape).year;
        position = subst (λ n. HeldIn (record { tables = t; year = n }) plan c b) (sym year_word_lem) k;
      }

  pub loaded_ends : (terms : List ℕ) → EndsIn (record { tables = t; year = word }) terms c → EndsHeld t terms c
  loaded_ends terms e = subst (λ n. EndsIn (record { tables = t; year = n }) terms c) (sym year_word_lem) e
