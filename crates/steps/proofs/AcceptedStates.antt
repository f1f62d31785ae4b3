-- Tests 9, 22 and 10, over raw words: they accept exactly the words, under the survey's number, of the states that the uncut run passes through, over
-- all the years that it reads.
use Prim.Native.Nat.{ℕ, suc, ◌*◌, ◌≤◌, ◌<◌}
use native.Mathlib.Omega.{arith}
use mathlib.Core.Path.{◌≡◌, refl, sym, subst}
use mathlib.Core.Logic.{◌↔◌}
use mathlib.Core.Bool.{true}
use mathlib.Core.Option.{none, some}
use mathlib.Core.List.{List, [], ◌∷◌}
use lib.ListN.{length}
use borrow.Author.Tests.{ltb-true, lt-ltb}
use Rattle.words.specs.Words.{low_numbers}
use Rattle.sequences.specs.Sequences.{all}
use Rattle.words.specs.Tests.{first_failing}
use Rattle.sequences.proofs.Elements.{all_cons}
use Rattle.tables.specs.Tables.{Tables, Section, section, row_count, most_rows, table_tests}
use Rattle.tables.proofs.Ranges.{end_le_count}
use Rattle.tables.proofs.RightTables.{right}
use Rattle.plans.specs.Branches.{pattern_width, most_patterns}
use Rattle.plans.specs.Plans.{Plan, read_plan}
use Rattle.plans.proofs.Bounds.{PlanForm, plan_form}
use Rattle.steps.specs.Levels.{under}
use Rattle.steps.specs.Positions.{Position, upper_right, state_right}
use Rattle.steps.specs.Steps.{State, after}
use Rattle.steps.specs.Saved.{state_words, least_state_words, shape_right, survey_right, year_in, state_in, places_right}
use Rattle.steps.proofs.Rules.{terms_of}
use Rattle.steps.proofs.Right.{RightPosition, inner_of, right_accepted, accepted_right}
use Rattle.steps.proofs.YearsRead.{names_low, read_low}
use Rattle.steps.proofs.RightStates.{RightState, right_after}
use Rattle.steps.proofs.YearRuns.{reached}
use Rattle.steps.proofs.SavedWords.{fits_low, WordsFit, position_length, state_back, words_shape, words_survey, shape_of, survey_right_lem, words_under}

-- ---- right positions are small
module _ (t : Section) (q : Plan) (form : PlanForm q) (s : Position) (r : RightPosition t q s) where
  -- at most as many levels as a branch has patterns
  pub depth_most : suc (length s.upper) ≤ most_patterns
  depth_most =
      let b = form.branch s.branch r.branch in
      let l = ltb-true (length s.upper * pattern_width) (length (terms_of q s)) r.level in
      omega (arith, b.width, b.most)

  -- a saved state has at most 11 words
  pub words_most : (survey year : ℕ) → length (state_words survey (record { year = year; position = s })) ≤ least_state_words
  words_most survey year = omega (arith, position_length s, depth_most)

upper_fits : (t : Section) (terms upper : List ℕ) → row_count t.tables ≤ most_rows → upper_right t terms upper ≡ true
    → all fits_low upper ≡ true
unfolding all
upper_fits t terms [] few e = refl
upper_fits t terms (p ∷ upper) few e =
    let i = inner_of t terms p upper e in
    all_cons fits_low p upper (lt-ltb p low_numbers (omega (arith, i.end, end_le_count t.tables (under t terms upper))))
    (upper_fits t terms upper few i.above)

pub right_fits : (t : Section) (q : Plan) → row_count t.tables ≤ most_rows → PlanForm q → (s : Position) → RightPosition t q s → WordsFit s
right_fits t q few form s r =
    let d = depth_most t q form s r in
    record {
      position = omega (arith, d, r.branch, form.most);
      depth = omega (arith, d);
      upper = upper_fits t (terms_of q s) s.upper few r.upper;
      place = omega (arith, r.end, end_le_count t.tables (under t (terms_of q s) s.upper));
    }

-- ---- over accepted tables and an accepted plan
module _ (t : Tables) (plan : List ℕ) (q : Plan) (tables : first_failing (table_tests t) ≡ none)
    (read : read_plan plan ≡ some q) where
  fits : (s : State) → RightState t q s → WordsFit s.position
  fits s r =
      right_fits (section t s.year) q (right t tables).sized.few (plan_form plan q read) s.position r.position

  -- its year has 28 bits
  pub year_fits : (s : State) → RightState t q s → s.year < low_numbers
  year_fits s r = read_low t (right t tables) q.years (names_low plan q read) s.year r.year

  -- each state of the uncut run is right
  pub right_state : (n : ℕ) (s : State) → (after t q n).state ≡ some s → RightState t q s
  right_state n s e = right_after t (right t tables) q (plan_form plan q read) n s e

  module _ (survey : ℕ) where
    -- a right state is saved and loaded again, in at most 11 words
    pub right_loads : (s : State) → RightState t q s → state_in (state_words survey s) ≡ s
    right_loads s r = state_back survey s (year_fits s r) (fits s r)

    pub loads_back : (n : ℕ) (s : State) → (after t q n).state ≡ some s → state_in (state_words survey s) ≡ s
    loads_back n s e = right_loads s (right_state n s e)

    -- which pass tests 9 and 10
    pub saved_shape : survey < low_numbers → (s : State) → RightState t q s → shape_right t q (state_words survey s) ≡ true
    saved_shape h s r =
        words_shape survey h t q s (year_fits s r) r.year (fits s r) r.position.branch r.position.level

    pub saved_places : (s : State) → RightState t q s → places_right t q (state_words survey s) ≡ true
    saved_places s r =
        subst (λ (x : State). state_right (section t x.year) (terms_of q x.position) x.position ≡ true) (sym (right_loads s r))
        (right_accepted (section t s.year) q s.position r.position)

    -- the words, under the survey's number of 28 bits, of a state that the uncut run passes through
    abbrev pub RunPasses : List ℕ → Type 0
    RunPasses ws = (survey < low_numbers) × ((n : ℕ) × (s : State) × ((after t q n).state ≡ some s) × (ws ≡ state_words survey s))

    -- words that pass are those of a state of the run
    accepted_passed : (ws : List ℕ) → shape_right t q ws ≡ true → survey_right survey ws ≡ true → places_right t q ws ≡ true → RunPasses ws
    accepted_passed ws e g f =
        let x = shape_of t q ws e in
        let r = accepted_right (section t (year_in ws)) q (state_in ws).position x.branch x.level f in
        let p = reached t q (plan_form plan q read) (right t tables) (state_in ws) (record { year = x.year; position = r }) in
        ((survey_right_lem survey ws g).few, (p.0, state_in ws, p.1, sym (words_under survey t q ws e g)))

    -- a saved state is accepted exactly when the uncut run over this survey passes through it
    pub accepted_iff : (ws : List ℕ)
        → ((shape_right t q ws ≡ true) × (survey_right survey ws ≡ true) × (places_right t q ws ≡ true)) ↔ RunPasses ws
    accepted_iff ws = (λ x. accepted_passed ws x.0 x.1 x.2, λ y. back y)
      where
        back : RunPasses ws → (shape_right t q ws ≡ true) × (survey_right survey ws ≡ true) × (places_right t q ws ≡ true)
        back y =
            let r = right_state y.1.0 y.1.1 y.1.2 in
            rw y.1.3 (saved_shape y.0 y.1.1 r, words_survey survey y.0 y.1.1, saved_places y.1.1 r)
