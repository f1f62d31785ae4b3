-- Test 9 passes exactly the words that have the form of a state, whatever numbers of 28 bits their places are.
use Prim.Native.Nat.{ℕ, zero, suc, ◌+◌, ◌-◌, ◌*◌, ◌≤◌, ◌<◌}
use native.Mathlib.Omega.{arith}
use mathlib.Core.Path.{◌≡◌, refl, sym, ap₂}
use mathlib.Core.Logic.{◌↔◌}
use mathlib.Core.Bool.{Bool, true, false, cond}
use mathlib.Core.Option.{some}
use mathlib.Core.List.{List, [], ◌∷◌, map}
use lib.Dec.{eqb, ltb, leb}
use lib.ListN.{length, get_or, length-map}
use borrow.Author.Tests.{ltb-true, lt-ltb, leb-true, le-leb, eqb-true, eqb-false, eq-eqb, ne_eqb}
use Rattle.words.specs.Words.{kind, low, low_numbers, survey_kind, year_kind, position_kind, place_kind, survey_word, year_word, position_word, place_word}
use Rattle.words.specs.Words.{branch_of, depth_of}
use Rattle.sequences.specs.Sequences.{all}
use Rattle.sequences.proofs.Booleans.{absurd_true, and_left, and_right, and_both}
use Rattle.sequences.proofs.Elements.{all_cons, all_head, all_tail}
use Rattle.tables.specs.Tables.{Tables, row_count}
use Rattle.tables.specs.Right.{Right}
use Rattle.tables.specs.Years.{year_at, year_start, has_rows}
use Rattle.tables.proofs.Years.{row_has, has_row}
use Rattle.plans.specs.declared.Years.{Years}
use Rattle.plans.specs.declared.Years.TheVariants.{Latest, Every, Named}
use Rattle.plans.specs.Branches.{pattern_width}
use Rattle.plans.specs.Plans.{Plan, read_plan, branch_at}
use Rattle.plans.proofs.Bounds.{PlanForm, plan_form}
use Rattle.steps.specs.Levels.{has_level}
use Rattle.steps.specs.Years.{is_year_read}
use Rattle.steps.specs.Saved.{is_survey, is_year, is_place, position_right, shape_behind, shape_right}
use Rattle.steps.proofs.YearsRead.{names_low, read_low}
use Rattle.steps.specs.StateForms.{of_row_fact, of_none, YearRead, StateForm}

-- ---- the years that are read
module _ (t : Tables) (w : Right t) (year : ℕ) where
  told_read : (years : Years) → YearRead t years year → is_year_read t years year ≡ true
  told_read Latest (of_row_fact row e y) =
      let last : row ≡ row_count t - 1 = omega arith in
      rw (ne_eqb (row_count t) 0 (λ z. omega arith), ← last) (eq-eqb year (year_at t row) y)
  told_read Latest (of_none e y) = rw (e, y)
  told_read Every (of_row_fact row l y) = rw (ne_eqb (row_count t) 0 (λ z. omega arith)) (row_has t w year row l (sym y))
  told_read Every (of_none e y) = rw (e, y)
  told_read (Named n) y = eq-eqb year n y

  read_told : (years : Years) → is_year_read t years year ≡ true → YearRead t years year
  read_told Latest e = go (eqb (row_count t) 0) refl (eqb-true year _ e)
    where
      go : (b : Bool) → eqb (row_count t) 0 ≡ b → year ≡ cond b 0 (year_at t (row_count t - 1)) → YearRead t Latest year
      go true p y = of_none (eqb-true (row_count t) 0 p) y
      go false p y = let n = eqb-false (row_count t) 0 p in of_row_fact (row_count t - 1) (omega arith) y
  read_told Every e = go (eqb (row_count t) 0) refl e
    where
      go : (b : Bool) → eqb (row_count t) 0 ≡ b → cond b (eqb year 0) (has_rows t year) ≡ true → YearRead t Every year
      go true p y = of_none (eqb-true (row_count t) 0 p) (eqb-true year 0 y)
      go false p y = let r = has_row t w year y in of_row_fact (year_start t year) r.0 (sym r.1)
  read_told (Named n) e = eqb-true year n e

-- ---- places
-- words of places are those of their numbers, which have 28 bits
places_back : (ps : List ℕ) → all is_place ps ≡ true → map place_word (map low ps) ≡ ps
unfolding all
places_back [] e = refl
places_back (p ∷ ps) e =
    let k = eqb-true (kind p) place_kind (all_head is_place p ps e) in
    let x : place_word (low p) ≡ p = omega arith in
    ap₂ ◌∷◌ x (places_back ps (all_tail is_place p ps e))

low_places : (ps : List ℕ) (i : ℕ) → i < length (map low ps) → get_or (map low ps) i 0 < low_numbers
low_places [] i l = absurd (omega arith)
low_places (p ∷ ps) zero l = omega arith
low_places (p ∷ ps) (suc i) l = low_places ps i (omega arith)

-- the word of any number of 28 bits is a place's
all_places : (ps : List ℕ) → ((i : ℕ) → i < length ps → get_or ps i 0 < low_numbers) → all is_place (map place_word ps) ≡ true
unfolding all
all_places [] h = refl
all_places (p ∷ ps) h =
    let l = h 0 (omega arith) in
    all_cons is_place (place_word p) (map place_word ps) (eq-eqb (kind (place_word p)) place_kind (omega arith))
    (all_places ps (λ i k. h (suc i) (omega arith)))

-- ---- over accepted tables and a plan that was read
module _ (t : Tables) (right : Right t) (plan : List ℕ) (q : Plan) (read : read_plan plan ≡ some q) where
  abbrev form : PlanForm q
  form = plan_form plan q read

  -- words that pass
  behind_form : (w y p : ℕ) (ps : List ℕ) → kind w ≡ survey_kind → kind y ≡ year_kind → is_year_read t q.years (low y) ≡ true
      → shape_behind q (p ∷ ps) ≡ true → StateForm t q (w ∷ y ∷ p ∷ ps)
  unfolding shape_behind
  behind_form w y p ps k l e s =
      let a = and_left (position_right q p) _ s in
      let b = and_right (position_right q p) _ s in
      let len = eqb-true (length (p ∷ ps)) (1 + depth_of p) (and_left (eqb (length (p ∷ ps)) (1 + depth_of p)) _ b) in
      let places = and_right (eqb (length (p ∷ ps)) (1 + depth_of p)) _ b in
      let kp = eqb-true (kind p) position_kind (and_left (eqb (kind p) position_kind) _ a) in
      let f = and_right (eqb (kind p) position_kind) _ a in
      let there = ltb-true (branch_of p) (length q.branches) (and_left (ltb (branch_of p) (length q.branches)) _ f) in
      let g = and_right (ltb (branch_of p) (length q.branches)) _ f in
      let one = leb-true 1 (depth_of p) (and_left (leb 1 (depth_of p)) _ g) in
      let level = ltb-true ((depth_of p - 1) * pattern_width) (length (branch_at q (branch_of p)).terms) (and_right (leb 1 (depth_of p)) _ g) in
      let n = length-map ps low in
      let wide = (form.branch (branch_of p) there).width in
      let survey-is : w ≡ survey_word (low w) = omega arith in
      let year_is : y ≡ year_word (low y) = omega arith in
      let position-is : p ≡ position_word (branch_of p) (length (map low ps)) = omega arith in
      record {
        survey = low w;
        year = low y;
        branch = branch_of p;
        places = map low ps;
        words = ap₂ ◌∷◌ survey-is (ap₂ ◌∷◌ year_is (ap₂ ◌∷◌ position-is (sym (places_back ps places))));
        numbered = omega arith;
        read = read_told t right (low y) q.years e;
        has_branch = there;
        some_place = omega arith;
        has_levels = omega arith;
        any_place = low_places ps;
      }

  none_behind : {A : Type 0} → shape_behind q [] ≡ true → A
  unfolding shape_behind
  none_behind e = absurd_true refl (sym e)

  shape_form : (ws : List ℕ) → shape_right t q ws ≡ true → StateForm t q ws
  shape_form [] e = absurd_true refl (sym e)
  shape_form (w ∷ []) e =
      none_behind (and_right (is_year_read t q.years 0) (shape_behind q []) (and_right (is_survey w) _ e))
  shape_form (w ∷ y ∷ []) e =
      none_behind (and_right (is_year_read t q.years (low y)) (shape_behind q []) (and_right (is_year y) _ (and_right (is_survey w) _ e)))
  shape_form (w ∷ y ∷ p ∷ ps) e =
      let f = and_right (is_survey w) _ e in
      let g = and_right (is_year y) _ f in
      behind_form w y p ps (eqb-true (kind w) survey_kind (and_left (is_survey w) _ e)) (eqb-true (kind y) year_kind (and_left (is_year y) _ f))
      (and_left (is_year_read t q.years (low y)) (shape_behind q (p ∷ ps)) g)
      (and_right (is_year_read t q.years (low y)) (shape_behind q (p ∷ ps)) g)

  -- words of the form
  module _ (branch : ℕ) (places : List ℕ) (there : branch < length q.branches) (one : 1 ≤ length places)
      (levels : length places * pattern_width ≤ length (branch_at q branch).terms) where
    abbrev p : ℕ
    p = position_word branch (length places)

    small : (branch < 4) × (length places ≤ 8)
    small = let b = form.branch branch there in (omega (arith, form.most), omega (arith, b.width, b.most))

    branch_is : branch_of p ≡ branch
    branch_is = omega (arith, small.0, small.1)

    depth_is : depth_of p ≡ length places
    depth_is = omega (arith, small.0, small.1)

    position_right_lem : position_right q p ≡ true
    position_right_lem =
        let k : kind p ≡ position_kind = omega (arith, small.0, small.1) in
        let level : has_level (branch_at q (branch_of p)).terms (depth_of p - 1) ≡ true = rw (branch_is, depth_is)
        (lt-ltb ((length places - 1) * pattern_width) (length (branch_at q branch).terms) (omega arith)) in
        and_both (eqb (kind p) position_kind) _ (eq-eqb (kind p) position_kind k)
        (and_both (ltb (branch_of p) (length q.branches)) _ (lt-ltb (branch_of p) (length q.branches) (omega (arith, branch_is)))
        (and_both (leb 1 (depth_of p)) _ (le-leb 1 (depth_of p) (omega (arith, depth_is))) level))

    form_behind : ((i : ℕ) → i < length places → get_or places i 0 < low_numbers) → shape_behind q (p ∷ map place_word places) ≡ true
    unfolding shape_behind
    form_behind any =
        and_both (position_right q p) _ position_right_lem
        (and_both (eqb (length (p ∷ map place_word places)) (1 + depth_of p)) _
        (eq-eqb (length (p ∷ map place_word places)) (1 + depth_of p) (omega (arith, length-map places place_word, depth_is)))
        (all_places places any))

  form_shape : (ws : List ℕ) → StateForm t q ws → shape_right t q ws ≡ true
  form_shape ws f =
      let w = survey_word f.survey in
      let y = year_word f.year in
      let r = told_read t right f.year q.years f.read in
      let few = read_low t right q.years (names_low plan q read) f.year r in
      let h = f.numbered in
      let low-is : low y ≡ f.year = omega arith in
      let is_read_fact : is_year_read t q.years (low y) ≡ true = rw low-is r in
      rw f.words
      (and_both (is_survey w) _ (eq-eqb (kind w) survey_kind (omega arith))
      (and_both (is_year y) _ (eq-eqb (kind y) year_kind (omega arith))
      (and_both (is_year_read t q.years (low y)) _ is_read_fact
      (form_behind f.branch f.places f.has_branch f.some_place f.has_levels f.any_place))))

  -- test 9 of words
  pub form_when : (ws : List ℕ) → (shape_right t q ws ≡ true) ↔ StateForm t q ws
  form_when ws = (shape_form ws, form_shape ws)
