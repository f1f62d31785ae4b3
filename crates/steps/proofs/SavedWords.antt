-- A state's words read back as the state, and words of the right shape are those of the state that they stand for: behind the year's word, and with it.
use Prim.Native.Nat.{ℕ, zero, suc, ◌+◌, ◌-◌, ◌*◌, ◌≤◌, ◌<◌}
use native.Mathlib.Omega.{arith}
use native.Mathlib.Numerals.{add-one}
use mathlib.Core.Path.{◌≡◌, refl, sym, ◌∙◌, ap, ap₂, subst}
use mathlib.Core.Bool.{Bool, true}
use mathlib.Core.List.{List, [], ◌∷◌, ◌++◌, append_assoc}
use lib.Dec.{ltb, leb, eqb}
use lib.ListN.{length, take, get_or, length-append}
use lib.Seq.{get_or_at, take-suc, take_all}
use borrow.Author.Tests.{ltb-true, leb-true, eqb-true, lt-ltb, le-leb, eq-eqb}
use Rattle.words.specs.Words.{kind, low, low_numbers, depths, survey_kind, year_kind, position_kind, place_kind, survey_word, year_word, position_word}
use Rattle.words.specs.Words.{place_word}
use Rattle.words.specs.Words.{branch_of, depth_of}
use Rattle.sequences.specs.Sequences.{all}
use Rattle.sequences.proofs.Booleans.{absurd_true, and_left, and_right, and_both}
use Rattle.sequences.proofs.Elements.{all_at_lem, all_append, all_tail, all_head}
use Rattle.tables.specs.Tables.{Tables}
use Rattle.plans.specs.Plans.{Plan, branch_at}
use Rattle.steps.specs.Levels.{has_level}
use Rattle.steps.specs.Positions.{Position}
use Rattle.steps.specs.Years.{is_year_read}
use Rattle.steps.specs.Steps.{State}
use Rattle.steps.specs.Saved.{upper_words, position_words, state_words, year_in, is_survey, is_year, is_place, position_right, shape_behind, shape_right}
use Rattle.steps.specs.Saved.{number_right, survey_right, upper_in, position_in, state_in}

-- a number that a word's low bits hold
abbrev pub fits_low : ℕ → Bool
fits_low n = ltb n low_numbers

-- a position whose words hold its numbers
pub record WordsFit (s : Position) : Type 0 where
  pub position : s.branch * depths + suc (length s.upper) < low_numbers
  pub depth : suc (length s.upper) < depths
  pub upper : all fits_low s.upper ≡ true
  pub place : s.place < low_numbers

-- ---- single words
low_place : (p : ℕ) → p < low_numbers → low (place_word p) ≡ p
low_place p h = omega arith

place_low : (w : ℕ) → kind w ≡ place_kind → place_word (low w) ≡ w
place_low w e = omega arith

is_place_lem : (p : ℕ) → p < low_numbers → is_place (place_word p) ≡ true
is_place_lem p h = eq-eqb (kind (place_word p)) place_kind (omega arith)

module _ (b d : ℕ) (h : b * depths + d < low_numbers) (l : d < depths) where
  branch_position : branch_of (position_word b d) ≡ b
  branch_position = omega arith

  depth_position : depth_of (position_word b d) ≡ d
  depth_position = omega arith

position_of_lem : (w : ℕ) → kind w ≡ position_kind → position_word (branch_of w) (depth_of w) ≡ w
position_of_lem w e = omega arith

-- ---- a position's words
pub upper_length : (upper : List ℕ) → length (upper_words upper) ≡ length upper
unfolding upper_words
upper_length [] = refl
upper_length (p ∷ upper) = omega (arith, length-append (upper_words upper) (place_word p ∷ []), upper_length upper)

pub position_length : (s : Position) → length (position_words s) ≡ suc (suc (length s.upper))
unfolding position_words
position_length s =
    omega (arith, length-append (upper_words s.upper) (place_word s.place ∷ []), upper_length s.upper)

-- the place word behind some upper places
word_behind : (w : ℕ) (upper : List ℕ) (x : ℕ) (rest : List ℕ) → get_or (w ∷ (upper_words upper ++ (x ∷ rest))) (length upper + 1) 0 ≡ x
word_behind w upper x rest = rw (add-one (length upper)) (get_or_at (upper_words upper) x rest 0 (length upper) (upper_length upper))

upper_back : (w : ℕ) (upper rest : List ℕ) → all fits_low upper ≡ true → upper_in (w ∷ (upper_words upper ++ rest)) (length upper) ≡ upper
unfolding upper_in upper_words
upper_back w [] rest e = refl
upper_back w (p ∷ upper) rest e =
    let f = ltb-true p low_numbers (all_head fits_low p upper e) in
    subst (λ ws. upper_in (w ∷ ws) (length (p ∷ upper)) ≡ p ∷ upper) (sym (append_assoc (upper_words upper) (place_word p ∷ []) rest))
    (ap₂ ◌∷◌ (ap low (word_behind w upper (place_word p) rest) ∙ low_place p f) (upper_back w upper (place_word p ∷ rest) (all_tail fits_low p upper e)))

-- what reads back is the position
pub position_back : (s : Position) → WordsFit s → position_in (position_words s) ≡ s
unfolding position_in position_words
position_back s f =
    let w = position_word s.branch (suc (length s.upper)) in
    let ws = position_words s in
    let d = depth_position s.branch (suc (length s.upper)) f.position f.depth in
    let above : depth_of w - 1 ≡ length s.upper = omega arith in
    let last : depth_of w ≡ length s.upper + 1 = omega arith in
    let branch_is = branch_position s.branch (suc (length s.upper)) f.position f.depth in
    let upper_is = ap (upper_in ws) above ∙ upper_back w s.upper (place_word s.place ∷ []) f.upper in
    let place_is =
    ap (λ n. low (get_or ws n 0)) last ∙ ap low (word_behind w s.upper (place_word s.place) []) ∙ low_place s.place f.place in
    λ i. record { branch = branch_is i; upper = upper_is i; place = place_is i }

places_right_lem : (upper : List ℕ) → all fits_low upper ≡ true → all is_place (upper_words upper) ≡ true
unfolding upper_words all
places_right_lem [] e = refl
places_right_lem (p ∷ upper) e =
    all_append is_place (upper_words upper) (place_word p ∷ []) (places_right_lem upper (all_tail fits_low p upper e))
    (and_both (is_place (place_word p)) true (is_place_lem p (ltb-true p low_numbers (all_head fits_low p upper e))) refl)

-- a position in the plan has words of the right shape
pub position_shape : (q : Plan) (s : Position) → WordsFit s → s.branch < length q.branches
    → has_level (branch_at q s.branch).terms (length s.upper) ≡ true → shape_behind q (position_words s) ≡ true
unfolding shape_behind position_words all
position_shape q s f b l =
    let w = position_word s.branch (suc (length s.upper)) in
    let d = depth_position s.branch (suc (length s.upper)) f.position f.depth in
    let c = branch_position s.branch (suc (length s.upper)) f.position f.depth in
    let k : kind w ≡ position_kind = omega (arith, f.position) in
    let above : length s.upper ≡ depth_of w - 1 = omega arith in
    let level : has_level (branch_at q (branch_of w)).terms (depth_of w - 1) ≡ true =
    subst (λ i. has_level (branch_at q i).terms (depth_of w - 1) ≡ true) (sym c)
    (subst (λ n. has_level (branch_at q s.branch).terms n ≡ true) above l) in
    and_both (position_right q w) _
    (and_both (eqb (kind w) position_kind) _ (eq-eqb (kind w) position_kind k)
    (and_both (ltb (branch_of w) (length q.branches)) _ (lt-ltb (branch_of w) (length q.branches) (omega arith))
    (and_both (leb 1 (depth_of w)) _ (le-leb 1 (depth_of w) (omega arith)) level)))
    (and_both (eqb (length (position_words s)) (1 + depth_of w)) _
    (eq-eqb (length (position_words s)) (1 + depth_of w) (omega (arith, position_length s)))
    (all_append is_place (upper_words s.upper) (place_word s.place ∷ []) (places_right_lem s.upper f.upper)
    (and_both (is_place (place_word s.place)) true (is_place_lem s.place f.place) refl)))

-- ---- words of the right shape
pub upper_in_length : (ws : List ℕ) (n : ℕ) → length (upper_in ws n) ≡ n
unfolding upper_in
upper_in_length ws zero = refl
upper_in_length ws (suc n) = ap suc (upper_in_length ws n)

upper_words_lem : (w : ℕ) (ps : List ℕ) (n : ℕ) → n ≤ length ps → all is_place ps ≡ true
    → upper_words (upper_in (w ∷ ps) n) ≡ take n ps
unfolding upper_in upper_words
upper_words_lem w ps zero h e = refl
upper_words_lem w ps (suc n) h e =
    let k = eqb-true (kind (get_or ps n 0)) place_kind (all_at_lem is_place ps n 0 e (omega arith)) in
    let x = place_low (get_or ps n 0) k in
    rw (add-one n, upper_words_lem w ps n (omega arith) e, x, take-suc ps n 0 (omega arith))

-- what test 9 says of words behind the year's
pub record WordsBehind (q : Plan) (ws : List ℕ) : Type 0 where
  pub branch : (position_in ws).branch < length q.branches
  pub level : has_level (branch_at q (position_in ws).branch).terms (length (position_in ws).upper) ≡ true
  pub words : position_words (position_in ws) ≡ ws

behind_in : (q : Plan) (w : ℕ) (ps : List ℕ) → position_right q w ≡ true → length ps ≡ depth_of w → all is_place ps ≡ true
    → WordsBehind q (w ∷ ps)
unfolding position_in position_words
behind_in q w ps e l a =
    let d = depth_of w in
    let k = eqb-true (kind w) position_kind (and_left (eqb (kind w) position_kind) _ e) in
    let f = and_right (eqb (kind w) position_kind) _ e in
    let g = and_right (ltb (branch_of w) (length q.branches)) _ f in
    let one = leb-true 1 d (and_left (leb 1 d) _ g) in
    let n = upper_in_length (w ∷ ps) (d - 1) in
    let back : position_word (branch_of w) (suc (length (upper_in (w ∷ ps) (d - 1)))) ≡ w = omega (arith, position_of_lem w k) in
    let last : d ≡ suc (d - 1) = omega arith in
    let kept : get_or (w ∷ ps) d 0 ≡ get_or ps (d - 1) 0 = ap (λ i. get_or (w ∷ ps) i 0) last in
    let x = place_low (get_or ps (d - 1) 0) (eqb-true (kind (get_or ps (d - 1) 0)) place_kind (all_at_lem is_place ps (d - 1) 0 a (omega arith))) in
    record {
      branch = ltb-true (branch_of w) (length q.branches) (and_left (ltb (branch_of w) (length q.branches)) _ f);
      level = subst (λ i. has_level (branch_at q (branch_of w)).terms i ≡ true) (sym n) (and_right (leb 1 d) _ g);
      words =
          ap₂ ◌∷◌ back
          (ap₂ (λ (xs : List ℕ) (y : ℕ). xs ++ (y ∷ [])) (upper_words_lem w ps (d - 1) (omega arith) a) (ap place_word (ap low kept) ∙ x)
          ∙ sym (take-suc ps (d - 1) 0 (omega arith)) ∙ take_all (suc (d - 1)) ps (omega arith));
    }

none_behind : {A : Type 0} (q : Plan) → shape_behind q [] ≡ true → A
unfolding shape_behind
none_behind q e = absurd_true refl (sym e)

behind_of : (q : Plan) (ws : List ℕ) → shape_behind q ws ≡ true → WordsBehind q ws
unfolding shape_behind
behind_of q [] e = none_behind q e
behind_of q (w ∷ ps) e =
    let f = and_right (position_right q w) _ e in
    let l = eqb-true (length (w ∷ ps)) (1 + depth_of w) (and_left (eqb (length (w ∷ ps)) (1 + depth_of w)) _ f) in
    behind_in q w ps (and_left (position_right q w) _ e) (omega arith) (and_right (eqb (length (w ∷ ps)) (1 + depth_of w)) _ f)

-- ---- with the survey's word and the year's
pub survey_kind_lem : (survey : ℕ) → survey < low_numbers → is_survey (survey_word survey) ≡ true
survey_kind_lem survey h = eq-eqb (kind (survey_word survey)) survey_kind (omega arith)

survey_low : (survey : ℕ) → survey < low_numbers → low (survey_word survey) ≡ survey
survey_low survey h = omega arith

survey_of_lem : (w : ℕ) → kind w ≡ survey_kind → survey_word (low w) ≡ w
survey_of_lem w e = omega arith

pub year_kind_lem : (year : ℕ) → year < low_numbers → is_year (year_word year) ≡ true
year_kind_lem year h = eq-eqb (kind (year_word year)) year_kind (omega arith)

pub year_low : (year : ℕ) → year < low_numbers → low (year_word year) ≡ year
year_low year h = omega arith

year_of_lem : (w : ℕ) → kind w ≡ year_kind → year_word (low w) ≡ w
year_of_lem w e = omega arith

-- what reads back is the state
pub state_back : (survey : ℕ) (s : State) → s.year < low_numbers → WordsFit s.position → state_in (state_words survey s) ≡ s
state_back survey s h f =
    let y = year_low s.year h in
    let p = position_back s.position f in
    λ i. record { year = y i; position = p i }

-- a state in the plan, of a year that is read, has words that pass tests 9 and 22
pub words_shape : (survey : ℕ) → survey < low_numbers → (t : Tables) (q : Plan) (s : State) → s.year < low_numbers
    → is_year_read t q.years s.year ≡ true → WordsFit s.position → s.position.branch < length q.branches
    → has_level (branch_at q s.position.branch).terms (length s.position.upper) ≡ true → shape_right t q (state_words survey s) ≡ true
words_shape survey h t q s g e f b l =
    let read : is_year_read t q.years (low (year_word s.year)) ≡ true = rw (year_low s.year g) e in
    and_both (is_survey (survey_word survey)) _ (survey_kind_lem survey h)
    (and_both (is_year (year_word s.year)) _ (year_kind_lem s.year g)
    (and_both (is_year_read t q.years (low (year_word s.year))) _ read (position_shape q s.position f b l)))

pub words_survey : (survey : ℕ) → survey < low_numbers → (s : State) → survey_right survey (state_words survey s) ≡ true
words_survey survey h s =
    and_both (number_right survey) _ (lt-ltb survey low_numbers h) (eq-eqb (low (survey_word survey)) survey (survey_low survey h))

-- what test 9 says of words
pub record Shape (t : Tables) (q : Plan) (ws : List ℕ) : Type 0 where
  pub year : is_year_read t q.years (year_in ws) ≡ true
  pub branch : (state_in ws).position.branch < length q.branches
  pub level : has_level (branch_at q (state_in ws).position.branch).terms (length (state_in ws).position.upper) ≡ true
  pub words : state_words (low (get_or ws 0 0)) (state_in ws) ≡ ws

pub shape_of : (t : Tables) (q : Plan) (ws : List ℕ) → shape_right t q ws ≡ true → Shape t q ws
shape_of t q [] e = absurd_true refl (sym e)
shape_of t q (w ∷ []) e =
    none_behind q (and_right (is_year_read t q.years 0) (shape_behind q []) (and_right (is_survey w) _ e))
shape_of t q (w ∷ y ∷ ws) e =
    let f = and_right (is_survey w) _ e in
    let g = and_right (is_year y) _ f in
    let b = behind_of q ws (and_right (is_year_read t q.years (low y)) (shape_behind q ws) g) in
    let k = eqb-true (kind w) survey_kind (and_left (is_survey w) _ e) in
    let l = eqb-true (kind y) year_kind (and_left (is_year y) _ f) in
    record {
      year = and_left (is_year_read t q.years (low y)) (shape_behind q ws) g;
      branch = b.branch;
      level = b.level;
      words = ap₂ ◌∷◌ (survey_of_lem w k) (ap₂ ◌∷◌ (year_of_lem y l) b.words);
    }

-- and test 22 after it
pub record OfSurvey (survey : ℕ) (ws : List ℕ) : Type 0 where
  pub few : survey < low_numbers
  pub same : low (get_or ws 0 0) ≡ survey

pub survey_right_lem : (survey : ℕ) (ws : List ℕ) → survey_right survey ws ≡ true → OfSurvey survey ws
survey_right_lem survey ws e =
    record {
      few = ltb-true survey low_numbers (and_left (number_right survey) _ e);
      same = eqb-true (low (get_or ws 0 0)) survey (and_right (number_right survey) _ e);
    }

pub words_under : (survey : ℕ) (t : Tables) (q : Plan) (ws : List ℕ) → shape_right t q ws ≡ true → survey_right survey ws ≡ true
    → state_words survey (state_in ws) ≡ ws
words_under survey t q ws e f =
    ap (λ n. state_words n (state_in ws)) (sym (survey_right_lem survey ws f).same) ∙ (shape_of t q ws e).words
