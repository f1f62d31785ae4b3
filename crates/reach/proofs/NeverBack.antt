-- Along the run a query never goes back: each step leaves a state that is not behind the one before it, and so do any number of them.
use Prim.Native.Nat.{ℕ, zero, suc, ◌+◌, ◌-◌, ◌≤◌, ◌<◌}
use native.Mathlib.Omega.{arith}
use mathlib.Core.Path.{◌≡◌, refl, sym, ◌∙◌, ap, subst}
use mathlib.Core.Bool.{Bool, true, false, cond, ◌&&◌}
use mathlib.Core.Option.{Option, none, some}
use mathlib.Core.List.{List, [], ◌∷◌}
use lib.Dec.{eqb, ltb, leb}
use lib.ListN.{length}
use borrow.Author.Tests.{eqb-true, eqb-false, ne_eqb, lt-ltb, le-ltb, ltb-true, leb-true}
use Rattle.words.specs.Bindings.{Bindings}
use Rattle.words.proofs.Testing.{none_some, some_injective}
use Rattle.sequences.specs.Sequences.{count_below, iterate}
use Rattle.sequences.proofs.Counting.{count_mono}
use Rattle.sequences.proofs.Booleans.{absurd_true, and_left, and_right, and_both}
use Rattle.tables.specs.Tables.{Tables, Section, section, row_count}
use Rattle.tables.specs.Right.{Right}
use Rattle.tables.specs.Ranges.{range_start, range_end, between, in_range}
use Rattle.tables.specs.Years.{year_at, year_start, has_rows}
use Rattle.tables.proofs.Years.{has_row}
use Rattle.plans.specs.declared.Years.{Years}
use Rattle.plans.specs.declared.Years.TheVariants.{Latest, Every, Named}
use Rattle.plans.specs.Branches.{Branch}
use Rattle.plans.specs.Plans.{Plan, branch_at}
use Rattle.conditions.specs.Truth.{keeps_row}
use Rattle.steps.specs.Levels.{has_level, passes, bindings, under}
use Rattle.steps.specs.Positions.{Position, PositionStep, start_of, onward, opened, leave, deepest, passed, step_in, position_step}
use Rattle.steps.specs.Positions.{upper_right, last_right, state_right}
use Rattle.steps.specs.Machines.{goes_on, stepped, advanced}
use Rattle.steps.specs.Years.{next_year, is_year_read}
use Rattle.steps.specs.Steps.{State, Step, moves, delivers, ends, in_year, start_next, to_next, step, after}
use Rattle.steps.proofs.YearsRead.{follows, next_later, next_read, start_read}
use Rattle.reach.specs.Reach.{begins_year, years_before, year_number, outermost, first_range, Far, far_of, NotBehind, later_year, later_branch, further}

-- ---- within a year
outermost_on : (upper : List ℕ) (place : ℕ) → outermost upper place ≤ outermost upper (place + 1)
unfolding outermost
outermost_on [] place = omega arith
outermost_on (p ∷ upper) place = omega arith

-- in the same branch, with the first level's place as far, or in a later one
data Ahead (s p : Position) : Type 0 where
  same : p.branch ≡ s.branch → outermost s.upper s.place ≤ outermost p.upper p.place → Ahead s p
  later : s.branch < p.branch → Ahead s p

abbrev Goes : Position → PositionStep → Type 0
Goes s (moves p) = Ahead s p
Goes s (delivers b p) = Ahead s p
Goes s ends = Unit {0}

either_goes : (s : Position) (b : Bool) (x y : PositionStep) → Goes s x → Goes s y → Goes s (cond b x y)
either_goes s true x y g h = g
either_goes s false x y g h = h

module _ (t : Section) (q : Plan) where
  onward_goes : (s : Position) → Ahead s (onward s)
  onward_goes s = same refl (outermost_on s.upper s.place)

  leave_goes : (s : Position) (upper : List ℕ) → s.upper ≡ upper → Goes s (leave t q s.branch upper)
  unfolding leave outermost
  leave_goes s [] e = either_goes s (ltb (suc s.branch) (length q.branches)) (moves (start_of t q (suc s.branch))) ends (later (omega arith)) tt
  leave_goes s (p ∷ upper) e =
      let a = ap (λ u. outermost u s.place) e in
      let b = outermost_on upper p in
      same refl (omega arith)

  deepest_goes : (br : Branch) (b : Bindings) (s : Position) → Goes s (deepest br b s)
  unfolding deepest
  deepest_goes br b s =
      either_goes s (keeps_row b br.condition) (delivers b (onward s)) (moves (onward s)) (onward_goes s) (onward_goes s)

  passed_goes : (br : Branch) (s : Position) → Goes s (passed t br s)
  unfolding passed outermost
  passed_goes br s =
      either_goes s (has_level br.terms (suc (length s.upper))) (moves (opened t br.terms s))
      (deepest br (bindings t br.terms (s.place ∷ s.upper)) s)
      (same refl (omega arith)) (deepest_goes br (bindings t br.terms (s.place ∷ s.upper)) s)

  position_goes : (s : Position) → Goes s (position_step t q s)
  unfolding step_in
  position_goes s =
      let br = branch_at q s.branch in
      let shows = cond (passes t br.terms (length s.upper) s.place (bindings t br.terms s.upper)) (passed t br s) (moves (onward s)) in
      either_goes s (ltb s.place (range_end t.tables (under t br.terms s.upper))) shows (leave t q s.branch s.upper)
      (either_goes s (passes t br.terms (length s.upper) s.place (bindings t br.terms s.upper)) (passed t br s) (moves (onward s))
      (passed_goes br s) (onward_goes s))
      (leave_goes s s.upper refl)

-- ---- on to the next year
-- a test that passes wherever another does, and once more, counts more
count_more : (f g : ℕ → Bool) (i n : ℕ) → i < n → ((j : ℕ) → f j ≡ true → g j ≡ true)
    → f i ≡ false → g i ≡ true → count_below f n < count_below g n
unfolding count_below
count_more f g i zero l h a b = absurd (omega arith)
count_more f g i (suc n) l h a b =
    go (f n) refl (g n) refl (count_mono f g n (λ j k. h j)) (λ k. count_more f g i n k h a b)
  where
    go : (x : Bool) → f n ≡ x → (y : Bool) → g n ≡ y → count_below f n ≤ count_below g n → (i < n → count_below f n < count_below g n)
        → cond x (count_below f n + 1) (count_below f n) < cond y (count_below g n + 1) (count_below g n)
    go true p true r m k = let e : ¬ (i ≡ n) = λ z. absurd_true p (ap f (sym z) ∙ a) in let c = k (omega arith) in omega arith
    go true p false r m k = absurd_true (h n p) r
    go false p true r m k = omega arith
    go false p false r m k = let e : ¬ (i ≡ n) = λ z. absurd_true (ap g (sym z) ∙ b) r in let c = k (omega arith) in omega arith

module _ (t : Tables) (right : Right t) where
  -- the first row of a row's year
  first_row : (row : ℕ) → (i : ℕ) × ((i ≤ row) × (year_at t i ≡ year_at t row) × (begins_year t i ≡ true))
  first_row zero = (0, (omega arith, refl, refl))
  first_row (suc row) = go (eqb (year_at t (suc row)) (year_at t row)) refl (first_row row)
    where
      go : (b : Bool) → eqb (year_at t (suc row)) (year_at t row) ≡ b
          → (i : ℕ) × ((i ≤ row) × (year_at t i ≡ year_at t row) × (begins_year t i ≡ true))
          → (i : ℕ) × ((i ≤ suc row) × (year_at t i ≡ year_at t (suc row)) × (begins_year t i ≡ true))
      go true e r = (r.0, (omega (arith, r.1.0), r.1.1 ∙ sym (eqb-true (year_at t (suc row)) (year_at t row) e), r.1.2))
      go false e r =
          let d : suc row - 1 ≡ row = omega arith in
          (suc row, (omega arith, refl, rw (ne_eqb (suc row) 0 (λ z. omega arith), d, e) refl))

  next_number : (years : Years) (year next : ℕ) → is_year_read t years year ≡ true → next_year t years year ≡ some next
      → year_number t years year < year_number t years next
  unfolding years_before
  next_number Latest year next r e = absurd (none_some e)
  next_number (Named y) year next r e = absurd (none_some e)
  next_number Every year next r e =
      let f = follows t Every year next e in
      let some_rows : has_rows t year ≡ true
      = (let z : cond (eqb (row_count t) 0) (eqb year 0) (has_rows t year) ≡ true = r in rw (ne_eqb (row_count t) 0 (λ n. omega (arith, f.more))) at z) in
      let h = has_row t right year some_rows in
      let first = first_row (year_start t year) in
      let is : year_at t first.0 ≡ year = first.1.1 ∙ h.1 in
      let more = next_later t right Every year next e in
      count_more (λ row. begins_year t row && ltb (year_at t row) year) (λ row. begins_year t row && ltb (year_at t row) next)
      first.0 (row_count t) (omega (arith, first.1.0, h.0))
      (λ j p.
      let b = and_left (begins_year t j) (ltb (year_at t j) year) p in
      let l = ltb-true (year_at t j) year (and_right (begins_year t j) (ltb (year_at t j) year) p) in
      and_both (begins_year t j) (ltb (year_at t j) next) b (lt-ltb (year_at t j) next (omega arith)))
      (rw (first.1.2, is, le-ltb year year (omega arith)) refl)
      (and_both (begins_year t first.0) (ltb (year_at t first.0) next) first.1.2 (lt-ltb (year_at t first.0) next (omega arith)))

  -- ---- a step
  abbrev StateGoes : Plan → State → Step → Type 0
  StateGoes q s (moves p) = NotBehind (far_of t q s) (far_of t q p) × (is_year_read t q.years p.year ≡ true)
  StateGoes q s (delivers b p) = NotBehind (far_of t q s) (far_of t q p) × (is_year_read t q.years p.year ≡ true)
  StateGoes q s ends = Unit {0}

  module _ (q : Plan) (s : State) (read : is_year_read t q.years s.year ≡ true) where
    in_year_lem : (p : Position) → Ahead s.position p → NotBehind (far_of t q s) (far_of t q (in_year s.year p))
    in_year_lem p (later l) = later_branch refl l
    in_year_lem p (same e l) =
        let x : first_range t q s ≡ first_range t q (in_year s.year p)
        = ap (λ b. under (section t s.year) (branch_at q b).terms []) (sym e) in
        let a = ap (range_start t) x in
        let z = ap (range_end t) x in
        further refl (sym e) (omega arith) (omega arith)

    next_goes : (o : Option ℕ) → next_year t q.years s.year ≡ o → StateGoes q s (start_next t q o)
    next_goes none e = tt
    next_goes (some next) e =
        (later_year (next_number q.years s.year next read e), next_read t right q.years s.year next e)

    on_goes : (x : PositionStep) → Goes s.position x → StateGoes q s (goes_on (in_year s.year) (to_next t q s.year) x)
    on_goes (moves p) g = (in_year_lem p g, read)
    on_goes (delivers b p) g = (in_year_lem p g, read)
    on_goes ends g = next_goes (next_year t q.years s.year) refl

    step_goes : StateGoes q s (step t q s)
    step_goes = on_goes (position_step (section t s.year) q s.position) (position_goes (section t s.year) q s.position)

-- ---- any number of steps
not_behind : (a b c : Far) → NotBehind a b → NotBehind b c → NotBehind a c
not_behind a b c (later_year l) (later_year m) = later_year (omega arith)
not_behind a b c (later_year l) (later_branch e m) = later_year (omega arith)
not_behind a b c (later_year l) (further e f g m) = later_year (omega arith)
not_behind a b c (later_branch d l) (later_year m) = later_year (omega arith)
not_behind a b c (later_branch d l) (later_branch e m) = later_branch (d ∙ e) (omega arith)
not_behind a b c (later_branch d l) (further e f g m) = later_branch (d ∙ e) (omega arith)
not_behind a b c (further d i j l) (later_year m) = later_year (omega arith)
not_behind a b c (further d i j l) (later_branch e m) = later_branch (d ∙ e) (omega arith)
not_behind a b c (further d i j l) (further e f g m) = further (d ∙ e) (i ∙ f) (j ∙ g) (omega arith)

module _ (t : Tables) (right : Right t) (q : Plan) where
  by_step : (a b : State) (rows : List Bindings) (x : Step) → StateGoes t right q a x → (stepped rows x).state ≡ some b
      → NotBehind (far_of t q a) (far_of t q b) × (is_year_read t q.years b.year ≡ true)
  by_step a b rows (moves p) g e =
      subst (λ c. NotBehind (far_of t q a) (far_of t q c) × (is_year_read t q.years c.year ≡ true)) (some_injective e) g
  by_step a b rows (delivers r p) g e =
      subst (λ c. NotBehind (far_of t q a) (far_of t q c) × (is_year_read t q.years c.year ≡ true)) (some_injective e) g
  by_step a b rows ends g e = absurd (none_some e)

  -- the state that a step came from
  one_on : (o : Option State) (rows : List Bindings) (b : State) → ((s : State) → o ≡ some s → is_year_read t q.years s.year ≡ true)
      → (advanced (step t q) rows o).state ≡ some b
      → (a : State) × ((o ≡ some a) × NotBehind (far_of t q a) (far_of t q b) × (is_year_read t q.years b.year ≡ true))
  one_on none rows b r e = absurd (none_some e)
  one_on (some a) rows b r e =
      let x = by_step a b rows (step t q a) (step_goes t right q a (r a refl)) e in
      (a, (refl, x.0, x.1))

  -- every state of the run is of a year that is read
  run_read : (n : ℕ) (s : State) → (after t q n).state ≡ some s → is_year_read t q.years s.year ≡ true
  unfolding after iterate
  run_read zero s e = subst (λ (c : State). is_year_read t q.years c.year ≡ true) (some_injective e) (start_read t right q.years)
  run_read (suc n) s e = (one_on (after t q n).state (after t q n).delivered s (run_read n) e).1.2

  one_back : (n : ℕ) (b : State) → (after t q (suc n)).state ≡ some b
      → (a : State) × (((after t q n).state ≡ some a) × NotBehind (far_of t q a) (far_of t q b) × (is_year_read t q.years b.year ≡ true))
  unfolding after iterate
  one_back n b e = one_on (after t q n).state (after t q n).delivered b (run_read n) e

  at_once : (n m : ℕ)
      → n ≡ m → (a b : State) → (after t q n).state ≡ some a → (after t q m).state ≡ some b → NotBehind (far_of t q a) (far_of t q b)
  at_once n m z a b e f =
      subst (λ c. NotBehind (far_of t q a) (far_of t q c)) (some_injective (sym e ∙ ap (λ k. (after t q k).state) z ∙ f))
      (further refl refl refl (omega arith))

  -- For right tables and every plan: of two states of the run, the later one is not behind the earlier.
  pub never_back : (n m : ℕ) → n ≤ m → (a b : State) → (after t q n).state ≡ some a → (after t q m).state ≡ some b
      → NotBehind (far_of t q a) (far_of t q b)
  never_back n zero l a b e f = at_once n zero (omega arith) a b e f
  never_back n (suc m) l a b e f = go (eqb n (suc m)) refl (λ k c g. never_back n m k a c e g)
    where
      go : (x : Bool) → eqb n (suc m) ≡ x
          → (n ≤ m → (c : State) → (after t q m).state ≡ some c → NotBehind (far_of t q a) (far_of t q c)) → NotBehind (far_of t q a) (far_of t q b)
      go true p ih = at_once n (suc m) (eqb-true n (suc m) p) a b e f
      go false p ih =
          let d = eqb-false n (suc m) p in
          let x = one_back m b f in
          not_behind (far_of t q a) (far_of t q x.0) (far_of t q b) (ih (omega arith) x.0 x.1.0) x.1.1

-- ---- a right state has passed no more than there is
module _ (t : Section) (terms : List ℕ) where
  outermost_within : (upper : List ℕ) (place : ℕ) → upper_right t terms upper ≡ true
      → range_start t.tables (under t terms upper) ≤ place → place ≤ range_end t.tables (under t terms upper)
      → (range_start t.tables (under t terms []) ≤ outermost upper place) × (outermost upper place ≤ range_end t.tables (under t terms []))
  unfolding outermost upper_right in_range
  outermost_within [] place u l m = (l, m)
  outermost_within (p ∷ upper) place u l m =
      let r = and_right (upper_right t terms upper) _ u in
      let i = and_left (between (range_start t.tables (under t terms upper)) (range_end t.tables (under t terms upper)) p) _ r in
      let a = leb-true (range_start t.tables (under t terms upper)) p (and_left (leb (range_start t.tables (under t terms upper)) p) _ i) in
      let b = ltb-true p (range_end t.tables (under t terms upper)) (and_right (leb (range_start t.tables (under t terms upper)) p) _ i) in
      outermost_within upper p (and_left (upper_right t terms upper) _ u) a (omega arith)

-- a state that test 10 passes
pub passed_within : (t : Tables) (q : Plan) (s : State) → state_right (section t s.year) (branch_at q s.position.branch).terms s.position ≡ true
    → (far_of t q s).passed ≤ (far_of t q s).places
unfolding state_right
passed_within t q s e =
    let x = section t s.year in
    let terms = (branch_at q s.position.branch).terms in
    let u = and_left (upper_right x terms s.position.upper) (last_right x terms s.position) e in
    let l = and_right (upper_right x terms s.position.upper) (last_right x terms s.position) e in
    let lo = range_start x.tables (under x terms s.position.upper) in
    let hi = range_end x.tables (under x terms s.position.upper) in
    let w = outermost_within x terms s.position.upper s.position.place u
    (leb-true lo s.position.place (and_left (leb lo s.position.place) (leb s.position.place hi) l))
    (leb-true s.position.place hi (and_right (leb lo s.position.place) (leb s.position.place hi) l)) in
    omega (arith, w.0, w.1)
