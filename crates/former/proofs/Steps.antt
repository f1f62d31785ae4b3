-- A step by the truth of conditions that there is now is the step; so where another truth keeps the same rows, the run is the same.
use Prim.Native.Nat.{ℕ, suc}
use mathlib.Core.Path.{◌≡◌, refl, ◌∙◌, ap}
use mathlib.Core.Bool.{Bool, true, false, cond}
use mathlib.Core.Option.{Option, none, some}
use mathlib.Core.List.{List, [], ◌∷◌}
use lib.Dec.{ltb}
use lib.ListN.{length, length-map, get_or-map}
use Rattle.words.specs.Bindings.{Bindings}
use Rattle.tables.specs.Tables.{Tables, Section, section}
use Rattle.tables.specs.Ranges.{range_start, range_end}
use Rattle.plans.specs.Branches.{no_branch}
use Rattle.plans.specs.Plans.{Plan, branch_at}
use Rattle.conditions.specs.Truth.{truth_of, keeps_row}
use Rattle.steps.specs.Levels.{has_level, passes, bindings, under}
use Rattle.steps.specs.Machines as machines
use Rattle.steps.specs.Machines.{moves, delivers, ends, goes_on}
use Rattle.steps.specs.Positions.{Position, start_of, onward, opened, after_branch, leave, deepest, passed, step_in, position_step}
use Rattle.steps.proofs.MachineRuns.{RowPasses}
use Rattle.steps.specs.Years.{next_year}
use Rattle.steps.specs.Steps.{State, in_year, start_next, to_next, step}
use Rattle.former.specs.Runs.{unconditioned, keeping_all, sifted, step_by}

-- ---- the branches of the plan that keeps every row
branch_there : (q : Plan) (i : ℕ) → branch_at (keeping_all q) i ≡ unconditioned (branch_at q i)
branch_there q i = get_or-map unconditioned q.branches i no_branch

-- ---- a position's step
-- a row that is kept where there is a further level, is delivered otherwise, or is not
sift_kept : {S R : Type 0} (keeps : R → Bool) (c p h : Bool) (b : R) (deeper on : S) (x y : machines.Step S R) → sifted keeps x ≡ y
    → sifted keeps (cond c (cond p (cond h (moves deeper) (delivers b on)) (moves on)) x)
    ≡ cond c (cond p (cond h (moves deeper) (cond (keeps b) (delivers b on) (moves on))) (moves on)) y
sift_kept keeps true true true b deeper on x y e = refl
sift_kept keeps true true false b deeper on x y e = refl
sift_kept keeps true false h b deeper on x y e = refl
sift_kept keeps false p h b deeper on x y e = e

same_start : (t : Section) (q : Plan) (i : ℕ) → start_of t (keeping_all q) i ≡ start_of t q i
same_start t q i =
    ap (λ br. record { branch = i; upper = []; place = range_start t.tables (under t br.terms []) }) (branch_there q i)

module _ (t : Section) (q : Plan) (s : Position) (keeps : Bindings → Bool) where
  sift_after : (i : ℕ) → sifted keeps (after_branch t (keeping_all q) i) ≡ after_branch t q i
  sift_after i =
      ap (λ n. sifted keeps (cond (ltb (suc i) n) (moves (start_of t (keeping_all q) (suc i))) ends)) (length-map q.branches unconditioned)
      ∙ go (ltb (suc i) (length q.branches))
    where
      go : (b : Bool) → sifted keeps (cond b (moves (start_of t (keeping_all q) (suc i))) ends) ≡ cond b (moves (start_of t q (suc i))) ends
      go true = ap moves (same_start t q (suc i))
      go false = refl

  sift_leave : (upper : List ℕ) → sifted keeps (leave t (keeping_all q) s.branch upper) ≡ leave t q s.branch upper
  unfolding leave
  sift_leave [] = sift_after s.branch
  sift_leave (place ∷ upper) = refl

-- with the condition of the branch as it is
sift_position : (t : Section) (q : Plan) (s : Position)
    → sifted (λ b. keeps_row b (branch_at q s.branch).condition) (position_step t (keeping_all q) s) ≡ position_step t q s
unfolding step_in passed deepest truth_of
sift_position t q s =
    let keeps : Bindings → Bool = λ b. keeps_row b (branch_at q s.branch).condition in
    let terms = (branch_at q s.branch).terms in
    ap (λ br. sifted keeps (step_in t (keeping_all q) br s)) (branch_there q s.branch)
    ∙ sift_kept keeps (ltb s.place (range_end t.tables (under t terms s.upper)))
    (passes t terms (length s.upper) s.place (bindings t terms s.upper)) (has_level terms (suc (length s.upper)))
    (bindings t terms (s.place ∷ s.upper)) (opened t terms s) (onward s) (leave t (keeping_all q) s.branch s.upper)
    (leave t q s.branch s.upper) (sift_leave t q s keeps s.upper)

-- ---- a step, from year to year
sift_goes : {S U R : Type 0} (keeps : R → Bool) (up : S → U) (x y : machines.Step U R) → sifted keeps x ≡ y → (z : machines.Step S R)
    → sifted keeps (goes_on up x z) ≡ goes_on up y (sifted keeps z)
sift_goes keeps up x y e (moves s) = refl
sift_goes keeps up x y e (delivers b s) = go (keeps b)
  where
    go : (c : Bool) → cond c (delivers b (up s)) (moves (up s)) ≡ goes_on up y (cond c (delivers b s) (moves s))
    go true = refl
    go false = refl
sift_goes keeps up x y e ends = e

module _ (t : Tables) (q : Plan) where
  -- the truth that there is now gives the step that there is
  pub step_by_truth : (s : State) → step_by keeps_row t q s ≡ step t q s
  step_by_truth s =
      let keeps : Bindings → Bool = λ b. keeps_row b (branch_at q s.position.branch).condition in
      sift_goes keeps (in_year s.year) (to_next t (keeping_all q) s.year) (to_next t q s.year) (next keeps (next_year t q.years s.year))
      (position_step (section t s.year) (keeping_all q) s.position)
      ∙ ap (goes_on (in_year s.year) (to_next t q s.year)) (sift_position (section t s.year) q s.position)
    where
      next : (keeps : Bindings → Bool) (o : Option ℕ) → sifted keeps (start_next t (keeping_all q) o) ≡ start_next t q o
      next keeps none = refl
      next keeps (some year) = ap (λ p. moves (in_year year p)) (same_start (section t year) q 0)

-- ---- where two tests keep the same of the rows that a step may deliver
pub sift_same : {S R : Type 0} (f g test : R → Bool) → ((b : R) → test b ≡ true → f b ≡ g b) → (x : machines.Step S R) → RowPasses test x
    → sifted f x ≡ sifted g x
sift_same f g test same (moves s) r = refl
sift_same f g test same (delivers b s) r = ap (λ c. cond c (delivers b s) (moves s)) (same b r)
sift_same f g test same ends r = refl
