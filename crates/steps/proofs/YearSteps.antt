-- The steps of the run over years are those of each year's run, added up: going on to the next year is the step that would have been done.
use Prim.Native.Nat.{ℕ, ◌+◌, ◌-◌, ◌<◌}
use native.Mathlib.Omega.{arith}
use native.Mathlib.Decide.{dec_lt}
use mathlib.Core.Path.{◌≡◌, refl, ◌∙◌, ap, subst}
use mathlib.Core.Option.{some}
use mathlib.Core.List.{List, [], ◌∷◌}
use Rattle.tables.specs.Tables.{Tables, section}
use Rattle.plans.specs.Plans.{Plan}
use Rattle.plans.proofs.Bounds.{PlanForm}
use Rattle.steps.specs.Machines.{stepped, run_from, RunLength}
use Rattle.steps.specs.Positions.{start_of, position_step}
use Rattle.steps.specs.Years.{start_year}
use Rattle.steps.specs.Steps.{State, Run, in_year, start_in, start_next, to_next, step, after}
use Rattle.steps.proofs.MachineRuns.{from_add}
use Rattle.steps.proofs.MachineStates.{ends_at}
use Rattle.steps.proofs.GoingOn.{going_lifts, length_lifts}
use Rattle.steps.proofs.Reached.{last_position, to_last, last_ends}
use Rattle.steps.proofs.YearLists.{ReadsYears, lastly, further}

-- the length of a year's run, from the start of its first branch to its end
abbrev pub YearLength : Tables → Plan → ℕ → Type 0
YearLength t q year = RunLength (run_from (position_step (section t year) q) (start_of (section t year) q 0))

-- there is one, of every plan that was read
pub year_length : (t : Tables) (q : Plan) → PlanForm q → (year : ℕ) → YearLength t q year
year_length t q form year =
    ends_at (position_step (section t year) q) (start_of (section t year) q 0) (last_position (section t year) q)
    (to_last (section t year) q form) (last_ends (section t year) q form)

and_none : (n : ℕ) → n ≡ n + 0
and_none n = omega arith

module _ (t : Tables) (q : Plan) (lengths : (year : ℕ) → YearLength t q year) where
  -- of some years together
  unfoldable pub steps_over : List ℕ → ℕ
  steps_over [] = 0
  steps_over (year ∷ years) = (lengths year).steps + steps_over years

  -- a run from the state `s` that is done after `n` steps
  abbrev Takes : State → ℕ → Type 0
  Takes s n = (r : RunLength (run_from (step t q) s)) × (r.steps ≡ n)

  -- within a year it is under way; after its length it is where the next one starts, or done
  year_going : (year n : ℕ) → n < (lengths year).steps → (s : State) × ((run_from (step t q) (start_in t q year) n).state ≡ some s)
  year_going year =
      going_lifts (position_step (section t year) q) (step t q) (in_year year) (to_next t q year) (λ s. refl) (start_of (section t year) q 0) (lengths year)

  year_over : (year : ℕ) → (run_from (step t q) (start_in t q year) (lengths year).steps).state ≡ (stepped [] (to_next t q year)).state
  year_over year =
      length_lifts (position_step (section t year) q) (step t q) (in_year year) (to_next t q year) (λ s. refl) (start_of (section t year) q 0) (lengths year)

  pub steps_in_turn : (year : ℕ) (years : List ℕ) → ReadsYears t q.years year years → Takes (start_in t q year) (steps_over years)
  unfolding steps_over
  steps_in_turn year years (lastly y e) = (
    record { steps = (lengths y).steps; done = year_over y ∙ ap (λ o. (stepped [] (start_next t q o)).state) e; going = year_going y },
    and_none (lengths y).steps,
  )
  steps_in_turn year years (further y next rest e r) = go (steps_in_turn next rest r)
    where
      there : (run_from (step t q) (start_in t q y) (lengths y).steps).state ≡ some (start_in t q next)
      there = year_over y ∙ ap (λ o. (stepped [] (start_next t q o)).state) e

      on : (n : ℕ) → (run_from (step t q) (start_in t q y) ((lengths y).steps + n)).state ≡ (run_from (step t q) (start_in t q next) n).state
      on n = ap (λ (r : Run). r.state) (from_add (step t q) (start_in t q y) (start_in t q next) (lengths y).steps n there)

      go : Takes (start_in t q next) (steps_over rest) → Takes (start_in t q y) (steps_over (y ∷ rest))
      go (l, p) = (
        record {
          steps = (lengths y).steps + l.steps;
          done = on l.steps ∙ l.done;
          going = λ n h.
              elim (dec_lt n (lengths y).steps) [
                | yes a ↦ year_going y n a
                | no a ↦
                    let x = l.going (n - (lengths y).steps) (omega arith) in
                    let d : (lengths y).steps + (n - (lengths y).steps) ≡ n = omega arith in
                    (x.0, subst (λ m. (run_from (step t q) (start_in t q y) m).state ≡ some x.0) d (on (n - (lengths y).steps) ∙ x.1))
              ];
        },
        ap (λ n. (lengths y).steps + n) p,
      )

  -- the uncut run, over the years that it reads
  pub year_steps : (years : List ℕ) → ReadsYears t q.years (start_year t q.years) years
      → (r : RunLength (after t q)) × (r.steps ≡ steps_over years)
  unfolding after
  year_steps years r = steps_in_turn (start_year t q.years) years r
