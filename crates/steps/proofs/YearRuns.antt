-- The run over years: within a year it is the run over its rows, and where that is done the next year's starts. So the start leads to every right
-- state, and the run's rows are those of each year in turn.
use Prim.Native.Nat.{ℕ}
use mathlib.Core.Path.{◌≡◌, refl, sym, ◌∙◌, ap, subst}
use mathlib.Core.Bool.{true}
use mathlib.Core.Option.{none, some}
use mathlib.Core.List.{List, [], append-nil}
use borrow.Author.Tests.{eqb-true}
use Rattle.words.specs.Bindings.{Bindings}
use Rattle.tables.specs.Tables.{Tables, section}
use Rattle.tables.specs.Right as tables_right
use Rattle.plans.specs.declared.Years.{Years}
use Rattle.plans.specs.declared.Years.TheVariants.{Latest, Every, Named}
use Rattle.plans.specs.Plans.{Plan}
use Rattle.plans.proofs.Bounds.{PlanForm}
use Rattle.steps.specs.Machines as machine
use Rattle.steps.specs.Machines.{Stretch}
use Rattle.steps.specs.Positions.{Position, start_of, position_step}
use Rattle.steps.specs.Years.{first_year, latest_year, start_year, next_year, is_year_read}
use Rattle.steps.specs.Steps.{State, in_year, start_in, start, start_next, to_next, step, after}
use Rattle.steps.proofs.MachineStates as states
use Rattle.steps.proofs.GoingOn.{leads_lifts, over}
use Rattle.steps.proofs.Reached as positions
use Rattle.steps.proofs.Reached.{last_position, to_last, last_ends}
use Rattle.steps.proofs.YearsRead.{of_read}
use Rattle.steps.proofs.RightStates.{RightState}

-- some number of steps leads from one state to another
abbrev pub Leads : Tables → Plan → State → State → Type 0
Leads t q a b = machine.Leads (step t q) a b

module _ (t : Tables) (q : Plan) where
  pub leads_here : (a : State) → Leads t q a a
  leads_here = states.leads_here (step t q)

  pub leads_on : (a b c : State) → Leads t q a b → Leads t q b c → Leads t q a c
  leads_on = states.leads_on (step t q)

  -- ---- within a year
  module _ (year : ℕ) where
    within : (a b : Position) → positions.Leads (section t year) q a b → Leads t q (in_year year a) (in_year year b)
    within = leads_lifts (position_step (section t year) q) (step t q) (in_year year) (to_next t q year) (λ s. refl)

    -- its last state, from which the next step goes on
    abbrev pub last_in : State
    last_in = in_year year (last_position (section t year) q)

    pub to_last_in : PlanForm q → Leads t q (start_in t q year) last_in
    to_last_in form = within (start_of (section t year) q 0) (last_position (section t year) q) (to_last (section t year) q form)

    pub last_goes_on : PlanForm q → step t q last_in ≡ to_next t q year
    last_goes_on form = ap (machine.goes_on (in_year year) (to_next t q year)) (last_ends (section t year) q form)

    -- the rows of the year from a position on, and then the next year or the end
    module _ {a : Position} {rows : List Bindings} (l : Stretch (position_step (section t year) q) a none rows) where
      pub year_moves : {next : ℕ} → next_year t q.years year ≡ some next → Stretch (step t q) (in_year year a) (some (start_in t q next)) rows
      year_moves {next} e =
          let x = over (position_step (section t year) q) (step t q) (in_year year) (to_next t q year) (λ s. refl) l in
          subst (Stretch (step t q) (in_year year a) (some (start_in t q next))) (append-nil rows)
          (states.stretch_on (step t q) x.stretch (states.stretch_moves (step t q) (x.step ∙ ap (start_next t q) e)))

      pub year_ends : next_year t q.years year ≡ none → Stretch (step t q) (in_year year a) none rows
      year_ends e =
          let x = over (position_step (section t year) q) (step t q) (in_year year) (to_next t q year) (λ s. refl) l in
          subst (Stretch (step t q) (in_year year a) none) (append-nil rows)
          (states.stretch_on (step t q) x.stretch (states.stretch_ends (step t q) (x.step ∙ ap (start_next t q) e)))

  -- ---- from year to year
  module _ (form : PlanForm q) where
    pub to_next_lem : (year next : ℕ) → next_year t q.years year ≡ some next → Leads t q (start_in t q year) (start_in t q next)
    to_next_lem year next e =
        leads_on (start_in t q year) (last_in year) (start_in t q next) (to_last_in year form)
        (states.leads_step (step t q) (last_in year) (start_in t q next) (to_next t q year) (last_goes_on year form)
        (ap (λ o. (machine.stepped [] (start_next t q o)).state) e))

    module _ (w : tables_right.Right t) where
      -- the start leads to that of every year that is read
      to_read : (years : Years) → q.years ≡ years → (year : ℕ) → is_year_read t years year ≡ true
          → Leads t q (start_in t q (start_year t years)) (start_in t q year)
      to_read Latest p year e =
          subst (λ y. Leads t q (start_in t q (latest_year t)) (start_in t q y)) (sym (eqb-true year (latest_year t) e))
          (leads_here (start_in t q (latest_year t)))
      to_read (Named n) p year e =
          subst (λ y. Leads t q (start_in t q n) (start_in t q y)) (sym (eqb-true year n e)) (leads_here (start_in t q n))
      to_read Every p year e =
          of_read t w (λ y. Leads t q (start_in t q (first_year t)) (start_in t q y)) (leads_here (start_in t q (first_year t)))
          (λ y z f l. leads_on (start_in t q (first_year t)) (start_in t q y) (start_in t q z) l
          (to_next_lem y z (subst (λ ys. next_year t ys y ≡ some z) (sym p) f))) year e

      -- and so to each right state
      pub reached : (s : State) → RightState t q s → (n : ℕ) × ((after t q n).state ≡ some s)
      unfolding after
      reached s r =
          leads_on (start t q) (start_in t q s.year) s (to_read q.years refl s.year r.year)
          (within s.year (start_of (section t s.year) q 0) s.position (positions.reached (section t s.year) q s.position r.position))
