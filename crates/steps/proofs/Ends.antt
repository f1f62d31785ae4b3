-- The uncut run ends, and passes through no state twice.
use Prim.Native.Nat.{ℕ, zero, suc, ◌+◌, ◌≤◌}
use native.Mathlib.Omega.{arith}
use mathlib.Core.Path.{◌≡◌, refl, ◌∙◌, ap}
use mathlib.Core.Option.{Option, none, some}
use mathlib.Core.List.{List}
use Rattle.words.specs.Tests.{first_failing}
use Rattle.tables.specs.Tables.{Tables, row_count, table_tests}
use Rattle.tables.specs.Years.{year_end}
use Rattle.tables.specs.Right as tables_right
use Rattle.tables.proofs.RightTables.{right}
use Rattle.plans.specs.Plans.{Plan, read_plan}
use Rattle.plans.proofs.Bounds.{PlanForm, plan_form}
use Rattle.steps.specs.Machines as machine
use Rattle.steps.specs.Years.{start_year, next_year}
use Rattle.steps.specs.Steps.{State, ends, step, start_in, start, start_next, after}
use Rattle.steps.proofs.MachineStates as states
use Rattle.steps.proofs.YearsRead.{follows, next_end}
use Rattle.steps.proofs.YearRuns.{Leads, leads_on, last_in, to_last_in, last_goes_on, to_next_lem}

-- how many steps the uncut run has: after them it is done, and before that it is at a state
abbrev pub RunLength : Tables → Plan → Type 0
RunLength t q = machine.RunLength (after t q)

module _ (t : Tables) (w : tables_right.Right t) (q : Plan) (form : PlanForm q) where
  -- a year leads to a state from which the next step is the last
  record Ending (year : ℕ) : Type 0 where
    pub last : State
    pub leads : Leads t q (start_in t q year) last
    pub final : step t q last ≡ ends

  no_more : (year : ℕ) → next_year t q.years year ≡ none → Ending year
  no_more year e =
      record {
        last = last_in t q year;
        leads = to_last_in t q year form;
        final = last_goes_on t q year form ∙ ap (start_next t q) e;
      }

  one_more_fact : (year next : ℕ) → next_year t q.years year ≡ some next → Ending next → Ending year
  one_more_fact year next e x =
      record {
        last = x.last;
        leads = leads_on t q (start_in t q year) (start_in t q next) x.last (to_next_lem t q form year next e) x.leads;
        final = x.final;
      }

  -- with at most `n` rows behind those of the year, which get fewer from year to year
  ending : (n year : ℕ) → row_count t ≤ n + year_end t year → Ending year
  ending zero year h = go (next_year t q.years year) refl
    where
      go : (o : Option ℕ) → next_year t q.years year ≡ o → Ending year
      go none e = no_more year e
      go (some next) e = absurd (omega (arith, (follows t q.years year next e).more))
  ending (suc n) year h = go (next_year t q.years year) refl (ending n)
    where
      go : (o : Option ℕ) → next_year t q.years year ≡ o → ((next : ℕ) → row_count t ≤ n + year_end t next → Ending next) → Ending year
      go none e ih = no_more year e
      go (some next) e ih = one_more_fact year next e (ih next (omega (arith, next_end t w q.years year next e)))

  pub run_length_lem : RunLength t q
  unfolding after
  run_length_lem =
      let x = ending (row_count t) (start_year t q.years) (omega arith) in
      states.ends_at (step t q) (start t q) x.last x.leads x.final

module _ (t : Tables) (q : Plan) where
  -- no state twice
  once : RunLength t q → (m n : ℕ) (s : State) → (after t q m).state ≡ some s → (after t q n).state ≡ some s → m ≡ n
  unfolding after
  once = states.once (step t q) (start t q)

-- ---- over accepted tables, of a plan that was read
module _ (t : Tables) (plan : List ℕ) (q : Plan) (tables : first_failing (table_tests t) ≡ none) (read : read_plan plan ≡ some q) where
  -- how many steps it has
  pub whole_length : RunLength t q
  whole_length = run_length_lem t (right t tables) q (plan_form plan q read)

  -- it ends
  pub run_ends : (n : ℕ) × ((after t q n).state ≡ none)
  run_ends = (whole_length.steps, whole_length.done)

  -- it is at no state twice
  pub states_distinct : (m n : ℕ) (s : State) → (after t q m).state ≡ some s → (after t q n).state ≡ some s → m ≡ n
  states_distinct = once t q whole_length
