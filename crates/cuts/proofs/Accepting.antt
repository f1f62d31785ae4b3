-- What an opening that is served says of its tables and its plan: no test on them refuses.
use Prim.Native.Nat.{ℕ}
use mathlib.Core.Bool.{Bool, ◌&&◌}
use mathlib.Core.List.{List, ◌++◌}
use lib.Dec.{eqb}
use lib.ListN.{length}
use Rattle.words.specs.Words.{is_value}
use Rattle.words.specs.Bindings.{Bindings, variable_count}
use Rattle.sequences.specs.Sequences.{all}
use Rattle.sequences.proofs.Booleans.{and_right}
use Rattle.words.proofs.Testing.{all_passes, front_passes, rest_passes}
use Rattle.tables.specs.Tables.{Tables, table_tests}
use Rattle.plans.specs.Plans.{read_plan, plan_of, plan_tests}
use Rattle.plans.proofs.Bounds.{PlanForm, plan_form, was_read}
use Rattle.steps.specs.Steps.{after}
use Rattle.steps.proofs.Values.{after_valued}
use Rattle.sequences.proofs.Each.{all_each}
use Rattle.sequences.proofs.EachMore.{each_weaken}
use Rattle.lists.proofs.Values.{AllValues}
use Rattle.lists.proofs.Gatherings.{Gathering, gathering}
use Rattle.turns.specs.Surveys.{Survey}
use Rattle.turns.specs.Opening.{open_input, own_open_tests, Opens}
use Rattle.turns.proofs.Opening.{open_refusals, open_passed}
use Rattle.cuts.specs.Accepting.{Accepted}

pub opening_accepts : (v : Survey) (plan state : List ℕ) → Opens v plan state → Accepted v.tables plan
opening_accepts v plan state o =
    record {
      tables = all_passes (table_tests v.tables)
          (front_passes (table_tests v.tables) (plan_tests plan ++ own_open_tests (open_input v plan state))
          ((open_refusals v plan state).served.0 o));
      read = was_read (read_plan plan) (open_passed v plan state 5 o);
      variables = open_passed v plan state 6 o;
      years = (front_passes (plan_tests plan) (own_open_tests (open_input v plan state))
          (rest_passes (table_tests v.tables) (plan_tests plan ++ own_open_tests (open_input v plan state)) ((open_refusals v plan state).served.0 o))).1.1.0;
    }

module _ (t : Tables) (plan : List ℕ) (a : Accepted t plan) where
  pub accepted_form : PlanForm (plan_of plan)
  accepted_form = plan_form plan (plan_of plan) a.read

  pub accepted_gathering : Gathering (plan_of plan).ending
  accepted_gathering = gathering (plan_of plan).ending accepted_form.ending

  -- the uncut run delivers rows of values
  pub accepted_values : (n : ℕ) → AllValues (after t (plan_of plan) n).delivered
  accepted_values n =
      let row : Bindings → Bool = λ b. eqb (length b) variable_count && all is_value b in
      let bs = (after t (plan_of plan) n).delivered in
      each_weaken (λ (b : Bindings). and_right (eqb (length b) variable_count) (all is_value b)) bs
      (all_each row bs (after_valued t (plan_of plan) a.tables n))
