-- What test 6 says of a plan that was read: its variables are ?0 to ?15, and each is bound where it must be.
use Prim.Native.Nat.{ℕ, zero, suc}
use mathlib.Core.Path.{◌≡◌, refl, sym}
use mathlib.Core.Bool.{Bool, true, false, ◌&&◌, ◌||◌, not}
use mathlib.Core.Option.{some}
use mathlib.Core.List.{List, [], ◌∷◌}
use lib.Dec.{ltb}
use Rattle.words.specs.Words.{is_variable, term_value}
use Rattle.words.specs.Bindings.{variable_count}
use Rattle.sequences.specs.Sequences.{all, member, distinct}
use Rattle.sequences.proofs.Booleans.{and_left, and_right, and_both, absurd_true}
use Rattle.sequences.proofs.Elements.{member_all}
use Rattle.plans.specs.Conditions.{all_bound}
use Rattle.plans.specs.Branches.{Branch, term_right, branch_right, binds, nth_branch}
use Rattle.plans.specs.Endings.{Ending, rows, top, group, registers, key_among, ending_right}
use Rattle.plans.specs.Plans.{Plan, read_plan, variables_right, branch_at}
use Rattle.plans.proofs.Bounds.{EndingForm, plan_form}

-- a word is a variable from ?0 to ?15 that some branch binds
abbrev pub bound_variable : List Branch → ℕ → Bool
bound_variable bs w = is_variable w && (ltb (term_value w) variable_count && binds bs w)

-- all of them such variables, and all different
abbrev pub VariablesRight : List Branch → List ℕ → Type 0
VariablesRight bs vs = (all (bound_variable bs) vs ≡ true) × (distinct vs ≡ true)

abbrev pub EndingVariables : List Branch → Ending → Type 0
EndingVariables bs (rows vs) = VariablesRight bs vs
EndingVariables bs (top k vs keys) = VariablesRight bs vs × (all (key_among vs) keys ≡ true)
EndingVariables bs (group vs m) = VariablesRight bs vs × (bound_variable bs m ≡ true)
EndingVariables bs (registers v) = bound_variable bs v ≡ true

-- what test 6 says of a plan: no term of a branch is a variable above ?15, and each variable is bound where it must be
pub record PlanVariables (q : Plan) : Type 0 where
  pub terms : (i : ℕ) → all term_right (branch_at q i).terms ≡ true
  pub conditions : (i : ℕ) → all_bound (branch_at q i).terms (branch_at q i).condition ≡ true
  pub ending : EndingVariables q.branches q.ending

bound_right : (bs : List Branch) (w : ℕ) → all branch_right bs ≡ true → is_variable w ≡ true → binds bs w ≡ true → term_right w ≡ true
unfolding binds all
bound_right [] w e v b = absurd_true refl (sym b)
bound_right (x ∷ bs) w e v b =
    go (member w x.terms) refl b (bound_right bs w (and_right (branch_right x) _ e) v)
  where
    go : (m : Bool) → member w x.terms ≡ m → m || binds bs w ≡ true → (binds bs w ≡ true → term_right w ≡ true) → term_right w ≡ true
    go true p r ih = member_all term_right w x.terms (and_left (all term_right x.terms) _ (and_left (branch_right x) _ e)) p
    go false p r ih = ih r

bound_variable_lem : (bs : List Branch) (w : ℕ) → all branch_right bs ≡ true → is_variable w ≡ true → binds bs w ≡ true
    → bound_variable bs w ≡ true
bound_variable_lem bs w e v b =
    and_both (is_variable w) _ v (and_both (ltb (term_value w) variable_count) _ (go (is_variable w) v (bound_right bs w e v b)) b)
  where
    go : (x : Bool) → x ≡ true → not x || ltb (term_value w) variable_count ≡ true → ltb (term_value w) variable_count ≡ true
    go true p r = r
    go false p r = absurd_true refl (sym p)

all_bound_lem : (bs : List Branch) (vs : List ℕ) → all branch_right bs ≡ true → all is_variable vs ≡ true
    → all (binds bs) vs ≡ true → all (bound_variable bs) vs ≡ true
unfolding all
all_bound_lem bs [] e v b = refl
all_bound_lem bs (w ∷ vs) e v b =
    and_both (bound_variable bs w) (all (bound_variable bs) vs)
    (bound_variable_lem bs w e (and_left (is_variable w) _ v) (and_left (binds bs w) _ b))
    (all_bound_lem bs vs e (and_right (is_variable w) _ v) (and_right (binds bs w) _ b))

ending_variables : (bs : List Branch) (e : Ending) → all branch_right bs ≡ true → EndingForm e → ending_right (binds bs) e ≡ true
    → EndingVariables bs e
unfolding ending_right
ending_variables bs (rows vs) r f e =
    (all_bound_lem bs vs r f.variables (and_left (all (binds bs) vs) _ e), and_right (all (binds bs) vs) _ e)
ending_variables bs (top k vs keys) r f e =
    let a = and_left (all (binds bs) vs && distinct vs) _ e in (
      (all_bound_lem bs vs r f.row.variables (and_left (all (binds bs) vs) _ a), and_right (all (binds bs) vs) _ a),
      and_right (all (binds bs) vs && distinct vs) _ e,
    )
ending_variables bs (group vs m) r f e =
    let a = and_left (all (binds bs) vs && distinct vs) _ e in (
      (all_bound_lem bs vs r f.variables (and_left (all (binds bs) vs) _ a), and_right (all (binds bs) vs) _ a),
      bound_variable_lem bs m r f.measure (and_right (all (binds bs) vs && distinct vs) _ e),
    )
ending_variables bs (registers v) r f e = bound_variable_lem bs v r f e

branch_right_lem : (bs : List Branch) (i : ℕ) → all branch_right bs ≡ true → branch_right (nth_branch bs i) ≡ true
unfolding all all_bound
branch_right_lem [] i e = refl
branch_right_lem (b ∷ bs) zero e = and_left (branch_right b) _ e
branch_right_lem (b ∷ bs) (suc i) e = branch_right_lem bs i (and_right (branch_right b) _ e)

pub plan_variables : (ws : List ℕ) (q : Plan) → read_plan ws ≡ some q → variables_right q ≡ true → PlanVariables q
plan_variables ws q e r =
    let a = and_left (all branch_right q.branches) _ r in
    record {
      terms = λ i. and_left (all term_right (branch_at q i).terms) _ (branch_right_lem q.branches i a);
      conditions = λ i. and_right (all term_right (branch_at q i).terms) _ (branch_right_lem q.branches i a);
      ending = ending_variables q.branches q.ending a (plan_form ws q e).ending (and_right (all branch_right q.branches) _ r);
    }
