-- Test 6 passes exactly the plans whose variables are bound where the rules say so, whatever other terms they have.
use Prim.Native.Nat.{ℕ, zero, suc, ◌<◌}
use native.Mathlib.Omega.{arith}
use mathlib.Core.Path.{◌≡◌, refl, sym, ◌∙◌, ap, ap₂}
use mathlib.Core.Logic.{◌↔◌}
use mathlib.Core.Bool.{Bool, true, false, ◌&&◌, ◌||◌, not}
use mathlib.Core.List.{List, [], ◌∷◌, ◌++◌}
use lib.ListN.{length}
use borrow.Author.Tests.{ltb-true, lt-ltb}
use Rattle.words.specs.Words.{is_variable, term_value}
use Rattle.words.specs.Bindings.{variable_count}
use Rattle.sequences.specs.Sequences.{all, member, distinct}
use Rattle.sequences.proofs.Booleans.{absurd_true, and_left, and_right, and_both}
use Rattle.sequences.proofs.Elements.{all_element, element_all}
use Rattle.sequences.proofs.Members.{all_when, distinct_when}
use Rattle.plans.specs.Conditions.{Condition, always, both, either, negated, compared, bound_in, all_bound}
use Rattle.plans.specs.Branches.{Branch, term_right, branch_right, binds, no_branch, nth_branch}
use Rattle.plans.specs.Endings.{Ending, rows, top, group, registers, key_among, ending_right}
use Rattle.plans.specs.Plans.{Plan, variables_right, branch_at}
use Rattle.plans.specs.Reading.{variables_in, keys_in}
use Rattle.plans.specs.Grammar.{condition_terms, IsOneOf, named_in, VariablesBound}

-- ---- a test of variables alone
only_if : (a b : Bool) → not a || b ≡ true → a ≡ true → b ≡ true
only_if true b e p = e
only_if false b e p = absurd_true p refl

if_so : (a b : Bool) → (a ≡ true → b ≡ true) → not a || b ≡ true
if_so true b h = h refl
if_so false b h = refl

-- ---- the terms of a condition
all_joined_lem : (f : ℕ → Bool) (xs ys : List ℕ) → (all f xs && all f ys) ≡ all f (xs ++ ys)
unfolding all
all_joined_lem f [] ys = refl
all_joined_lem f (x ∷ xs) ys = grouped (f x) (all f xs) (all f ys) ∙ ap (λ b. f x && b) (all_joined_lem f xs ys)
  where
    grouped : (a b c : Bool) → ((a && b) && c) ≡ (a && (b && c))
    grouped true b c = refl
    grouped false b c = refl

bound_terms : (terms : List ℕ) (c : Condition) → all_bound terms c ≡ all (bound_in terms) (condition_terms c)
unfolding all_bound condition_terms all
bound_terms terms always = refl
bound_terms terms (both a b) =
    ap₂ ◌&&◌ (bound_terms terms a) (bound_terms terms b) ∙ all_joined_lem (bound_in terms) (condition_terms a) (condition_terms b)
bound_terms terms (either a b) =
    ap₂ ◌&&◌ (bound_terms terms a) (bound_terms terms b) ∙ all_joined_lem (bound_in terms) (condition_terms a) (condition_terms b)
bound_terms terms (negated a) = bound_terms terms a
bound_terms terms (compared o l r) = ap (λ b. bound_in terms l && b) (sym (and-true (bound_in terms r)))
  where
    and-true : (b : Bool) → (b && true) ≡ b
    and-true true = refl
    and-true false = refl

-- ---- branches
branch_when : (b : Branch)
    → (branch_right b ≡ true)
    ↔ (((w : ℕ) → IsOneOf w b.terms → is_variable w ≡ true → term_value w < variable_count)
    × ((w : ℕ) → IsOneOf w (condition_terms b.condition) → is_variable w ≡ true → IsOneOf w b.terms))
branch_when b = (
  λ e. (
    λ w m v. ltb-true (term_value w) variable_count
        (only_if (is_variable w) _ ((all_when term_right b.terms).0 (and_left (all term_right b.terms) _ e) w m) v),
    λ w m v. only_if (is_variable w) _
        ((all_when (bound_in b.terms) (condition_terms b.condition)).0
        (sym (bound_terms b.terms b.condition) ∙ and_right (all term_right b.terms) _ e) w m) v,
  ),
  λ h. and_both (all term_right b.terms) _
      ((all_when term_right b.terms).1 (λ w m. if_so (is_variable w) _ (λ v. lt-ltb (term_value w) variable_count (h.0 w m v))))
      (bound_terms b.terms b.condition
      ∙ (all_when (bound_in b.terms) (condition_terms b.condition)).1 (λ w m. if_so (is_variable w) _ (h.1 w m))),
)

-- some branch has a word
abbrev SomeHas : List Branch → ℕ → Type 0
SomeHas bs w = (i : ℕ) × (i < length bs) × IsOneOf w (nth_branch bs i).terms

binds_some : (bs : List Branch) (w : ℕ) → binds bs w ≡ true → SomeHas bs w
unfolding binds
binds_some [] w e = absurd_true e refl
binds_some (b ∷ bs) w e = go (member w b.terms) refl e (binds_some bs w)
  where
    go : (m : Bool) → member w b.terms ≡ m → m || binds bs w ≡ true → (binds bs w ≡ true → SomeHas bs w) → SomeHas (b ∷ bs) w
    go true p f ih = (0, omega arith, p)
    go false p f ih = let r = ih f in (suc r.0, omega (arith, r.1), r.2)

some_binds : (bs : List Branch) (w i : ℕ) → i < length bs → IsOneOf w (nth_branch bs i).terms → binds bs w ≡ true
unfolding binds
some_binds [] w i l m = absurd (omega arith)
some_binds (b ∷ bs) w zero l m = rw m
some_binds (b ∷ bs) w (suc i) l m = go (member w b.terms) (some_binds bs w i (omega arith) m)
  where
    go : (x : Bool) → binds bs w ≡ true → x || binds bs w ≡ true
    go true e = refl
    go false e = e

-- ---- endings: each variable that is named passes, those of rows or groups are different, and each key is among them
abbrev EndingBound : (ℕ → Bool) → Ending → Type 0
EndingBound f e = (all f (named_in e) ≡ true) × (distinct (variables_in e) ≡ true) × (all (key_among (variables_in e)) (keys_in e) ≡ true)

ending_bound : (f : ℕ → Bool) (e : Ending) → ending_right f e ≡ true → EndingBound f e
unfolding ending_right all distinct member
ending_bound f (rows vs) h = (and_left (all f vs) _ h, and_right (all f vs) _ h, refl)
ending_bound f (top k vs keys) h =
    let a = and_left (all f vs && distinct vs) _ h in (and_left (all f vs) _ a, and_right (all f vs) _ a, and_right (all f vs && distinct vs) _ h)
ending_bound f (group vs m) h =
    let a = and_left (all f vs && distinct vs) _ h in (
      sym (all_joined_lem f vs (m ∷ [])) ∙ and_both (all f vs) _ (and_left (all f vs) _ a) (and_both (f m) true (and_right (all f vs && distinct vs) _ h) refl),
      and_right (all f vs) _ a,
      refl,
    )
ending_bound f (registers v) h = (and_both (f v) true h refl, refl, refl)

bound_ending : (f : ℕ → Bool) (e : Ending) → EndingBound f e → ending_right f e ≡ true
unfolding ending_right all distinct member
bound_ending f (rows vs) h = and_both (all f vs) _ h.0 h.1
bound_ending f (top k vs keys) h = and_both (all f vs && distinct vs) _ (and_both (all f vs) _ h.0 h.1) h.2
bound_ending f (group vs m) h =
    let a = all_joined_lem f vs (m ∷ []) ∙ h.0 in
    and_both (all f vs && distinct vs) _ (and_both (all f vs) _ (and_left (all f vs) _ a) h.1) (and_left (f m) true (and_right (all f vs) _ a))
bound_ending f (registers v) h = and_left (f v) true h.0

-- ---- test 6
module _ (q : Plan) where
  right_bound : variables_right q ≡ true → VariablesBound q
  right_bound e =
      let each = all_element branch_right no_branch q.branches (and_left (all branch_right q.branches) _ e) in
      let b = ending_bound (binds q.branches) q.ending (and_right (all branch_right q.branches) _ e) in
      record {
        patterns = λ i w l. ((branch_when (branch_at q i)).0 (each i l)).0 w;
        conditions = λ i w l. ((branch_when (branch_at q i)).0 (each i l)).1 w;
        ending = λ w m. binds_some q.branches w ((all_when (binds q.branches) (named_in q.ending)).0 b.0 w m);
        keys = (all_when (key_among (variables_in q.ending)) (keys_in q.ending)).0 b.2;
        different = (distinct_when (variables_in q.ending)).0 b.1;
      }

  bound_right : VariablesBound q → variables_right q ≡ true
  bound_right v =
      and_both (all branch_right q.branches) _
      (element_all branch_right no_branch q.branches (λ i l. (branch_when (branch_at q i)).1 (λ w. v.patterns i w l, λ w. v.conditions i w l)))
      (bound_ending (binds q.branches) q.ending (
        (all_when (binds q.branches) (named_in q.ending)).1
            (λ w m. let r = v.ending w m in some_binds q.branches w r.0 r.1 r.2),
        (distinct_when (variables_in q.ending)).1 v.different,
        (all_when (key_among (variables_in q.ending)) (keys_in q.ending)).1 v.keys,
      ))

  pub variables_when : (variables_right q ≡ true) ↔ VariablesBound q
  variables_when = (right_bound, bound_right)
