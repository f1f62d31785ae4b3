-- Of the terms that there were before numbers had a sign, a condition has the truth that it had.
use Prim.Native.Nat.{ℕ}
use mathlib.Core.Path.{◌≡◌, refl, sym, ap, ap₂}
use Rattle.words.specs.Former.{Former}
use Rattle.words.specs.Bindings.{Bindings, value_of}
use Rattle.plans.specs.Conditions.{Condition, always, both, either, negated, compared}
use Rattle.conditions.specs.Truth.{conjunction, disjunction, negation, comparison, truth_of, is_true, keeps_row}
use Rattle.conditions.proofs.Former.{inequality_as_before}
use Rattle.former.specs.Truths.{former_comparison, former_truth, formerly_keeps, FormerTerms}

comparison_as_before : (o a b : ℕ) → Former a → Former b → comparison o a b ≡ former_comparison o a b
unfolding comparison former_comparison
comparison_as_before o a b f g =
    let p = inequality_as_before a b f g in
    let q = inequality_as_before b a g f in
    rw (p.0, p.1, q.0, q.1)

module _ (b : Bindings) (values : (w : ℕ) → Former w → Former (value_of b w)) where
  truth_as_before : (c : Condition) → FormerTerms c → truth_of b c ≡ former_truth b c
  unfolding truth_of former_truth
  truth_as_before always f = refl
  truth_as_before (both x y) f = ap₂ conjunction (truth_as_before x f.0) (truth_as_before y f.1)
  truth_as_before (either x y) f = ap₂ disjunction (truth_as_before x f.0) (truth_as_before y f.1)
  truth_as_before (negated x) f = ap negation (truth_as_before x f)
  truth_as_before (compared o l r) f = comparison_as_before o (value_of b l) (value_of b r) (values l f.0) (values r f.1)

  pub keeps_as_before : (c : Condition) → FormerTerms c → formerly_keeps b c ≡ keeps_row b c
  keeps_as_before c f = ap is_true (sym (truth_as_before c f))
