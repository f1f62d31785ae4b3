-- Conditions as they were before numbers had a sign: the inequalities went by a number's 30 bits, all else was as it is. Assumes nothing: these are
-- definitions.
use Rattle.std.specs.Prelude.{ℕ, Bool, cond, eqb, ltb, leb}
use Rattle.words.specs.Words.{equal_to, unequal_to, less_than, at_most, greater_than, at_least}
use Rattle.words.specs.Former.{Former}
use Rattle.words.specs.Bindings.{Bindings, value_of}
use Rattle.plans.specs.Conditions.{Condition, always, both, either, negated, compared}
use Rattle.conditions.specs.declared.Truth.{Truth}
use Rattle.conditions.specs.declared.Truth.TheVariants.{True, Error}
use Rattle.conditions.specs.Truth.{conjunction, disjunction, negation, equality, is_true}
use Rattle.conditions.specs.Former.{former_inequality}

unfoldable pub former_comparison : ℕ → ℕ → ℕ → Truth
former_comparison o a b =
    cond (eqb o equal_to) (equality a b)
    (cond (eqb o unequal_to) (negation (equality a b))
    (cond (eqb o less_than) (former_inequality ltb a b)
    (cond (eqb o at_most) (former_inequality leb a b)
    (cond (eqb o greater_than) (former_inequality ltb b a)
    (cond (eqb o at_least) (former_inequality leb b a) Error)))))

unfoldable pub former_truth : Bindings → Condition → Truth
former_truth b always = True
former_truth b (both x y) = conjunction (former_truth b x) (former_truth b y)
former_truth b (either x y) = disjunction (former_truth b x) (former_truth b y)
former_truth b (negated x) = negation (former_truth b x)
former_truth b (compared o l r) = former_comparison o (value_of b l) (value_of b r)

abbrev pub formerly_keeps : Bindings → Condition → Bool
formerly_keeps b c = is_true (former_truth b c)

-- no number written in a condition is 2^29 or more
abbrev pub FormerTerms : Condition → Type 0
FormerTerms always = Unit {0}
FormerTerms (both x y) = FormerTerms x × FormerTerms y
FormerTerms (either x y) = FormerTerms x × FormerTerms y
FormerTerms (negated x) = FormerTerms x
FormerTerms (compared o l r) = Former l × Former r
