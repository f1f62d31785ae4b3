-- Conditions in three values: true, false, error, as SPARQL 1.1, sections 17.2 and 17.3. Assumes nothing: these are definitions.
use Rattle.std.specs.Prelude.{ℕ, Bool, true, false, cond, ◌&&◌, ◌||◌, eqb, ltb, leb}
use Rattle.words.specs.Words.{term_kind, number_kind, text_kind, value_rank, equal_to, unequal_to, less_than, at_most, greater_than, at_least}
use Rattle.words.specs.Bindings.{Bindings, value_of}
use Rattle.plans.specs.Conditions.{Condition, always, both, either, negated, compared}
use Rattle.conditions.specs.declared.Truth.{Truth}
use Rattle.conditions.specs.declared.Truth.TheVariants.{True, False, Error}

-- ---- and, or, not
abbrev pub conjunction : Truth → Truth → Truth
conjunction True b = b
conjunction False b = False
conjunction Error True = Error
conjunction Error False = False
conjunction Error Error = Error

abbrev pub disjunction : Truth → Truth → Truth
disjunction True b = True
disjunction False b = b
disjunction Error True = True
disjunction Error False = Error
disjunction Error Error = Error

abbrev pub negation : Truth → Truth
negation True = False
negation False = True
negation Error = Error

abbrev pub of_test : Bool → Truth
of_test true = True
of_test false = False

-- ---- comparisons of two terms
abbrev pub kinds_are : ℕ → ℕ → ℕ → ℕ → Bool
kinds_are j k a b = eqb (term_kind a) j && eqb (term_kind b) k

-- the same word is equal; a number against a text is an error; all else is unequal
unfoldable pub equality : ℕ → ℕ → Truth
equality a b =
    cond (eqb a b) True (cond (kinds_are number_kind text_kind a b || kinds_are text_kind number_kind a b) Error False)

-- two numbers or two texts have an order, by value; all else is an error
unfoldable pub inequality : (ℕ → ℕ → Bool) → ℕ → ℕ → Truth
inequality test a b =
    cond (kinds_are number_kind number_kind a b || kinds_are text_kind text_kind a b) (of_test (test (value_rank a) (value_rank b))) Error

-- the comparison of `a` and `b` by the operator with the number `o`
unfoldable pub comparison : ℕ → ℕ → ℕ → Truth
comparison o a b =
    cond (eqb o equal_to) (equality a b)
    (cond (eqb o unequal_to) (negation (equality a b))
    (cond (eqb o less_than) (inequality ltb a b)
    (cond (eqb o at_most) (inequality leb a b)
    (cond (eqb o greater_than) (inequality ltb b a)
    (cond (eqb o at_least) (inequality leb b a) Error)))))

-- ---- the value of a condition: no operand is skipped
unfoldable pub truth_of : Bindings → Condition → Truth
truth_of b always = True
truth_of b (both x y) = conjunction (truth_of b x) (truth_of b y)
truth_of b (either x y) = disjunction (truth_of b x) (truth_of b y)
truth_of b (negated x) = negation (truth_of b x)
truth_of b (compared o l r) = comparison o (value_of b l) (value_of b r)

-- only true keeps a row
abbrev pub is_true : Truth → Bool
is_true True = true
is_true False = false
is_true Error = false

abbrev pub keeps_row : Bindings → Condition → Bool
keeps_row b c = is_true (truth_of b c)
