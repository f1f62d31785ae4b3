-- What evaluating a condition reads, in literal words: its truth, and how many of its comparisons are read. A line is a rule
-- (docs/RULES.md, 5): only a lone comparison on the right of an "and", and only where it is false, skips the left operand.
use Rattle.std.specs.Prelude.{ℕ, ◌≡◌, List, [], ◌∷◌, ◌++◌, length}
use Rattle.std.proofs.Math.Option.{none, some}
use Rattle.plans.specs.Conditions.{Condition, Read, read_condition, most_depth}
use Rattle.conditions.specs.declared.Truth.{Truth}
use Rattle.conditions.specs.declared.Truth.TheVariants.{True, False, Error}
use Rattle.conditions.specs.declared.Evaluated.{Evaluated}
use Rattle.conditions.specs.Evaluated.{evaluated}
use Rattle.worked_values.specs.Comparing.{condition_that}

-- a condition that was read, evaluated with nothing bound
abbrev pub evaluated_at : Read Condition → Read Evaluated
evaluated_at none = none
evaluated_at (some x) = some (evaluated [] x.0, x.1)

-- a condition of the words `ws` has the truth `t`, and `n` of its comparisons are read
abbrev pub Reads : List ℕ → Truth → ℕ → Type 0
Reads ws t n = evaluated_at (read_condition most_depth ws) ≡ some (record { truth = t; reads = n }, length ws)

abbrev pub and : List ℕ → List ℕ → List ℕ
and x y = 0x40000000 ∷ (x ++ y)

abbrev pub or : List ℕ → List ℕ → List ℕ
or x y = 0x50000000 ∷ (x ++ y)

abbrev pub not : List ℕ → List ℕ
not x = 0x60000000 ∷ x

abbrev pub yes : List ℕ
yes = condition_that True

abbrev pub no : List ℕ
no = condition_that False

abbrev pub wrong : List ℕ
wrong = condition_that Error

-- false on the right: the left is skipped, whatever it is, a whole tree too
abbrev pub Skips : Type 0
Skips =
    Reads (and yes no) False 1
    × Reads (and wrong no) False 1
    × Reads (and (or (and yes no) (not wrong)) no) False 1
    × Reads (and (and yes no) no) False 1

-- true or an error on the right: the left is read, and inside it the rule holds again
abbrev pub ReadsOn : Type 0
ReadsOn =
    Reads (and yes yes) True 2
    × Reads (and no yes) False 2
    × Reads (and no wrong) False 2
    × Reads (and yes wrong) Error 2
    × Reads (and (and yes no) yes) False 2
    × Reads (and (and yes no) wrong) False 2
    × Reads (and (and yes yes) yes) True 3

-- "or" and "not" skip nothing, and the rule holds wherever an "and" stands
abbrev pub Elsewhere : Type 0
Elsewhere =
    Reads (or yes no) True 2
    × Reads (or no yes) True 2
    × Reads (or (and yes no) no) False 2
    × Reads (or no (and yes no)) False 2
    × Reads (not (and yes no)) True 1
    × Reads (not no) True 1

-- not lone: not(c), "or", "and", "true"; and a lone left operand does not matter
abbrev pub NotLone : Type 0
NotLone =
    Reads (and yes (not yes)) False 2
    × Reads (and yes (or no no)) False 3
    × Reads (and yes (and yes no)) False 2
    × Reads (and yes (0x30000000 ∷ [])) True 1
    × Reads (and no (and yes yes)) False 3
    × Reads (and no (or yes yes)) False 3

-- no condition: the right operand is missing, or of no kind, or the left one is
abbrev pub NoCondition : Type 0
NoCondition =
    (evaluated_at (read_condition most_depth (and yes [])) ≡ none)
    × (evaluated_at (read_condition most_depth (and yes (0x70000006 ∷ 0x40000001 ∷ 0x40000002 ∷ []))) ≡ none)
    × (evaluated_at (read_condition most_depth (and (0x00000001 ∷ []) no)) ≡ none)
