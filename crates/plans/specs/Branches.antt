-- Branches: the terms of some patterns, three to a pattern, and a condition. Assumes nothing: these are definitions.
use Rattle.std.specs.Prelude.{ℕ, zero, suc, ◌+◌, ◌*◌, Bool, false, cond, ◌&&◌, ◌||◌, not, List, [], ◌∷◌, eqb, leb, ltb, length, take, drop, get_or}
use Rattle.std.proofs.Math.Option.{none, some}
use Rattle.words.specs.Words.{kind, low, is_variable, term_value, branch_kind}
use Rattle.words.specs.Bindings.{variable_count}
use Rattle.sequences.specs.Sequences.{all, member}
use Rattle.plans.specs.Conditions.{Condition, always, Read, next, read_condition, nodes, most_depth, most_nodes, all_bound}

-- the patterns' terms, one pattern after the other
pub record Branch : Type 0 where
  pub terms : List ℕ
  pub condition : Condition

-- the fields of a pattern, and how many there are: its own, and not the columns of a row
abbrev pub subject_field : ℕ
subject_field = 0

abbrev pub predicate_field : ℕ
predicate_field = 1

abbrev pub object_field : ℕ
object_field = 2

abbrev pub pattern_width : ℕ
pattern_width = 3

abbrev pub most_patterns : ℕ
most_patterns = 8

-- ---- the form of a branch, in test 5
-- the patterns that a branch's first word names, 0 where it is no such word
abbrev pub pattern_count : ℕ → ℕ
pattern_count w = cond (eqb (kind w) branch_kind) (cond (leb (low w) most_patterns) (low w) 0) 0

-- a branch of n patterns, with the condition that was read after them
abbrev pub with_condition : ℕ → List ℕ → Read Condition → Read Branch
with_condition n ws none = none
with_condition n ws (some x) =
    cond (leb (nodes x.0) most_nodes)
    (some (record { terms = take (pattern_width * n) (drop 1 ws); condition = x.0 }, 1 + pattern_width * n + x.1))
    none

abbrev pub read_patterns : ℕ → List ℕ → Read Branch
read_patterns n ws =
    cond (eqb n 0) none
    (cond (ltb (length ws) (1 + pattern_width * n)) none
    (with_condition n ws (read_condition most_depth (drop (1 + pattern_width * n) ws))))

unfoldable pub read_branch : List ℕ → Read Branch
read_branch ws = read_patterns (pattern_count (get_or ws 0 0)) ws

unfoldable pub read_branches : ℕ → List ℕ → Read (List Branch)
read_branches zero ws = some ([], 0)
read_branches (suc n) ws =
    next (read_branch ws) (λ x. next (read_branches n (drop x.1 ws)) (λ y. some (x.0 ∷ y.0, x.1 + y.1)))

-- ---- the variables of a branch, in test 6
-- a term is no variable above ?15
abbrev pub term_right : ℕ → Bool
term_right w = not (is_variable w) || ltb (term_value w) variable_count

abbrev pub branch_right : Branch → Bool
branch_right b = all term_right b.terms && all_bound b.terms b.condition

-- some branch has a word among its patterns' terms
unfoldable pub binds : List Branch → ℕ → Bool
binds [] w = false
binds (b ∷ bs) w = member w b.terms || binds bs w

-- ---- the branch with a number
abbrev pub no_branch : Branch
no_branch = record { terms = []; condition = always }

abbrev pub nth_branch : List Branch → ℕ → Branch
nth_branch bs i = get_or bs i no_branch
