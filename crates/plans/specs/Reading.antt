-- What the code answers of the words that it reads. Assumes nothing: these are definitions.
use Rattle.std.specs.Prelude.{ℕ, ◌+◌, ◌<◌, ◌≡◌, Bool, true, false, cond, ◌&&◌, List, [], ◌∷◌, eqb, leb, ltb, length, get_or, Option, None, Some}
use Rattle.std.proofs.Math.Option.{none, some}
use Rattle.words.specs.Words.{kind, low}
use Rattle.plans.specs.Conditions.{Condition, Read, comparison_words, nodes, bound_in, all_bound}
use Rattle.plans.specs.Branches.{Branch, no_branch, read_branch, read_branches}
use Rattle.plans.specs.Endings.{Ending, rows, top, group, registers}
use Rattle.plans.specs.Years.{year_words, body_of}
use Rattle.plans.specs.declared.EndingKind.{EndingKind}
use Rattle.plans.specs.declared.EndingKind.TheVariants.{Rows, Top, Group, Registers}
use Rattle.plans.specs.declared.Tree.{Tree}

-- ---- words
-- the count in the word `w`, 0 where it is not of the kind `k` or the count is above `most`
abbrev pub count_in : ℕ → ℕ → ℕ → ℕ
count_in k most w = cond (eqb (kind w) k) (cond (leb (low w) most) (low w) 0) 0

-- ---- what was read
abbrev pub is_read : {A : Type 0} → Read A → Bool
is_read none = false
is_read (some x) = true

-- how many words it takes, 0 where nothing was read
abbrev pub words_read : {A : Type 0} → Read A → ℕ
words_read none = 0
words_read (some x) = x.1

-- what it is, and something in its place where nothing was read
abbrev pub read_or : {A : Type 0} → A → Read A → A
read_or other none = other
read_or other (some x) = x.0

-- a reader gives this
abbrev pub Gives : {A : Type 0} → Read A → A → Type 0
Gives r a = r ≡ some (a, words_read r)

-- ---- answers
-- a condition: its words, its nodes, and whether its variables are among a branch's terms
abbrev pub tree_of : List ℕ → Read Condition → Option Tree
tree_of terms none = None
tree_of terms (some x) = Some (record { words = x.1; nodes = nodes x.0; bound = all_bound terms x.0 })

-- a comparison's two terms after its first word
abbrev pub comparison_tree : List ℕ → List ℕ → Option Tree
comparison_tree terms ws =
    cond (ltb (length ws) comparison_words) None
    (Some (record { words = comparison_words; nodes = 1; bound = bound_in terms (get_or ws 1 0) && bound_in terms (get_or ws 2 0) }))

-- a condition under one more node, and two conditions under one node
abbrev pub over_tree : Tree → Tree
over_tree a = record { words = 1 + a.words; nodes = 1 + a.nodes; bound = a.bound }

abbrev pub join_trees : Tree → Tree → Tree
join_trees a b = record { words = 1 + a.words + b.words; nodes = 1 + a.nodes + b.nodes; bound = a.bound && b.bound }

-- words and nodes that can be added up: no slice of words has as many
abbrev pub SmallTree : Tree → Type 0
SmallTree a = (a.words < 0x2000_0000_0000_0000) × (a.nodes < 0x2000_0000_0000_0000)

-- ---- branches
-- the branch, and the first n branches, at the start of some words
abbrev pub branch_in : List ℕ → Branch
branch_in ws = read_or no_branch (read_branch ws)

abbrev pub branches_in : ℕ → List ℕ → List Branch
branches_in n ws = read_or [] (read_branches n ws)

-- where branch number `i` of a plan starts; the ending starts where the branch after the last would
abbrev pub branch_start : ℕ → List ℕ → ℕ
branch_start i ws = year_words ws + (1 + words_read (read_branches i (body_of ws)))

-- ---- the pieces of an ending
abbrev pub ending_kind_in : Ending → EndingKind
ending_kind_in (rows vs) = Rows
ending_kind_in (top k vs keys) = Top
ending_kind_in (group vs m) = Group
ending_kind_in (registers v) = Registers

-- the rows' variables, the group variables, or the one that registers count
abbrev pub variables_in : Ending → List ℕ
variables_in (rows vs) = vs
variables_in (top k vs keys) = vs
variables_in (group vs m) = vs
variables_in (registers v) = v ∷ []

-- the keys of a best-of ending; no other ending has any
abbrev pub keys_in : Ending → List ℕ
keys_in (rows vs) = []
keys_in (top k vs keys) = keys
keys_in (group vs m) = []
keys_in (registers v) = []

-- how many rows a best-of ending keeps; 0 stands for other endings
abbrev pub best_in : Ending → ℕ
best_in (rows vs) = 0
best_in (top k vs keys) = k
best_in (group vs m) = 0
best_in (registers v) = 0

-- the variable that a group ending measures, or that registers count; 0 stands for other endings
abbrev pub measured_in : Ending → ℕ
measured_in (rows vs) = 0
measured_in (top k vs keys) = 0
measured_in (group vs m) = m
measured_in (registers v) = v
