-- Why distinct keys are asked of top lists, and why of each way of merging groups that no merge of it is refused: two cases. Assumes nothing:
-- these are definitions.
use Rattle.std.specs.Prelude.{ℕ, ◌≡◌, List, [], ◌∷◌}
use Rattle.std.proofs.Math.Option.{none, some}
use Rattle.words.specs.Words.{name, number, variable, word, head_kind, branch_kind, true_kind, rows_kind, top_kind, falling_kind, group_kind}
use Rattle.merge_orders.specs.Ways.{turn, into, given}

-- the branch ?0 n12 ?1 on every row, and an ending
abbrev pub plan_to : List ℕ → List ℕ
plan_to ending = word head_kind 1 ∷ word branch_kind 1 ∷ variable 0 ∷ name 12 ∷ variable 1 ∷ word true_kind 0 ∷ ending

-- ---- the best row ?0 ?1 by ?1: two turns' lists, with rows that are equal in that key
abbrev pub best_plan : List ℕ
best_plan = plan_to (word top_kind 1 ∷ word rows_kind 2 ∷ variable 0 ∷ variable 1 ∷ word falling_kind 1 ∷ [])

abbrev pub tied_rows : List (List ℕ)
tied_rows = (name 2 ∷ number 310 ∷ []) ∷ (name 3 ∷ number 310 ∷ []) ∷ []

-- in either order the row that was kept stays, so the ends differ
pub record TiedDiffer : Type 0 where
  pub in_order : given best_plan tied_rows (into (turn 0) [] (turn 1)) ≡ some (name 2 ∷ number 310 ∷ [])
  pub turned : given best_plan tied_rows (into (turn 1) [] (turn 0)) ≡ some (name 3 ∷ number 310 ∷ [])
  pub differ : ¬ (given best_plan tied_rows (into (turn 0) [] (turn 1)) ≡ given best_plan tied_rows (into (turn 1) [] (turn 0)))

-- ---- one group measuring ?1: the records of three turns, whose sums are 2^63 - 1, 1 and -1
abbrev pub sum_plan : List ℕ
sum_plan = plan_to (word group_kind 0 ∷ variable 1 ∷ [])

abbrev pub record_of : ℕ → ℕ → List ℕ
record_of low high = 1 ∷ 0 ∷ 1 ∷ 0 ∷ low ∷ high ∷ number 1 ∷ number 1 ∷ []

abbrev pub far_sums : List (List ℕ)
far_sums = record_of 0xFFFF_FFFF 0x7FFF_FFFF ∷ record_of 1 0 ∷ record_of 0xFFFF_FFFF 0xFFFF_FFFF ∷ []

-- grouped from the left the sum leaves its range and the merge is refused; from the right it does not
pub record OneRefused : Type 0 where
  pub from_left : given sum_plan far_sums (into (into (turn 0) [] (turn 1)) [] (turn 2)) ≡ none
  pub from_right : given sum_plan far_sums (into (turn 0) [] (into (turn 1) [] (turn 2)))
      ≡ some (3 ∷ 0 ∷ 3 ∷ 0 ∷ 0xFFFF_FFFF ∷ 0x7FFF_FFFF ∷ number 1 ∷ number 1 ∷ [])
