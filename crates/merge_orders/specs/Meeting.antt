-- The premises can be met, in another order and grouping, with an empty list and the record of no rows among the leaves; and what comes out then,
-- in words. Assumes nothing: these are definitions.
use Rattle.std.specs.Prelude.{ℕ, ◌≡◌, true, false, List, [], ◌∷◌}
use Rattle.std.proofs.Math.Option.{none, some}
use Rattle.words.specs.Words.{name, number, variable, word, rows_kind, top_kind, falling_kind, registers_kind, unbound}
use Rattle.lists.specs.Rows.{row_before}
use Rattle.merge_orders.specs.Apart.{Apart}
use Rattle.merge_orders.specs.Ways.{Way, empty, turn, into, turns_along, given, EachOnce, rows_merged}
use Rattle.merge_orders.specs.AnyOrder.{Reordered, AnyOrder}
use Rattle.merge_orders.specs.Refused.{WayRefusedBy, from_turns}
use Rattle.merge_orders.specs.Sending.{SomeOnce}
use Rattle.merge_orders.specs.Needed.{plan_to, best_plan, tied_rows, sum_plan, record_of, far_sums}

-- ---- three turns, merged from the first to the last, one after the other; and from the last on, what the two others give as its list
abbrev pub behind : List ℕ
behind = 9 ∷ 9 ∷ 9 ∷ 9 ∷ 9 ∷ 9 ∷ 9 ∷ 9 ∷ []

abbrev pub in_turn : Way
in_turn = into (into (into empty behind (turn 0)) behind (turn 1)) behind (turn 2)

abbrev pub turned : Way
turned = into (turn 2) behind (into (turn 1) behind (turn 0))

-- ---- the two best rows ?0 ?1 by ?1: lists of one row, none and two, no two of which are equal in that key
abbrev pub two_plan : List ℕ
two_plan = plan_to (word top_kind 2 ∷ word rows_kind 2 ∷ variable 0 ∷ variable 1 ∷ word falling_kind 1 ∷ [])

abbrev pub best_lists : List (List ℕ)
best_lists = (name 1 ∷ number 300 ∷ []) ∷ [] ∷ (name 3 ∷ number 310 ∷ name 2 ∷ number 45 ∷ []) ∷ []

abbrev pub best_pair : List ℕ
best_pair = name 3 ∷ number 310 ∷ name 1 ∷ number 300 ∷ []

-- ---- one group measuring ?1: a record, an empty list, and the record of no rows
abbrev pub nothing_words : List ℕ
nothing_words = 0 ∷ 0 ∷ 0 ∷ 0 ∷ 0 ∷ 0 ∷ unbound ∷ unbound ∷ []

abbrev pub sum_lists : List (List ℕ)
sum_lists = record_of 1 0 ∷ [] ∷ nothing_words ∷ []

-- ---- registers of ?1: two turns' lists. An empty list works as the kept one alone
abbrev pub rough_plan : List ℕ
rough_plan = plan_to (word registers_kind 0 ∷ variable 1 ∷ [])

abbrev sixteen : ℕ → ℕ → ℕ → List ℕ
sixteen a b c = a ∷ 0 ∷ b ∷ 0 ∷ 0 ∷ 0 ∷ 0 ∷ 0 ∷ 0 ∷ 0 ∷ 0 ∷ 0 ∷ 0 ∷ 0 ∷ 0 ∷ c ∷ []

abbrev pub rough_lists : List (List ℕ)
rough_lists = sixteen 1 61 0 ∷ sixteen 4 2 7 ∷ []

abbrev pub words16 : List ℕ
words16 = sixteen 9 9 9

pub record RegistersMet : Type 0 where
  pub in_order : given rough_plan rough_lists (into (into empty words16 (turn 0)) [] (turn 1)) ≡ some (sixteen 4 61 7)
  pub turned : given rough_plan rough_lists (into (turn 1) [] (into empty words16 (turn 0))) ≡ some (sixteen 4 61 7)
  pub empty_kept : given rough_plan rough_lists (into empty words16 (turn 0)) ≡ some (sixteen 1 61 0)
  pub empty_lent : given rough_plan rough_lists (into (turn 0) words16 empty) ≡ none
  -- any order says of the one what the other gives
  pub told : AnyOrder rough_plan rough_lists → (a : List ℕ) → given rough_plan rough_lists (into (turn 1) [] (turn 0)) ≡ some a → a ≡ sixteen 4 61 7

pub record PremisesMet : Type 0 where
  pub reordered : Reordered in_turn turned
  pub once : EachOnce best_lists turned
  pub some_once : SomeOnce best_lists (into (turn 2) behind (turn 0))
  pub apart : Apart (row_before (variable 0 ∷ variable 1 ∷ []) (word falling_kind 1 ∷ [])) (rows_merged 2 best_lists (turns_along in_turn))
  pub best : (given two_plan best_lists in_turn ≡ some best_pair) × (given two_plan best_lists turned ≡ some best_pair)
  pub total : (given sum_plan sum_lists in_turn ≡ some (record_of 1 0)) × (given sum_plan sum_lists turned ≡ some (record_of 1 0))
  pub nothing : (given sum_plan sum_lists (into (turn 1) behind (turn 2)) ≡ some nothing_words)
      × (given sum_plan sum_lists (into (turn 2) behind (turn 1)) ≡ some nothing_words)

-- and what any order says of them: the other way, if it is not refused, gives these words and no others
pub record AnyOrderTold : Type 0 where
  pub best : AnyOrder two_plan best_lists → (a : List ℕ) → given two_plan best_lists turned ≡ some a → a ≡ best_pair
  pub total : AnyOrder sum_plan sum_lists → (a : List ℕ) → given sum_plan sum_lists turned ≡ some a → a ≡ record_of 1 0
  pub grouped : AnyOrder two_plan best_lists → (a : List ℕ) → given two_plan best_lists (into (turn 0) behind (into (turn 1) behind (turn 2))) ≡ some a
      → a ≡ best_pair

-- ---- each number that a way can be refused by: a sum past 2^63 - 1, a kept buffer of one word less than the result, for each ending; and an empty
-- list of registers that is lent as a turn's, which no way over turns' lists has
abbrev pub words15 : List ℕ
words15 = 9 ∷ 9 ∷ 9 ∷ 9 ∷ 9 ∷ 9 ∷ 9 ∷ 9 ∷ 9 ∷ 9 ∷ 9 ∷ 9 ∷ 9 ∷ 9 ∷ 9 ∷ []

pub record RefusalsMet : Type 0 where
  pub total : WayRefusedBy sum_plan far_sums 13 (into (into (turn 0) [] (turn 1)) [] (turn 2))
  pub group_room : WayRefusedBy sum_plan far_sums 14 (into (turn 0) [] (into empty (9 ∷ 9 ∷ 9 ∷ 9 ∷ 9 ∷ 9 ∷ 9 ∷ []) (turn 2)))
  pub best_room : WayRefusedBy best_plan tied_rows 14 (into empty (9 ∷ []) (turn 1))
  pub registers_room : WayRefusedBy rough_plan rough_lists 14 (into (into empty words15 (turn 0)) [] (turn 1))
  pub of_turns_fact : from_turns rough_lists (into (into empty words15 (turn 0)) [] (turn 1)) ≡ true
  pub empty_lent_fact : WayRefusedBy rough_plan rough_lists 12 (into (turn 0) words16 empty)
  pub no_turns : from_turns rough_lists (into (turn 0) words16 empty) ≡ false
