-- A list that a way gives is the one that merging its turns' lists one after the other gives, from left to right, so its last row may be sent.
use Prim.Native.Nat.{ℕ}
use native.Mathlib.Omega.{arith}
use mathlib.Core.Path.{◌≡◌, refl, sym, ◌∙◌, ap}
use mathlib.Core.Bool.{true}
use mathlib.Core.Option.{some}
use mathlib.Core.List.{List, [], ◌∷◌, flatten, foldl}
use lib.ListN.{length, get_or}
use Rattle.sequences.specs.Sorting.{best_by}
use Rattle.plans.specs.Endings.{top}
use Rattle.plans.specs.Plans.{plan_of}
use Rattle.lists.specs.Rows.{row_before}
use Rattle.lists.specs.Gathering.{records_in, merged}
use Rattle.lists.specs.Thresholds.{merged_all, last_row, chosen_from, row}
use Rattle.lists.proofs.FullLists.{merged_all_lem}
use Rattle.merge_orders.specs.Ways.{Way, turns_along, is_merge, given}
use Rattle.merge_orders.specs.Sending.{MayBeSent}
use Rattle.merge_orders.proofs.TopWays as tops
use Rattle.merge_orders.proofs.InOrder.{map_twice}
use Rattle.merge_orders.proofs.AnyOrder.{no_columns, nothing_given}

none_merged : (k : ℕ) (keys : List ℕ) (ls : List (List ℕ)) → merged_all (top k [] keys) ls ≡ []
none_merged k keys [] = refl
none_merged k keys (l ∷ ls) = ap (λ a. foldl (merged (top k [] keys)) a ls) (no_columns k keys [] l) ∙ none_merged k keys ls

module _ (plan : List ℕ) (lists : List (List ℕ)) where
  -- in the order of a way's turns from left to right, whatever its grouping
  as_merged : (k : ℕ) (vs keys : List ℕ) → (plan_of plan).ending ≡ top k vs keys → (w : Way) → is_merge w ≡ true
      → (a : List ℕ) → given plan lists w ≡ some a → a ≡ merged_all (top k vs keys) (chosen_from lists (turns_along w))
  as_merged k [] keys e w m a g = nothing_given plan lists k keys e w m a g ∙ sym (none_merged k keys (chosen_from lists (turns_along w)))
  as_merged k (x ∷ vs) keys e w m a g =
      tops.way_gives plan lists k (x ∷ vs) keys e (omega arith) w a m g
      ∙ ap (λ l. flatten (best_by (row_before (x ∷ vs) keys) k (flatten l)))
      (map_twice (λ i. get_or lists i []) (records_in (length (x ∷ vs))) (turns_along w))
      ∙ sym (merged_all_lem k (x ∷ vs) keys (omega arith) (chosen_from lists (turns_along w)))

  pub may_be_sent : MayBeSent plan lists
  may_be_sent k vs keys e w m s a g full =
      let same = as_merged k vs keys e w m a g in
      row
      (record {
        chosen = turns_along w;
        there = s.there;
        once = s.once;
        full = ap length (sym same) ∙ full;
        last = ap (last_row (top k vs keys)) same;
      })
