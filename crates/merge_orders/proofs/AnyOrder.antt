-- Any two ways of merging the same turns' lists give the same words.
use Prim.Native.Nat.{ℕ}
use native.Mathlib.Omega.{arith}
use mathlib.Core.Path.{◌≡◌, refl, sym, ◌∙◌, ap}
use mathlib.Core.Bool.{true}
use mathlib.Core.Option.{some}
use mathlib.Core.List.{List, [], ◌∷◌, ◌++◌, flatten}
use lib.ListN.{length}
use Rattle.sequences.specs.Sorting.{best_by}
use Rattle.sequences.proofs.Booleans.{absurd_true}
use Rattle.sequences.proofs.Sorting.{best_none}
use Rattle.plans.specs.Endings.{top}
use Rattle.plans.specs.Plans.{plan_of}
use Rattle.plans.proofs.Bounds.{next_some}
use Rattle.lists.specs.Rows.{row_before}
use Rattle.lists.specs.Gathering.{records_in, merged}
use Rattle.lists.proofs.Records.{records_zero}
use Rattle.lists.proofs.TopLists.{merged_top}
use Rattle.merge_orders.specs.Apart.{Apart}
use Rattle.merge_orders.specs.Ways.{Way, empty, turn, into, turns_along, is_merge, given, rows_merged}
use Rattle.merge_orders.specs.AnyOrder.{Reordered, SameEnd, AnyOrder}
use Rattle.merge_orders.proofs.Served.{merged_given}
use Rattle.merge_orders.proofs.TopWays as tops
use Rattle.merge_orders.proofs.GroupWays as groups
use Rattle.merge_orders.proofs.RegisterWays as registers

-- rows of no words leave nothing
pub no_columns : (k : ℕ) (keys kept list : List ℕ) → merged (top k [] keys) kept list ≡ []
unfolding flatten
no_columns k keys kept list =
    merged_top k [] keys kept list
    ∙ ap (λ l. flatten (best_by (row_before [] keys) k (l ++ records_in 0 list))) (records_zero kept)
    ∙ ap (λ l. flatten (best_by (row_before [] keys) k l)) (records_zero list)
    ∙ ap flatten (best_none (row_before [] keys) k)

module _ (plan : List ℕ) (lists : List (List ℕ)) where
  pub nothing_given : (k : ℕ) (keys : List ℕ) → (plan_of plan).ending ≡ top k [] keys → (w : Way) → is_merge w ≡ true
      → (a : List ℕ) → given plan lists w ≡ some a → a ≡ []
  unfolding given
  nothing_given k keys ending empty m a e = absurd_true m refl
  nothing_given k keys ending (turn i) m a e = absurd_true m refl
  nothing_given k keys ending (into v behind w) m c e =
      let p = next_some (given plan lists v) _ c e in
      let q = next_some (given plan lists w) _ c p.2 in
      merged_given plan p.0 behind q.0 c q.2
      ∙ ap (λ d. merged d p.0 q.0) ending
      ∙ no_columns k keys p.0 q.0

  top_ends : (k : ℕ) (vs keys : List ℕ) → (plan_of plan).ending ≡ top k vs keys → (v w : Way) → Reordered v w
      → Apart (row_before vs keys) (rows_merged (length vs) lists (turns_along v)) → SameEnd plan lists v w
  top_ends k [] keys ending v w r h a b e f =
      nothing_given k keys ending v r.first a e ∙ sym (nothing_given k keys ending w r.second b f)
  top_ends k (x ∷ vs) keys ending v w r h a b e f =
      tops.any_order plan lists k (x ∷ vs) keys ending (omega arith) v w r.first r.second r.turns h a b e f

  grouped_ends : (k : ℕ) (vs keys : List ℕ) → (plan_of plan).ending ≡ top k vs keys → (v w : Way) → is_merge v ≡ true → is_merge w ≡ true
      → turns_along v ≡ turns_along w → SameEnd plan lists v w
  grouped_ends k [] keys ending v w i j p a b e f = nothing_given k keys ending v i a e ∙ sym (nothing_given k keys ending w j b f)
  grouped_ends k (x ∷ vs) keys ending v w i j p a b e f =
      tops.way_gives plan lists k (x ∷ vs) keys ending (omega arith) v a i e
      ∙ ap (λ is. flatten (best_by (row_before (x ∷ vs) keys) k (rows_merged (length (x ∷ vs)) lists is))) p
      ∙ sym (tops.way_gives plan lists k (x ∷ vs) keys ending (omega arith) w b j f)

  -- as long as no merge of either is refused, which is asked of each
  pub any_order : AnyOrder plan lists
  any_order =
      record {
        groups = λ vs m ending v w r. groups.any_order plan lists vs m ending v w r.first r.second r.turns;
        registers = λ u ending v w r. registers.any_order plan lists u ending v w r.first r.second r.turns;
        tops = top_ends;
        grouped = grouped_ends;
      }
