-- Best-of lists merged in any order and grouping: where no two of their rows are equal in all keys, the end is the same.
use Prim.Native.Nat.{ℕ, ◌<◌}
use mathlib.Core.Path.{◌≡◌, refl, sym, ◌∙◌, ap, subst}
use mathlib.Core.Bool.{Bool, true}
use mathlib.Core.Option.{some}
use mathlib.Core.List.{List, [], ◌∷◌, ◌++◌, map, flatten, append-nil, append_assoc, Permᴰ}
use lib.ListN.{length, get_or}
use Rattle.sequences.proofs.Booleans.{absurd_true}
use Rattle.words.proofs.Testing.{some_injective}
use Rattle.plans.specs.Endings.{top}
use Rattle.plans.specs.Plans.{plan_of}
use Rattle.plans.proofs.Bounds.{next_some}
use Rattle.sequences.specs.Sorting.{best_by}
use Rattle.lists.specs.Rows.{row_before}
use Rattle.lists.specs.Gathering.{records_in, merged}
use Rattle.sequences.proofs.Sorting.{best_left, best_right}
use Rattle.lists.proofs.Records.{Wide, wide_append, wide_records, wide_best, records_flatten, records_nil}
use Rattle.lists.proofs.RowOrder.{rows_ordered}
use Rattle.lists.proofs.TopLists.{merged_top}
use Rattle.merge_orders.proofs.Reordering.{best_permuted}
use Rattle.merge_orders.specs.Apart.{Apart}
use Rattle.merge_orders.specs.Ways.{Way, empty, turn, into, turns_along, is_merge, merged_by, given}
use Rattle.merge_orders.proofs.Permuted.{joined_permuted}
use Rattle.merge_orders.proofs.Served.{merged_given}

module _ (plan : List ℕ) (lists : List (List ℕ)) (k : ℕ) (vs keys : List ℕ)
    (ending : (plan_of plan).ending ≡ top k vs keys) (some-vs : 0 < length vs) where
  abbrev before : List ℕ → List ℕ → Bool
  before = row_before vs keys

  -- the rows of the lists that a way merges, from left to right
  abbrev pub rows_of : List ℕ → List (List ℕ)
  rows_of is = flatten (map (λ i. records_in (length vs) (get_or lists i [])) is)

  wide_rows : (is : List ℕ) → Wide (length vs) (rows_of is)
  unfolding flatten
  wide_rows [] = tt
  wide_rows (i ∷ is) =
      wide_append (length vs) (records_in (length vs) (get_or lists i [])) (rows_of is) (wide_records (length vs) (get_or lists i [])) (wide_rows is)

  rows_append : (is js : List ℕ) → rows_of (is ++ js) ≡ rows_of is ++ rows_of js
  unfolding flatten
  rows_append [] js = refl
  rows_append (i ∷ is) js =
      ap (λ l. records_in (length vs) (get_or lists i []) ++ l) (rows_append is js)
      ∙ sym (append_assoc (records_in (length vs) (get_or lists i [])) (rows_of is) (rows_of js))

  -- what a way gives stands for its rows, before and behind others
  pub record Stands (w : Way) (a : List ℕ) : Type 0 where
    pub left : (ys : List (List ℕ)) → best_by before k (records_in (length vs) a ++ ys) ≡ best_by before k (rows_of (turns_along w) ++ ys)
    pub right : (xs : List (List ℕ)) → best_by before k (xs ++ records_in (length vs) a) ≡ best_by before k (xs ++ rows_of (turns_along w))

  same_stands : (w : Way) (a : List ℕ) → records_in (length vs) a ≡ rows_of (turns_along w) → Stands w a
  same_stands w a e =
      record { left = λ ys. ap (λ r. best_by before k (r ++ ys)) e; right = λ xs. ap (λ r. best_by before k (xs ++ r)) e }

  best_stands : (w : Way) → Stands w (flatten (best_by before k (rows_of (turns_along w))))
  best_stands w =
      let r = records_flatten (length vs) some-vs (best_by before k (rows_of (turns_along w)))
      (wide_best (length vs) before k (rows_of (turns_along w)) (wide_rows (turns_along w))) in
      record {
        left = λ ys. ap (λ l. best_by before k (l ++ ys)) r ∙ best_left before (rows_ordered vs keys) k (rows_of (turns_along w)) ys;
        right = λ xs. ap (λ l. best_by before k (xs ++ l)) r ∙ best_right before (rows_ordered vs keys) k xs (rows_of (turns_along w));
      }

  both_given : (a b : Way) (behind x y c : List ℕ) → Stands a x → Stands b y → merged_by plan x behind y ≡ some c
      → c ≡ flatten (best_by before k (rows_of (turns_along (into a behind b))))
  unfolding turns_along
  both_given a b behind x y c s u e =
      merged_given plan x behind y c e
      ∙ ap (λ d. merged d x y) ending
      ∙ merged_top k vs keys x y
      ∙ ap flatten
      (s.left (records_in (length vs) y)
      ∙ u.right (rows_of (turns_along a))
      ∙ ap (best_by before k) (sym (rows_append (turns_along a) (turns_along b))))

  pub way_stands : (w : Way) (a : List ℕ) → given plan lists w ≡ some a → Stands w a
  unfolding given turns_along flatten
  way_stands empty a e = same_stands empty a (ap (records_in (length vs)) (sym (some_injective e)) ∙ records_nil (length vs))
  way_stands (turn i) a e =
      same_stands (turn i) a (ap (records_in (length vs)) (sym (some_injective e)) ∙ sym (append-nil (records_in (length vs) (get_or lists i []))))
  way_stands (into a behind b) c e =
      let p = next_some (given plan lists a) _ c e in
      let r = next_some (given plan lists b) _ c p.2 in
      subst (Stands (into a behind b)) (sym (both_given a b behind p.0 r.0 c (way_stands a p.0 p.1) (way_stands b r.0 r.1) r.2))
      (best_stands (into a behind b))

  -- a merge gives the best of its lists' rows
  pub way_gives : (w : Way) (a : List ℕ) → is_merge w ≡ true → given plan lists w ≡ some a → a ≡ flatten (best_by before k (rows_of (turns_along w)))
  unfolding given
  way_gives empty a m e = absurd_true m refl
  way_gives (turn i) a m e = absurd_true m refl
  way_gives (into a behind b) c m e =
      let p = next_some (given plan lists a) _ c e in
      let r = next_some (given plan lists b) _ c p.2 in
      both_given a b behind p.0 r.0 c (way_stands a p.0 p.1) (way_stands b r.0 r.1) r.2

  -- in every order and grouping, with the same end
  pub any_order : (v w : Way) → is_merge v ≡ true → is_merge w ≡ true → Permᴰ (turns_along v) (turns_along w)
      → Apart before (rows_of (turns_along v)) → (a b : List ℕ) → given plan lists v ≡ some a → given plan lists w ≡ some b → a ≡ b
  any_order v w m n p h a b e f =
      way_gives v a m e
      ∙ ap flatten (best_permuted before (rows_ordered vs keys) k (joined_permuted (λ i. records_in (length vs) (get_or lists i [])) p) h)
      ∙ sym (way_gives w b n f)
