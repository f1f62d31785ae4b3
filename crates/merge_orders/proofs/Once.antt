-- Each list merged once, in any order and grouping: the end is that of merging them in the order of turns, one after the other.
use Prim.Native.Nat.{ℕ, ◌<◌}
use native.Mathlib.Omega.{arith}
use mathlib.Core.Path.{◌≡◌, refl, sym, ◌∙◌, ap, ap₂, subst}
use mathlib.Core.Bool.{true}
use mathlib.Core.Option.{some}
use mathlib.Core.List.Permᴰ
use mathlib.Core.List.{List, [], ◌∷◌, ◌++◌, map, map-append, flatten}
use mathlib.Core.List.{Permᴰ}
use lib.ListN.{length, get_or}
use Rattle.sequences.specs.Sequences.{all, numbers}
use Rattle.sequences.specs.Sorting.{best_by}
use Rattle.sequences.proofs.Each.{Each}
use Rattle.sequences.proofs.Numbers.{numbers_none}
use Rattle.plans.specs.Endings.{top, group, registers}
use Rattle.plans.specs.Plans.{plan_of}
use Rattle.registers.specs.Registers.{register_count}
use Rattle.lists.specs.Rows.{row_before}
use Rattle.lists.specs.Groups.{add_groups, group_words}
use Rattle.lists.specs.Gathering.{groups_in, records_in, group_fits}
use Rattle.lists.specs.Thresholds.{merged_all}
use Rattle.lists.proofs.FullLists.{rows_in, merged_all_lem}
use Rattle.lists.proofs.GroupWords.{have_keys_in}
use Rattle.lists.proofs.GroupsAdded.{Keyed, keyed_joins, keyed, plain, plain_keyed, plain_add_all}
use Rattle.lists.proofs.GroupRows.{RightKeyed}
use Rattle.lists.proofs.RowOrder.{rows_ordered}
use Rattle.merge_orders.specs.Apart.{Apart}
use Rattle.merge_orders.specs.Ways.{Way, turns_along, is_merge, given, EachOnce}
use Rattle.merge_orders.proofs.Permuted.{joined_permuted}
use Rattle.merge_orders.proofs.Reordering.{best_permuted}
use Rattle.merge_orders.proofs.AddingPermuted.{add_all_permuted}
use Rattle.merge_orders.proofs.TopWays as tops
use Rattle.merge_orders.proofs.GroupWays as groups
use Rattle.merge_orders.proofs.RegisterWays as registering
use Rattle.merge_orders.proofs.InOrder.{each_number, all_numbers, records_all, groups_in_order, registers_in_order}

pub none_left : {A : Type 0} {xs : List A} → Permᴰ [] xs → xs ≡ []
none_left p = go p refl
  where
    go : {A : Type 0} {ys xs : List A} → Permᴰ ys xs → ys ≡ [] → xs ≡ []
    go Permᴰ.nil e = refl
    go (Permᴰ.cons q h) e = absurd (let z : ◌≡◌ {A = ℕ} 0 1 = cc in omega arith)
    go (Permᴰ.swap q r) e = absurd (let z : ◌≡◌ {A = ℕ} 0 1 = cc in omega arith)
    go (Permᴰ.trans h k) e = go k (go h e)

-- ---- top lists
module _ (plan : List ℕ) (lists : List (List ℕ)) (k : ℕ) (vs keys : List ℕ)
    (ending : (plan_of plan).ending ≡ top k vs keys) (some-vs : 0 < length vs) where
  abbrev rows_at : List ℕ → List (List ℕ)
  rows_at is = flatten (map (λ i. records_in (length vs) (get_or lists i [])) is)

  rows_numbers : rows_at (numbers (length lists)) ≡ rows_in (length vs) lists
  rows_numbers = ap flatten (all_numbers [] (records_in (length vs)) lists)

  -- where no two of their rows are equal in all keys
  pub top_once : Apart (row_before vs keys) (rows_in (length vs) lists) → (w : Way) → is_merge w ≡ true → EachOnce lists w
      → (a : List ℕ) → given plan lists w ≡ some a → a ≡ merged_all (top k vs keys) lists
  top_once h w m p a e =
      tops.way_gives plan lists k vs keys ending some-vs w a m e
      ∙ ap flatten
      (sym (best_permuted (row_before vs keys) (rows_ordered vs keys) k (joined_permuted (λ i. records_in (length vs) (get_or lists i [])) p)
      (subst (Apart (row_before vs keys)) (sym rows_numbers) h))
      ∙ ap (best_by (row_before vs keys) k) rows_numbers)
      ∙ sym (merged_all_lem k vs keys some-vs lists)

  -- grouping alone, in the order of turns, needs no distinct keys
  pub top_grouped : (w : Way) → is_merge w ≡ true → turns_along w ≡ numbers (length lists)
      → (a : List ℕ) → given plan lists w ≡ some a → a ≡ merged_all (top k vs keys) lists
  top_grouped w m p a e =
      tops.way_gives plan lists k vs keys ending some-vs w a m e
      ∙ ap (λ l. flatten (best_by (row_before vs keys) k l)) (ap rows_at p ∙ rows_numbers)
      ∙ sym (merged_all_lem k vs keys some-vs lists)

-- ---- groups
module _ (plan : List ℕ) (lists : List (List ℕ)) (vs : List ℕ) (m : ℕ) (ending : (plan_of plan).ending ≡ group vs m) where
  abbrev n : ℕ
  n = length vs

  abbrev records_at : ℕ → List (Keyed n)
  records_at i = keyed n (groups_in vs (get_or lists i [])) (have_keys_in vs (get_or lists i []))

  abbrev all_at : List ℕ → List (Keyed n)
  all_at is = flatten (map records_at is)

  plain_all : (is : List ℕ) → plain n (all_at is) ≡ flatten (map (λ i. groups_in vs (get_or lists i [])) is)
  unfolding flatten
  plain_all [] = refl
  plain_all (i ∷ is) =
      map-append (λ x. x.0) (records_at i) (all_at is)
      ∙ ap₂ ◌++◌ (plain_keyed n (groups_in vs (get_or lists i [])) (have_keys_in vs (get_or lists i []))) (plain_all is)

  -- in whatever order they are added up, the sum is that in the order of turns
  sum_once : (w : Way) → EachOnce lists w → Each (RightKeyed n) (all_at (turns_along w))
      → plain n (groups.sum_of plan lists vs m ending (turns_along w)) ≡ add_groups [] (records_all vs m lists)
  sum_once w p r =
      ap (plain n) (add_all_permuted (keyed_joins n) (RightKeyed n) (groups.keyed_comm n) (joined_permuted records_at (Permᴰ.symm p)) r [])
      ∙ plain_add_all n [] (all_at (numbers (length lists)))
      ∙ ap (add_groups []) (plain_all (numbers (length lists)) ∙ ap flatten (all_numbers [] (groups_in vs) lists))

  pub group_once : (w : Way) → is_merge w ≡ true → EachOnce lists w → (a : List ℕ) → given plan lists w ≡ some a
      → a ≡ merged_all (group vs m) lists
  group_once w i p a e =
      let x = groups.way_gives plan lists vs m ending w a i e in
      x.0 ∙ ap (λ g. flatten (map group_words g)) (sum_once w p x.1) ∙ sym (groups_in_order vs m lists)

  -- and its totals are in their range
  pub group_fits_lem : (w : Way) → is_merge w ≡ true → EachOnce lists w → (a : List ℕ) → given plan lists w ≡ some a
      → all group_fits (add_groups [] (records_all vs m lists)) ≡ true
  group_fits_lem w i p a e =
      sym (ap (all group_fits) (sum_once w p (groups.way_gives plan lists vs m ending w a i e).1))
      ∙ groups.way_fits plan lists vs m ending w a i e

-- ---- registers, of lists that have them all
pub register_once : (plan : List ℕ) (lists : List (List ℕ)) (v : ℕ) → (plan_of plan).ending ≡ registers v
    → Each (λ l. length l ≡ register_count) lists → (w : Way) → is_merge w ≡ true → EachOnce lists w
    → (a : List ℕ) → given plan lists w ≡ some a → a ≡ merged_all (registers v) lists
register_once plan [] v ending h w i p a e =
    absurd (registering.some_turn plan [] v ending w a i e (none_left (subst (λ l. Permᴰ l (turns_along w)) (sym numbers_none) p)))
register_once plan (l ∷ ls) v ending h w i p a e =
    (registering.way_gives plan (l ∷ ls) v ending w a i e).0
    ∙ sym (registering.greatest_permuted (λ k. get_or (l ∷ ls) k []) p)
    ∙ ap registering.greatest_of (each_number [] (l ∷ ls))
    ∙ sym (registers_in_order v l ls h)
