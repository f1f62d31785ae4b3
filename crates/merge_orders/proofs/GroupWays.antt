-- Group lists merged in any order and grouping: the end is the same.
use Prim.Native.Nat.{ℕ}
use native.Mathlib.Nat.{ℕ_set}
use mathlib.Core.HLevel.{Σ_prop_path}
use mathlib.Core.Path.{◌≡◌, refl, sym, ◌∙◌, ap, ap₂, subst}
use mathlib.Core.Bool.{true, false}
use mathlib.Core.Option.{some}
use mathlib.Core.List.{List, [], ◌∷◌, ◌++◌, map, flatten, append-nil, append_assoc, Permᴰ}
use lib.ListN.{length, get_or}
use Rattle.sequences.proofs.Booleans.{absurd_true}
use Rattle.words.proofs.Testing.{some_injective}
use Rattle.plans.specs.Endings.{group}
use Rattle.plans.specs.Plans.{plan_of}
use Rattle.plans.proofs.Bounds.{next_some}
use Rattle.lists.specs.Groups.{Group, keys_before, add_all_by, add_groups, group_words}
use Rattle.sequences.specs.Sequences.{all}
use Rattle.lists.specs.Gathering.{groups_in, merged, list_right, kept_right, group_fits, totals_fit}
use Rattle.sequences.proofs.Each.{Each, each_append}
use Rattle.lists.proofs.Records.{records_nil}
use Rattle.sequences.proofs.Ascending.{Ascending}
use Rattle.lists.proofs.Adding.{add_parts}
use Rattle.lists.proofs.AddingKeeps.{ascending_unmap}
use Rattle.merge_orders.proofs.AddingPermuted.{add_all_permuted, already_added}
use Rattle.lists.proofs.GroupWords.{HaveKeys, groups_in_words, have_keys_in}
use Rattle.lists.proofs.GroupsAdded.{Keyed, keyed_before, keyed_together, keyed_joins, keyed, plain, plain_keyed, plain_add_all, have_add_all}
use Rattle.lists.proofs.Wrapping.{wrapped_all}
use Rattle.merge_orders.proofs.GroupsPermuted.{together_comm}
use Rattle.lists.proofs.GroupRows.{RightKeyed}
use Rattle.lists.proofs.GroupValid.{AllRight, right_records, right_ascending}
use Rattle.merge_orders.specs.Ways.{Way, empty, turn, into, turns_along, is_merge, merged_by, given}
use Rattle.merge_orders.proofs.Permuted.{joined_permuted}
use Rattle.merge_orders.proofs.Served.{merged_given, served_passes}

keyed_right : (n : ℕ) (gs : List Group) (h : HaveKeys n gs) → AllRight gs → Each (RightKeyed n) (keyed n gs h)
keyed_right n [] h r = tt
keyed_right n (g ∷ gs) h r = (r.0, keyed_right n gs h.1 r.1)

pub keyed_comm : (n : ℕ) (x y : Keyed n) → RightKeyed n x → RightKeyed n y → keyed_before n x y ≡ false → keyed_before n y x ≡ false
    → keyed_together n x y ≡ keyed_together n y x
keyed_comm n x y p q e f = Σ_prop_path (λ g. ℕ_set (length g.keys) n) (together_comm x.0 y.0 (x.1 ∙ sym y.1) p q e f)

-- what a merge whose totals fit wrote is read back
read_back : (vs : List ℕ) (m : ℕ) (x y : List ℕ) → totals_fit (group vs m) x y ≡ true
    → groups_in vs (merged (group vs m) x y) ≡ add_groups (groups_in vs x) (groups_in vs y)
unfolding merged totals_fit
read_back vs m x y f =
    groups_in_words vs (add_groups (groups_in vs x) (groups_in vs y))
    (have_add_all (length vs) (groups_in vs x) (groups_in vs y) (have_keys_in vs x) (have_keys_in vs y))
    ∙ wrapped_all (add_groups (groups_in vs x) (groups_in vs y)) f

module _ (plan : List ℕ) (lists : List (List ℕ)) (vs : List ℕ) (m : ℕ) (ending : (plan_of plan).ending ≡ group vs m) where
  abbrev n : ℕ
  n = length vs

  abbrev records_of : ℕ → List (Keyed n)
  records_of i = keyed n (groups_in vs (get_or lists i [])) (have_keys_in vs (get_or lists i []))

  -- the records of the lists that a way merges, from left to right, and their sum
  abbrev pub all_of : List ℕ → List (Keyed n)
  all_of is = flatten (map records_of is)

  abbrev pub sum_of : List ℕ → List (Keyed n)
  sum_of is = add_all_by (keyed_before n) (keyed_together n) [] (all_of is)

  all_append : (is js : List ℕ) → all_of (is ++ js) ≡ all_of is ++ all_of js
  unfolding flatten
  all_append [] js = refl
  all_append (i ∷ is) js = ap (λ l. records_of i ++ l) (all_append is js) ∙ sym (append_assoc (records_of i) (all_of is) (all_of js))

  pub record Stands (w : Way) (a : List ℕ) : Type 0 where
    pub right : Each (RightKeyed n) (all_of (turns_along w))
    pub records : groups_in vs a ≡ plain n (sum_of (turns_along w))

  no_records : groups_in vs [] ≡ []
  no_records = ap (map _) (records_nil _)

  turn_stands : (i : ℕ) → list_right (group vs m) (get_or lists i []) ≡ true → Stands (turn i) (get_or lists i [])
  unfolding turns_along flatten
  turn_stands i r =
      let gs = groups_in vs (get_or lists i []) in
      let h = have_keys_in vs (get_or lists i []) in
      let asc : Ascending (keyed_before n) (records_of i) =
      ascending_unmap (λ x. x.0) (keyed_before n) keys_before (λ x y. refl) (records_of i)
      (subst (Ascending keys_before) (sym (plain_keyed n gs h)) (right_ascending vs m (get_or lists i []) r)) in
      record {
        right = subst (Each (RightKeyed n)) (sym (append-nil (records_of i))) (keyed_right n gs h (right_records vs m (get_or lists i []) r));
        records =
            sym (plain_keyed n gs h)
            ∙ ap (plain n)
            (sym (already_added (keyed_joins n) (records_of i) asc) ∙ ap (add_all_by (keyed_before n) (keyed_together n) []) (sym (append-nil (records_of i))));
      }

  -- the sum of two
  both_sum_lem : (a b : Way) (behind x y : List ℕ) → Stands a x → Stands b y
      → add_groups (groups_in vs x) (groups_in vs y) ≡ plain n (sum_of (turns_along (into a behind b)))
  unfolding turns_along
  both_sum_lem a b behind x y s u =
      ap₂ add_groups s.records u.records
      ∙ sym (plain_add_all n (sum_of (turns_along a)) (sum_of (turns_along b)))
      ∙ ap (plain n)
      (sym (add_parts (keyed_joins n) (all_of (turns_along a)) (all_of (turns_along b)))
      ∙ ap (add_all_by (keyed_before n) (keyed_together n) []) (sym (all_append (turns_along a) (turns_along b))))

  both_given : (a b : Way) (behind x y c : List ℕ) → Stands a x → Stands b y → merged_by plan x behind y ≡ some c
      → c ≡ flatten (map group_words (plain n (sum_of (turns_along (into a behind b)))))
  unfolding merged
  both_given a b behind x y c s u e =
      merged_given plan x behind y c e ∙ ap (λ d. merged d x y) ending
      ∙ ap (λ g. flatten (map group_words g)) (both_sum_lem a b behind x y s u)

  pub way_stands : (w : Way) (a : List ℕ) → given plan lists w ≡ some a → list_right (group vs m) a ≡ true → Stands w a
  unfolding given turns_along flatten add_all_by
  way_stands empty a e r = record { right = tt; records = ap (groups_in vs) (sym (some_injective e)) ∙ no_records }
  way_stands (turn i) a e r =
      subst (Stands (turn i)) (some_injective e) (turn_stands i (ap (list_right (group vs m)) (some_injective e) ∙ r))
  way_stands (into a behind b) c e r =
      let p = next_some (given plan lists a) _ c e in
      let q = next_some (given plan lists b) _ c p.2 in
      let t = served_passes plan p.0 behind q.0 c q.2 in
      let s = way_stands a p.0 p.1 (sym (ap (λ d. kept_right d p.0) ending) ∙ t.0) in
      let u = way_stands b q.0 q.1 (sym (ap (λ d. list_right d q.0) ending) ∙ t.1) in
      record {
        right = subst (Each (RightKeyed n)) (sym (all_append (turns_along a) (turns_along b)))
            (each_append (RightKeyed n) (all_of (turns_along a)) (all_of (turns_along b)) s.right u.right);
        records =
            ap (groups_in vs) (merged_given plan p.0 behind q.0 c q.2 ∙ ap (λ d. merged d p.0 q.0) ending)
            ∙ read_back vs m p.0 q.0 (sym (ap (λ d. totals_fit d p.0 q.0) ending) ∙ t.2)
            ∙ both_sum_lem a b behind p.0 q.0 s u;
      }

  -- a merge gives the sum of its lists' records, each of which is right
  pub way_gives : (w : Way) (a : List ℕ) → is_merge w ≡ true → given plan lists w ≡ some a
      → (a ≡ flatten (map group_words (plain n (sum_of (turns_along w))))) × Each (RightKeyed n) (all_of (turns_along w))
  unfolding given turns_along
  way_gives empty a i e = absurd_true i refl
  way_gives (turn j) a i e = absurd_true i refl
  way_gives (into a behind b) c i e =
      let p = next_some (given plan lists a) _ c e in
      let q = next_some (given plan lists b) _ c p.2 in
      let t = served_passes plan p.0 behind q.0 c q.2 in
      let s = way_stands a p.0 p.1 (sym (ap (λ d. kept_right d p.0) ending) ∙ t.0) in
      let u = way_stands b q.0 q.1 (sym (ap (λ d. list_right d q.0) ending) ∙ t.1) in (
        both_given a b behind p.0 q.0 c s u q.2,
        subst (Each (RightKeyed n)) (sym (all_append (turns_along a) (turns_along b)))
            (each_append (RightKeyed n) (all_of (turns_along a)) (all_of (turns_along b)) s.right u.right),
      )

  -- whose totals are in their range
  pub way_fits : (w : Way) (a : List ℕ) → is_merge w ≡ true → given plan lists w ≡ some a → all group_fits (plain n (sum_of (turns_along w))) ≡ true
  unfolding given turns_along totals_fit
  way_fits empty a i e = absurd_true i refl
  way_fits (turn j) a i e = absurd_true i refl
  way_fits (into a behind b) c i e =
      let p = next_some (given plan lists a) _ c e in
      let q = next_some (given plan lists b) _ c p.2 in
      let t = served_passes plan p.0 behind q.0 c q.2 in
      let s = way_stands a p.0 p.1 (sym (ap (λ d. kept_right d p.0) ending) ∙ t.0) in
      let u = way_stands b q.0 q.1 (sym (ap (λ d. list_right d q.0) ending) ∙ t.1) in
      sym (ap (all group_fits) (both_sum_lem a b behind p.0 q.0 s u)) ∙ sym (ap (λ d. totals_fit d p.0 q.0) ending) ∙ t.2

  -- in every order and grouping, with the same end
  pub any_order : (v w : Way) → is_merge v ≡ true → is_merge w ≡ true → Permᴰ (turns_along v) (turns_along w)
      → (a b : List ℕ) → given plan lists v ≡ some a → given plan lists w ≡ some b → a ≡ b
  any_order v w i j p a b e f =
      let x = way_gives v a i e in
      x.0
      ∙ ap (λ g. flatten (map group_words (plain n g)))
      (add_all_permuted (keyed_joins n) (RightKeyed n) (keyed_comm n) (joined_permuted records_of p) x.1 [])
      ∙ sym (way_gives w b j f).0
