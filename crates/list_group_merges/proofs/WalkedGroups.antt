-- The walk from the back over the words of two right lists of groups makes the words of the merged list, and counts its
-- records, unless a total of them does not fit.
use Prim.Native.Nat.{ℕ, zero, suc, ◌+◌, ◌*◌, ◌-◌, ◌/◌, ◌≤◌, ◌<◌}
use native.Mathlib.Omega.{arith}
use native.Mathlib.Decide.{dec_lt}
use native.Mathlib.Nat.{suc-mul}
use native.Mathlib.Numerals.{add-one}
use mathlib.Core.Path.{◌≡◌, refl, sym, ◌∙◌, ap, ap₂, subst}
use mathlib.Core.Bool.{Bool, true, false, cond, ◌&&◌}
use mathlib.Core.List.{List, [], ◌∷◌, ◌++◌, flatten, append-nil}
use lib.ListN.{length, take, drop, length-append, length-map}
use lib.Seq.{take-add}
use Rattle.words.specs.Words.{key_rank}
use Rattle.sequences.specs.Sequences.{all}
use Rattle.sequences.proofs.Orders.{lex_trans, lex_asym, lex_weak}
use Rattle.plans.specs.Endings.{group}
use Rattle.std.specs.declared.cmp.Ordering.TheVariants.{Less, Equal, Greater}
use Rattle.std.specs.Prelude.{Option, Some, None}
use Rattle.lists.specs.Groups.{Group, totals_width, together, keys_before, add_groups, group_words}
use Rattle.lists.specs.Gathering.{groups_in, merged, group_fits, list_right, totals_fit}
use Rattle.list_groups.specs.Keys.{keys_first}
use Rattle.lists.specs.Sides.{side_by}
use Rattle.list_group_merges.specs.MergingBackwards.{walked, record_at, sides, word_walk, merged_records, more_by, count_walk, union_of}
use Rattle.lists.proofs.Keys.{ranks}
use Rattle.sequences.proofs.Ascending.{Ascending}
use Rattle.sequences.proofs.Parts as at_words
use Rattle.lists.proofs.GroupWords.{Words, have_keys_in}
use Rattle.lists.proofs.GroupValid.{right_ascending}
use Rattle.list_groups.proofs.KeySides.{before_keys}
use Rattle.list_group_totals.proofs.FlatGroups.{flat, flat_append, length_flat}
use Rattle.lists.proofs.GroupsAdded.{have_add_all}
use Rattle.list_group_merges.proofs.AddingLast.{Below, ascending_last}
use Rattle.list_group_merges.proofs.BackWalks.{first, list_walk, walk_map, walk_adds}
use Rattle.list_group_merges.proofs.WalkSteps.{pick_some}
use Rattle.list_group_merges.proofs.RecordGroups.{group_at, groups_first, groups_all, record_words, record_back, record_keys_lem, record_fits}
use Rattle.list_group_merges.proofs.RecordGroups.{join_words_lem, join_fits_lem}

-- ---- lists of groups, one more at the end
flat_last : (gs : List Group) (g : Group) → flat (gs ++ (g ∷ [])) ≡ flat gs ++ group_words g
unfolding flatten
flat_last gs g = flat_append gs (g ∷ []) ∙ ap (λ l. flat gs ++ l) (append-nil (group_words g))

-- the number of some records, unless a total does not fit
abbrev pub count_of : List Group → Option ℕ
count_of gs = cond (all group_fits gs) (Some (length gs)) None

all_last : (gs : List Group) (g : Group) → all group_fits (gs ++ (g ∷ [])) ≡ (all group_fits gs && group_fits g)
unfolding all
all_last [] g = and-true (group_fits g)
  where
    and-true : (b : Bool) → b && true ≡ b
    and-true true = refl
    and-true false = refl
all_last (x ∷ gs) g = ap (λ b. group_fits x && b) (all_last gs g) ∙ and_assoc (group_fits x) (all group_fits gs) (group_fits g)
  where
    and_assoc : (a b c : Bool) → a && (b && c) ≡ (a && b) && c
    and_assoc true b c = refl
    and_assoc false b c = refl

count_last : (gs : List Group) (g : Group) → count_of (gs ++ (g ∷ [])) ≡ cond (group_fits g) (more_by 1 (count_of gs)) None
count_last gs g = ap₂ (λ b n. cond b (Some n) None) (all_last gs g) (length-append gs (g ∷ [])) ∙ go (all group_fits gs) (group_fits g)
  where
    go : (a b : Bool) → cond (a && b) (Some (length gs + 1)) None ≡ cond b (more_by 1 (cond a (Some (length gs)) None)) None
    go true true = refl
    go true false = refl
    go false true = refl
    go false false = refl

-- each record of an ascending list comes before the later ones
below_first : (f : ℕ → Group) (n : ℕ) → Ascending keys_before (first f n) → (p : ℕ) → p < n → Below keys_before (f p) (first f p)
unfolding first
below_first f zero a p h = absurd (omega arith)
below_first f (suc n) a p h =
    let r = ascending_last keys_before (first f n) (f n) a in
    elim (dec_lt p n) [
      | yes k ↦ below_first f n r.0 p k
      | no k ↦ subst (λ q. Below keys_before (f q) (first f q)) (let e : n ≡ p = omega arith in e) r.1
    ]

-- ---- the order of groups
group_trans : (a b c : Group) → keys_before a b ≡ true → keys_before b c ≡ true → keys_before a c ≡ true
unfolding keys_before
group_trans a b c = lex_trans (ranks a.keys) (ranks b.keys) (ranks c.keys)

group_asym : (a b : Group) → keys_before a b ≡ true → keys_before b a ≡ false
unfolding keys_before
group_asym a b = lex_asym (ranks a.keys) (ranks b.keys)

group_weak : (n : ℕ) (a b c : Group) → length b.keys ≡ n → length c.keys ≡ n → keys_before a b ≡ true → keys_before c b ≡ false
    → keys_before a c ≡ true
unfolding keys_before
group_weak n a b c l k =
    lex_weak (ranks a.keys) (ranks b.keys) (ranks c.keys) (length-map c.keys key_rank ∙ k ∙ sym l ∙ sym (length-map b.keys key_rank))

group_left : (a b c : Group) → keys_before (together a b) c ≡ keys_before a c
unfolding keys_before
group_left a b c = refl

-- ---- the kept list is the first `used` words of `kept`
module _ (vs : List ℕ) (m : ℕ) (kept : List ℕ) (used : ℕ) (list : List ℕ) (u : used ≤ length kept)
    (wk : Words kept) (wl : Words list) where
  abbrev g : ℕ
  g = length vs

  abbrev w : ℕ
  w = length vs + totals_width

  abbrev n : ℕ
  n = used / w

  abbrev k : ℕ
  k = length list / w

  abbrev groups : List Group
  groups = walked (sides g kept list) (list_walk together (group_at g kept) (group_at g list)) n k

  old_in : (p : ℕ) → p < n → p * w + w ≤ length kept
  old_in p h = let f = at_words.part_fits p used w h in omega arith

  new_in : (q : ℕ) → q < k → q * w + w ≤ length list
  new_in q h = at_words.part_fits q (length list) w h

  -- the words of the walk
  ends_words : (i : ℕ) → i ≤ n → flat (first (group_at g kept) i) ≡ take (i * w) kept
  unfolding first flatten
  ends_words zero h = ap (λ j. take j kept) (let z : 0 ≡ 0 * w = omega arith in z)
  ends_words (suc i) h =
      flat_last (first (group_at g kept) i) (group_at g kept i)
      ∙ ap₂ ◌++◌ (ends_words i (omega arith)) (record_back g kept wk (i * w) (old_in i (omega arith)))
      ∙ sym (take-add (i * w) w kept)
      ∙ ap (λ j. take j kept) (let s = suc-mul i w in let z : i * w + w ≡ suc i * w = omega arith in z)

  pub merged_flat : flat groups ≡ merged_records g kept list n k
  unfolding merged_records
  merged_flat =
      walk_map (sides g kept list) (list_walk together (group_at g kept) (group_at g list)) (word_walk g kept list) flat n k
      ends_words
      (λ q h r. flat_last r (group_at g list q) ∙ ap (λ l. flat r ++ l) (record_back g list wl (q * w) (new_in q h)))
      (λ p h r. flat_last r (group_at g kept p) ∙ ap (λ l. flat r ++ l) (record_back g kept wk (p * w) (old_in p h)))
      (λ p q h l r.
      flat_last r (together (group_at g kept p) (group_at g list q))
      ∙ ap (λ l. flat r ++ l) (join_words_lem g (record_at g kept (p * w)) (record_at g list (q * w))))
      n k (omega arith) (omega arith)

  -- the count of the walk
  ends_count : (i : ℕ) → i ≤ n → count_of (first (group_at g kept) i) ≡ Some i
  unfolding first all
  ends_count zero h = refl
  ends_count (suc i) h =
      count_last (first (group_at g kept) i) (group_at g kept i)
      ∙ ap₂ (λ b c. cond b (more_by 1 c) None) (record_fits g (record_at g kept (i * w)) (record_words g kept wk (i * w) (old_in i (omega arith))))
      (ends_count i (omega arith))
      ∙ ap Some (add-one i)

  pub union_count : count_of groups ≡ union_of g kept list n k
  unfolding union_of
  union_count =
      walk_map (sides g kept list) (list_walk together (group_at g kept) (group_at g list)) (count_walk g kept list) count_of n k
      ends_count
      (λ q h r. count_last r (group_at g list q) ∙ ap (λ b. cond b (more_by 1 (count_of r)) None)
      (record_fits g (record_at g list (q * w)) (record_words g list wl (q * w) (new_in q h))))
      (λ p h r. count_last r (group_at g kept p) ∙ ap (λ b. cond b (more_by 1 (count_of r)) None)
      (record_fits g (record_at g kept (p * w)) (record_words g kept wk (p * w) (old_in p h))))
      (λ p q h l r.
      count_last r (together (group_at g kept p) (group_at g list q))
      ∙ ap (λ b. cond b (more_by 1 (count_of r)) None) (join_fits_lem g (record_at g kept (p * w)) (record_at g list (q * w))))
      n k (omega arith) (omega arith)

  -- ---- on right lists the walk adds the groups up
  agree : (p q : ℕ) → p < n → q < k → sides g kept list (suc p) (suc q) ≡ side_by keys_before (group_at g kept p) (group_at g list q)
  agree p q h l =
      let s = suc-mul p w in
      let t = suc-mul q w in
      pick_some g kept (suc p * w) list (suc q * w) (λ e. omega arith)
      ∙ ap₂ (λ i j. side_by keys_first (take g (drop i kept)) (take g (drop j list)))
      (let z : suc p * w - w ≡ p * w = omega arith in z) (let z : suc q * w - w ≡ q * w = omega arith in z)
      ∙ ap₂ (λ b c. cond b Less (cond c Greater Equal)) (sym (before_keys g (drop (p * w) kept) (drop (q * w) list)))
      (sym (before_keys g (drop (q * w) list) (drop (p * w) kept)))

  module _ (rk : list_right (group vs m) (take used kept) ≡ true) (rl : list_right (group vs m) list ≡ true) where
    added : groups ≡ add_groups (groups_in vs (take used kept)) (groups_in vs list)
    added =
        let ek = groups_first vs kept used u in
        let el = groups_all vs list in
        walk_adds (λ x. length x.keys ≡ length vs) keys_before together group_trans group_asym (group_weak (length vs)) group_left
        (group_at g kept) (group_at g list) n k
        (λ p h. record_keys_lem g kept wk (p * w) (old_in p h))
        (λ q h. record_keys_lem g list wl (q * w) (new_in q h))
        (below_first (group_at g kept) n (subst (Ascending keys_before) ek (right_ascending vs m (take used kept) rk)))
        (below_first (group_at g list) k (subst (Ascending keys_before) el (right_ascending vs m list rl)))
        (sides g kept list) agree n k (omega arith) (omega arith)
        ∙ ap₂ add_groups (sym ek) (sym el)

    -- the words of the merged list
    pub merged_walked : merged (group vs m) (take used kept) list ≡ merged_records g kept list n k
    unfolding merged
    merged_walked = ap flat (sym added) ∙ merged_flat

    union_added : union_of g kept list n k ≡ count_of (add_groups (groups_in vs (take used kept)) (groups_in vs list))
    union_added = sym union_count ∙ ap count_of added

    -- 13: the count says whether the totals fit
    pub union_over : union_of g kept list n k ≡ None → totals_fit (group vs m) (take used kept) list ≡ false
    unfolding totals_fit
    union_over e = go (all group_fits (add_groups (groups_in vs (take used kept)) (groups_in vs list))) (sym union_added ∙ e)
      where
        go : (b : Bool) → cond b (Some (length (add_groups (groups_in vs (take used kept)) (groups_in vs list)))) None ≡ None → b ≡ false
        go true e = let z : ◌≡◌ {A = ℕ} 0 1 = cc in absurd (omega arith)
        go false e = refl

    -- 14: and how many words the merged list has
    pub union_fits : (c : ℕ) → union_of g kept list n k ≡ Some c
        → (totals_fit (group vs m) (take used kept) list ≡ true) × (length (merged (group vs m) (take used kept) list) ≡ c * w)
    unfolding totals_fit merged
    union_fits c e = go (all group_fits gs) refl (sym union_added ∙ e)
      where
        gs : List Group
        gs = add_groups (groups_in vs (take used kept)) (groups_in vs list)

        size : length (flat gs) ≡ length gs * w
        size =
            length_flat (length vs) gs (have_add_all (length vs) (groups_in vs (take used kept)) (groups_in vs list) (have_keys_in vs (take used kept))
            (have_keys_in vs list))

        go : (b : Bool) → all group_fits gs ≡ b → cond b (Some (length gs)) None ≡ Some c
            → (all group_fits gs ≡ true) × (length (flat gs) ≡ c * w)
        go true h e = (h, size ∙ ap (λ j. j * w) (let p : length gs ≡ c = cc in p))
        go false h e = let z : ◌≡◌ {A = ℕ} 0 1 = cc in absurd (omega arith)
