-- Lists of group records: the list of some rows merged with the list of further rows is the list of all of them, and what
-- one more row adds to a list.
use Prim.Native.Nat.{ℕ}
use mathlib.Core.Path.{◌≡◌, refl, sym, ◌∙◌, ap, ap₂}
use mathlib.Core.Bool.{true}
use mathlib.Core.List.{List, [], ◌∷◌, ◌++◌, map, map-append, flatten}
use lib.ListN.{length, length-map}
use Rattle.words.specs.Bindings.{Bindings, value_of}
use Rattle.sequences.specs.Sequences.{all}
use Rattle.plans.specs.Endings.{group}
use Rattle.lists.specs.Groups.{Group, of_row, together, keys_before, add_by, add_all_by, add_groups, groups_of, group_words}
use Rattle.lists.specs.Gathering.{groups_in, gathered, merged, group_fits}
use Rattle.sequences.proofs.Each.{each_map}
use Rattle.sequences.proofs.Ascending.{Ascending}
use Rattle.lists.proofs.Adding.{add_all_last}
use Rattle.lists.proofs.GroupWords.{HaveKeys, wrapped, groups_in_words}
use Rattle.lists.proofs.Wrapping.{wrapped_all, words_added}
use Rattle.lists.proofs.GroupsAdded.{have_add_all, groups_ascending, groups_parts}

module _ (vs : List ℕ) (m : ℕ) where
  -- ---- the records of some rows
  pub rows_have : (bs : List Bindings) → HaveKeys (length vs) (map (of_row vs m) bs)
  rows_have bs = each_map (λ (g : Group). length g.keys ≡ length vs) (of_row vs m) (λ b. length-map vs (value_of b)) bs

  pub groups_have : (bs : List Bindings) → HaveKeys (length vs) (groups_of vs m bs)
  groups_have bs = have_add_all (length vs) [] (map (of_row vs m) bs) tt (rows_have bs)

  pub groups_ascend : (bs : List Bindings) → Ascending keys_before (groups_of vs m bs)
  groups_ascend bs = groups_ascending (length vs) [] (map (of_row vs m) bs) tt (rows_have bs) tt

  -- the records of all rows are those of both parts added up
  pub groups_append : (bs cs : List Bindings) → groups_of vs m (bs ++ cs) ≡ add_groups (groups_of vs m bs) (groups_of vs m cs)
  groups_append bs cs =
      ap (add_groups []) (map-append (of_row vs m) bs cs)
      ∙ groups_parts (length vs) (map (of_row vs m) bs) (map (of_row vs m) cs) (rows_have bs) (rows_have cs)

  -- one more row
  pub groups_last : (bs : List Bindings) (b : Bindings)
      → groups_of vs m (bs ++ (b ∷ [])) ≡ add_by keys_before together (of_row vs m b) (groups_of vs m bs)
  groups_last bs b =
      ap (add_groups []) (map-append (of_row vs m) bs (b ∷ []))
      ∙ add_all_last keys_before together [] (map (of_row vs m) bs) (of_row vs m b)

  -- ---- as words
  -- the records that a gathered list stands for
  pub groups_in_any : (th : List ℕ) (bs : List Bindings) → groups_in vs (gathered (group vs m) th bs) ≡ map wrapped (groups_of vs m bs)
  unfolding gathered
  groups_in_any th bs = groups_in_words vs (groups_of vs m bs) (groups_have bs)

  -- where their totals fit they are those of the rows
  pub groups_in_gathered : (th : List ℕ) (bs : List Bindings) → all group_fits (groups_of vs m bs) ≡ true
      → groups_in vs (gathered (group vs m) th bs) ≡ groups_of vs m bs
  groups_in_gathered th bs f = groups_in_any th bs ∙ wrapped_all (groups_of vs m bs) f

  -- no row, no word
  pub gathered_nil : (th : List ℕ) → gathered (group vs m) th [] ≡ []
  unfolding gathered add_all_by flatten
  gathered_nil th = refl

  -- the list of some rows merged with the list of further rows is the list of all of them
  pub merge_group : (xs ys : List Bindings) (th : List ℕ)
      → merged (group vs m) (gathered (group vs m) [] xs) (gathered (group vs m) th ys) ≡ gathered (group vs m) [] (xs ++ ys)
  unfolding merged gathered
  merge_group xs ys th =
      ap (λ g. flatten (map group_words g)) (ap₂ add_groups (groups_in_any [] xs) (groups_in_any th ys))
      ∙ ap flatten (words_added (groups_of vs m xs) (groups_of vs m ys))
      ∙ ap (λ g. flatten (map group_words g)) (sym (groups_append xs ys))
