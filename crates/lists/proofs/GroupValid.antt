-- Test 12 of a list of groups: gathered lists pass it, and what passes it passes it merged.
use Prim.Native.Nat.{ℕ, ◌+◌, ◌*◌, ◌%◌, ◌≤◌}
use native.Mathlib.Omega.{arith}
use mathlib.Core.Path.{◌≡◌, ◌∙◌, ap}
use mathlib.Core.Bool.{Bool, true, ◌&&◌}
use mathlib.Core.List.{List, [], ◌∷◌, map, flatten}
use lib.Dec.{eqb}
use lib.ListN.{length, length-map}
use borrow.Author.Tests.{eqb-true, eq-eqb}
use Rattle.words.specs.Bindings.{Bindings}
use Rattle.sequences.specs.Sequences.{all, neighbours}
use Rattle.sequences.proofs.Booleans.{and_left, and_right}
use Rattle.plans.specs.Endings.{group}
use Rattle.lists.specs.Groups.{Group, totals_width, of_row, together, keys_before, add_by, add_all_by, add_groups, groups_of, group_words}
use Rattle.lists.specs.Gathering.{groups_in, gathered, merged, group_right, list_right, least_output}
use Rattle.sequences.proofs.Each.{Each, all_each, each_all}
use Rattle.sequences.proofs.EachMore.{each_mapped, each_weaken}
use Rattle.lists.proofs.Records.{whole_flatten, length_flatten}
use Rattle.sequences.proofs.Ascending.{Ascending, ascending_neighbours}
use Rattle.lists.proofs.AddingKeeps.{each_add_all, ascending_map}
use Rattle.lists.proofs.GroupWords.{HaveKeys, wide_words_lem, wrapped, groups_in_words, have_keys_in}
use Rattle.lists.proofs.Wrapping.{before_same}
use Rattle.lists.proofs.GroupsAdded.{have_add_all, groups_ascending, neighbours_keyed}
use Rattle.lists.proofs.GroupLists.{groups_have, groups_ascend}
use Rattle.lists.proofs.Values.{AllValues}
use Rattle.lists.proofs.GroupsRight.{right_together, right_wrapped}
use Rattle.lists.proofs.GroupRows.{key_values, rows_right}

-- each record passes its part of the test
abbrev pub AllRight : List Group → Type 0
AllRight gs = Each (λ (g : Group). group_right g ≡ true) gs

pub right_add_all : (gs hs : List Group) → AllRight gs → AllRight hs → AllRight (add_groups gs hs)
right_add_all = each_add_all (λ (g : Group). group_right g ≡ true) keys_before together right_together

module _ (vs : List ℕ) (m : ℕ) where
  -- ---- a list passes exactly where it has whole records that pass, ascending by their keys
  pub words_right : (gs : List Group) → HaveKeys (length vs) gs → AllRight gs → Ascending keys_before gs
      → list_right (group vs m) (flatten (map group_words gs)) ≡ true
  unfolding list_right
  words_right gs h r a =
      rw (
        eq-eqb (length (flatten (map group_words gs)) % (length vs + totals_width)) 0
            (whole_flatten (length vs + totals_width) (map group_words gs) (wide_words_lem (length vs) gs h)),
        groups_in_words vs gs h,
        each_all group_right (map wrapped gs) (each_mapped (λ (g : Group). group_right g ≡ true) wrapped gs (each_weaken right_wrapped gs r)),
      )
      (ascending_neighbours keys_before (map wrapped gs) (ascending_map wrapped keys_before keys_before before_same gs a))

  module _ (ws : List ℕ) (e : list_right (group vs m) ws ≡ true) where
    -- the parts of the test
    abbrev whole : Bool
    whole = eqb (length ws % (length vs + totals_width)) 0

    abbrev records : Bool
    records = all group_right (groups_in vs ws)

    abbrev ordered : Bool
    ordered = neighbours keys_before (groups_in vs ws)

    pub right_whole : length ws % (length vs + totals_width) ≡ 0
    unfolding list_right
    right_whole = eqb-true (length ws % (length vs + totals_width)) 0 (and_left whole (records && ordered) e)

    pub right_records : AllRight (groups_in vs ws)
    unfolding list_right
    right_records =
        all_each group_right (groups_in vs ws) (and_left records ordered (and_right whole (records && ordered) e))

    pub right_ascending : Ascending keys_before (groups_in vs ws)
    unfolding list_right
    right_ascending =
        neighbours_keyed (length vs) (groups_in vs ws) (have_keys_in vs ws)
        (and_right records ordered (and_right whole (records && ordered) e))

  -- ---- merging
  pub merged_right : (kept list : List ℕ) → list_right (group vs m) kept ≡ true → list_right (group vs m) list ≡ true
      → list_right (group vs m) (merged (group vs m) kept list) ≡ true
  unfolding merged
  merged_right kept list p q =
      let gs = groups_in vs kept in
      let hs = groups_in vs list in
      words_right (add_groups gs hs) (have_add_all (length vs) gs hs (have_keys_in vs kept) (have_keys_in vs list))
      (right_add_all gs hs (right_records kept p) (right_records list q))
      (groups_ascending (length vs) gs hs (have_keys_in vs kept) (have_keys_in vs list) (right_ascending kept p))

  -- ---- gathering
  pub groups_rights : (bs : List Bindings) → AllValues bs → AllRight (groups_of vs m bs)
  groups_rights bs h =
      right_add_all [] (map (of_row vs m) bs) tt
      (each_mapped (λ (g : Group). group_right g ≡ true) (of_row vs m) bs (rows_right vs m bs (key_values vs bs h)))

  pub gathered_right : (th : List ℕ) (bs : List Bindings) → AllValues bs
      → list_right (group vs m) (gathered (group vs m) th bs) ≡ true
  unfolding gathered
  gathered_right th bs h =
      words_right (groups_of vs m bs) (groups_have vs m bs) (groups_rights bs h) (groups_ascend vs m bs)

  -- ---- room: as many words as there are records; the output that test 7 asks for has room for the record of one row
  pub length_gathered : (th : List ℕ) (bs : List Bindings)
      → length (gathered (group vs m) th bs) ≡ length (groups_of vs m bs) * (length vs + totals_width)
  unfolding gathered
  length_gathered th bs =
      length_flatten (length vs + totals_width) (map group_words (groups_of vs m bs))
      (wide_words_lem (length vs) (groups_of vs m bs) (groups_have vs m bs))
      ∙ ap (λ n. n * (length vs + totals_width)) (length-map (groups_of vs m bs) group_words)

  pub row_fits : (th : List ℕ) (b : Bindings) → length (gathered (group vs m) th (b ∷ [])) ≤ least_output (group vs m)
  unfolding add_all_by add_by
  row_fits th b = let e = length_gathered th (b ∷ []) in omega arith
