-- Of the rows that there were before numbers had a sign, an ending gathers the list that it gathered, where no sum passes 2^63 - 1.
use Prim.Native.Nat.{ℕ}
use mathlib.Core.Path.{◌≡◌, refl, sym, ◌∙◌, ap}
use mathlib.Core.Bool.{true}
use mathlib.Core.List.{List, [], map, map-id, flatten}
use lib.ListN.{take}
use Rattle.words.specs.Words.{is_variable}
use Rattle.words.specs.Bindings.{Bindings}
use Rattle.sequences.specs.Sequences.{all}
use Rattle.sequences.specs.Sorting.{sort_by, best_by}
use Rattle.sequences.proofs.Each.{Each}
use Rattle.sequences.proofs.EachMore.{each_weaken, each_mapped}
use Rattle.sequences.proofs.SortedMaps.{sort_map}
use Rattle.plans.specs.Endings.{Ending, rows, top, group, registers}
use Rattle.plans.proofs.Bounds.{EndingForm}
use Rattle.lists.specs.Rows.{project, row_before, ahead}
use Rattle.lists.specs.Groups.{group_words}
use Rattle.lists.specs.Gathering.{gathered, group_fits, rows_fit}
use Rattle.lists.specs.Former.{former_row_before, Delivered}
use Rattle.lists.proofs.Former.{rows_as_before}
use Rattle.former.specs.Lists.{former_groups, former_gathered, former_fits}
use Rattle.former.proofs.Runs.{was_delivered}
use Rattle.former.proofs.Groups.{row_was, groups_were, now_fits, all_words}

-- the best rows in either order
best_were : (k : ℕ) (vs keys : List ℕ) (xs : List (List ℕ)) → Each (Each Delivered) xs
    → best_by (row_before vs keys) k xs ≡ best_by (former_row_before vs keys) k xs
unfolding best_by
best_were k vs keys xs h =
    ap (take k)
    (sym (map-id (sort_by (row_before vs keys) xs))
    ∙ sort_map (row_before vs keys) (former_row_before vs keys) (λ x. x) (Each Delivered) (λ x y p q. sym (rows_as_before vs x y p q keys)) xs h
    ∙ ap (sort_by (former_row_before vs keys)) (map-id xs))

projected : (vs : List ℕ) → all is_variable vs ≡ true → (bs : List Bindings) → Each (λ b. all was_delivered b ≡ true) bs
    → Each (Each Delivered) (map (project vs) bs)
projected vs v bs h = each_mapped (Each Delivered) (project vs) bs (each_weaken (λ (b : Bindings). row_was vs v b) bs h)

module _ (bs : List Bindings) (h : Each (λ b. all was_delivered b ≡ true) bs) where
  pub totals_as_before : (e : Ending) → EndingForm e → rows_fit e bs ≡ former_fits e bs
  totals_as_before (rows vs) f = refl
  totals_as_before (top k vs keys) f = refl
  totals_as_before (group vs m) f =
      ap (all group_fits) (groups_were vs m f.variables f.measure bs h) ∙ now_fits (former_groups vs m bs)
  totals_as_before (registers v) f = refl

  pub gathered_as_before : (e : Ending) → EndingForm e → rows_fit e bs ≡ true → gathered e [] bs ≡ former_gathered e bs
  unfolding gathered former_gathered ahead
  gathered_as_before (rows vs) f fit = refl
  gathered_as_before (top k vs keys) f fit =
      ap flatten (best_were k vs keys (map (project vs) bs) (projected vs f.row.variables bs h))
  gathered_as_before (group vs m) f fit =
      ap (λ l. flatten (map group_words l)) (groups_were vs m f.variables f.measure bs h)
      ∙ ap flatten (all_words (former_groups vs m bs) (sym (totals_as_before (group vs m) f) ∙ fit))
  gathered_as_before (registers v) f fit = refl
