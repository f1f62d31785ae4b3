-- What a merge of groups answers and leaves in the buffer of the kept list: 13 before 14. Assumes nothing: these are
-- definitions.
use Rattle.std.specs.Prelude.{ℕ, ◌+◌, ◌-◌, ◌≤◌, ◌≡◌, Bool, true, cond, Result, Ok, Err, List, leb, length}
use Rattle.std.specs.declared.cmp.Ordering.{Ordering}
use Rattle.std.specs.declared.cmp.Ordering.TheVariants.{Less, Equal}
use Rattle.list_group_merges.specs.declared.MergeFault.{MergeFault}
use Rattle.list_group_merges.specs.declared.MergeFault.TheVariants.{Overflow, NoRoom}
use Rattle.plans.specs.Endings.{group}
use Rattle.lists.specs.Groups.{totals_width}
use Rattle.lists.specs.Gathering.{merged, list_right, totals_fit}
use Rattle.lists.specs.Putting.{put_over}
use Rattle.list_group_merges.specs.MergingBackwards.{by_side, record_at, join_words, join_fits}

-- by whether the totals fit and by the merged list
abbrev pub groups_merged_as : Bool → List ℕ → List ℕ → Result ℕ MergeFault
groups_merged_as fit list buffer = cond fit (cond (leb (length list) (length buffer)) (Ok (length list)) (Err NoRoom)) (Err Overflow)

abbrev pub merged_over : Bool → List ℕ → List ℕ → List ℕ
merged_over fit list buffer = cond fit (put_over list buffer) buffer

-- two lists are lists of groups with g keys, whatever the variables
abbrev pub BothGroups : ℕ → List ℕ → List ℕ → Type 0
BothGroups g kept list =
    (vs : List ℕ) (m : ℕ) → length vs ≡ g → (list_right (group vs m) kept ≡ true) × (list_right (group vs m) list ≡ true)

-- what adding a list to the kept one, the first words of a buffer before and after, answers and leaves
abbrev pub AddsGroups : ℕ → List ℕ → List ℕ → List ℕ → List ℕ → Result ℕ MergeFault → Type 0
AddsGroups g kept list before after answer =
    (vs : List ℕ) (m : ℕ) → length vs ≡ g
    → (answer ≡ groups_merged_as (totals_fit (group vs m) kept list) (merged (group vs m) kept list) before)
    × (after ≡ merged_over (totals_fit (group vs m) kept list) (merged (group vs m) kept list) before)

-- the last record of both lists, of which one ends at `x` and the other at `y`, by the side `s` that tells which it is
abbrev pub last_record : ℕ → List ℕ → ℕ → List ℕ → ℕ → Ordering → List ℕ
last_record g a x b y s =
    by_side s (record_at g b (y - (g + totals_width)))
    (join_words g (record_at g a (x - (g + totals_width))) (record_at g b (y - (g + totals_width))))
    (record_at g a (x - (g + totals_width)))

-- it can be put at the word `to`, above the records that are left
pub record CanPut (g : ℕ) (a : List ℕ) (x : ℕ) (b : List ℕ) (y to : ℕ) (s : Ordering) : Type 0 where
  pub new_there : g + totals_width ≤ y
  pub new_inside : y ≤ length b
  pub room : to + (g + totals_width) ≤ length a
  pub old_there : (s ≡ Less → ⊥) → g + totals_width ≤ x
  pub old_below : (s ≡ Less → ⊥) → x ≤ to + (g + totals_width)
  pub fits : s ≡ Equal → join_fits g (record_at g a (x - (g + totals_width))) (record_at g b (y - (g + totals_width))) ≡ true
