-- Test 12 of a list of groups, in the parts in which it is made. Assumes nothing: these are definitions.
use Rattle.std.specs.Prelude.{ℕ, ◌+◌, ◌-◌, Bool, true, cond, ◌&&◌, List, [], eqb, leb, take, drop}
use Rattle.list_group_totals.specs.declared.Totals.{Totals}
use Rattle.lists.specs.Groups.{totals_width}
use Rattle.lists.specs.Gathering.{extremes_right}
use Rattle.list_group_totals.specs.GroupTotals.{group_with}
use Rattle.list_groups.specs.Keys.{keys_first}

-- the totals of a record that counts `least` rows or more
abbrev pub totals_right : ℕ → Totals → Bool
totals_right least t = leb least t.rows && (leb t.numbers t.rows && extremes_right (group_with [] t))

-- the keys of the record at `at` come after those of the one before it, if there is one
abbrev pub follows_at : ℕ → List ℕ → ℕ → Bool
follows_at g list at =
    cond (eqb at 0) true (keys_first (take g (drop (at - (g + totals_width)) list)) (take g (drop at list)))
