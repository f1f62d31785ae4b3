-- `flag_members` meets its contract. The invariant: the rows before `place` are flagged, and they are of earlier years.
use Prim.Native.Nat.{ℕ, ◌<◌}
use mathlib.Core.Path.{◌≡◌, refl, sym, ap, ◌∙◌, subst}
use mathlib.Core.List.{List}
use native.Mathlib.Omega.{arith}
use Rattle.tables.specs.declared.Order.TheVariants.{Spo}
use Rattle.tables.specs.Tables.{Tables, tables_of, row_count, year_column, field_of}
use Rattle.tables.specs.Ranges.{range_end}
use Rattle.tables.specs.Years.{year_prefix}
use Rattle.tables.proofs.Ranges.{end_le_count}
use Rattle.view_members.specs.Flags.{FlaggedAs, of_earlier, not_later}
use Rattle.view_members.proofs.Years.{Walked, walked_none, walked_before, row_inside, walked_after, walked_all}
use Rattle.view_members.proofs.flag_members.Goals as goal
use Rattle.view_members.proofs.flag_members.Goals.{After-field-year, At-loop-place, In-loop-place, Start}

abbrev Loop : Type 0
Loop = At-loop-place

abbrev tables : Start → Tables
tables s = tables_of s.args.rows.now s.args.pos.now s.args.osp.now

abbrev rows : Loop → List ℕ
rows l = l.args.rows.now

abbrev grant : Loop → List ℕ
grant l = l.args.grant.now

abbrev membership : Loop → ℕ
membership l = l.args.membership

-- the year of the row, and the end of its rows
abbrev year_word : Loop → ℕ
year_word l = field_of (rows l) l.loop-place.place year_column

abbrev end : Loop → ℕ
end l = range_end ((tables_of l.args.rows.now l.args.pos.now l.args.osp.now)) (year_prefix Spo (year_word l))

there : (c : In-loop-place) → c.loop-place.place < row_count (tables_of c.args.rows.now c.args.pos.now c.args.osp.now)
there c = omega arith

ahead : (c : In-loop-place) → c.loop-place.place <
    (range_end (tables_of c.args.rows.now c.args.pos.now c.args.osp.now) (year_prefix Spo ((field_of (c.args.rows.now) c.loop-place.place year_column))))
ahead c =
    row_inside (tables_of c.args.rows.now c.args.pos.now c.args.osp.now) c.requires.right (c.args.grant.now)
    (c.args.membership) c.loop-place.flags c.loop-place.place (there c)

pub overflow_cast-count : goal.overflow_cast-count
overflow_cast-count c = let h = c.requires.right.sized.few in omega arith

pub loop-place-init : goal.loop-place-init
loop-place-init c = (
  refl,
  omega arith,
  walked_none
      (tables (goal.at.loop-place-init c).Start) c.requires.right c.args.grant.now c.args.membership c.args.flags.now c.requires.unflagged,
)

pub field-year-requires : goal.field-year-requires
field-year-requires c = let h = there (goal.at.field-year-requires c).In-loop-place in (omega (arith, c.own_row.ensures), omega arith)

-- the year that is read
year_is : (c : After-field-year) → c.field-year.result ≡ (field_of (c.args.rows.now) c.loop-place.place year_column)
year_is c = c.field-year.ensures ∙ ap (λ r. field_of (c.args.rows.now) r year_column) c.own_row.ensures

pub flag_year-requires : goal.flag_year-requires
flag_year-requires c = record {
  right = c.requires.right;
  grant_value = c.requires.grant_value;
  flagged_as = subst (λ y. FlaggedAs (of_earlier (rows (goal.at.flag_year-requires c).At-loop-place) y)
      (rows (goal.at.flag_year-requires c).At-loop-place) (grant (goal.at.flag_year-requires c).At-loop-place)
      (membership (goal.at.flag_year-requires c).At-loop-place) c.loop-place.flags) (sym (year_is (goal.at.flag_year-requires c).After-field-year))
      (walked_before (tables (goal.at.flag_year-requires c).Start) c.requires.right (grant (goal.at.flag_year-requires c).At-loop-place)
      (membership (goal.at.flag_year-requires c).At-loop-place) c.loop-place.flags c.loop-place.place
      (there (goal.at.flag_year-requires c).In-loop-place) c.loop-place.invariant.2);
}

-- the prefix that the code asks for is that of the row's year
asked : (c : After-field-year) →
    range_end (tables_of c.args.rows.now c.args.pos.now c.args.osp.now) (year_prefix Spo c.field-year.result) ≡
    (range_end (tables_of c.args.rows.now c.args.pos.now c.args.osp.now) (year_prefix Spo ((field_of (c.args.rows.now) c.loop-place.place year_column))))
asked c = ap (λ y. range_end (tables_of c.args.rows.now c.args.pos.now c.args.osp.now) (year_prefix Spo y)) (year_is c)

pub end_from-place-requires : goal.end_from-place-requires
end_from-place-requires c = record {
  right = c.requires.right;
  count_le_column_count = omega arith;
  from_bound =
      omega (arith, ahead (goal.at.end_from-place-requires c).In-loop-place, asked (goal.at.end_from-place-requires c).After-field-year);
}

pub loop-place-smaller : goal.loop-place-smaller
loop-place-smaller c =
    omega (
      arith,
      ahead (goal.at.loop-place-smaller c).In-loop-place,
      asked (goal.at.loop-place-smaller c).After-field-year,
      c.end_from-place.ensures,
      there (goal.at.loop-place-smaller c).In-loop-place,
    )

pub loop-place-preserved : goal.loop-place-preserved
loop-place-preserved c =
    let e : c.end_from-place.result.0 ≡ end (goal.at.loop-place-preserved c).At-loop-place = c.end_from-place.ensures ∙
    asked (goal.at.loop-place-preserved c).After-field-year in
    let flags = c.flag_year.new.flags in (
      omega arith,
      omega (
        arith,
        e,
        end_le_count (tables (goal.at.loop-place-preserved c).Start)
            (year_prefix Spo (year_word (goal.at.loop-place-preserved c).At-loop-place)),
      ),
      subst (Walked (tables (goal.at.loop-place-preserved c).Start) (grant (goal.at.loop-place-preserved c).At-loop-place)
          (membership (goal.at.loop-place-preserved c).At-loop-place) flags) (sym e)
          (walked_after (tables (goal.at.loop-place-preserved c).Start) c.requires.right (grant (goal.at.loop-place-preserved c).At-loop-place)
          (membership (goal.at.loop-place-preserved c).At-loop-place) flags c.loop-place.place (there (goal.at.loop-place-preserved c).In-loop-place)
          (subst (λ a. FlaggedAs (not_later (rows (goal.at.loop-place-preserved c).At-loop-place) a)
          (rows (goal.at.loop-place-preserved c).At-loop-place) (grant (goal.at.loop-place-preserved c).At-loop-place)
          (membership (goal.at.loop-place-preserved c).At-loop-place) flags)
          (year_is (goal.at.loop-place-preserved c).After-field-year) c.flag_year.ensures)),
    )

pub returns : goal.returns
returns c =
    walked_all (tables (goal.at.returns c).Start) c.requires.right (grant (goal.at.returns c).At-loop-place)
    (membership (goal.at.returns c).At-loop-place) c.loop-place.flags c.loop-place.place (omega arith) c.loop-place.invariant.2
