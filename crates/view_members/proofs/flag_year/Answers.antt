-- `flag_year` meets its contract. The invariant: the places before `place` are flagged, and the grant is walked up to `from`.
use Prim.Native.Nat.{ℕ, ◌+◌, ◌≤◌, ◌<◌}
use mathlib.Core.Path.{◌≡◌, refl, sym, ap, ◌∙◌, subst}
use mathlib.Core.List.{List}
use native.Mathlib.Omega.{arith}
use lib.ListN.{length, set, length-set}
use Rattle.sequences.specs.Sequences.{member}
use Rattle.tables.specs.declared.Order.TheVariants.{Pos}
use Rattle.tables.specs.Tables.{Tables, tables_of, row_count, row_at, field_of, object_column}
use Rattle.tables.specs.Ranges.{range_start, range_end}
use Rattle.tables.proofs.Ranges.{start_le_end, end_le_count}
use Rattle.view_grants.specs.Places.{first_from}
use Rattle.view_members.specs.Flags.{flag_by}
use Rattle.view_members.proofs.Members.{members_of, Upto, upto_start, upto_end, sought_behind, upto_next}
use Rattle.view_members.proofs.flag_year.Goals as goal
use Rattle.view_members.proofs.flag_year.Goals.{After-field, After-wide, At-loop-place, In-loop-place, Start}

abbrev Loop : Type 0
Loop = At-loop-place

abbrev tables : Start → Tables
tables s = tables_of s.args.rows.now s.args.pos.now s.args.osp.now

abbrev grant : Loop → List ℕ
grant l = l.args.grant.now

abbrev membership : Loop → ℕ
membership l = l.args.membership

abbrev year : Loop → ℕ
year l = l.args.year

abbrev row : Loop → ℕ
row l = row_at Pos ((tables_of l.args.rows.now l.args.pos.now l.args.osp.now)) l.loop-place.place

-- the range ends among the places
most : (l : Loop) → range_end ((tables_of l.args.rows.now l.args.pos.now l.args.osp.now)) (members_of (year l) (membership l)) ≤ row_count
    ((tables_of l.args.rows.now l.args.pos.now l.args.osp.now))
most l = end_le_count ((tables_of l.args.rows.now l.args.pos.now l.args.osp.now)) (members_of (year l) (membership l))

inside : (c : In-loop-place) →
    c.loop-place.place < range_end (tables_of c.args.rows.now c.args.pos.now c.args.osp.now) (members_of (c.args.year) (c.args.membership))
inside c = omega (arith, c.loop-place.invariant.3)

there : (c : In-loop-place) → c.loop-place.place < row_count (tables_of c.args.rows.now c.args.pos.now c.args.osp.now)
there c = omega (arith, inside c, end_le_count (tables_of c.args.rows.now c.args.pos.now c.args.osp.now) (members_of c.args.year c.args.membership))

long : (l : Loop) → row_count ((tables_of l.args.rows.now l.args.pos.now l.args.osp.now)) ≤ length l.loop-place.flags
long l = omega (arith, l.requires.flagged_as.long, l.loop-place.invariant.0)

pub halved-start-requires : goal.halved-start-requires
halved-start-requires c = record { right = c.requires.right; count_le_column_count = omega arith }

pub end_from-end-requires : goal.end_from-end-requires
end_from-end-requires c = let e = start_le_end (tables (goal.at.end_from-end-requires c).Start) (members_of c.args.year c.args.membership) in
    record { right = c.requires.right; count_le_column_count = omega arith; from_bound = omega (arith, c.halved-start.ensures) }

pub loop-place-init : goal.loop-place-init
loop-place-init c =
    let m = members_of c.args.year c.args.membership in
    let b = start_le_end (tables (goal.at.loop-place-init c).Start) m in
    let e : c.halved-start.result.0 ≡ range_start (tables (goal.at.loop-place-init c).Start) m = c.halved-start.ensures in
    let g : c.end_from-end.result.0 ≡ range_end (tables (goal.at.loop-place-init c).Start) m = c.end_from-end.ensures in (
      refl,
      omega arith,
      omega arith,
      g,
      subst (λ p. Upto (tables (goal.at.loop-place-init c).Start) c.args.grant.now c.args.year c.args.membership c.args.flags.now p 0) (sym e)
          (upto_start (tables (goal.at.loop-place-init c).Start) c.requires.right c.args.grant.now c.args.year c.args.membership c.args.flags.now
          c.requires.flagged_as),
    )

pub row_at-row-requires : goal.row_at-row-requires
row_at-row-requires c = record { right = c.requires.right; place_bound = there c }

pub field-requires : goal.field-requires
field-requires c = (c.row_at-row.ensures.column_count_in_bounds, omega arith)

-- the object that is read
object_is : (c : After-field) →
    c.field.result ≡ field_of c.args.rows.now ((row_at Pos (tables_of c.args.rows.now c.args.pos.now c.args.osp.now) c.loop-place.place)) object_column
object_is c =
    c.field.ensures ∙ ap (λ r. field_of c.args.rows.now r object_column) c.row_at-row.ensures.result_value

pub seek-sought-requires : goal.seek-sought-requires
seek-sought-requires c = record {
  grant_value = c.requires.grant_value;
  from_bound = subst (λ w. c.loop-place.from ≤ first_from (grant (goal.at.seek-sought-requires c).At-loop-place) w) (sym (object_is c))
      (sought_behind (tables (goal.at.seek-sought-requires c).Start) c.requires.right (grant (goal.at.seek-sought-requires c).At-loop-place)
      (year (goal.at.seek-sought-requires c).At-loop-place)
      (membership (goal.at.seek-sought-requires c).At-loop-place) c.loop-place.flags c.loop-place.place c.loop-place.from c.loop-place.invariant.4
      c.loop-place.invariant.1 (inside (goal.at.seek-sought-requires c).In-loop-place) (there (goal.at.seek-sought-requires c).In-loop-place));
}

-- where the flag is written
written : (c : After-wide) → c.wide.result ≡ (row_at Pos (tables_of c.args.rows.now c.args.pos.now c.args.osp.now) c.loop-place.place)
written c = c.wide.ensures ∙ c.row_at-row.ensures.result_value

pub bounds-flags-wide : goal.bounds-flags-wide
bounds-flags-wide c =
    omega (
      arith,
      written c,
      c.requires.right.named Pos c.loop-place.place (there (goal.at.bounds-flags-wide c).In-loop-place),
      long (goal.at.bounds-flags-wide c).At-loop-place,
    )

pub loop-place-preserved : goal.loop-place-preserved
loop-place-preserved c =
    let next = c.seek-sought.result.at in
    let flag = c.flag_by.result in
    let n : next ≡ first_from (grant (goal.at.loop-place-preserved c).At-loop-place)
    (field_of c.args.rows.now (row (goal.at.loop-place-preserved c).At-loop-place) object_column) =
    c.seek-sought.ensures.0 ∙ ap (first_from (grant (goal.at.loop-place-preserved c).At-loop-place)) (object_is (goal.at.loop-place-preserved c).After-field) in
    let g : flag ≡ flag_by (member (field_of c.args.rows.now (row (goal.at.loop-place-preserved c).At-loop-place) object_column)
    (grant (goal.at.loop-place-preserved c).At-loop-place)) =
    c.flag_by.ensures ∙ ap flag_by
    (c.seek-sought.ensures.1 ∙ ap (λ w. member w (grant (goal.at.loop-place-preserved c).At-loop-place))
    (object_is (goal.at.loop-place-preserved c).After-field)) in (
      (simp length-set) ∙ c.loop-place.invariant.0,
      omega (arith, c.loop-place.invariant.1),
      omega arith,
      c.loop-place.invariant.3,
      subst (λ r. Upto (tables (goal.at.loop-place-preserved c).Start) (grant (goal.at.loop-place-preserved c).At-loop-place)
          (year (goal.at.loop-place-preserved c).At-loop-place) (membership (goal.at.loop-place-preserved c).At-loop-place)
          (set c.loop-place.flags r flag) (c.loop-place.place + 1) next) (sym (written c))
          (upto_next (tables (goal.at.loop-place-preserved c).Start) c.requires.right (grant (goal.at.loop-place-preserved c).At-loop-place)
          (year (goal.at.loop-place-preserved c).At-loop-place)
          (membership (goal.at.loop-place-preserved c).At-loop-place) c.loop-place.flags c.loop-place.place c.loop-place.from c.loop-place.invariant.4
          c.loop-place.invariant.1 (inside (goal.at.loop-place-preserved c).In-loop-place) (there (goal.at.loop-place-preserved c).In-loop-place)
          (most (goal.at.loop-place-preserved c).At-loop-place) next flag n g
          (omega (
            arith,
            c.requires.right.named Pos c.loop-place.place (there (goal.at.loop-place-preserved c).In-loop-place),
            long (goal.at.loop-place-preserved c).At-loop-place,
          ))),
    )

pub returns : goal.returns
returns c =
    let e : c.loop-place.place ≡ range_end (tables (goal.at.returns c).Start)
    (members_of (year (goal.at.returns c).At-loop-place) (membership (goal.at.returns c).At-loop-place)) =
    omega (arith, c.loop-place.invariant.2, c.loop-place.invariant.3) in
    upto_end (tables (goal.at.returns c).Start) c.requires.right (grant (goal.at.returns c).At-loop-place) (year (goal.at.returns c).At-loop-place)
    (membership (goal.at.returns c).At-loop-place) c.loop-place.flags c.loop-place.from (long (goal.at.returns c).At-loop-place)
    (subst (λ p. Upto (tables (goal.at.returns c).Start) (grant (goal.at.returns c).At-loop-place) (year (goal.at.returns c).At-loop-place)
    (membership (goal.at.returns c).At-loop-place) c.loop-place.flags p c.loop-place.from) e c.loop-place.invariant.4)
