use Prim.Native.Nat.{◌≤◌}
use mathlib.Core.Path.{◌≡◌}
use lib.ListN.{length}
use Rattle.tables.specs.Tables.{tables_of}
use Rattle.tables.specs.Ranges.{range_start, range_end}
use Rattle.view_members.proofs.Members.{members_of, Upto}
use Rattle.view_members.proofs.flag_year.Given as goal

abbrev pub invariant-loop-place : goal.invariant-loop-place
invariant-loop-place l =
    (length l.flags ≡ length l.initial.flags)
    × (range_start (tables_of l.rows l.pos l.osp) (members_of l.year l.membership) ≤ l.place)
    × (l.place ≤ l.last)
    × (l.last ≡ range_end (tables_of l.rows l.pos l.osp) (members_of l.year l.membership))
    × Upto (tables_of l.rows l.pos l.osp) l.grant l.year l.membership l.flags l.place l.from
