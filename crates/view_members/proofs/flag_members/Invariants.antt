use Prim.Native.Nat.{◌-◌, ◌≤◌}
use mathlib.Core.Path.{◌≡◌}
use lib.ListN.{length}
use Rattle.tables.specs.Tables.{tables_of}
use Rattle.view_members.proofs.Years.{Walked}
use Rattle.view_members.proofs.flag_members.Given as goal

abbrev pub invariant-loop-place : goal.invariant-loop-place
invariant-loop-place l =
    (length l.flags ≡ length l.initial.flags) × (l.place ≤ l.count) × Walked (tables_of l.rows l.pos l.osp) l.grant l.membership l.flags l.place

abbrev pub decreases-loop-place : goal.decreases-loop-place
decreases-loop-place l = l.count - l.place
