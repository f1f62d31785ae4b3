use mathlib.Core.Path.{◌≡◌}
use lib.ListN.{length}
use Rattle.tables.specs.Tables.{section_of}
use Rattle.step_cursors.specs.Held.{EndsAbove}
use Rattle.state_saving.proofs.WalkedLevels.{Walked}
use Rattle.state_walks.proofs.upper_right.Given as goal

abbrev pub invariant-loop-level : goal.invariant-loop-level
invariant-loop-level l =
    Walked (section_of l.rows l.pos l.osp l.year) l.terms l.upper l.level l.bound × (length l.ends ≡ 8)
    × EndsAbove (section_of l.rows l.pos l.osp l.year) l.terms l.upper l.ends l.level
