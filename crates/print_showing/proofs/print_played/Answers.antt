-- `print_played` prints the kept list of a finished query, which is the uncut run's whole list, and the number that stopped another.
use mathlib.Core.Path.{sym, subst}
use lib.Seq.{length-take-le}
use Rattle.print_writing.specs.Shown.{LeftToShow}
use Rattle.print_showing.proofs.print_played.Goals as goal

pub slice_bounds-print_whole-end : goal.slice_bounds-print_whole-end
slice_bounds-print_whole-end g c =
    let h = subst (LeftToShow c.args.bytes.now c.args.kept.now) c.in-Finished.is c.requires.left_to_show in
    sym (length-take-le _ c.args.kept.now h.0)

pub print_whole-requires : goal.print_whole-requires
print_whole-requires g c = let h = subst (LeftToShow c.args.bytes.now c.args.kept.now) c.in-Finished.is c.requires.left_to_show in
    record { lists_of = c.requires.lists_of; can_open = c.requires.can_open; list_shown = h.1 }

pub print_refused-requires : goal.print_refused-requires
print_refused-requires g c =
    subst (LeftToShow c.args.bytes.now c.args.kept.now) c.in-Stopped.is c.requires.left_to_show
