-- `print_whole` prints a list of whole rows or records: the uncut run's is.
use mathlib.Core.Path.{◌≡◌, ap}
use Rattle.plans.specs.Plans.{plan_of}
use Rattle.lists.specs.Gathering.{width}
use Rattle.print_writing.specs.declared.Listing.{Listing}
use Rattle.print_writing.specs.FileQueries.{file_survey, file_plan}
use Rattle.print_writing.proofs.Widths.{lists_width}
use Rattle.print_showing.proofs.KeptLists.{kept_whole}
use Rattle.print_showing.proofs.print_whole.Goals as goal

pub print_list-requires : goal.print_list-requires
print_list-requires g c = let b = c.args.bytes.now in
    let p = file_plan b in
    let l = c.args.lists in
    let wide : l.width ≡ width (plan_of p).ending = ap (λ (x : Listing). x.width) c.requires.lists_of.1 in
    record {
      has_width = lists_width p l c.requires.lists_of;
      width_len =
          rw wide (kept_whole (file_survey b) p c.args.list.now c.requires.can_open c.requires.list_shown);
    }
