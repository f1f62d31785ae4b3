-- `print_shown` prints a served turn, and its list where it is one of rows, which it is in whole rows.
use mathlib.Core.Path.{◌≡◌, sym, ◌∙◌, ap}
use Rattle.plans.specs.Plans.{plan_of}
use Rattle.lists.specs.Gathering.{width}
use Rattle.print_writing.specs.declared.Listing.{Listing}
use Rattle.print_writing.specs.FileQueries.{file_tables, file_plan, file_quantum, output_room}
use Rattle.print_writing.proofs.Widths.{lists_width}
use Rattle.print_showing.proofs.TurnLists.{shown_whole}
use Rattle.print_showing.proofs.print_shown.Goals as goal

pub print_turn-requires : goal.print_turn-requires
print_turn-requires g c = c.requires.turn_shown (sym c.is_served.ensures ∙ c.if-is_served.true)

pub print_delivered-requires : goal.print_delivered-requires
print_delivered-requires g c = let b = c.args.bytes.now in
    let p = file_plan b in
    let l = c.args.lists in
    let shown = c.requires.turn_shown (sym c.is_served.ensures ∙ c.if-is_served.true) in
    let wide : l.width ≡ width (plan_of p).ending = ap (λ (x : Listing). x.width) c.requires.lists_of.1 in
    let kind = sym (ap (λ (x : Listing). x.kind) c.requires.lists_of.1) in record {
      has_width = lists_width p l c.requires.lists_of;
      width_len = λ e. rw wide
          (shown_whole (file_tables b) p (file_quantum b) (output_room p) c.args.number c.args.turned c.args.list.now shown (kind ∙ e));
    }
