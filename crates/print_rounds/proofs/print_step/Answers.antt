-- `print_step` meets its contract: the turn and its list are those of `take_turn`, and what it prints of them is the uncut run's.
use borrow.Author.Rules.{rules}
use mathlib.Core.Path.{refl, sym}
use lib.ListN.{length}
use lib.Seq.{length-take-le}
use Rattle.queries.proofs.Rounds.{advanced_by}
use Rattle.print_rounds.proofs.Steps.{list_room, turn_shown}
use Rattle.print_rounds.proofs.Asking.{file_lists, file_turn}
use Rattle.print_rounds.proofs.print_step.Goals as goal

pub overflow_add-number : goal.overflow_add-number
overflow_add-number g c =
    let fewer = c.requires.made_lt_most_turns.0 in
    search rules

pub slice_bounds-print_shown-end : goal.slice_bounds-print_shown-end
slice_bounds-print_shown-end g c = list_room _ _ _ _ _ _ _ c.take_turn-step.ensures

pub slice_bounds-print_shown-end-2 : goal.slice_bounds-print_shown-end-2
slice_bounds-print_shown-end-2 g c =
    sym (length-take-le c.take_turn-step.result.turned.listed _ (list_room _ _ _ _ _ _ _ c.take_turn-step.ensures))

pub print_shown-requires : goal.print_shown-requires
print_shown-requires g c = let a = c.args in
    let asks = c.requires.asks.0 in record {
      lists_of = file_lists a.bytes.now a.rows.now a.pos.now a.osp.now a.plan.now a.quantum asks a.lists c.requires.lists_of;
      turn_shown = λ f. file_turn a.bytes.now a.rows.now a.pos.now a.osp.now a.plan.now a.quantum asks _ _ _ (length a.output.now)
          c.requires.asks.1
          (turn_shown _ _ _ _ _ _ _ c.take_turn-step.ensures refl a.made c.requires.can_open c.requires.made_lt_most_turns.1 f);
    }

pub returns : goal.returns
returns g c =
    advanced_by c.take_turn-step.result _ _ _ _ c.take_turn-step.ensures c.outcome.result c.outcome.ensures
