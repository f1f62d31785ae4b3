-- `take_turn` meets its contract: the turn, and its list taken where it was served.
use mathlib.Core.Path.{sym, ◌∙◌, ap}
use lib.Seq.{length-take-le}
use Rattle.turns.specs.Turns.{TurnResult}
use Rattle.queries.proofs.Taking.{served_form, served_room, list_taken_lem, none_taken}
use Rattle.query_turns.proofs.take_turn.Goals as goal

pub slice_bounds-take_list-end : goal.slice_bounds-take_list-end
slice_bounds-take_list-end c =
    let e = c.turn-turned.ensures.output_after in
    served_room _ c.turn-turned.result _ (ap (λ (r : TurnResult). r.answer) e) (ap (λ (r : TurnResult). r.buffers.output) e)
    (sym c.is_served.ensures ∙ c.if-is_served.true)

pub slice_bounds-take_list-end-then-is_served : goal.slice_bounds-take_list-end-then-is_served
slice_bounds-take_list-end-then-is_served c =
    let e = c.turn-turned.ensures.output_after in
    sym (length-take-le c.turn-turned.result.listed _
    (served_room _ c.turn-turned.result _ (ap (λ (r : TurnResult). r.answer) e) (ap (λ (r : TurnResult). r.buffers.output) e)
    (sym c.is_served.ensures ∙ c.if-is_served.true)))

pub take_list-taken-requires : goal.take_list-taken-requires
take_list-taken-requires c =
    served_form _ c.turn-turned.result (ap (λ (r : TurnResult). r.answer) c.turn-turned.ensures.output_after)
    (sym c.is_served.ensures ∙ c.if-is_served.true)

pub returns-then-is_served : goal.returns-then-is_served
returns-then-is_served c =
    let e = c.turn-turned.ensures.output_after in
    list_taken_lem c.args.keeping _ c.args.kept.now c.args.used c.turn-turned.result _ _ (ap (λ (r : TurnResult). r.answer) e)
    (ap (λ (r : TurnResult). r.buffers.state) e) (ap (λ (r : TurnResult). r.buffers.output) e)
    (record { answer = c.take_list-taken.result; buffers = c.take_list-taken.new.kept })
    (sym c.is_served.ensures ∙ c.if-is_served.true)
    c.take_list-taken.ensures

pub returns-else-is_served : goal.returns-else-is_served
returns-else-is_served c =
    let e = c.turn-turned.ensures.output_after in
    none_taken c.args.keeping _ c.args.kept.now c.args.used c.turn-turned.result _ _ (ap (λ (r : TurnResult). r.answer) e)
    (ap (λ (r : TurnResult). r.buffers.state) e) (ap (λ (r : TurnResult). r.buffers.output) e)
    (sym c.is_served.ensures ∙ c.if-is_served.false)
