-- `join` meets its contract: refused by its tests, or the new entry goes to the end of one of the lists.
use native.Mathlib.Omega.{arith}
use mathlib.Core.Path.{sym, ◌∙◌, ap, subst}
use mathlib.Core.Bool.{◌&&◌, not}
use lib.Dec.{ltb}
use Rattle.words.specs.Tests.{first_failing, number_of}
use Rattle.turns.specs.Surveys.{survey_of}
use Rattle.queues.specs.declared.Entry.{Entry}
use Rattle.queues.specs.Lists.{lent_as}
use Rattle.queues.specs.Joining.{Joining, join_queue_of}
use Rattle.queues.specs.ToppingUp.{top_up_tests_by}
use Rattle.queue_changes.specs.declared.Queueing.{Queueing}
use Rattle.queue_changes.specs.Changes.{room_by, admitted_by, Decides}
use Rattle.queue_tests.proofs.Joins.{join_number, join_refuses, join_accepts, joined_room, joined_short}
use Rattle.queue_tests.proofs.joining.join.Goals as goal

pub returns-then-number-ne0 : goal.returns-then-number-ne0
returns-then-number-ne0 c =
    let a = c.args in
    let v = survey_of a.rows.now a.pos.now a.osp.now a.survey in
    let j : Joining = record { owner = a.owner; allowance = a.allowance; plan = a.plan.now; state = a.state.now } in
    let g = c.room_right-room.ensures in
    let e = join_number v a.plan.now a.state.now
    ((a.seen.lined && a.seen.rested) && (not (ltb a.seen.place a.seen.waiting) && not (ltb a.seen.found a.seen.resting)))
    (room_by a.seen.room a.seen.spare a.given a.kept 1) c.first_of-number.result c.query_number.result c.lists_number-late.result
    c.first_of-number.ensures c.query_number.ensures
    (c.lists_number-late.ensures ∙ (λ i. number_of (first_failing (top_up_tests_by (c.join_right.ensures i) (g i))))) in
    λ line aside is.
    subst (λ (d : Queueing). Decides (lent_as line a.given aside a.kept) d (join_queue_of v (lent_as line a.given aside a.kept) j))
    (sym c.refused.ensures)
    (join_refuses v line a.given aside a.kept j a.seen is c.first_of-number.result e c.if-number-ne0.true)

pub entry_of-requires : goal.entry_of-requires
entry_of-requires c =
    let a = c.args in
    let v = survey_of a.rows.now a.pos.now a.osp.now a.survey in
    let g = c.room_right-room.ensures in
    let entries = (a.seen.lined && a.seen.rested) && (not (ltb a.seen.place a.seen.waiting) && not (ltb a.seen.found a.seen.resting)) in
    let e = join_number v a.plan.now a.state.now entries
    (room_by a.seen.room a.seen.spare a.given a.kept 1) c.first_of-number.result c.query_number.result c.lists_number-late.result
    c.first_of-number.ensures c.query_number.ensures
    (c.lists_number-late.ensures ∙ (λ i. number_of (first_failing (top_up_tests_by (c.join_right.ensures i) (g i))))) in
    joined_short v a.plan.now a.state.now entries a.seen a.given a.kept (sym e ∙ c.if-number-ne0.false)

pub admitted-requires : goal.admitted-requires
admitted-requires c =
    let a = c.args in
    let v = survey_of a.rows.now a.pos.now a.osp.now a.survey in
    let g = c.room_right-room.ensures in
    let entries = (a.seen.lined && a.seen.rested) && (not (ltb a.seen.place a.seen.waiting) && not (ltb a.seen.found a.seen.resting)) in
    let e = join_number v a.plan.now a.state.now entries
    (room_by a.seen.room a.seen.spare a.given a.kept 1) c.first_of-number.result c.query_number.result c.lists_number-late.result
    c.first_of-number.ensures c.query_number.ensures
    (c.lists_number-late.ensures ∙ (λ i. number_of (first_failing (top_up_tests_by (c.join_right.ensures i) (g i))))) in
    let r = joined_room v a.plan.now a.state.now entries a.seen a.given a.kept (sym e ∙ c.if-number-ne0.false) in
    let h = r.entries in omega arith

pub returns : goal.returns
returns c =
    let a = c.args in
    let v = survey_of a.rows.now a.pos.now a.osp.now a.survey in
    let j : Joining = record { owner = a.owner; allowance = a.allowance; plan = a.plan.now; state = a.state.now } in
    let g = c.room_right-room.ensures in
    let e = join_number v a.plan.now a.state.now
    ((a.seen.lined && a.seen.rested) && (not (ltb a.seen.place a.seen.waiting) && not (ltb a.seen.found a.seen.resting)))
    (room_by a.seen.room a.seen.spare a.given a.kept 1) c.first_of-number.result c.query_number.result c.lists_number-late.result
    c.first_of-number.ensures c.query_number.ensures
    (c.lists_number-late.ensures ∙ (λ i. number_of (first_failing (top_up_tests_by (c.join_right.ensures i) (g i))))) in
    λ line aside is.
    subst (λ (d : Queueing). Decides (lent_as line a.given aside a.kept) d (join_queue_of v (lent_as line a.given aside a.kept) j))
    (sym (c.admitted.ensures ∙ ap (λ (x : Entry). admitted_by x a.given a.kept) c.entry_of.ensures))
    (join_accepts v line a.given aside a.kept j a.seen is (sym e ∙ c.if-number-ne0.false))
