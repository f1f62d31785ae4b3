-- `top_up` meets its contract: refused by its tests, or the entry at the place found goes to the end of the line.
use native.Mathlib.Omega.{arith}
use mathlib.Core.Path.{sym, ◌∙◌, ap, subst}
use Rattle.words.specs.Tests.{first_failing, number_of}
use Rattle.queues.specs.Lists.{lent_as}
use Rattle.queues.specs.ToppingUp.{top_up_tests_by, top_up_of}
use Rattle.queue_changes.specs.declared.Queueing.{Queueing}
use Rattle.queue_changes.specs.Changes.{topped_by, Decides}
use Rattle.queue_tests.proofs.TopUps.{top_up_refuses, top_up_accepts, passed_entries, passed_room}
use Rattle.queue_tests.proofs.topping.top_up.Goals as goal

pub returns-then-number-ne0 : goal.returns-then-number-ne0
returns-then-number-ne0 c =
    let a = c.args in
    let g = c.room_right-room.ensures in
    λ line aside is its.
    subst (λ (d : Queueing). Decides (lent_as line a.given aside a.kept) d (top_up_of (lent_as line a.given aside a.kept) a.owner a.amount))
    (sym c.refused.ensures)
    (top_up_refuses line a.given aside a.kept a.owner a.amount a.seen is c.lists_number-number.result
    (c.lists_number-number.ensures ∙ (λ i. number_of (first_failing (top_up_tests_by (c.top_up_right.ensures i) (g i))))) c.if-number-ne0.true)

pub topped-requires : goal.topped-requires
topped-requires c =
    let g = c.room_right-room.ensures in
    let e = sym (c.lists_number-number.ensures ∙ (λ i. number_of (first_failing (top_up_tests_by (c.top_up_right.ensures i) (g i))))) ∙ c.if-number-ne0.false in
    let h = passed_room c.args.seen c.args.given c.args.kept c.args.amount e in
    let k = passed_entries c.args.seen c.args.given c.args.kept c.args.amount e in
    let r = h.entries in
    (omega arith, omega arith)

pub returns : goal.returns
returns c =
    let a = c.args in
    let g = c.room_right-room.ensures in
    let e = sym (c.lists_number-number.ensures ∙ (λ i. number_of (first_failing (top_up_tests_by (c.top_up_right.ensures i) (g i))))) ∙ c.if-number-ne0.false in
    λ line aside is its.
    subst (λ (d : Queueing). Decides (lent_as line a.given aside a.kept) d (top_up_of (lent_as line a.given aside a.kept) a.owner a.amount))
    (sym (c.topped.ensures ∙ ap (topped_by a.seen.found a.given a.kept) c.with_allowance.ensures))
    (top_up_accepts line a.given aside a.kept a.owner a.amount a.seen is e a.e its c.requires)
