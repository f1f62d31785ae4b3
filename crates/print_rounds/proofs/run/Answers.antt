-- `run` is safe: a row or record has at most 16 words, so that 64 of them fit the output's buffer; and it prints the uncut run's list.
use borrow.Author.Rules.{rules}
use native.Mathlib.Omega.{arith}
use mathlib.Core.Path.{◌≡◌, ap}
use lib.ListN.{length-take}
use Rattle.queries.specs.declared.Keeping.TheVariants.{Merged}
use Rattle.queries.proofs.Plays.{leaves_by}
use Rattle.plans.specs.Plans.{plan_of}
use Rattle.lists.specs.Gathering.{width}
use Rattle.print_writing.specs.declared.Listing.{Listing}
use Rattle.print_writing.specs.FileQueries.{lent_survey}
use Rattle.print_writing.specs.Shown.{most_turns}
use Rattle.print_rounds.proofs.Openings.{started_form, started_opens}
use Rattle.print_writing.proofs.Widths.{some_words, lists_width}
use Rattle.print_rounds.proofs.Asking.{file_lists, file_opens, file_left}
use Rattle.print_rounds.proofs.run.Goals as goal

pub lists_of-lists-requires : goal.lists_of-lists-requires
lists_of-lists-requires g c =
    let v = lent_survey c.args.rows.now c.args.pos.now c.args.osp.now in
    let p = c.args.plan.now in
    let form = started_form v p c.args.state.now c.args.opened c.requires.started in
    form

pub overflow_mul-room : goal.overflow_mul-room
overflow_mul-room g c =
    let v = lent_survey c.args.rows.now c.args.pos.now c.args.osp.now in
    let p = c.args.plan.now in
    let form = started_form v p c.args.state.now c.args.opened c.requires.started in
    let h = some_words c.lists_of-lists.result.kind c.lists_of-lists.result.width (lists_width p c.lists_of-lists.result (form, c.lists_of-lists.ensures)) in
    search rules

pub slice_bounds-output-end : goal.slice_bounds-output-end
slice_bounds-output-end g c =
    let v = lent_survey c.args.rows.now c.args.pos.now c.args.osp.now in
    let p = c.args.plan.now in
    let form = started_form v p c.args.state.now c.args.opened c.requires.started in
    let h = some_words c.lists_of-lists.result.kind c.lists_of-lists.result.width (lists_width p c.lists_of-lists.result (form, c.lists_of-lists.ensures)) in
    search rules

pub slice_bounds-go_on-end-2 : goal.slice_bounds-go_on-end-2
slice_bounds-go_on-end-2 g c =
    let v = lent_survey c.args.rows.now c.args.pos.now c.args.osp.now in
    let p = c.args.plan.now in
    let form = started_form v p c.args.state.now c.args.opened c.requires.started in
    let h = some_words c.lists_of-lists.result.kind c.lists_of-lists.result.width (lists_width p c.lists_of-lists.result (form, c.lists_of-lists.ensures)) in
    simp length-take (omega arith)

pub go_on-played-requires : goal.go_on-played-requires
go_on-played-requires g c = let v = lent_survey c.args.rows.now c.args.pos.now c.args.osp.now in
    let p = c.args.plan.now in
    let form = started_form v p c.args.state.now c.args.opened c.requires.started in
    let h = some_words c.lists_of-lists.result.kind c.lists_of-lists.result.width (lists_width p c.lists_of-lists.result (form, c.lists_of-lists.ensures)) in
    let wide : c.lists_of-lists.result.width ≡ width (plan_of p).ending = ap (λ (x : Listing). x.width) c.lists_of-lists.ensures in
    record { lists_of = (form, c.lists_of-lists.ensures); started = c.requires.started; asks = (c.requires.asks, simp length-take (omega arith)) }

pub print_played-requires : goal.print_played-requires
print_played-requires g c = let a = c.args in
    let v = lent_survey c.args.rows.now c.args.pos.now c.args.osp.now in
    let p = c.args.plan.now in
    let form = started_form v p c.args.state.now c.args.opened c.requires.started in
    let h = some_words c.lists_of-lists.result.kind c.lists_of-lists.result.width (lists_width p c.lists_of-lists.result (form, c.lists_of-lists.ensures)) in
    let wide : c.lists_of-lists.result.width ≡ width (plan_of p).ending = ap (λ (x : Listing). x.width) c.lists_of-lists.ensures in
    let opens = started_opens v p c.args.state.now c.args.opened c.requires.started in
    let left = leaves_by Merged v p c.args.state.now c.args.opened c.requires.started _ _ _ most_turns c.go_on-played.result _ c.go_on-played.ensures
    in record {
      lists_of = file_lists a.bytes.now a.rows.now a.pos.now a.osp.now p a.quantum c.requires.asks c.lists_of-lists.result (form, c.lists_of-lists.ensures);
      can_open = file_opens a.bytes.now a.rows.now a.pos.now a.osp.now p a.quantum c.requires.asks opens;
      left_to_show = file_left a.bytes.now a.rows.now a.pos.now a.osp.now p a.quantum c.requires.asks opens _ _ _ _ c.go_on-played.result left
          (simp length-take (omega arith)) (search rules);
    }
