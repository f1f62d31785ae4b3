-- `merge_groups` meets its contract: 13 is decided before 14, and both before the first word is written.
use Prim.Native.Nat.{◌+◌}
use native.Mathlib.Omega.{arith}
use native.Mathlib.Nat.{mul-div_cancel, mul-mod_left}
use mathlib.Core.Path.{◌≡◌, sym, ◌∙◌, ap}
use lib.ListN.{length}
use Rattle.std.specs.Prelude.{Some, None, Err}
use Rattle.std.specs.Option.{ok_or}
use Rattle.std.specs.Result.{result_ok}
use Rattle.std.proofs.lemmas.Result.{err_from_is_err_and}
use Rattle.list_group_merges.specs.declared.MergeFault.TheVariants.{Overflow}
use Rattle.list_group_merges.proofs.MergedGroups.{room_for, kept_whole, list_whole, merge_over, merge_small, merge_words}
use Rattle.list_group_merges.proofs.merge_backwards.merge_groups.Goals as goal

pub union_of-requires : goal.union_of-requires
union_of-requires c = (
  c.requires.0,
  c.requires.1,
  kept_whole c.args.g c.args.kept.now c.args.used c.args.list.now c.requires.1 c.requires.2,
  list_whole c.args.g c.args.kept.now c.args.used c.args.list.now c.requires.1 c.requires.2,
)

pub returns-then-kept-w : goal.returns-then-kept-w
returns-then-kept-w c =
    λ vs m e. merge_small c.args.g c.args.kept.now c.args.used c.args.list.now c.requires.1 c.requires.2
    c.slice_known-1.given
    c.type_inv.list vs m e c.in_ok-records.records
    (sym c.union_of.ensures ∙ c.ok_or.ensures.ok_part ∙ ap result_ok c.in_ok-records.was) c.if-kept-w.true

pub overflow_mul-words : goal.overflow_mul-words
overflow_mul-words c =
    let r = room_for (length c.args.kept.now) (c.args.g + 8) c.in_ok-records.records c.if-kept-w.false in
    omega arith

pub merge_backwards-requires : goal.merge_backwards-requires
merge_backwards-requires c =
    let n = c.in_ok-records.records in (
      c.requires.0,
      c.requires.1,
      kept_whole c.args.g c.args.kept.now c.args.used c.args.list.now c.requires.1 c.requires.2,
      list_whole c.args.g c.args.kept.now c.args.used c.args.list.now c.requires.1 c.requires.2,
      room_for (length c.args.kept.now) (c.args.g + 8) n c.if-kept-w.false,
      sym c.union_of.ensures ∙ c.ok_or.ensures.ok_part ∙ ap result_ok c.in_ok-records.was
          ∙ ap Some (sym (mul-div_cancel n (omega arith))),
      mul-mod_left n (c.args.g + 8),
    )

pub returns-in_err-records : goal.returns-in_err-records
returns-in_err-records c =
    let p = err_from_is_err_and c.from_residual.result c.from_residual.ensures.1 in
    let none : c.union_of.result ≡ None = c.ok_or.ensures.ok_part ∙ ap result_ok c.in_err-records.was in
    let fault = sym c.in_err-records.was ∙ c.ok_or.ensures.value ∙ ap (λ o. ok_or o Overflow) none in
    let is : c.from_residual.result ≡ Err Overflow = p.1 ∙ ap Err p.2 ∙ fault in
    λ vs m e. rw is (merge_over c.args.g c.args.kept.now c.args.used c.args.list.now c.requires.1 c.requires.2
    c.slice_known-1.given c.type_inv.list vs m e (sym c.union_of.ensures ∙ none))

pub returns : goal.returns
returns c =
    λ vs m e.
    merge_words c.args.g c.args.kept.now c.args.used c.args.list.now c.requires.1 c.requires.2
    c.slice_known-1.given
    c.type_inv.list vs m e
    c.in_ok-records.records
    (sym c.union_of.ensures ∙ c.ok_or.ensures.ok_part ∙ ap result_ok c.in_ok-records.was) c.if-kept-w.false
    c.merge_backwards.new.kept c.merge_backwards.ensures
