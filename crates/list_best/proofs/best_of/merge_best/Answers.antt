-- `merge_best` meets its contract: what is left of the list makes the same of the rows kept so far.
use Rattle.std.proofs.Common.{◌<◌, ◌∙◌, length, subst}
use Rattle.std.specs.Slice.Iter.{chunks_exact_rest}
use Rattle.list_best.proofs.MergingOn.{Merging, merge_start, merge_end, insertable, merge_more}
use Rattle.list_best.proofs.best_of.merge_best.Goals as goal

pub loop-row-init : goal.loop-row-init
loop-row-init c =
    let e = c.into_iter-row-iterator.ensures.into_iter_gives in
    let m : Merging c.args.k c.args.vars.now c.args.keys.now c.args.kept.now c.args.used c.args.list.now c.args.kept.now c.args.used c.args.list.now =
    merge_start c.requires in
    rw (e, c.chunks_exact-row-items.ensures.rest) (c.chunks_exact-row-items.ensures.size, m)

pub insert_best-words-requires : goal.insert_best-words-requires
insert_best-words-requires c =
    let s = c.in-Some.ensures.steps in
    insertable c.requires c.loop-row.invariant.1 c.in-Some.row.now (chunks_exact_rest c.next.new.self) s.1.0 (s.1.1 ∙ c.loop-row.invariant.0)

pub loop-row-preserved : goal.loop-row-preserved
loop-row-preserved c =
    let s = c.in-Some.ensures.steps in (
      s.0 ∙ c.loop-row.invariant.0,
      merge_more c.requires c.loop-row.invariant.1 c.in-Some.row.now (chunks_exact_rest c.next.new.self) s.1.0 (s.1.1 ∙ c.loop-row.invariant.0)
          c.insert_best-words.ensures,
    )

pub returns : goal.returns
returns c =
    let left = length (chunks_exact_rest c.loop-row.row-iterator) in
    merge_end c.requires c.loop-row.invariant.1 (subst (λ n. left < n) c.loop-row.invariant.0 c.in-None.ensures.steps.1.0)
