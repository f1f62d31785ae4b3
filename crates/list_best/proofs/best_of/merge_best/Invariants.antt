use Rattle.std.proofs.Common.{◌≡◌, length}
use Rattle.std.specs.Slice.Iter.{chunks_exact_size, chunks_exact_rest}
use Rattle.list_best.proofs.MergingOn.{Merging}
use Rattle.list_best.proofs.best_of.merge_best.Given as goal

abbrev pub invariant-loop-row : goal.invariant-loop-row
invariant-loop-row l =
    (chunks_exact_size l.row-iterator ≡ length l.vars)
    × Merging l.k l.vars l.keys l.initial.kept l.used l.list l.kept l.words (chunks_exact_rest l.row-iterator)
