-- `judge` meets its contract.
use native.Mathlib.Omega.{arith}
use lib.Seq.{length-take-le}
use Rattle.upload_fates.proofs.Judging.{front_named, sorted_named, listed, judged}
use Rattle.upload_fates.proofs.judge.Goals as goal

pub sort-requires : goal.sort-requires
sort-requires c = let up = c.args.upload.now in
    let n = length-take-le c.mark_kinds-right.result c.mark_kinds-right.new.list c.mark_kinds-right.ensures.listed.fits in
    record {
      list_value = front_named up c.mark_kinds-right.new.list c.mark_kinds-right.result c.mark_kinds-right.ensures.listed;
      list_in_bounds =
          omega (arith, n, c.mark_kinds-right.ensures.listed.fits, c.mark_kinds-right.auto.fates, c.requires.list_in_bounds);
    }

pub mark_repeats-requires : goal.mark_repeats-requires
mark_repeats-requires c = record {
  list_value = sorted_named c.args.upload.now c.mark_kinds-right.new.list c.mark_kinds-right.result c.mark_kinds-right.ensures.listed
      c.sort.new.list c.sort.ensures;
  upload_in_bounds = omega (arith, c.mark_kinds-right.auto.fates, c.requires.fits.judged);
}

pub returns : goal.returns
returns c = let up = c.args.upload.now in record {
  listed = listed up c.mark_kinds-right.new.list c.mark_kinds-right.result c.mark_kinds-right.ensures.listed c.sort.new.list c.sort.ensures;
  judged = judged up c.mark_kinds-right.new.list c.mark_kinds-right.result c.mark_kinds-right.ensures.listed c.sort.new.list c.sort.ensures _ _
      (omega (arith, c.mark_kinds-right.auto.fates, c.requires.fits.judged)) c.mark_kinds-right.ensures.judged c.mark_repeats.ensures;
}
