-- `read_words` meets its contract: the words passed are read.
use native.Mathlib.Omega.{arith}
use mathlib.Core.Path.{refl, ◌∙◌}
use lib.ListN.{length-set}
use Rattle.print_reading.specs.Files.{file_words}
use Rattle.print_reading.proofs.FileWords.{length_words, word_in, over_more, over_all}
use Rattle.print_reading.proofs.read_words.Goals as goal

pub loop-i-init : goal.loop-i-init
loop-i-init c = (omega arith, refl, refl)

pub loop-i-preserved : goal.loop-i-preserved
loop-i-preserved c =
    let a = c.args in
    let i = c.loop-i.i in
    let inv = c.loop-i.invariant in
    let n = length_words a.bytes.now in (
      omega arith,
      (simp length-set) ∙ inv.1,
      rw (inv.2, c.word_at.ensures, word_in a.bytes.now i (omega arith))
          (over_more (file_words a.bytes.now) a.words.now i (omega arith) (omega arith)),
    )

pub shape_of-words : goal.shape_of-words
shape_of-words c = c.loop-i.invariant.1

pub returns : goal.returns
returns c =
    let a = c.args in
    let n = length_words a.bytes.now in
    c.loop-i.invariant.2 ∙ over_all (file_words a.bytes.now) a.words.now c.loop-i.i (omega arith)
