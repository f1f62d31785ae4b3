-- `parts_in` meets its contract: the sizes are tested from the first on.
use native.Mathlib.Omega.{arith}
use mathlib.Core.Path.{◌∙◌}
use Rattle.print_reading.specs.Files.{file_words}
use Rattle.print_reading.proofs.FileWords.{length_words, first_word, too_few, too_short, right_parts}
use Rattle.print_reading.proofs.parts_in.Goals as goal

pub returns-then-count-lt2 : goal.returns-then-count-lt2
returns-then-count-lt2 c =
    let b = c.args.bytes.now in
    let l = length_words b in
    too_few (file_words b) (omega arith)

pub returns-then-count-plan : goal.returns-then-count-plan
returns-then-count-plan c =
    let b = c.args.bytes.now in
    let l = length_words b in
    let e = c.wide-rows.ensures ∙ c.word_at.ensures ∙ first_word b (omega arith) in
    too_short (file_words b) c.wide-rows.result e (omega arith) (omega arith)

pub returns : goal.returns
returns c =
    let b = c.args.bytes.now in
    let l = length_words b in
    let e = c.wide-rows.ensures ∙ c.word_at.ensures ∙ first_word b (omega arith) in
    right_parts (file_words b) c.wide-rows.result e (omega arith) (omega arith) _ _ _ _ (omega arith) (omega arith) (omega arith) (omega arith)
