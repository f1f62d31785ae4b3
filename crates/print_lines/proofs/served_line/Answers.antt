-- `served_line` meets its contract: the turn's number, its steps and its ending, one behind the other.
use native.Mathlib.Omega.{arith}
use mathlib.Core.List.{◌++◌}
use lib.ListN.{length-append}
use Rattle.print_texts.specs.Texts.{number_field, turn_word, steps_word}
use Rattle.print_texts.proofs.Placements.{placed_then, placed_front}
use Rattle.print_texts.proofs.Decimals.{length_long, length_word}
use Rattle.print_lines.proofs.LineTexts.{served_text}
use Rattle.print_lines.proofs.served_line.Goals as goal

pub put_named-after_number-requires : goal.put_named-after_number-requires
put_named-after_number-requires c =
    let e = length_long c.args.number (omega (arith, c.ranges)) in
    omega arith

pub put_named-after_steps-requires : goal.put_named-after_steps-requires
put_named-after_steps-requires c =
    let d = length_long c.args.number (omega (arith, c.ranges)) in
    let e = length_word c.long.result (omega arith) in
    omega (arith, c.requires)

pub put_bytes-requires : goal.put_bytes-requires
put_bytes-requires c =
    let d = length_long c.args.number (omega (arith, c.ranges)) in
    let e = length_word c.long.result (omega (arith, c.long.ensures)) in
    omega (arith, c.requires)

pub returns : goal.returns
returns c = let a = c.args in
    let pre = c.requires in
    let steps = c.long.result in
    let d = length_long a.number (omega (arith, c.ranges)) in
    let e = length_word steps (omega (arith, c.long.ensures)) in
    let named = turn_word ++ number_field a.number in
    let counted = steps_word ++ number_field steps in
    let n = length-append named counted in record {
      line = served_text a.number a.steps steps a.ending.now a.line.now c.put_bytes.new.line c.put_bytes.result c.long.ensures.0
          (placed_front (named ++ counted ++ a.ending.now) a.line.now c.put_bytes.new.line c.put_bytes.result
          (placed_then (named ++ counted) a.ending.now 0 c.put_named-after_steps.result c.put_bytes.result a.line.now c.put_named-after_steps.new.line
          c.put_bytes.new.line
          (omega arith)
          (placed_then named counted 0 c.put_named-after_number.result c.put_named-after_steps.result a.line.now c.put_named-after_number.new.line
          c.put_named-after_steps.new.line (omega arith)
          c.put_named-after_number.ensures c.put_named-after_steps.ensures)
          c.put_bytes.ensures));
      room = omega (arith, pre, c.put_named-after_number.ensures.0, c.put_named-after_steps.ensures.0, c.put_bytes.ensures.0);
    }
