-- `refused_line` meets its contract: the word, its number and the end of the line.
use native.Mathlib.Omega.{arith}
use Rattle.print_texts.specs.Texts.{number_field, refused_word}
use Rattle.print_texts.proofs.Placements.{whole_line}
use Rattle.print_texts.proofs.Decimals.{length_word}
use Rattle.print_lines.proofs.LineTexts.{refused_text}
use Rattle.print_lines.proofs.refused_line.Goals as goal

pub put_number-end-requires : goal.put_number-end-requires
put_number-end-requires c = let e = length_word c.long.result (omega arith) in omega arith

pub put_byte-requires : goal.put_byte-requires
put_byte-requires c =
    let e = length_word c.long.result (omega arith) in
    omega arith

pub returns : goal.returns
returns c = let a = c.args in
    let x = c.long.result in
    let e = length_word x (omega (arith, c.long.ensures)) in record {
      line = rw (refused_text a.number x c.long.ensures.0)
          (whole_line refused_word (number_field x) c.put_bytes-next.result c.put_number-end.result c.put_byte.result a.line.now
          c.put_bytes-next.new.line c.put_number-end.new.line
          c.put_byte.new.line (omega (arith, c.requires)) c.put_bytes-next.ensures c.put_number-end.ensures c.put_byte.ensures);
      room = omega (arith, c.put_bytes-next.ensures.0, c.put_number-end.ensures.0, c.put_byte.ensures.0);
    }
