-- `row_line` meets its contract: the word, the terms and the end of the line.
use native.Mathlib.Omega.{arith}
use Rattle.print_texts.specs.Texts.{term_fields, row_word}
use Rattle.print_texts.proofs.Placements.{whole_line}
use Rattle.print_lines.proofs.Lengths.{terms_most}
use Rattle.print_lines.proofs.LineTexts.{row_text}
use Rattle.print_lines.proofs.row_line.Goals as goal

pub put_terms-end-requires : goal.put_terms-end-requires
put_terms-end-requires c =
    let e = terms_most c.args.row.now in
    omega (arith, c.requires)

pub put_byte-requires : goal.put_byte-requires
put_byte-requires c =
    let e = terms_most c.args.row.now in
    omega (arith, c.requires)

pub returns : goal.returns
returns c = let a = c.args in
    let e = terms_most c.args.row.now in record {
      line = rw (row_text a.row.now)
          (whole_line row_word (term_fields a.row.now)
          c.put_bytes-next.result c.put_terms-end.result c.put_byte.result a.line.now c.put_bytes-next.new.line c.put_terms-end.new.line c.put_byte.new.line
          (omega (arith, c.requires)) c.put_bytes-next.ensures c.put_terms-end.ensures c.put_byte.ensures);
      room = omega (arith, c.requires, c.put_bytes-next.ensures.0, c.put_terms-end.ensures.0, c.put_byte.ensures.0);
    }
