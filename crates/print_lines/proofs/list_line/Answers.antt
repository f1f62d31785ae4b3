-- `list_line` meets its contract: the word, the numbers and the end of the line.
use native.Mathlib.Omega.{arith}
use Rattle.print_texts.specs.Texts.{number_fields, list_word}
use Rattle.print_texts.proofs.Placements.{whole_line}
use Rattle.print_lines.proofs.LineTexts.{list_text}
use Rattle.print_lines.proofs.Lengths.{list_length}
use Rattle.print_lines.proofs.list_line.Goals as goal

pub put_bytes-next-requires : goal.put_bytes-next-requires
put_bytes-next-requires c = let e = list_length c.args.list.now in omega arith

pub put_numbers-end-requires : goal.put_numbers-end-requires
put_numbers-end-requires c =
    let e = list_length c.args.list.now in
    omega (arith, c.requires)

pub put_byte-requires : goal.put_byte-requires
put_byte-requires c =
    let e = list_length c.args.list.now in
    omega (arith, c.requires)

pub returns : goal.returns
returns c =
    let a = c.args in
    let e = list_length c.args.list.now in
    rw (list_text a.list.now)
    (whole_line list_word (number_fields a.list.now)
    c.put_bytes-next.result c.put_numbers-end.result c.put_byte.result a.line.now c.put_bytes-next.new.line c.put_numbers-end.new.line c.put_byte.new.line
    (omega (arith, c.requires)) c.put_bytes-next.ensures c.put_numbers-end.ensures c.put_byte.ensures)
