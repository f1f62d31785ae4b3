-- `group_line` meets its contract: the word, the record's fields and the end of the line.
use native.Mathlib.Omega.{arith}
use Rattle.lists.specs.Groups.{group_in}
use Rattle.print_texts.specs.Texts.{group_word}
use Rattle.print_texts.proofs.Placements.{whole_line}
use Rattle.print_lines.proofs.Lengths.{group_fields_most}
use Rattle.print_lines.proofs.LineTexts.{group_text}
use Rattle.print_lines.specs.Lines.{group_fields}
use Rattle.print_lines.proofs.groups.group_line.Goals as goal

pub put_fields-end-requires : goal.put_fields-end-requires
put_fields-end-requires c =
    let a = c.args in
    let e = group_fields_most a.keys a.group.now (omega (arith, c.requires)) (omega (arith, c.requires)) (λ i. (c.type_inv.group i).fits) in
    (omega arith, omega (arith, c.requires))

pub put_byte-requires : goal.put_byte-requires
put_byte-requires c =
    let a = c.args in
    let e = group_fields_most a.keys a.group.now (omega (arith, c.requires)) (omega (arith, c.requires)) (λ i. (c.type_inv.group i).fits) in
    omega (arith, c.requires)

pub returns : goal.returns
returns c = let a = c.args in
    let e = group_fields_most a.keys a.group.now (omega (arith, c.requires)) (omega (arith, c.requires)) (λ i. (c.type_inv.group i).fits) in record {
      line = rw (group_text (group_in a.keys a.group.now))
          (whole_line group_word (group_fields (group_in a.keys a.group.now))
          c.put_bytes-next.result c.put_fields-end.result c.put_byte.result a.line.now c.put_bytes-next.new.line c.put_fields-end.new.line c.put_byte.new.line
          (omega (arith, c.requires)) c.put_bytes-next.ensures c.put_fields-end.ensures c.put_byte.ensures);
      room = omega (arith, c.put_bytes-next.ensures.0, c.put_fields-end.ensures.0, c.put_byte.ensures.0);
    }
