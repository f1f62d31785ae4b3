-- `put_fields` meets its contract: the keys, the totals, and least and greatest, one behind the other.
use Prim.Native.Nat.{◌+◌}
use native.Mathlib.Omega.{arith}
use mathlib.Core.List.{[], ◌∷◌, ◌++◌}
use mathlib.Core.Path.{sym}
use lib.Seq.{length-take-le}
use lib.ListN.{get_or, take, length-append}
use Rattle.print_texts.specs.Texts.{term_fields}
use Rattle.print_texts.proofs.Placements.{placed_then}
use Rattle.print_lines.specs.Lines.{totals_text}
use Rattle.print_lines.proofs.Records.{fields_of_lem, fields_length, last_two}
use Rattle.print_lines.proofs.groups.put_fields.Goals as goal

pub slice_bounds-put_terms-end : goal.slice_bounds-put_terms-end
slice_bounds-put_terms-end c =
    sym (length-take-le c.args.keys c.args.group.now (omega (arith, c.requires)))

pub put_terms-after_keys-requires : goal.put_terms-after_keys-requires
put_terms-after_keys-requires c =
    let a = c.args in
    let g = a.group.now in
    let k = a.keys in
    let pre = c.requires in
    let e = fields_length k g in
    omega arith

pub put_totals-after_totals-requires : goal.put_totals-after_totals-requires
put_totals-after_totals-requires c =
    let a = c.args in
    let g = a.group.now in
    let k = a.keys in
    let pre = c.requires in
    let e = fields_length k g in
    (omega arith, omega arith)

pub put_terms-requires : goal.put_terms-requires
put_terms-requires c =
    let a = c.args in
    let g = a.group.now in
    let k = a.keys in
    let pre = c.requires in
    let e = fields_length k g in
    rw (last_two k g (omega (arith, pre))) (omega arith)

pub returns : goal.returns
returns c =
    let a = c.args in
    let g = a.group.now in
    let k = a.keys in
    let pre = c.requires in
    let e = fields_length k g in
    let keys = term_fields (take k g) in
    let totals = totals_text k g in
    let ends = term_fields (get_or g (k + 6) 0 ∷ get_or g (k + 7) 0 ∷ []) in
    let n = length-append keys totals in
    let z = rw (last_two k g (omega (arith, pre))) at c.put_terms.ensures in
    rw (fields_of_lem k g)
    (placed_then (keys ++ totals) ends a.at c.put_totals-after_totals.result c.put_terms.result a.line.now c.put_totals-after_totals.new.line
    c.put_terms.new.line (omega arith)
    (placed_then keys totals a.at c.put_terms-after_keys.result c.put_totals-after_totals.result a.line.now c.put_terms-after_keys.new.line
    c.put_totals-after_totals.new.line (omega arith)
    c.put_terms-after_keys.ensures c.put_totals-after_totals.ensures)
    z)
