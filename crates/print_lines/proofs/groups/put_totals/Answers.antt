-- `put_totals` meets its contract: two counts and the sum, one behind the other.
use Prim.Native.Nat.{◌+◌}
use native.Mathlib.Omega.{arith}
use mathlib.Core.List.{◌++◌}
use lib.ListN.{length-append}
use Rattle.lists.specs.Sums.{sum_in}
use Rattle.lists.specs.Groups.{pair_at}
use Rattle.print_texts.specs.Texts.{number_field, integer_field}
use Rattle.print_texts.proofs.Placements.{placed_then}
use Rattle.print_texts.proofs.Fields.{three_length}
use Rattle.print_lines.proofs.groups.put_totals.Goals as goal

pub put_total-after_rows-requires : goal.put_total-after_rows-requires
put_total-after_rows-requires c =
    let a = c.args in
    let g = a.group.now in
    let k = a.keys in
    let e = three_length (number_field (pair_at g k)) (number_field (pair_at g (k + 2))) (integer_field (sum_in (pair_at g (k + 4)))) in
    (omega arith, omega arith)

pub put_total-after_numbers-requires : goal.put_total-after_numbers-requires
put_total-after_numbers-requires c =
    let a = c.args in
    let g = a.group.now in
    let k = a.keys in
    let e = three_length (number_field (pair_at g k)) (number_field (pair_at g (k + 2))) (integer_field (sum_in (pair_at g (k + 4)))) in
    (omega arith, omega arith)

pub put_group_sum-requires : goal.put_group_sum-requires
put_group_sum-requires c =
    let a = c.args in
    let g = a.group.now in
    let k = a.keys in
    let e = three_length (number_field (pair_at g k)) (number_field (pair_at g (k + 2))) (integer_field (sum_in (pair_at g (k + 4)))) in
    (omega arith, omega arith)

pub returns : goal.returns
returns c =
    let a = c.args in
    let g = a.group.now in
    let x = number_field (pair_at g a.keys) in
    let y = number_field (pair_at g (a.keys + 2)) in
    let z = integer_field (sum_in (pair_at g (a.keys + 4))) in
    let e = three_length x y z in
    let n = length-append x y in
    placed_then (x ++ y) z a.at c.put_total-after_numbers.result c.put_group_sum.result a.line.now c.put_total-after_numbers.new.line
    c.put_group_sum.new.line (omega arith)
    (placed_then x y a.at c.put_total-after_rows.result c.put_total-after_numbers.result a.line.now c.put_total-after_rows.new.line
    c.put_total-after_numbers.new.line (omega arith)
    c.put_total-after_rows.ensures c.put_total-after_numbers.ensures)
    c.put_group_sum.ensures
