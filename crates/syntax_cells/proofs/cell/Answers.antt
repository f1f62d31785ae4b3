use Prim.Native.Nat.{◌+◌, ◌%◌, ◌/◌, ◌≤◌, ◌<◌}
use mathlib.Core.Path.{◌≡◌, ap, ◌∙◌}
use native.Mathlib.Omega.{arith}
use lib.ListN.{length, get_or}
use Rattle.syntax_cells.specs.TableWords.{grammar_words}
use Rattle.syntax.specs.Cells.{refuse}
use Rattle.syntax_cells.proofs.Cells.{size, row_ends, number_fits, places_few, cell_owned, cell_passes, cell_misplaced}
use Rattle.syntax_cells.proofs.cell.Goals as goal

pub bounds-table-symbol : goal.bounds-table-symbol
bounds-table-symbol c =
    let l : length c.args.table.now ≡ length grammar_words = ap length c.requires.2 in
    let n = size in
    omega (arith, l, n, c.requires.0)

pub bounds-table-row : goal.bounds-table-row
bounds-table-row c =
    let n = size in
    let b = row_ends c.args.symbol c.requires.0 in
    rw c.requires.2 (omega (arith, n, b, c.requires.1))

pub returns-then-word-symbol : goal.returns-then-word-symbol
returns-then-word-symbol c =
    let t = c.args.table.now in
    let a = c.args in
    let w = get_or t (get_or t a.symbol 0 % 4096 + a.kind) 0 in
    let h : w % 128 ≡ a.symbol = omega arith in
    let o = rw c.requires.2 at h in
    let n = size in
    let b = row_ends a.symbol c.requires.0 in
    let f = number_fits (get_or grammar_words a.symbol 0 % 4096 + a.kind) (omega (arith, b, c.requires.1)) in
    rw (c.action_of.ensures, c.requires.2) (
      cell_owned a.symbol a.kind c.requires.0 c.requires.1 o,
      places_few (get_or grammar_words (get_or grammar_words a.symbol 0 % 4096 + a.kind) 0 / 128) f.0 f.1,
    )

pub returns-then-row-ge4096 : goal.returns-then-row-ge4096
returns-then-row-ge4096 c =
    let t = c.args.table.now in
    let a = c.args in
    let h : get_or t (get_or t a.symbol 0 % 4096 + a.kind) 0 % 128 ≡ a.symbol → ⊥ = λ e. omega (arith, e) in
    let p : 4096 ≤ get_or t a.symbol 0 = omega arith in
    (cell_passes a.symbol a.kind c.requires.0 c.requires.1 (rw c.requires.2 at h) (rw c.requires.2 at p), tt)

pub returns-else-row-ge4096 : goal.returns-else-row-ge4096
returns-else-row-ge4096 c =
    let t = c.args.table.now in
    let a = c.args in
    let h : get_or t (get_or t a.symbol 0 % 4096 + a.kind) 0 % 128 ≡ a.symbol → ⊥ = λ e. omega (arith, e) in
    let p : get_or t a.symbol 0 < 4096 = omega arith in
    (ap refuse c.misplaced.ensures ∙ cell_misplaced a.symbol a.kind c.requires.0 c.requires.1 (rw c.requires.2 at h) (rw c.requires.2 at p), tt)
