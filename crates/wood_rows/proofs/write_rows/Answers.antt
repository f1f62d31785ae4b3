-- `write_rows` meets its contract. The invariant: the rows of the stems before `stem` are written, and x has moved twice for each.
use Prim.Native.Nat.{◌+◌, ◌*◌, ◌≤◌}
use mathlib.Core.Path.{◌≡◌, sym, ap, ◌∙◌}
use mathlib.Core.List.{flatten}
use native.Mathlib.Omega.{arith}
use lib.ListN.{length}
use lib.Seq.{paste}
use Rattle.sequences.specs.Sequences.{iterate, over}
use Rattle.woods.specs.Woods.{next_draw, wood_rows}
use Rattle.woods.proofs.Lengths.{rows_length}
use Rattle.sequences.proofs.Growing.{grow_whole}
use Rattle.wood_rows.specs.Drawn.{stem_words}
use Rattle.wood_rows.proofs.Stems.{no_draw, next_first, next_second, no_stem_lem, next_stem}
use Rattle.wood_rows.proofs.write_rows.Goals as goal

pub loop-stem-init : goal.loop-stem-init
loop-stem-init c =
    let a = c.args in
    (omega arith, sym (no_draw a.seed), ap (λ ws. over ws a.rows.now) (no_stem_lem a.seed a.year))

pub loop-stem-preserved : goal.loop-stem-preserved
loop-stem-preserved c =
    let a = c.args in
    let j = c.loop-stem.stem in
    let f = c.draw-first.ensures ∙ ap next_draw c.loop-stem.invariant.1 ∙ next_first a.seed j in
    let s = c.draw-second.ensures ∙ ap next_draw f ∙ next_second a.seed j in
    let ws = flatten (wood_rows a.seed a.year j) in
    let x = stem_words a.year j (iterate next_draw (2 * j + 1) a.seed) (iterate next_draw (2 * j + 2) a.seed) in
    let y : c.stem_words-words.result ≡ x =
    c.stem_words-words.ensures ∙ ap (λ d. stem_words a.year j d c.draw-second.result) f
    ∙ ap (stem_words a.year j (iterate next_draw (2 * j + 1) a.seed)) s in
    let n = rows_length a.seed j a.year in
    let counted : c.loop-stem.used ≡ length ws = omega (arith, c.loop-stem.invariant.0) in
    let fits : c.loop-stem.used + length x ≤ length a.rows.now = omega (arith, c.loop-stem.invariant.0, c.requires.column_count_in_bounds) in
    let put : c.copy_in.new.buf ≡ paste c.loop-stem.rows c.loop-stem.used x (length x) =
    c.copy_in.ensures ∙ ap (λ z. paste c.loop-stem.rows c.loop-stem.used z (length z)) y in
    let z : 2 * j + 2 ≡ 2 * (j + 1) = omega arith in (
      omega (arith, c.loop-stem.invariant.0),
      s ∙ ap (λ k. iterate next_draw k a.seed) z,
      grow_whole ws x a.rows.now c.loop-stem.rows c.copy_in.new.buf c.loop-stem.used counted c.loop-stem.invariant.2 fits put
          ∙ sym (ap (λ ws. over ws a.rows.now) (next_stem a.seed a.year j)),
    )
