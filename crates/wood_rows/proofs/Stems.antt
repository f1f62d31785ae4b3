-- One stem more: the words of its rows, behind those of the stems before it.
use Prim.Native.Nat.{ℕ, suc, ◌+◌, ◌*◌}
use native.Mathlib.Omega.{arith}
use native.Mathlib.Numerals.{add-one}
use mathlib.Core.Path.{◌≡◌, refl, sym, ◌∙◌, ap}
use mathlib.Core.List.{[], ◌∷◌, ◌++◌, flatten}
use Rattle.sequences.specs.Sequences.{iterate}
use Rattle.sequences.proofs.Flattening.{flatten_append}
use Rattle.woods.specs.Woods.{next_draw, stand_row, diameter_row, wood_rows}
use Rattle.wood_rows.specs.Drawn.{stem_words}

pub no_draw : (seed : ℕ) → iterate next_draw (2 * 0) seed ≡ seed
unfolding iterate
no_draw seed = refl

pub next_first : (seed j : ℕ) → next_draw (iterate next_draw (2 * j) seed) ≡ iterate next_draw (2 * j + 1) seed
unfolding iterate
next_first seed j = let z : 2 * j + 1 ≡ suc (2 * j) = omega arith in sym (ap (λ k. iterate next_draw k seed) z)

pub next_second : (seed j : ℕ) → next_draw (iterate next_draw (2 * j + 1) seed) ≡ iterate next_draw (2 * j + 2) seed
unfolding iterate
next_second seed j = let z : 2 * j + 2 ≡ suc (2 * j + 1) = omega arith in sym (ap (λ k. iterate next_draw k seed) z)

pub no_stem_lem : (seed year : ℕ) → [] ≡ flatten (wood_rows seed year 0)
unfolding wood_rows flatten
no_stem_lem seed year = refl

one_stem_lem : (seed year j : ℕ) → flatten (stand_row seed year j ∷ diameter_row seed year j ∷ [])
    ≡ stem_words year j (iterate next_draw (2 * j + 1) seed) (iterate next_draw (2 * j + 2) seed)
unfolding flatten
one_stem_lem seed year j = refl

pub next_stem : (seed year j : ℕ) → flatten (wood_rows seed year (j + 1))
    ≡ flatten (wood_rows seed year j) ++ stem_words year j (iterate next_draw (2 * j + 1) seed) (iterate next_draw (2 * j + 2) seed)
unfolding wood_rows
next_stem seed year j =
    ap (λ n. flatten (wood_rows seed year n)) (add-one j)
    ∙ flatten_append (wood_rows seed year j) (stand_row seed year j ∷ diameter_row seed year j ∷ [])
    ∙ ap (λ l. flatten (wood_rows seed year j) ++ l) (one_stem_lem seed year j)
