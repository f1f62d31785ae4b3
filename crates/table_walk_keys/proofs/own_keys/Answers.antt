-- `table_walk_keys::own_keys` meets its contract: two words that are read at once are turned.
use Prim.Native.Nat.{ℕ, ◌+◌, ◌*◌}
use mathlib.Core.Path.{◌≡◌, ◌∙◌, ap₂}
use mathlib.Core.List.{[], ◌∷◌}
use native.Mathlib.Omega.{arith}
use lib.ListN.{get_or}
use Rattle.tables.specs.Tables.{column_count, year_column, subject_column, predicate_column, object_column}
use Rattle.table_walk_keys.specs.Walk.{long_of, keys_of, Words}
use Rattle.table_walk_keys.proofs.Keys.{turned_long}
use Rattle.table_walk_keys.proofs.own_keys.Goals as goal

pub returns : goal.returns
unfolding keys_of
returns c =
    let rows = c.args.rows.now in
    let row = c.args.row.0 in
    let at = c.wide-at.result * column_count in
    let y : at ≡ row * column_count + year_column = omega (arith, c.wide-at.ensures) in
    let s : at + 1 ≡ row * column_count + subject_column = omega (arith, c.wide-at.ensures) in
    let p : at + predicate_column ≡ row * column_count + predicate_column = omega (arith, c.wide-at.ensures) in
    let o : at + predicate_column + 1 ≡ row * column_count + object_column = omega (arith, c.wide-at.ensures) in
    let fits : Words rows = λ i. omega (arith, c.type_inv.rows i) in
    let words : ℕ → ℕ → ℕ = λ m n. long_of (get_or rows m 0) (get_or rows n 0) in
    ap₂ (λ x y. x ∷ y ∷ [])
    (c.turned-front.ensures ∙ turned_long c.pair_at.result _ _ c.pair_at.ensures (fits _) ∙ ap₂ words y s)
    (c.turned-back.ensures ∙ turned_long c.pair_at-2.result _ _ c.pair_at-2.ensures (fits _) ∙ ap₂ words p o)
