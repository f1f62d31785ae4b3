-- `table_readings::pos_keys` meets its contract: of the pair that is read, the second word is the predicate.
use Prim.Native.Nat.{ℕ, ◌+◌, ◌*◌}
use mathlib.Core.Path.{◌≡◌, ◌∙◌, ap, ap₂}
use mathlib.Core.List.{[], ◌∷◌}
use native.Mathlib.Omega.{arith}
use lib.ListN.{get_or}
use Rattle.tables.specs.Tables.{column_count, predicate_column, object_column}
use Rattle.table_walk_keys.specs.Walk.{long_of, keys_of, Words}
use Rattle.table_walk_keys.proofs.Keys.{second_of_pair, first_of_pair}
use Rattle.table_readings.proofs.pos_keys.Goals as goal

pub returns : goal.returns
unfolding keys_of
returns c =
    let rows = c.args.rows.now in
    let row = c.args.row.0 in
    let fits : Words rows = λ i. omega (arith, c.type_inv.rows i) in
    let at = c.wide-at.result * column_count + predicate_column in
    let q : at ≡ row * column_count + predicate_column = omega (arith, c.wide-at.ensures) in
    let o : at + 1 ≡ row * column_count + object_column = omega (arith, c.wide-at.ensures) in
    let word : ℕ → ℕ = λ i. get_or rows i 0 in
    ap₂ (λ a b. a ∷ b ∷ [])
    (c.long-front.ensures
    ∙ ap₂ long_of c.year_read.ensures (c.second_of.ensures ∙ second_of_pair c.pair_at-pair.result _ _ c.pair_at-pair.ensures (fits at) ∙ ap word q))
    (c.long-back.ensures
    ∙ ap (λ b. long_of b row) (c.first_of.ensures ∙ first_of_pair c.pair_at-pair.result _ _ c.pair_at-pair.ensures (fits at) ∙ ap word o))
