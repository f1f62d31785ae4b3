-- `table_tests::ends_right` meets its contract: the rows that POS and OSP have last are there.
use Rattle.std.proofs.Common.{◌≡◌, ℕ, ◌-◌, ◌∙◌, ap, arith}
use Rattle.tables.specs.declared.Order.TheVariants.{Pos, Osp}
use Rattle.tables.specs.Tables.{tables_of, row_at}
use Rattle.table_tests.specs.Ends.{row_of_last}
use Rattle.table_tests.proofs.ends_right.Goals as goal

pub field-predicate-requires : goal.field-predicate-requires
field-predicate-requires c =
    let t = tables_of c.args.rows.now c.args.pos.now c.args.osp.now in
    let e : c.number_at-by_predicate.result.0 ≡ row_of_last Pos t =
    c.number_at-by_predicate.ensures ∙ ap (λ (k : ℕ). row_at Pos t (k - 1)) c.requires.sized.pos_length in
    (omega (arith, c.requires.last_named Pos, c.requires.sized.whole), omega arith)

pub field-object-requires : goal.field-object-requires
field-object-requires c =
    let t = tables_of c.args.rows.now c.args.pos.now c.args.osp.now in
    let e : c.number_at-by_object.result.0 ≡ row_of_last Osp t =
    c.number_at-by_object.ensures ∙ ap (λ (k : ℕ). row_at Osp t (k - 1)) c.requires.sized.pos_length in
    (omega (arith, c.requires.last_named Osp, c.requires.sized.whole), omega arith)
