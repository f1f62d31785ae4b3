-- `table_readings::osp_keys` meets its contract.
use mathlib.Core.Path.{◌∙◌, ap, ap₂}
use mathlib.Core.List.{[], ◌∷◌}
use Rattle.table_walk_keys.specs.Walk.{long_of, keys_of}
use Rattle.table_readings.proofs.osp_keys.Goals as goal

pub returns : goal.returns
unfolding keys_of
returns c =
    ap₂ (λ a b. a ∷ b ∷ [])
    (c.long-front.ensures ∙ ap (long_of 0) c.year_read.ensures)
    (c.long-back.ensures ∙ ap (λ a. long_of a c.args.row.0) c.field.ensures)
