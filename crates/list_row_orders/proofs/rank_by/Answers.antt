-- `rank_by` meets its contract: a falling key reverses the order of keys.
use Prim.Native.Nat.{◌-◌}
use mathlib.Core.Path.{sym, ap, ◌∙◌}
use Rattle.words.specs.Words.{last_rank}
use Rattle.list_row_orders.proofs.Comparing.{rank_falling, rank_rising}
use Rattle.list_row_orders.proofs.rank_by.Goals as goal

pub returns-then-kind-eq-FALLING : goal.returns-then-kind-eq-FALLING
returns-then-kind-eq-FALLING c =
    ap (λ n. last_rank - n) c.key_rank-rank.ensures.0
    ∙ sym (rank_falling c.args.key c.args.word (sym c.kind.ensures ∙ c.if-kind-eq-FALLING.true))

pub returns : goal.returns
returns c =
    c.key_rank-rank.ensures.0
    ∙ sym (rank_rising c.args.key c.args.word (λ e. c.if-kind-eq-FALLING.false (c.kind.ensures ∙ e)))
