-- `left_words` meets its contract: only a pair has a left operand.
use mathlib.Core.Path.{refl, sym, ◌∙◌}
use Rattle.plans.specs.declared.Node.TheVariants.{Always, Pair, Negated, Compared, Wrong}
use Rattle.conditions.proofs.Places.{no_left, left_found}
use Rattle.condition_values.proofs.operands.left_words.Goals as goal

pub returns-then-p-eq0 : goal.returns-then-p-eq0
returns-then-p-eq0 c = sym (no_left c.args.p.now c.if-p-eq0.true)

pub returns-in-Wrong : goal.returns-in-Wrong
returns-in-Wrong c =
    sym (left_found c.args.p.now Wrong c.if-p-eq0.false (sym c.in-Wrong.is ∙ c.node_of.ensures) refl)

pub returns-in-Always : goal.returns-in-Always
returns-in-Always c =
    sym (left_found c.args.p.now Always c.if-p-eq0.false (sym c.in-Always.is ∙ c.node_of.ensures) refl)

pub returns-in-Compared : goal.returns-in-Compared
returns-in-Compared c =
    sym (left_found c.args.p.now Compared c.if-p-eq0.false (sym c.in-Compared.is ∙ c.node_of.ensures) refl)

pub returns-in-Negated : goal.returns-in-Negated
returns-in-Negated c =
    sym (left_found c.args.p.now Negated c.if-p-eq0.false (sym c.in-Negated.is ∙ c.node_of.ensures) refl)

pub returns-in-Pair : goal.returns-in-Pair
returns-in-Pair c =
    sym (left_found c.args.p.now Pair c.if-p-eq0.false (sym c.in-Pair.is ∙ c.node_of.ensures)
    c.condition_words.ensures)
