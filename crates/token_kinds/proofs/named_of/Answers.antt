-- `named_of` meets its contract.
use borrow.Author.Tests.{eq-eqb, ne_eqb}
use Rattle.token_runs.specs.RunClasses.{past_end}
use Rattle.token_kinds.proofs.TokensRead.{named_read}
use mathlib.Core.Path.{refl, sym, ◌∙◌}
use lib.ListN.{get_or}
use Rattle.token_kinds.proofs.named_of.Goals as goal

pub returns-then-point_at-eq58 : goal.returns-then-point_at-eq58
returns-then-point_at-eq58 c =
    let a = c.args in
    let p = a.points.now in
    let q = eq-eqb (get_or p c.dotted_end-end.result past_end) 0x3A (sym c.point_at.ensures ∙ c.if-point_at-eq58.true) in
    c.prefixed_of.ensures ∙ sym (named_read p a.from a.c c.dotted_end-end.result c.dotted_end-end.ensures.1 c.dotted_end-end.ensures.0 ∙ rw q refl)

pub returns : goal.returns
returns c =
    let a = c.args in
    let p = a.points.now in
    let q = ne_eqb (get_or p c.dotted_end-end.result past_end) 0x3A (λ e. c.if-point_at-eq58.false (c.point_at.ensures ∙ e)) in
    c.word_token.ensures ∙ sym (named_read p a.from a.c c.dotted_end-end.result c.dotted_end-end.ensures.1 c.dotted_end-end.ensures.0 ∙ rw q refl)
