-- `tag_of` meets its contract.
use borrow.Author.Tests.{eq-eqb, ne_eqb}
use Rattle.tokens.specs.declared.TokenKind.TheVariants as kind
use Rattle.tokens.specs.Numerals.{token}
use Rattle.tokens.specs.Tokens.{tag_end}
use Rattle.token_runs.specs.RunClasses.{past_end}
use Rattle.token_kinds.proofs.TokensRead.{tag_place, tag_read}
use Prim.Native.Nat.{◌+◌, ◌-◌}
use mathlib.Core.Path.{◌≡◌, refl, sym, ap, ◌∙◌}
use native.Mathlib.Omega.{arith}
use lib.ListN.{get_or, drop}
use Rattle.token_kinds.proofs.tag_of.Goals as goal

pub returns : goal.returns
returns c =
    let a = c.args in
    let p = a.points.now in
    let n = ne_eqb c.run_length-n.result 0 c.if-n-eq0.false in
    let q = eq-eqb (get_or p (a.from + c.run_length-n.result) past_end) 0x2D (sym c.point_at.ensures ∙ c.if-point_at-ne45.false) in
    let cs = drop (a.from + c.run_length-n.result) p in
    let z : c.tag_end-end.result - a.from + 1 ≡ tag_end cs (c.run_length-n.result + 1) =
    omega (arith, c.tag_end-end.ensures.0, c.tag_end-end.ensures.1, tag_place cs (a.from + c.run_length-n.result) (c.run_length-n.result + 1)) in
    c.make_token-2.ensures ∙ ap (token kind.LanguageTag) z ∙ sym (tag_read p a.from c.run_length-n.result c.run_length-n.ensures.0 ∙ rw (n, q) refl)
