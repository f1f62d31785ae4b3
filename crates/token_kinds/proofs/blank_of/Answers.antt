-- `blank_of` meets its contract.
use borrow.Author.Tests.{eq-eqb, not-false}
use Rattle.tokens.specs.declared.TokenKind.TheVariants as kind
use Rattle.tokens.specs.Numerals.{token}
use Rattle.tokens.specs.Classes.{begins_variable}
use Rattle.tokens.specs.Runs.{dotted_end, name_item}
use Rattle.token_runs.specs.RunClasses.{past_end}
use Rattle.token_runs.proofs.Advancing.{class_there}
use Rattle.token_kinds.proofs.TokensRead.{variable_past, dotted_place, blank_read}
use Prim.Native.Nat.{◌+◌, ◌-◌}
use mathlib.Core.Path.{◌≡◌, refl, sym, ap, ◌∙◌}
use mathlib.Core.Bool.{true}
use native.Mathlib.Omega.{arith}
use lib.ListN.{get_or, drop}
use Rattle.token_kinds.proofs.blank_of.Goals as goal

pub dotted_end-end-requires : goal.dotted_end-end-requires
dotted_end-end-requires c =
    let a = c.args in
    let b : begins_variable (get_or a.points.now (a.from + 1) past_end) ≡ true = ap begins_variable (sym c.point_at-else-point_at-ne58.ensures)
    ∙ sym c.begins_variable.ensures ∙ not-false c.begins_variable.result c.if-not-begins_variable.false-raw in
    (omega (arith, class_there a.points.now (a.from + 1) begins_variable variable_past b), c.requires.1)

pub returns : goal.returns
returns c =
    let a = c.args in
    let p = a.points.now in
    let q = eq-eqb (get_or p a.from past_end) 0x3A (sym c.point_at.ensures ∙ c.if-point_at-ne58.false) in
    let b : begins_variable (get_or p (a.from + 1) past_end) ≡ true = ap begins_variable (sym c.point_at-else-point_at-ne58.ensures)
    ∙ sym c.begins_variable.ensures ∙ not-false c.begins_variable.result c.if-not-begins_variable.false-raw in
    let cs = drop (a.from + 2) p in
    let z : c.dotted_end-end.result - a.from + 1 ≡ dotted_end name_item 0 cs 3 3 =
    omega (arith, c.dotted_end-end.ensures.0, c.dotted_end-end.ensures.1, dotted_place cs (a.from + 2) 3) in
    c.make_token-2.ensures ∙ ap (token kind.BlankLabel) z ∙ sym (blank_read p a.from ∙ rw (q, b) refl)
