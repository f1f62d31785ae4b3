-- `exponent_length` meets its contract.
use borrow.Author.Tests.{not-true, not-false}
use Rattle.tokens.specs.Classes.{is_one_of}
use Rattle.tokens.specs.Numerals.{is_plus_minus, exponent_by}
use Rattle.tokens.proofs.TokenBounds.{exponent_fits}
use Rattle.token_runs.specs.RunClasses.{past_end}
use Rattle.token_runs.proofs.Advancing.{class_there}
use Rattle.token_numbers.proofs.NumbersRead.{exponent_none, exponent_some}
use Prim.Native.Nat.{◌+◌}
use mathlib.Core.Path.{◌≡◌, refl, sym, ap, ◌∙◌}
use mathlib.Core.Bool.{true, false}
use mathlib.Core.List.{[], ◌∷◌}
use native.Mathlib.Omega.{arith}
use lib.ListN.{get_or, drop, length-drop}
use Rattle.token_numbers.proofs.exponent_length.Goals as goal

pub returns-then-not-either : goal.returns-then-not-either
returns-then-not-either c =
    let a = c.args in
    let e : is_one_of (0x65 ∷ 0x45 ∷ []) (get_or a.points.now a.at past_end) ≡ false =
    ap (is_one_of (0x65 ∷ 0x45 ∷ [])) (sym c.point_at.ensures) ∙ sym c.either.ensures ∙ not-true c.either.result c.if-not-either.true-raw in
    (sym (exponent_none a.points.now a.at false e refl), omega (arith, c.requires.0))

pub overflow_add-at : goal.overflow_add-at
overflow_add-at c = omega (arith, c.requires.0)

pub overflow_add-at-then-either : goal.overflow_add-at-then-either
overflow_add-at-then-either c = omega (arith, c.requires.0)

pub run_length-requires : goal.run_length-requires
run_length-requires c =
    let a = c.args in
    let e : is_plus_minus (get_or a.points.now (a.at + 1) past_end) ≡ true = ap is_plus_minus (sym c.point_at-2.ensures)
    ∙ sym c.either-2.ensures ∙ c.if-either.true in
    (omega (arith, class_there a.points.now (a.at + 1) is_plus_minus refl e), c.requires.1)

pub exponent_by-requires : goal.exponent_by-requires
exponent_by-requires c = omega (arith, c.run_length.ensures.1)

pub returns-then-either : goal.returns-then-either
returns-then-either c =
    let a = c.args in
    let p = a.points.now in
    let e : is_one_of (0x65 ∷ 0x45 ∷ []) (get_or p a.at past_end) ≡ true =
    ap (is_one_of (0x65 ∷ 0x45 ∷ [])) (sym c.point_at.ensures) ∙ sym c.either.ensures
    ∙ not-false c.either.result c.if-not-either.false-raw in
    let f : is_plus_minus (get_or p (a.at + 1) past_end) ≡ true = ap is_plus_minus (sym c.point_at-2.ensures)
    ∙ sym c.either-2.ensures ∙ c.if-either.true in
    let r = c.exponent_by.ensures ∙ ap (λ n. exponent_by n 2) c.run_length.ensures.0 ∙ sym (exponent_some p a.at true e true f refl) in
    (r, omega (arith, r, exponent_fits (drop a.at p), length-drop a.at p, c.requires.0))

pub overflow_add-at-2 : goal.overflow_add-at-2
overflow_add-at-2 c = omega (arith, c.requires.0)

pub run_length-requires-2 : goal.run_length-requires-2
run_length-requires-2 c =
    let a = c.args in
    let e : is_one_of (0x65 ∷ 0x45 ∷ []) (get_or a.points.now a.at past_end) ≡ true =
    ap (is_one_of (0x65 ∷ 0x45 ∷ [])) (sym c.point_at.ensures) ∙ sym c.either.ensures
    ∙ not-false c.either.result c.if-not-either.false-raw in
    (omega (arith, class_there a.points.now a.at (is_one_of (0x65 ∷ 0x45 ∷ [])) refl e), c.requires.1)

pub exponent_by-requires-2 : goal.exponent_by-requires-2
exponent_by-requires-2 c = omega (arith, c.run_length-2.ensures.1)

pub returns : goal.returns
returns c =
    let a = c.args in
    let p = a.points.now in
    let e : is_one_of (0x65 ∷ 0x45 ∷ []) (get_or p a.at past_end) ≡ true =
    ap (is_one_of (0x65 ∷ 0x45 ∷ [])) (sym c.point_at.ensures) ∙ sym c.either.ensures
    ∙ not-false c.either.result c.if-not-either.false-raw in
    let f : is_plus_minus (get_or p (a.at + 1) past_end) ≡ false = ap is_plus_minus (sym c.point_at-2.ensures)
    ∙ sym c.either-2.ensures ∙ c.if-either.false in
    let r = c.exponent_by-2.ensures ∙ ap (λ n. exponent_by n 1) c.run_length-2.ensures.0 ∙ sym (exponent_some p a.at true e false f refl) in
    (r, omega (arith, r, exponent_fits (drop a.at p), length-drop a.at p, c.requires.0))
