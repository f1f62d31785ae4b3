-- `text_of` meets its contract.
use Rattle.tokens.specs.Texts.{two_more, text_from, text_of}
use Rattle.tokens.proofs.TokenBounds.{two_there}
use Prim.Native.Nat.{◌+◌, ◌-◌}
use mathlib.Core.Path.{◌≡◌, sym, ap, ◌∙◌}
use mathlib.Core.Bool.{true, false}
use native.Mathlib.Omega.{arith}
use lib.ListN.{drop, length-drop}
use lib.Seq.{drop-drop}
use Rattle.token_texts.proofs.text_of.Goals as goal

pub overflow_add-first : goal.overflow_add-first
overflow_add-first c = omega (arith, c.requires.0)

pub two_more-requires : goal.two_more-requires
two_more-requires c =
    (omega (arith, c.requires.0), c.requires.1)

pub overflow_add-first-then-two_more : goal.overflow_add-first-then-two_more
overflow_add-first-then-two_more c = omega (arith, c.requires.0)

pub text_from-requires : goal.text_from-requires
text_from-requires c =
    let a = c.args in
    let cs = drop (a.first + 1) a.points.now in
    let t : two_more a.q cs ≡ true = sym c.two_more.ensures ∙ c.if-two_more.true in
    (omega arith, omega (arith, two_there a.q cs t, length-drop (a.first + 1) a.points.now, c.requires.0), c.requires.1)

pub returns-then-two_more : goal.returns-then-two_more
unfolding text_of
returns-then-two_more c =
    let a = c.args in
    let p = a.points.now in
    let cs = drop (a.first + 1) p in
    let t : two_more a.q cs ≡ true = sym c.two_more.ensures ∙ c.if-two_more.true in
    let y : a.first + 1 + 2 ≡ a.first + 3 = omega arith in
    let z : a.first + 3 - a.first ≡ 3 = omega arith in
    let d : drop 2 cs ≡ drop (a.first + 3) p = drop-drop 2 (a.first + 1) p ∙ ap (λ n. drop n p) y in
    c.text_from.ensures ∙ ap (text_from true a.q 0 (drop (a.first + 3) p)) z ∙ rw t (ap (λ l. text_from true a.q 0 l 3) (sym d))

pub overflow_add-first-2 : goal.overflow_add-first-2
overflow_add-first-2 c = omega (arith, c.requires.0)

pub text_from-requires-2 : goal.text_from-requires-2
text_from-requires-2 c =
    (omega arith, omega (arith, c.requires.0), c.requires.1)

pub returns : goal.returns
unfolding text_of
returns c =
    let a = c.args in
    let p = a.points.now in
    let cs = drop (a.first + 1) p in
    let t : two_more a.q cs ≡ false = sym c.two_more.ensures ∙ c.if-two_more.false in
    let z : a.first + 1 - a.first ≡ 1 = omega arith in
    c.text_from-2.ensures ∙ rw t (ap (text_from false a.q 0 cs) z)
