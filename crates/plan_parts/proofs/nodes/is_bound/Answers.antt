-- `is_bound` meets its contract: only a variable is looked for, and the words passed are not it.
use Prim.Native.Nat.{ℕ, ◌+◌, ◌≤◌, ◌<◌}
use native.Mathlib.Omega.{arith}
use native.Mathlib.Numerals.{add-one}
use mathlib.Core.Path.{◌≡◌, refl, sym, ◌∙◌}
use mathlib.Core.Bool.{◌||◌, false}
use mathlib.Core.List.{List}
use lib.Dec.{eqb}
use lib.ListN.{length, get_or, drop, drop_of_length-le}
use lib.Seq.{drop-cons}
use borrow.Author.Tests.{eq-eqb, ne_eqb}
use Rattle.sequences.specs.Sequences.{member}
use Rattle.plan_parts.proofs.nodes.is_bound.Goals as goal

-- a word looked for from a place on: at the end, and past a place
module _ (xs : List ℕ) (i w : ℕ) where
  nowhere : length xs ≤ i → member w (drop i xs) ≡ false
  unfolding member
  nowhere h = rw (drop_of_length-le xs h)

  here_or_on : i < length xs → member w (drop i xs) ≡ eqb w (get_or xs i 0) || member w (drop (i + 1) xs)
  unfolding member
  here_or_on h = rw (add-one, drop-cons xs i 0)

pub loop-term-init : goal.loop-term-init
loop-term-init c = refl

pub returns-then-term-word : goal.returns-then-term-word
returns-then-term-word c =
    let a = c.args in
    let z = here_or_on a.terms.now c.loop-term.term-index a.word (omega arith) in
    let e = eq-eqb a.word (get_or a.terms.now c.loop-term.term-index 0) (sym c.if-term-word.true) in
    rw (← c.is_variable.ensures, c.if-not-is_variable.false, c.loop-term.invariant, z, e) refl

pub loop-term-preserved : goal.loop-term-preserved
loop-term-preserved c =
    let a = c.args in
    let z = here_or_on a.terms.now c.loop-term.term-index a.word (omega arith) in
    c.loop-term.invariant ∙ z ∙ rw (ne_eqb a.word (get_or a.terms.now c.loop-term.term-index 0) (λ e. c.if-term-word.false (sym e))) refl

pub returns : goal.returns
returns c =
    let a = c.args in
    rw (← c.is_variable.ensures, c.if-not-is_variable.false, c.loop-term.invariant, nowhere a.terms.now c.loop-term.term-index a.word (omega arith)) refl
