-- `well_formed` meets its contract. The invariant: all bytes are formed exactly where the rest is.
use Prim.Native.Nat.{◌+◌}
use native.Mathlib.Omega.{arith}
use mathlib.Core.Path.{refl, sym, ◌∙◌}
use borrow.Author.Tests.{not-true, not-false}
use Rattle.dictionary_checks.specs.declared.Rest.TheVariants.{Nothing}
use Rattle.dictionary_checks.specs.Steps.{spans_in}
use Rattle.dictionary_checks.proofs.Stepping.{end_formed, more_formed, wrong_formed}
use Rattle.dictionary_checks.proofs.Spanning.{ascii_more, behind_fits, behind_more, behind_wrong}
use Rattle.dictionary_checks.proofs.well_formed.Goals as goal

pub loop-i-init : goal.loop-i-init
loop-i-init c = (omega arith, refl)

pub loop-i-preserved-then-b-le127 : goal.loop-i-preserved-then-b-le127
loop-i-preserved-then-b-le127 c =
    let t = c.args.bytes.now in
    (omega arith, c.loop-i.invariant.1 ∙ ascii_more t c.loop-i.i (omega arith) c.if-b-le127.true)

pub rest_in-requires : goal.rest_in-requires
rest_in-requires c = omega (arith, c.loop-i-test)

pub returns-then-not-rest_in : goal.returns-then-not-rest_in
returns-then-not-rest_in c =
    let t = c.args.bytes.now in
    let i = c.loop-i.i in
    let e = sym c.rest_in.ensures ∙ not-true _ c.if-not-rest_in.true-raw in
    sym (c.loop-i.invariant.1
    ∙ (more_formed t i Nothing (omega arith) c.first.result c.first.ensures c.in-Some.rest c.in-Some.is
    ∙ behind_wrong t (i + 1) (spans_in c.in-Some.rest) e))

pub overflow_add-i-in-Some-3 : goal.overflow_add-i-in-Some-3
overflow_add-i-in-Some-3 c =
    let t = c.args.bytes.now in
    let e = sym c.rest_in.ensures ∙ not-false _ c.if-not-rest_in.false-raw in
    let f = behind_fits t (c.loop-i.i + 1) c.rest_length.result (spans_in c.in-Some.rest) e c.rest_length.ensures
    (omega arith) in
    omega arith

pub loop-i-smaller : goal.loop-i-smaller
loop-i-smaller c =
    let t = c.args.bytes.now in
    let e = sym c.rest_in.ensures ∙ not-false _ c.if-not-rest_in.false-raw in
    let f = behind_fits t (c.loop-i.i + 1) c.rest_length.result (spans_in c.in-Some.rest) e c.rest_length.ensures
    (omega arith) in
    omega arith

pub loop-i-preserved : goal.loop-i-preserved
loop-i-preserved c =
    let t = c.args.bytes.now in
    let i = c.loop-i.i in
    let e = sym c.rest_in.ensures ∙ not-false _ c.if-not-rest_in.false-raw in
    let n = c.rest_length.ensures in (
      behind_fits t (i + 1) c.rest_length.result (spans_in c.in-Some.rest) e n (omega arith),
      c.loop-i.invariant.1
          ∙ (more_formed t i Nothing (omega arith) c.first.result c.first.ensures c.in-Some.rest c.in-Some.is
          ∙ behind_more t (i + 1) c.rest_length.result (spans_in c.in-Some.rest) e n),
    )

pub returns-in-None : goal.returns-in-None
returns-in-None c =
    let t = c.args.bytes.now in
    sym (c.loop-i.invariant.1 ∙ wrong_formed t c.loop-i.i Nothing (omega arith) c.first.result c.first.ensures c.in-None.is)

pub returns : goal.returns
returns c =
    let t = c.args.bytes.now in
    sym (c.loop-i.invariant.1 ∙ end_formed t c.loop-i.i Nothing (omega arith))
