-- `each_passes` meets its contract. The invariant: all strings pass exactly where the rest does.
use native.Mathlib.Omega.{arith}
use mathlib.Core.Path.{sym, ◌∙◌}
use mathlib.Core.List.{[]}
use lib.ListN.{get_or}
use Rattle.dictionaries.specs.Dictionaries.{strings_of}
use Rattle.dictionaries.proofs.Searching.{strings_length}
use Rattle.dictionary_tests.proofs.Walking.{all_step, all_stop, all_end}
use Rattle.dictionary_tests.proofs.strings.each_passes.Goals as goal

pub returns-then-not-test : goal.returns-then-not-test
returns-then-not-test g c = λ p h.
    let ss = strings_of c.args.bytes.now c.args.ends.now in
    let n = strings_length c.args.bytes.now 0 c.args.ends.now in
    let e = h (get_or (strings_of c.args.bytes.now c.args.ends.now) c.loop-i.i []) c.test.result
    (record { shown = c.string.result; shows = c.string.ensures; says = record { met = c.test.ensures } }) in
    sym (c.loop-i.invariant p h ∙ all_stop p ss [] c.loop-i.i (omega arith) (sym e ∙ c.if-not-test.true))

pub loop-i-preserved : goal.loop-i-preserved
loop-i-preserved g c = λ p h.
    let ss = strings_of c.args.bytes.now c.args.ends.now in
    let n = strings_length c.args.bytes.now 0 c.args.ends.now in
    let e = h (get_or (strings_of c.args.bytes.now c.args.ends.now) c.loop-i.i []) c.test.result
    (record { shown = c.string.result; shows = c.string.ensures; says = record { met = c.test.ensures } }) in
    c.loop-i.invariant p h ∙ all_step p ss [] c.loop-i.i (omega arith) (sym e ∙ c.if-not-test.false)

pub returns : goal.returns
returns g c = λ p h.
    let n = strings_length c.args.bytes.now 0 c.args.ends.now in
    sym (c.loop-i.invariant p h ∙ all_end p (strings_of c.args.bytes.now c.args.ends.now) [] c.loop-i.i (omega arith))
