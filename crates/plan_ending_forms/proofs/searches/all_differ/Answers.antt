-- `all_differ` meets its contract: no word passed stands again behind itself.
use mathlib.Core.Path.{sym, ◌∙◌}
use Rattle.sequences.proofs.Walking.{distinct_goes, distinct_stops, distinct_end}
use Rattle.plans.proofs.Chains.{any_member}
use Rattle.plan_ending_forms.proofs.searches.all_differ.Goals as goal

pub returns-then-contains : goal.returns-then-contains
returns-then-contains c =
    sym (c.loop-i.invariant ∙ distinct_stops c.args.words.now c.loop-i.i c.loop-i-test.true c.contains.result
    (c.contains.ensures.value ∙ any_member _ _) c.if-contains.true)

pub loop-i-preserved : goal.loop-i-preserved
loop-i-preserved c =
    c.loop-i.invariant ∙ distinct_goes c.args.words.now c.loop-i.i c.loop-i-test.true c.contains.result
    (c.contains.ensures.value ∙ any_member _ _) c.if-contains.false

pub returns : goal.returns
returns c = sym (c.loop-i.invariant ∙ distinct_end c.args.words.now c.loop-i.i c.loop-i-test.false)
