-- `rest_in` meets its contract.
use mathlib.Core.Path.{◌≡◌, sym, ap, ◌∙◌}
use lib.ListN.{drop}
use Rattle.dictionary_checks.specs.declared.Rest.{Rest}
use Rattle.dictionary_checks.specs.Steps.{spans_in, each_in_span}
use Rattle.dictionary_checks.proofs.Spanning.{spans_none}
use Rattle.dictionary_checks.proofs.spans.rest_in.Goals as goal
use Rattle.dictionary_checks.proofs.spans.rest_in.Goals.{Start}

-- what is still to come, by its name
as_told : (s : Start) {r : Rest} → s.args.rest ≡ r
    → each_in_span (drop s.args.i s.args.bytes.now) (spans_in s.args.rest) ≡ each_in_span (drop s.args.i s.args.bytes.now) (spans_in r)
as_told s e = ap (λ q. each_in_span (drop s.args.i s.args.bytes.now) (spans_in q)) e

pub returns-in-Nothing : goal.returns-in-Nothing
returns-in-Nothing c = sym (as_told (goal.at.returns-in-Nothing c).Start c.in-Nothing.is ∙ spans_none (drop c.args.i c.args.bytes.now))

pub returns-in-One : goal.returns-in-One
returns-in-One c = c.one_in.ensures ∙ sym (as_told (goal.at.returns-in-One c).Start c.in-One.is)

pub returns-in-Two : goal.returns-in-Two
returns-in-Two c = c.two_in.ensures ∙ sym (as_told (goal.at.returns-in-Two c).Start c.in-Two.is)

pub returns-in-Three : goal.returns-in-Three
returns-in-Three c = c.three_in.ensures ∙ sym (as_told (goal.at.returns-in-Three c).Start c.in-Three.is)

pub returns-in-AfterE0 : goal.returns-in-AfterE0
returns-in-AfterE0 c = c.two_in-in-AfterE0.ensures ∙ sym (as_told (goal.at.returns-in-AfterE0 c).Start c.in-AfterE0.is)

pub returns-in-AfterEd : goal.returns-in-AfterEd
returns-in-AfterEd c = c.two_in-in-AfterEd.ensures ∙ sym (as_told (goal.at.returns-in-AfterEd c).Start c.in-AfterEd.is)

pub returns-in-AfterF0 : goal.returns-in-AfterF0
returns-in-AfterF0 c = c.three_in-in-AfterF0.ensures ∙ sym (as_told (goal.at.returns-in-AfterF0 c).Start c.in-AfterF0.is)

pub returns-in-AfterF4 : goal.returns-in-AfterF4
returns-in-AfterF4 c = c.three_in-in-AfterF4.ensures ∙ sym (as_told (goal.at.returns-in-AfterF4 c).Start c.in-AfterF4.is)
