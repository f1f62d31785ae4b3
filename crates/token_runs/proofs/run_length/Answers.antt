-- `run_length` meets its contract: it counts the characters that pass from the front on.
use Rattle.std.proofs.Common.{rules, tests, ap, ◌∙◌, sym, drop, arith, length-drop}
use Rattle.std.specs.Slice.Iter.{iter_rest}
use Rattle.std.proofs.lemmas.Iterator.{YieldsList-from_slice}
use Rattle.std.proofs.lemmas.Iterator.Consumers.{count_from_yields_List}
use Rattle.std.proofs.lemmas.Iterator.Search.{YieldsList-from_take_while}
use Rattle.std.proofs.lemmas.List.Folds.{length-prefix_len}
use Rattle.std.proofs.lemmas.List.Sums.{prefix_len-le-length}
use Rattle.token_runs.specs.RunClasses.{is_of_class}
use Rattle.token_runs.proofs.Advancing.{left_from, run_prefix}
use Rattle.token_runs.proofs.run_length.Goals as goal

pub returns : goal.returns
returns c =
    let f = is_of_class c.args.class in
    let cs = drop c.args.from c.args.points.now in
    let run = c.take_while-run in
    let rest = ap iter_rest run.ensures.source ∙ c.iter.ensures.rest ∙ left_from c.args.points.now c.args.from in
    let e =
    count_from_yields_List run.result _ c.count.ensures.ran
    (YieldsList-from_take_while _ f (YieldsList-from_slice cs rest) run.ensures.closure run.ensures.done (λ x b q k. search (rules, tests)))
    ∙ length-prefix_len f cs in
    (e ∙ sym (run_prefix f cs), omega (arith, e, prefix_len-le-length f cs, length-drop c.args.from c.args.points.now))
