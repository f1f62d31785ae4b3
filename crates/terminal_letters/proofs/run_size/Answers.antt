-- `run_size` meets its contract: it counts the characters that pass from the front on.
use Rattle.std.proofs.Common.{rules, tests, ap, ◌∙◌, sym, arith}
use Rattle.std.specs.Slice.Iter.{iter_rest}
use Rattle.std.proofs.lemmas.Iterator.{YieldsList-from_slice}
use Rattle.std.proofs.lemmas.Iterator.Consumers.{count_from_yields_List}
use Rattle.std.proofs.lemmas.Iterator.Search.{YieldsList-from_take_while}
use Rattle.std.proofs.lemmas.List.Folds.{length-prefix_len}
use Rattle.std.proofs.lemmas.List.Sums.{prefix_len-le-length}
use Rattle.token_runs.proofs.Advancing.{run_prefix}
use Rattle.terminal_letters.specs.Letters.{is_letter_of}
use Rattle.terminal_letters.proofs.run_size.Goals as goal

pub returns : goal.returns
returns c =
    let f = is_letter_of c.args.letters in
    let s = c.args.s.now in
    let run = c.take_while in
    let all = ap iter_rest run.ensures.source ∙ c.iter.ensures.rest in
    let e =
    count_from_yields_List run.result _ c.count.ensures.ran
    (YieldsList-from_take_while _ f (YieldsList-from_slice s all) run.ensures.closure run.ensures.done (λ x b q k. search (rules, tests)))
    ∙ length-prefix_len f s in
    (e ∙ sym (run_prefix f s), omega (arith, e, prefix_len-le-length f s))
