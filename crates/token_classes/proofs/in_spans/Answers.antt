-- `in_spans` meets its contract: `any` goes by the spans that the pairs of words are.
use Rattle.std.proofs.Common.{rules, tests}
use Rattle.std.proofs.lemmas.Iterator.Search.{any_from_yields_List}
use Rattle.dictionaries.specs.Utf8.{is_in}
use Rattle.token_classes.proofs.SpansRead.{pairs_yield}
use Rattle.token_classes.proofs.in_spans.Goals as goal

pub returns : goal.returns
returns c =
    any_from_yields_List (λ s. is_in s c.args.c) _ _ _ c.any.ensures.ran
    (pairs_yield c.args.spans.now c.chunks_exact.ensures.rest c.chunks_exact.ensures.size)
    (λ x b q k. search (rules, tests))
