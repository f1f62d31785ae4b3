-- `one_in` meets its contract.
use mathlib.Core.Path.{sym, ◌∙◌}
use lib.ListN.{length}
use borrow.Author.Tests.{le-ltb}
use Rattle.dictionaries.specs.Utf8.{span}
use Rattle.dictionary_checks.proofs.Spanning.{span_none, span_at}
use Rattle.dictionary_checks.proofs.spans.one_in.Goals as goal

pub returns-then-i-bytes : goal.returns-then-i-bytes
returns-then-i-bytes c = let a = c.args in c.is_in.ensures ∙ sym (span_at a.bytes.now a.i (span a.least a.greatest) c.if-i-bytes.true)

pub returns-else-i-bytes : goal.returns-else-i-bytes
returns-else-i-bytes c =
    let a = c.args in
    le-ltb a.i (length a.bytes.now) c.if-i-bytes.false ∙ sym (span_none a.bytes.now a.i (span a.least a.greatest) c.if-i-bytes.false)
