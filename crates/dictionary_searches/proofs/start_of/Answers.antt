-- `start_of` meets its contract.
use mathlib.Core.Path.{sym, ◌∙◌}
use native.Mathlib.Omega.{arith}
use Rattle.dictionaries.proofs.Searching.{start_later}
use Rattle.dictionary_searches.proofs.start_of.Goals as goal

pub returns : goal.returns
returns c =
    let a = c.args in
    c.wide.ensures ∙ sym (start_later 0 a.ends.now a.n (omega arith))
