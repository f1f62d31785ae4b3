-- `last_named` meets its contract: the words before the last are less.
use mathlib.Core.Path.{sym, ap, ◌∙◌}
use native.Mathlib.Omega.{arith}
use lib.Dec.{eqb}
use Rattle.words.specs.Words.{name_kind, term_kind}
use Rattle.view_grants.proofs.Grants.{last_name, none_named}
use Rattle.view_grants.proofs.last_named.Goals as goal

pub returns-in-Some : goal.returns-in-Some
returns-in-Some c =
    let is = c.in-Some.ensures.item.3 in
    ap (λ k. eqb k name_kind) (c.kind.ensures ∙ ap term_kind (is.1 0)) ∙ last_name c.args.grant.now c.requires is.0

pub returns-in-None : goal.returns-in-None
returns-in-None c = sym (none_named c.args.grant.now (omega (arith, c.in-None.ensures.item.3)))
