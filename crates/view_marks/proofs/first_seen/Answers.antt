-- `first_seen` meets its contract: its subject is looked for in the grant, and then its rows for a flag.
use Prim.Native.Nat.{◌≤◌}
use mathlib.Core.Path.{sym, ap, ◌∙◌, subst}
use native.Mathlib.Omega.{arith}
use Rattle.sequences.specs.Sequences.{member}
use Rattle.view_grants.specs.Places.{first_from}
use Rattle.view_marks.proofs.Subjects.{seen_is}
use Rattle.view_marks.proofs.first_seen.Goals as goal

pub seek-sought-requires : goal.seek-sought-requires
seek-sought-requires c = record
    { grant_value = c.requires.grant_value; from_bound = subst (λ w. c.args.from ≤ first_from c.args.grant.now w) (sym c.field.ensures) c.requires.from_bound }

pub returns : goal.returns
returns c =
    let a = c.args in
    let e = c.seek-sought.ensures.0 ∙ ap (first_from a.grant.now) c.field.ensures in (
      c.subject_seen.ensures
          ∙ seen_is a.rows.now a.flags.now a.grant.now a.row c.seek-sought.result.found
          (c.seek-sought.ensures.1 ∙ ap (λ w. member w a.grant.now) c.field.ensures),
      omega (arith, e),
    )
