-- `local_length` meets its contract.
use Rattle.tokens.specs.Runs.{local_first}
use Rattle.token_names.proofs.Dotting.{local_some, first_within, counted_some}
use Prim.Native.Nat.{◌+◌}
use mathlib.Core.Path.{sym, ◌∙◌}
use native.Mathlib.Omega.{arith}
use lib.ListN.{get_or, drop}
use Rattle.token_names.proofs.local_length.Goals as goal

pub overflow_add-from : goal.overflow_add-from
overflow_add-from c =
    let p = c.args.points.now in
    let from = c.args.from in
    let u = counted_some c.in-Some.first (local_first (get_or p from 0) (drop (from + 1) p)) (sym c.in-Some.is ∙ c.local_first.ensures) in
    omega (arith, first_within p from c.in-Some.first (omega (arith, c.if-from-points.false)) u.0)

pub dotted_end-requires : goal.dotted_end-requires
dotted_end-requires c =
    let p = c.args.points.now in
    let from = c.args.from in
    let u = counted_some c.in-Some.first (local_first (get_or p from 0) (drop (from + 1) p)) (sym c.in-Some.is ∙ c.local_first.ensures) in
    (omega (arith, first_within p from c.in-Some.first (omega (arith, c.if-from-points.false)) u.0), c.requires.1)

pub returns-in-Some : goal.returns-in-Some
returns-in-Some c =
    let p = c.args.points.now in
    let from = c.args.from in
    let d = c.dotted_end.ensures in
    let u = counted_some c.in-Some.first (local_first (get_or p from 0) (drop (from + 1) p)) (sym c.in-Some.is ∙ c.local_first.ensures) in
    let e = local_some p from (omega (arith, c.if-from-points.false)) c.in-Some.first u.0 u.2 u.1 in
    (omega (arith, d.0, d.1, e), omega (arith, d.1, d.2))
