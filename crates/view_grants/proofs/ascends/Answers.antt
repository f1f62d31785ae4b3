-- `ascends` meets its contract. The invariant: the whole grant ascends exactly where the words from the one before `at` on do.
use Prim.Native.Nat.{suc, ◌+◌, ◌-◌, ◌<◌}
use mathlib.Core.Path.{◌≡◌, refl, sym, ◌∙◌, subst}
use mathlib.Core.Bool.{◌&&◌}
use native.Mathlib.Omega.{arith}
use lib.ListN.{length, get_or, drop}
use lib.Dec.{ltb}
use borrow.Author.Tests.{lt-ltb, le-ltb}
use Rattle.sequences.specs.Sequences.{neighbours}
use Rattle.view_grants.proofs.Grants.{neighbours_end, neighbours_step}
use Rattle.view_grants.proofs.ascends.Goals as goal
use Rattle.view_grants.proofs.ascends.Goals.{At-loop-at}

step : (l : At-loop-at) → let g = l.args.grant.now in let at = l.loop-at.at in at < length g
    → neighbours ltb (drop (at - 1) g) ≡ (ltb (get_or g (at - 1) 0) (get_or g at 0) && neighbours ltb (drop at g))
step l h =
    let g = l.args.grant.now in
    let at = l.loop-at.at in
    let z : suc (at - 1) ≡ at = omega arith in
    subst
    (λ n. neighbours ltb (drop (at - 1) g) ≡ (ltb (get_or g (at - 1) 0) (get_or g n 0) && neighbours ltb (drop n g)))
    z
    (neighbours_step g (at - 1) (omega arith))

pub loop-at-init : goal.loop-at-init
loop-at-init c = (omega arith, refl)

pub returns-then-later-earlier : goal.returns-then-later-earlier
returns-then-later-earlier c =
    let g = c.args.grant.now in
    sym (c.loop-at.invariant.1 ∙ step (goal.at.returns-then-later-earlier c).At-loop-at (omega arith) ∙
    rw (le-ltb (get_or g (c.loop-at.at - 1) 0) (get_or g c.loop-at.at 0) c.if-later-earlier.true))

pub loop-at-preserved : goal.loop-at-preserved
loop-at-preserved c =
    let g = c.args.grant.now in
    let z : c.loop-at.at + 1 - 1 ≡ c.loop-at.at = omega arith in (
      omega arith,
      c.loop-at.invariant.1
          ∙ step (goal.at.loop-at-preserved c).At-loop-at (omega arith)
          ∙ rw (lt-ltb (get_or g (c.loop-at.at - 1) 0) (get_or g c.loop-at.at 0) (omega (arith, c.if-later-earlier.false)), z),
    )

pub returns : goal.returns
returns c =
    let h = c.loop-at.invariant.0 in
    sym (c.loop-at.invariant.1 ∙ neighbours_end c.args.grant.now (c.loop-at.at - 1) (omega arith))
