-- `eights_before` meets its contract. The invariant: the strings stand to each other as what is left of them.
use Prim.Native.Nat.{ℕ, ◌+◌, ◌≤◌}
use native.Mathlib.Omega.{arith}
use mathlib.Core.Path.{refl, ap₂, ◌∙◌}
use mathlib.Core.List.{List}
use lib.ListN.{length, drop}
use Rattle.sequences.proofs.Walking.{rest_of}
use Rattle.dictionaries.specs.Strings.{string_before}
use Rattle.dictionary_searches.proofs.BigEndian.{Bytes, Tells, eight_tells, eight_same}
use Rattle.dictionary_searches.proofs.Told.{told_before, told_same}
use Rattle.dictionary_searches.proofs.before.eights_before.Goals as goal
use Rattle.dictionary_searches.proofs.before.eights_before.Goals.{After-eight_at-second}

-- ---- with the next eight bytes of both
abbrev Read : Type 0
Read = After-eight_at-second

abbrev first : Read → List ℕ
first r = r.args.xs.now

abbrev second : Read → List ℕ
second r = r.args.ys.now

first_long : (r : Read) → r.loop-i.i + 8 ≤ length (first r)
first_long r = omega (arith, r.loop-i-test, r.min-both.ensures)

second_long : (r : Read) → r.loop-i.i + 8 ≤ length (second r)
second_long r = omega (arith, r.loop-i-test, r.min-both.ensures)

first_bytes : (r : Read) → Bytes (first r)
first_bytes r i = omega (arith, r.type_inv.xs i)

second_bytes : (r : Read) → Bytes (second r)
second_bytes r i = omega (arith, r.type_inv.ys i)

said : (r : Read) → Tells 8 0 (drop r.loop-i.i (first r)) (drop r.loop-i.i (second r))
said r = eight_tells (first r) (second r) r.loop-i.i (first_long r) (second_long r) (first_bytes r) (second_bytes r)

pub loop-i-init : goal.loop-i-init
loop-i-init c = (omega arith, refl)

pub eight_at-first-requires : goal.eight_at-first-requires
eight_at-first-requires c = omega (arith, c.loop-i-test, c.min-both.ensures)

pub eight_at-second-requires : goal.eight_at-second-requires
eight_at-second-requires c = omega (arith, c.loop-i-test, c.min-both.ensures)

pub returns-then-first-second : goal.returns-then-first-second
returns-then-first-second c =
    told_before (first (goal.at.returns-then-first-second c).After-eight_at-second) (second (goal.at.returns-then-first-second c).After-eight_at-second)
    (c.loop-i.invariant.1 ∙ (said (goal.at.returns-then-first-second c).After-eight_at-second).if_less
    (omega (arith, c.eight_at-first.ensures, c.eight_at-second.ensures, c.if-first-second.true)))

pub returns-then-second-first : goal.returns-then-second-first
returns-then-second-first c =
    told_before (first (goal.at.returns-then-second-first c).After-eight_at-second) (second (goal.at.returns-then-second-first c).After-eight_at-second)
    (c.loop-i.invariant.1 ∙ (said (goal.at.returns-then-second-first c).After-eight_at-second).if_more
    (omega (arith, c.eight_at-first.ensures, c.eight_at-second.ensures, c.if-second-first.true)))

pub loop-i-preserved : goal.loop-i-preserved
loop-i-preserved c = (
  omega (arith, c.loop-i-test),
  c.loop-i.invariant.1
      ∙ eight_same (first (goal.at.loop-i-preserved c).After-eight_at-second) (second (goal.at.loop-i-preserved c).After-eight_at-second) c.loop-i.i
      (first_long (goal.at.loop-i-preserved c).After-eight_at-second) (second_long (goal.at.loop-i-preserved c).After-eight_at-second)
      (first_bytes (goal.at.loop-i-preserved c).After-eight_at-second) (second_bytes (goal.at.loop-i-preserved c).After-eight_at-second)
      (omega (arith, c.eight_at-first.ensures, c.eight_at-second.ensures, c.if-first-second.false, c.if-second-first.false)),
)

pub returns : goal.returns
returns c =
    let a = c.args in
    let i = c.loop-i.i in
    c.fours_before.ensures
    ∙ (ap₂ string_before (rest_of a.xs.now i) (rest_of a.ys.now i)
    ∙ told_same a.xs.now a.ys.now (drop i a.xs.now) (drop i a.ys.now) c.loop-i.invariant.1)
