-- `fours_before` meets its contract.
use Prim.Native.Nat.{ℕ}
use native.Mathlib.Omega.{arith}
use mathlib.Core.Path.{◌∙◌, ap₂}
use mathlib.Core.List.{List}
use lib.ListN.{drop}
use Rattle.sequences.proofs.Walking.{rest_of}
use Rattle.dictionaries.specs.Strings.{string_before}
use Rattle.dictionary_searches.proofs.BigEndian.{Tells, tells}
use Rattle.dictionary_searches.proofs.Told.{told_before, told_same}
use Rattle.dictionary_searches.proofs.before.fours_before.Goals as goal
use Rattle.dictionary_searches.proofs.before.fours_before.Goals.{After-first_four-second}

-- ---- with the first four bytes of both
abbrev Read : Type 0
Read = After-first_four-second

abbrev first : Read → List ℕ
first r = r.args.xs.now

abbrev second : Read → List ℕ
second r = r.args.ys.now

said : (r : Read) → Tells 4 0 (first r) (second r)
said r =
    let long = r.if-min-lt4.false in
    let least = r.min.ensures in
    tells 4 0 (first r) (second r) (omega (arith, long, least)) (omega (arith, long, least))
    (λ i. omega (arith, r.type_inv.xs i))
    (λ i. omega (arith, r.type_inv.ys i))

pub first_four-first-requires : goal.first_four-first-requires
first_four-first-requires c = omega (arith, c.if-min-lt4.false, c.min.ensures)

pub first_four-second-requires : goal.first_four-second-requires
first_four-second-requires c = omega (arith, c.if-min-lt4.false, c.min.ensures)

pub returns-then-first-second : goal.returns-then-first-second
returns-then-first-second c =
    told_before (first (goal.at.returns-then-first-second c).After-first_four-second)
    (second (goal.at.returns-then-first-second c).After-first_four-second)
    ((said (goal.at.returns-then-first-second c).After-first_four-second).if_less
    (omega (arith, c.first_four-first.ensures, c.first_four-second.ensures, c.if-first-second.true)))

pub returns-then-second-first : goal.returns-then-second-first
returns-then-second-first c =
    told_before (first (goal.at.returns-then-second-first c).After-first_four-second)
    (second (goal.at.returns-then-second-first c).After-first_four-second)
    ((said (goal.at.returns-then-second-first c).After-first_four-second).if_more
    (omega (arith, c.first_four-first.ensures, c.first_four-second.ensures, c.if-second-first.true)))

pub returns : goal.returns
returns c =
    let same = (said (goal.at.returns c).After-first_four-second).if_same (omega (
      arith,
      c.first_four-first.ensures,
      c.first_four-second.ensures,
      c.if-first-second.false,
      c.if-second-first.false,
    )) in
    c.bytes_before-2.ensures
    ∙ (ap₂ string_before (rest_of (first (goal.at.returns c).After-first_four-second) 4)
    (rest_of (second (goal.at.returns c).After-first_four-second) 4) ∙
    told_same (first (goal.at.returns c).After-first_four-second) (second (goal.at.returns c).After-first_four-second)
    (drop 4 (first (goal.at.returns c).After-first_four-second)) (drop 4 (second (goal.at.returns c).After-first_four-second)) same)
