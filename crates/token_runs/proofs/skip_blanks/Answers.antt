-- `skip_blanks` meets its contract. The invariant: where all blanks end is where those from a place on do.
use Rattle.std.proofs.Common.{◌≡◌, ℕ, ◌+◌, ◌-◌, ◌<◌, ◌≤◌, List, length, take, drop, get_or, ap, ◌∙◌, arith}
use Rattle.std.proofs.lemmas.Grind.{common_steps}
use Rattle.token_runs.specs.BlankSteps.{blank_step}
use Rattle.token_runs.proofs.Advancing.{blanks_end, blanks_go, blanks_stay}
use Rattle.token_runs.proofs.skip_blanks.Goals as goal

-- what is left from a place on, one by one
item_at : (xs : List ℕ) (a i : ℕ) → i < length (take (length xs - a) (drop a xs)) → get_or (take (length xs - a) (drop a xs)) i 0 ≡ get_or xs (a + i) 0
item_at xs a i h = grind (arith, common_steps)

item_in : (xs : List ℕ) (a i : ℕ) → i < length (take (length xs - a) (drop a xs)) → a + i < length xs
item_in xs a i h = grind (arith, common_steps)

left_at : (xs : List ℕ) (a i : ℕ) → a ≤ length xs → i ≡ length (take (length xs - a) (drop a xs)) → a + i ≡ length xs
left_at xs a i s h = grind (arith, common_steps)

pub returns-in-None : goal.returns-in-None
returns-in-None c =
    let p = c.args.points.now in
    let k = c.loop-i in
    let l = item_in p c.args.from k.i c.loop-i-test.true in
    let s = c.blank_step.ensures ∙ ap (blank_step k.comment) (item_at p c.args.from k.i c.loop-i-test.true) in
    let e = blanks_stay p (c.args.from + k.i) l k.comment c.blank_step.result s c.in-None.is in
    (omega (arith, k.invariant, e), omega (arith, l))

pub loop-i-preserved : goal.loop-i-preserved
loop-i-preserved c =
    let p = c.args.points.now in
    let k = c.loop-i in
    let l = item_in p c.args.from k.i c.loop-i-test.true in
    let s = c.blank_step.ensures ∙ ap (blank_step k.comment) (item_at p c.args.from k.i c.loop-i-test.true) in
    let e = blanks_go p (c.args.from + k.i) l k.comment c.blank_step.result s c.in-Some.goes_on c.in-Some.is in
    let n : c.args.from + (k.i + 1) ≡ c.args.from + k.i + 1 = omega arith in
    rw n (omega (arith, k.invariant, e))

pub returns : goal.returns
returns c =
    let p = c.args.points.now in
    let k = c.loop-i in
    let l : c.args.from + k.i ≡ length p = left_at p c.args.from k.i c.requires (omega (arith, k.auto.i-end, c.loop-i-test.false)) in
    let e = blanks_end p (c.args.from + k.i) k.comment (omega (arith, l)) in
    (omega (arith, k.invariant, e, l), omega arith)
