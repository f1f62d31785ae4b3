-- `merge_backwards` meets its contract: the words that are done and the untouched ones behind them make up the merged list.
use Prim.Native.Nat.{ℕ, ◌+◌, ◌-◌, ◌≤◌, ◌/◌}
use native.Mathlib.Omega.{arith}
use mathlib.Core.Path.{◌≡◌, refl, sym, ◌∙◌}
use lib.ListN.{length, drop}
use mathlib.Core.List.{◌++◌}
use Rattle.std.specs.declared.cmp.Ordering.{Ordering}
use Rattle.std.specs.declared.cmp.Ordering.TheVariants.{Less, Equal, Greater}
use Rattle.list_group_merges.proofs.WalkSteps.{old_left, new_left}
use Rattle.list_group_merges.proofs.HalfMerges.{half_start, half_below, half_first, half_room, half_new, half_old, half_puts}
use Rattle.list_group_merges.specs.MergingBackwards.{merged_records}
use Rattle.list_group_merges.proofs.HalfMerges.{HalfMerged, half_next, half_end}
use Rattle.list_group_merges.proofs.merge_backwards.merge_backwards.Goals as goal
use Rattle.list_group_merges.proofs.merge_backwards.merge_backwards.Goals.{After-put_record}

-- the last record is put: the turn it is of, the arguments, and the side it came from
abbrev Placed : Type 0
Placed = After-put_record

abbrev side : Placed → Ordering
side p = p.pick-side.result

new_there : (p : Placed) (s : Ordering) → side p ≡ s → p.args.g + 8 ≤ p.loop-y.y
new_there p s told = half_new p.loop-y.invariant (omega arith) s (sym p.pick-side.ensures ∙ told)

old_there : (p : Placed) (s : Ordering) → side p ≡ s → (s ≡ Less → ⊥) → p.args.g + 8 ≤ p.loop-y.x
old_there p s told other = half_old p.loop-y.invariant (omega arith) s (sym p.pick-side.ensures ∙ told) other

-- the invariant of the next turn, by the side
goes_on_fact : (p : Placed) (s : Ordering) → side p ≡ s →
    let a = p.args in
    HalfMerged a.g a.kept.now a.list.now
    (merged_records a.g a.kept.now a.list.now (a.used / (a.g + 8)) (length a.list.now / (a.g + 8)) ++ drop a.words a.kept.now)
    p.put_record.new.kept (old_left a.g s p.loop-y.x) (new_left a.g s p.loop-y.y) (p.loop-y.to - (a.g + 8))
goes_on_fact p s told = rw (sym told) (half_next p.loop-y.invariant (omega arith) (side p) (sym p.pick-side.ensures) _ p.put_record.ensures)

pub loop-y-init : goal.loop-y-init
loop-y-init c =
    half_start c.args.g c.args.kept.now c.args.list.now c.args.used c.args.words c.requires.2 c.requires.3 c.requires.6 c.requires.4
    c.requires.5

pub overflow_sub-to : goal.overflow_sub-to
overflow_sub-to c = half_room c.loop-y.invariant (omega arith) _ refl

pub pick-side-requires : goal.pick-side-requires
pick-side-requires c =
    let i = c.loop-y.invariant in
    let b = half_below i in
    let t = i.to_in in
    let z = i.size in
    (c.requires.0, omega arith, half_first i, i.y_in, half_new i (omega arith) _ refl)

pub put_record-requires : goal.put_record-requires
put_record-requires c =
    let i = c.loop-y.invariant in
    (c.requires.0, half_puts i (omega arith) c.pick-side.result (sym c.pick-side.ensures))

pub overflow_sub-y : goal.overflow_sub-y
overflow_sub-y c = new_there (goal.at.overflow_sub-y c).After-put_record Less c.in-Less.is

pub loop-y-smaller-in-Less : goal.loop-y-smaller-in-Less
loop-y-smaller-in-Less c = omega (arith, new_there (goal.at.loop-y-smaller-in-Less c).After-put_record Less c.in-Less.is)

pub loop-y-preserved-in-Less : goal.loop-y-preserved-in-Less
loop-y-preserved-in-Less c = goes_on_fact (goal.at.loop-y-preserved-in-Less c).After-put_record Less c.in-Less.is

pub overflow_sub-x : goal.overflow_sub-x
overflow_sub-x c = old_there (goal.at.overflow_sub-x c).After-put_record Greater c.in-Greater.is (λ p. let z : ◌≡◌ {A = ℕ} 0 1 = cc in omega arith)

pub loop-y-smaller-in-Greater : goal.loop-y-smaller-in-Greater
loop-y-smaller-in-Greater c = omega (
  arith,
  old_there (goal.at.loop-y-smaller-in-Greater c).After-put_record Greater c.in-Greater.is (λ p. let z : ◌≡◌ {A = ℕ} 0 1 = cc in omega arith),
)

pub loop-y-preserved-in-Greater : goal.loop-y-preserved-in-Greater
loop-y-preserved-in-Greater c = goes_on_fact (goal.at.loop-y-preserved-in-Greater c).After-put_record Greater c.in-Greater.is

pub overflow_sub-x-in-Equal : goal.overflow_sub-x-in-Equal
overflow_sub-x-in-Equal c =
    old_there (goal.at.overflow_sub-x-in-Equal c).After-put_record Equal c.in-Equal.is (λ p. let z : ◌≡◌ {A = ℕ} 0 1 = cc in omega arith)

pub overflow_sub-y-in-Equal : goal.overflow_sub-y-in-Equal
overflow_sub-y-in-Equal c = new_there (goal.at.overflow_sub-y-in-Equal c).After-put_record Equal c.in-Equal.is

pub loop-y-smaller : goal.loop-y-smaller
loop-y-smaller c = omega (arith, new_there (goal.at.loop-y-smaller c).After-put_record Equal c.in-Equal.is)

pub loop-y-preserved : goal.loop-y-preserved
loop-y-preserved c = goes_on_fact (goal.at.loop-y-preserved c).After-put_record Equal c.in-Equal.is

pub shape_of-kept : goal.shape_of-kept
shape_of-kept c = c.loop-y.invariant.size

pub returns : goal.returns
returns c = half_end c.loop-y.invariant (omega arith)
