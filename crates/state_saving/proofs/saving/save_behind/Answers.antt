-- `state_saving::save_behind` meets its contract. The loop's invariant: the first word and the upper places of the levels before `i` are written.
use Prim.Native.Nat.{ℕ, ◌+◌, ◌%◌, ◌<◌}
use mathlib.Core.Path.{◌≡◌, refl, ap, ◌∙◌}
use native.Mathlib.Omega.{arith}
use lib.ListN.{length, set, length-set}
use Rattle.words.specs.Words.{low_numbers, place_word}
use Rattle.step_cursors.specs.Carried.{place_at}
use Rattle.state_saving.proofs.Storing.{above_none, above_write, saved}
use Rattle.state_saving.proofs.saving.save_behind.Goals as goal
use Rattle.state_saving.proofs.saving.save_behind.Goals.{At-loop-i}

-- the state has room for as many places as there are levels
room : (l : At-loop-i) → l.args.c.level + 1 < length l.loop-i.state
room l =
    omega (arith, length-set l.args.state.now 0 l.position.result.0, l.requires.0.level)

-- a place word holds a place below 2^28 whole
kept : (n : ℕ) → n < low_numbers → n % low_numbers ≡ n
kept n h = omega arith

pub loop-i-init : goal.loop-i-init
loop-i-init c = (refl, above_none c.args.c.upper _ (simp length-set (omega arith)))

pub bounds-upper-i : goal.bounds-upper-i
bounds-upper-i c = omega (arith, c.requires.0.level)

pub bounds-state-i : goal.bounds-state-i
bounds-state-i c = omega (arith, room (goal.at.bounds-state-i c).At-loop-i)

pub loop-i-preserved : goal.loop-i-preserved
loop-i-preserved c =
    let state = c.loop-i.state in
    let buffer = set c.args.state.now 0 c.position.result.0 in
    let word = c.place.ensures ∙ ap place_word (kept (place_at c.args.c.upper c.loop-i.i) (c.requires.0.upper c.loop-i.i (omega arith))) in (
      (simp length-set) ∙ c.loop-i.invariant.0,
      ap (set state (c.loop-i.i + 1)) word ∙
          above_write _ c.args.c.upper c.loop-i.i state buffer (omega (arith, room (goal.at.loop-i-preserved c).At-loop-i)) c.loop-i.invariant.1,
    )

pub overflow_add-state : goal.overflow_add-state
overflow_add-state c = omega (arith, room (goal.at.overflow_add-state c).At-loop-i)

pub offset_bounds-state-level : goal.offset_bounds-state-level
offset_bounds-state-level c = omega (arith, room (goal.at.offset_bounds-state-level c).At-loop-i)

pub bounds-state-level : goal.bounds-state-level
bounds-state-level c = omega (arith, room (goal.at.bounds-state-level c).At-loop-i)

pub overflow_add-result : goal.overflow_add-result
overflow_add-result c = omega (arith, room (goal.at.overflow_add-result c).At-loop-i)

pub shape_of-state : goal.shape_of-state
shape_of-state c = (simp length-set) ∙ c.loop-i.invariant.0 ∙ (simp length-set)

pub returns : goal.returns
returns c =
    let from = c.args.c in
    let done = saved from c.position.result.0 c.position.ensures c.loop-i.i c.loop-i.state c.args.state.now
    (omega (arith, c.requires.0.level)) (omega arith) c.loop-i.invariant.1 in
    let word = c.place-2.ensures ∙ ap place_word (kept from.place.0 c.requires.0.place) in
    (done.0, ap (set c.loop-i.state (from.level + 1)) word ∙ done.1)
