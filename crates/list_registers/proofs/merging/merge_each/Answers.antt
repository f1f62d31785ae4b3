-- `merge_each` meets its contract: the registers passed are merged.
use Prim.Native.Nat.{max}
use native.Mathlib.Omega.{arith}
use mathlib.Core.Path.{◌≡◌, refl, ◌∙◌, ap}
use lib.ListN.{length, get_or, set, length-set}
use Rattle.sequences.specs.Sequences.{over}
use Rattle.list_registers.proofs.Merged.{merged_to, merged_none, next_read, merged_over_lem, merged_whole}
use Rattle.list_registers.proofs.merging.merge_each.Goals as goal

pub loop-i-init : goal.loop-i-init
loop-i-init c = (refl, merged_none c.args.kept.now c.args.list.now)

pub loop-i-preserved : goal.loop-i-preserved
loop-i-preserved c =
    let kept = c.args.kept.now in
    let list = c.args.list.now in
    let i = c.loop-i.i in
    let inv = c.loop-i.invariant in
    let g = c.max.ensures ∙ ap (λ b. max (get_or b i 0) (get_or list i 0)) inv.1
    ∙ ap (λ v. max v (get_or list i 0)) (next_read kept list c.requires i (omega arith)) in (
      (simp length-set) ∙ inv.0,
      ap (λ b. set b i c.max.result) inv.1 ∙ ap (set (over (merged_to kept list i) kept) i) g
          ∙ merged_over_lem kept list c.requires i (omega arith),
    )

pub shape_of-kept : goal.shape_of-kept
shape_of-kept c = c.loop-i.invariant.0

pub returns : goal.returns
returns c =
    let kept = c.args.kept.now in
    let list = c.args.list.now in
    let n : c.loop-i.i ≡ length list = omega arith in
    c.loop-i.invariant.1 ∙ ap (λ k. over (merged_to kept list k) kept) n ∙ merged_whole kept list c.requires
