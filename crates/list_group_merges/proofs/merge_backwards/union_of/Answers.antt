-- `union_of` meets its contract: what is counted and what the records that are left come to make up the whole.
use Prim.Native.Nat.{ℕ, ◌+◌}
use native.Mathlib.Omega.{arith}
use native.Mathlib.Nat.{div-le_self}
use mathlib.Core.Path.{◌≡◌, refl, sym, ◌∙◌}
use borrow.Author.Tests.{not-true, not-false}
use Rattle.std.specs.declared.cmp.Ordering.TheVariants.{Less, Equal, Greater}
use Rattle.list_group_merges.proofs.Unions.{counted_start, counted_first, counted_new, counted_old}
use Rattle.list_group_merges.proofs.Unions.{counted_next, counted_over, counted_end}
use Rattle.list_group_merges.proofs.merge_backwards.union_of.Goals as goal

pub loop-y-init : goal.loop-y-init
loop-y-init c =
    counted_start c.args.g c.args.kept.now c.args.list.now c.args.used c.requires.1 c.requires.2 c.requires.3

pub overflow_add-n : goal.overflow_add-n
overflow_add-n c = let m = c.loop-y.invariant.small in omega arith

pub pick-requires : goal.pick-requires
pick-requires c =
    let i = c.loop-y.invariant in
    (c.requires.0, i.x_in, counted_first i, i.y_in, counted_new i (omega arith) _ refl)

pub overflow_sub-y : goal.overflow_sub-y
overflow_sub-y c =
    let i = c.loop-y.invariant in
    let e = sym c.pick.ensures ∙ c.in-Less.is in
    counted_new i (omega arith) Less e

pub loop-y-smaller-in-Less : goal.loop-y-smaller-in-Less
loop-y-smaller-in-Less c =
    let i = c.loop-y.invariant in
    let e = sym c.pick.ensures ∙ c.in-Less.is in
    let h = counted_new i (omega arith) Less e in
    omega arith

pub loop-y-preserved-in-Less : goal.loop-y-preserved-in-Less
loop-y-preserved-in-Less c =
    let i = c.loop-y.invariant in
    let e = sym c.pick.ensures ∙ c.in-Less.is in
    counted_next i (omega arith) Less e (λ p. absurd (let z : ◌≡◌ {A = ℕ} 0 1 = cc in omega arith))

pub overflow_sub-x : goal.overflow_sub-x
overflow_sub-x c =
    let i = c.loop-y.invariant in
    let e = sym c.pick.ensures ∙ c.in-Greater.is in
    counted_old i (omega arith) Greater e (λ p. let z : ◌≡◌ {A = ℕ} 0 1 = cc in omega arith)

pub loop-y-smaller-in-Greater : goal.loop-y-smaller-in-Greater
loop-y-smaller-in-Greater c =
    let i = c.loop-y.invariant in
    let e = sym c.pick.ensures ∙ c.in-Greater.is in
    let h = counted_old i (omega arith) Greater e (λ p. let z : ◌≡◌ {A = ℕ} 0 1 = cc in omega arith) in
    omega arith

pub loop-y-preserved-in-Greater : goal.loop-y-preserved-in-Greater
loop-y-preserved-in-Greater c =
    let i = c.loop-y.invariant in
    let e = sym c.pick.ensures ∙ c.in-Greater.is in
    counted_next i (omega arith) Greater e (λ p. absurd (let z : ◌≡◌ {A = ℕ} 0 1 = cc in omega arith))

pub overflow_sub-x-in-Equal : goal.overflow_sub-x-in-Equal
overflow_sub-x-in-Equal c =
    let i = c.loop-y.invariant in
    let e = sym c.pick.ensures ∙ c.in-Equal.is in
    counted_old i (omega arith) Equal e (λ p. let z : ◌≡◌ {A = ℕ} 0 1 = cc in omega arith)

pub overflow_sub-y-in-Equal : goal.overflow_sub-y-in-Equal
overflow_sub-y-in-Equal c =
    let i = c.loop-y.invariant in
    let e = sym c.pick.ensures ∙ c.in-Equal.is in
    counted_new i (omega arith) Equal e

pub join_fits-requires : goal.join_fits-requires
join_fits-requires c =
    let i = c.loop-y.invariant in
    let e = sym c.pick.ensures ∙ c.in-Equal.is in
    let hx = counted_old i (omega arith) Equal e (λ p. let z : ◌≡◌ {A = ℕ} 0 1 = cc in omega arith) in
    let hy = counted_new i (omega arith) Equal e in
    let lx = i.x_in in
    let ly = i.y_in in
    (c.requires.0, omega arith, omega arith)

pub returns-then-not-join_fits : goal.returns-then-not-join_fits
returns-then-not-join_fits c =
    let i = c.loop-y.invariant in
    let e = sym c.pick.ensures ∙ c.in-Equal.is in
    let v = sym c.join_fits.ensures ∙ not-true c.join_fits.result c.if-not-join_fits.true-raw in
    sym (counted_over i (omega arith) e v)

pub loop-y-smaller : goal.loop-y-smaller
loop-y-smaller c =
    let i = c.loop-y.invariant in
    let e = sym c.pick.ensures ∙ c.in-Equal.is in
    let h = counted_new i (omega arith) Equal e in
    omega arith

pub loop-y-preserved : goal.loop-y-preserved
loop-y-preserved c =
    let i = c.loop-y.invariant in
    let e = sym c.pick.ensures ∙ c.in-Equal.is in
    let v = sym c.join_fits.ensures ∙ not-false c.join_fits.result c.if-not-join_fits.false-raw in
    counted_next i (omega arith) Equal e (λ p. v)

pub overflow_add-result : goal.overflow_add-result
overflow_add-result c =
    let m = c.loop-y.invariant.small in
    let i = c.loop-y.invariant.x_in in
    let d = div-le_self c.loop-y.x (c.args.g + 8) in
    omega arith

pub returns : goal.returns
returns c = sym (counted_end c.loop-y.invariant (omega arith))
