-- `list_right` meets its contract: each turn's test decides the entry at its place, and the rest is left.
use Prim.Native.Nat.{ℕ, ◌+◌, ◌<◌, ◌≤◌}
use native.Mathlib.Omega.{arith}
use mathlib.Core.Path.{◌≡◌, sym, ◌∙◌, ap, subst}
use mathlib.Core.Bool.{Bool, cond, ◌&&◌, not}
use mathlib.Core.List.{List}
use lib.Dec.{eqb, leb, ltb}
use lib.ListN.{length, take, drop, get_or}
use Rattle.std.proofs.lemmas.List.{get_or_default}
use Rattle.queues.specs.declared.Entry.{Entry}
use Rattle.queues.specs.Lists.{owners_in}
use Rattle.queue_entries.specs.Entries.{nobody, FoundAt, standing}
use Rattle.queue_entries.proofs.Finding.{stands_here, stands_all}
use Rattle.queue_entries.proofs.list_right.Goals as goal

-- the entry that was read is the one at the place
module _ (ys zs : List Entry) (count few : ℕ) (waiting : Bool) (i : ℕ) (e : Entry) where
  stands_read : e ≡ get_or ys i nobody → i < count → count ≤ length ys → few ≤ length zs → (again elsewhere : ℕ) (r : Bool)
      → FoundAt ys (i + 1) count e.owner again → FoundAt zs 0 few e.owner elsewhere
      → r ≡ cond waiting (leb 1 e.allowance) (eqb e.allowance 0) && (not (ltb again count) && not (ltb elsewhere few))
      → (b : Bool) → r ≡ b
      → standing waiting (drop i (take count ys)) (owners_in (take few zs))
      ≡ (b && standing waiting (drop (i + 1) (take count ys)) (owners_in (take few zs)))
  stands_read read here below all again elsewhere r f g is b said =
      stands_here ys zs count few waiting i here below all again elsewhere r
      (subst (λ (x : Entry). FoundAt ys (i + 1) count x.owner again) read f)
      (subst (λ (x : Entry). FoundAt zs 0 few x.owner elsewhere) read g)
      (subst (λ (x : Entry). r ≡ cond waiting (leb 1 x.allowance) (eqb x.allowance 0) && (not (ltb again count) && not (ltb elsewhere few))) read is)
      ∙ ap (λ (t : Bool). t && standing waiting (drop (i + 1) (take count ys)) (owners_in (take few zs))) said

pub returns-then-not-entry_valid : goal.returns-then-not-entry_valid
returns-then-not-entry_valid c =
    let a = c.args in
    sym (c.loop-i.invariant.1
    ∙ stands_read a.list.now a.others.now a.count a.few a.waiting c.loop-i.i _
    (get_or_default a.list.now c.loop-i.i _ nobody (omega arith)) (omega arith) (omega arith) (omega arith)
    c.find_owner-again.result c.find_owner-elsewhere.result c.entry_valid.result c.find_owner-again.ensures c.find_owner-elsewhere.ensures
    c.entry_valid.ensures _ c.if-not-entry_valid.true)

pub loop-i-preserved : goal.loop-i-preserved
loop-i-preserved c =
    let a = c.args in (
      omega arith,
      c.loop-i.invariant.1
          ∙ stands_read a.list.now a.others.now a.count a.few a.waiting c.loop-i.i _
          (get_or_default a.list.now c.loop-i.i _ nobody (omega arith)) (omega arith) (omega arith) (omega arith)
          c.find_owner-again.result c.find_owner-elsewhere.result c.entry_valid.result c.find_owner-again.ensures c.find_owner-elsewhere.ensures
          c.entry_valid.ensures _ c.if-not-entry_valid.false,
    )

pub returns : goal.returns
returns c =
    let a = c.args in
    sym (c.loop-i.invariant.1 ∙ stands_all a.list.now a.others.now a.count a.few a.waiting c.loop-i.i (omega arith))
