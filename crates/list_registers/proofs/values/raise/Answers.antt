-- `raise` meets its contract: one word is set.
use native.Mathlib.Omega.{arith}
use mathlib.Core.Path.{◌≡◌, ◌∙◌, ap, ap₂}
use Prim.Native.Nat.{◌<◌, max}
use lib.ListN.{get_or, set}
use Rattle.register_hashes.specs.Hashes.{hash_of, picked_by, rank_in}
use Rattle.registers.specs.Registers.{register_count}
use Rattle.list_registers.proofs.Raising.{raised}
use Rattle.list_registers.proofs.values.raise.Goals as goal

pub returns : goal.returns
returns c =
    let x = c.args.value in
    let out = c.args.out.now in
    let p : c.picked_by-at.result ≡ picked_by (hash_of x) = c.picked_by-at.ensures ∙ ap picked_by c.hash_of-hash.ensures in
    let r : c.rank_in.result ≡ rank_in (hash_of x) = c.rank_in.ensures ∙ ap rank_in c.hash_of-hash.ensures in
    let l : picked_by (hash_of x) < register_count = omega (arith, p) in
    ap (set out c.picked_by-at.result) c.max.ensures ∙ ap₂ (λ i q. set out i (max (get_or out i 0) q)) p r ∙ raised out x c.requires l
