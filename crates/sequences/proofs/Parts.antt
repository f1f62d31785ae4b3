-- The part with a number, of parts with as many elements each: where it stands in its list.
use Prim.Native.Nat.{ℕ, zero, suc, ◌+◌, ◌*◌, ◌/◌, ◌≤◌, ◌<◌}
use native.Mathlib.Omega.{arith}
use native.Mathlib.Nat.{suc-mul, mul-le-mul_right, div-mul-le_self}
use mathlib.Core.Path.{◌≡◌, ◌∙◌, ap}
use mathlib.Core.List.{List, []}
use lib.ListN.{length, get_or, take, drop}
use lib.Seq.{drop-drop}
use Rattle.sequences.specs.Sequences.{parts}

-- the elements before it and its own are in the list
pub part_fits : (i length w : ℕ) → i < length / w → i * w + w ≤ length
part_fits i length w h =
    let s = suc-mul i w in
    let m = mul-le-mul_right {m = suc i} {n = length / w} w (omega arith) in
    let d = div-mul-le_self length w in
    omega arith

pub part_at : (w n : ℕ) (ws : List ℕ) (i : ℕ) → i < n → get_or (parts w n ws) i [] ≡ take w (drop (i * w) ws)
unfolding parts
part_at w zero ws i h = absurd (omega arith)
part_at w (suc n) ws zero h = ap (λ k. take w (drop k ws)) (let z : 0 ≡ 0 * w = omega arith in z)
part_at w (suc n) ws (suc i) h =
    part_at w n (drop w ws) i (omega arith)
    ∙ ap (take w) (drop-drop (i * w) w ws)
    ∙ ap (λ k. take w (drop k ws)) (let s = suc-mul i w in let z : w + i * w ≡ suc i * w = omega arith in z)
