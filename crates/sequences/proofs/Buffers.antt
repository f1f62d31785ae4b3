-- Words at the front of a buffer, and the words behind them.
use Prim.Native.Nat.{ℕ, ◌+◌, ◌-◌, ◌≤◌, ◌<◌}
use native.Mathlib.Omega.{arith}
use native.Mathlib.Numerals.{add-one}
use mathlib.Core.Path.{◌≡◌, refl, sym, ◌∙◌, ap}
use mathlib.Core.List.{List, [], ◌∷◌, ◌++◌}
use lib.ListN.{length, take, drop, set, length-append, length-drop}
use lib.Seq.{take-append_seam, drop-append_seam, drop-append-add, drop-drop, set-append_seam, append_snoc, drop-cons}
use Rattle.sequences.specs.Sequences.{over}
use Rattle.sequences.specs.Buffers.{Overwritten}

pub take_over : (ws buffer : List ℕ) → take (length ws) (over ws buffer) ≡ ws
take_over ws buffer = take-append_seam ws (drop (length ws) buffer)

pub drop_over : (ws buffer : List ℕ) → drop (length ws) (over ws buffer) ≡ drop (length ws) buffer
drop_over ws buffer = drop-append_seam ws (drop (length ws) buffer)

pub length_over : (ws buffer : List ℕ) → length ws ≤ length buffer → length (over ws buffer) ≡ length buffer
length_over ws buffer h = omega (arith, length-append ws (drop (length ws) buffer), length-drop (length ws) buffer)

-- one word more, written behind them
pub over_next : (ws buffer : List ℕ) (a : ℕ) → length ws < length buffer
    → set (over ws buffer) (length ws) a ≡ over (ws ++ (a ∷ [])) buffer
over_next ws buffer a h =
    rw (length-append ws (a ∷ []), add-one, append_snoc, drop-cons buffer (length ws) 0, set-append_seam)

-- a longer list over one that stands over a buffer
pub over_over : (new old before out : List ℕ) → length old ≤ length new → out ≡ over old before → over new out ≡ over new before
over_over new old before out h e =
    let n : length new ≡ length old + (length new - length old) = omega arith in
    ap (λ l. new ++ l)
    (ap (drop (length new)) e
    ∙ ap (λ k. drop k (over old before)) n
    ∙ drop-append-add old (drop (length old) before) (length new - length old)
    ∙ drop-drop (length new - length old) (length old) before
    ∙ ap (λ k. drop k before) (sym n))

pub overwritten : (ws before : List ℕ) → Overwritten ws before (over ws before) (length ws)
overwritten ws before = record { counted = refl; front = take_over ws before; rest = drop_over ws before; whole = refl }
