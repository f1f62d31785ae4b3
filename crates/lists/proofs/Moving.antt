-- Words that are moved and copied in a buffer.
use Prim.Native.Nat.{ℕ, ◌+◌, ◌-◌, ◌≤◌}
use mathlib.Core.Path.{◌≡◌, ap, ◌∙◌}
use mathlib.Core.List.{List, ◌++◌, append_assoc}
use native.Mathlib.Omega.{arith}
use lib.ListN.{length, take, drop, length-append, length-take, length-drop}
use lib.Seq.{take-append-le, take-take, drop_at, take-length, take-add, length-take-le, paste}
use Rattle.sequences.specs.Sequences.{over}
use Rattle.lists.specs.Moves.{shifted, inserted}

pub length_shifted : (b : List ℕ) (a e w : ℕ) → a ≤ e → e + w ≤ length b → length (shifted b a e w) ≡ length b
length_shifted b a e w h l = simp (length-append, length-take, length-drop) (omega arith)

pub insert_both : (b r : List ℕ) (a e : ℕ) → a ≤ e → e + length r ≤ length b → paste (shifted b a e (length r)) a r (length r)
    ≡ inserted b a e r
insert_both b r a e h l =
    let size : length (take (a + length r) b) ≡ a + length r = length-take-le (a + length r) b (omega arith) in
    let low : a ≤ length (take (a + length r) b) = rw size (omega arith) in
    let low' : a ≤ a + length r = omega arith in
    rw (
      take-append-le a (take (a + length r) b) _ low,
      take-take a (a + length r) b low',
      drop_at (take (a + length r) b) _ (a + length r) size,
      take-length,
      append_assoc,
    )

-- the words over the front of a buffer into which some were put in
pub insert_over : (b r : List ℕ) (a e : ℕ) → a ≤ e → e ≤ length b
    → (length (take a b ++ (r ++ take (e - a) (drop a b))) ≡ e + length r)
    × (over (take a b ++ (r ++ take (e - a) (drop a b))) b ≡ inserted b a e r)
insert_over b r a e h l =
    let n : length (take a b ++ (r ++ take (e - a) (drop a b))) ≡ e + length r =
    simp (length-append, length-take, length-drop) (omega arith) in
    (n, rw (n, append_assoc, append_assoc))

-- the words from a to e, of a front part that reaches so far
pub part_of_front : (b : List ℕ) (a e used : ℕ) → a ≤ e → e ≤ used → used ≤ length b
    → take (e - a) (drop a (take used b)) ≡ take (e - a) (drop a b)
part_of_front b a e used h m l =
    let split : used ≡ a + (used - a) = omega arith in
    let front : drop a (take used b) ≡ take (used - a) (drop a b) =
    ap (λ n. drop a (take n b)) split
    ∙ ap (drop a) (take-add a (used - a) b)
    ∙ drop_at (take a b) (take (used - a) (drop a b)) a (length-take-le a b (omega arith)) in
    ap (take (e - a)) front ∙ take-take (e - a) (used - a) (drop a b) (omega arith)
