-- A list written at the front of a buffer, by some words or by one number more: what stands there and what is still to come are the whole.
use Prim.Native.Nat.{ℕ, ◌+◌, ◌≤◌, ◌<◌}
use native.Mathlib.Omega.{arith}
use native.Mathlib.Numerals.{add-one}
use mathlib.Core.Path.{◌≡◌, sym, ◌∙◌, ap}
use mathlib.Core.List.{List, [], ◌∷◌, ◌++◌, append_assoc}
use lib.ListN.{length, take, drop, set, length-append, take-append-drop}
use lib.Seq.{take-length, take-append_seam, take-suc-set, drop-append-add, drop-set-lt, drop-drop, length-take-le, paste}
use Rattle.sequences.specs.Sequences.{over}
use Rattle.sequences.specs.Buffers.{Overwritten}

-- some words more behind those over the front of a buffer
over_more : (ws x buffer : List ℕ) → length ws + length x ≤ length buffer
    → paste (over ws buffer) (length ws) x (length x) ≡ over (ws ++ x) buffer
over_more ws x buffer h =
    rw (take-append_seam, take-length, length-append ws x, drop-append-add, drop-drop)

-- some words more are written
module _ (ws x before after next : List ℕ) (used : ℕ) (counted : used ≡ length ws) (whole : after ≡ over ws before)
    (fits : used + length x ≤ length before) (put : next ≡ paste after used x (length x)) where
  pub grow_whole : next ≡ over (ws ++ x) before
  grow_whole =
      put
      ∙ ap (λ l. paste l used x (length x)) whole
      ∙ ap (λ n. paste (over ws before) n x (length x)) counted
      ∙ over_more ws x before (omega arith)

  pub grow_count : used + length x ≡ length (ws ++ x)
  grow_count = omega (arith, length-append ws x)

-- one number more is written
module _ (buffer : List ℕ) (n x : ℕ) (h : n < length buffer) where
  pub written_next : (whole rest : List ℕ) → whole ≡ take n buffer ++ (x ∷ rest) → whole ≡ take (n + 1) (set buffer n x) ++ rest
  written_next whole rest e =
      e
      ∙ sym (append_assoc (take n buffer) (x ∷ []) rest)
      ∙ ap (λ l. l ++ rest) (sym (ap (λ m. take m (set buffer n x)) (add-one n) ∙ take-suc-set buffer n x h))

  pub behind_next : (before : List ℕ) → drop n buffer ≡ drop n before → drop (n + 1) (set buffer n x) ≡ drop (n + 1) before
  behind_next before e =
      drop-set-lt (n + 1) buffer n x (omega arith)
      ∙ sym (drop-drop 1 n buffer)
      ∙ ap (drop 1) e
      ∙ drop-drop 1 n before

-- all of it is written
pub written_all : (buffer : List ℕ) (n : ℕ) (ws before : List ℕ) → n ≤ length buffer → take n buffer ≡ ws → drop n buffer ≡ drop n before
    → Overwritten ws before buffer n
written_all buffer n ws before h front rest =
    let z : n ≡ length ws = sym (length-take-le n buffer h) ∙ ap length front in
    record {
      counted = z;
      front = front;
      rest = rest;
      whole = sym (take-append-drop n buffer) ∙ rw (front, rest) (ap (λ m. ws ++ drop m before) z);
    }
