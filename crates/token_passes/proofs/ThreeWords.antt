-- Three words more at the front of a buffer.
use Prim.Native.Nat.{ℕ, ◌+◌, ◌≤◌}
use native.Mathlib.Omega.{arith}
use mathlib.Core.Path.{◌≡◌, ◌∙◌, ap}
use mathlib.Core.List.{List, ◌∷◌, ◌++◌}
use lib.ListN.{length, take, drop, set, length-set}
use Rattle.sequences.proofs.Growing.{written_next, behind_next}

module _ (buffer : List ℕ) (n a b c : ℕ) (h : n + 3 ≤ length buffer) where
  pub three_long : length (set (set (set buffer n a) (n + 1) b) (n + 2) c) ≡ length buffer
  three_long = length-set (set (set buffer n a) (n + 1) b) (n + 2) c ∙ length-set (set buffer n a) (n + 1) b ∙ length-set buffer n a

  pub three_written : (whole rest : List ℕ) → whole ≡ take n buffer ++ (a ∷ b ∷ c ∷ rest)
      → whole ≡ take (n + 3) (set (set (set buffer n a) (n + 1) b) (n + 2) c) ++ rest
  three_written whole rest e =
      let y : n + 1 + 1 ≡ n + 2 = omega arith in
      let z : n + 2 + 1 ≡ n + 3 = omega arith in
      let l1 = length-set buffer n a in
      let l2 = length-set (set buffer n a) (n + 1) b in
      let p = written_next buffer n a (omega arith) whole (b ∷ c ∷ rest) e in
      let q = written_next (set buffer n a) (n + 1) b (omega (arith, l1)) whole (c ∷ rest) p
      ∙ ap (λ m. take m (set (set buffer n a) (n + 1) b) ++ (c ∷ rest)) y in
      written_next (set (set buffer n a) (n + 1) b) (n + 2) c (omega (arith, l1, l2)) whole rest q
      ∙ ap (λ m. take m (set (set (set buffer n a) (n + 1) b) (n + 2) c) ++ rest) z

  pub three_behind : (before : List ℕ) → drop n buffer ≡ drop n before
      → drop (n + 3) (set (set (set buffer n a) (n + 1) b) (n + 2) c) ≡ drop (n + 3) before
  three_behind before e =
      let y : n + 1 + 1 ≡ n + 2 = omega arith in
      let z : n + 2 + 1 ≡ n + 3 = omega arith in
      let l1 = length-set buffer n a in
      let l2 = length-set (set buffer n a) (n + 1) b in
      let p = behind_next buffer n a (omega arith) before e in
      let q = behind_next (set buffer n a) (n + 1) b (omega (arith, l1)) before p in
      let q2 : drop (n + 2) (set (set buffer n a) (n + 1) b) ≡ drop (n + 2) before = rw y at q in
      let r = behind_next (set (set buffer n a) (n + 1) b) (n + 2) c (omega (arith, l1, l2)) before q2 in
      rw z at r
