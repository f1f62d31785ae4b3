-- Lists of one width joined end to end: how many words they are, and each word by its list and its place there.
use Prim.Native.Nat.{ℕ, zero, suc, ◌+◌, ◌*◌, ◌<◌}
use native.Mathlib.Omega.{arith}
use native.Mathlib.Nat.{suc-mul}
use mathlib.Core.Path.{◌≡◌, refl, sym, ◌∙◌, ap}
use mathlib.Core.List.{List, [], ◌∷◌, ◌++◌, flatten, append_assoc}
use lib.ListN.{length, get_or, length-append, get_or-append}
use lib.Seq.{get_or-append-add}
use Rattle.sequences.proofs.Each.{Each}

-- each list has w words
abbrev pub Wide : ℕ → List (List ℕ) → Type 0
Wide w xs = Each (λ (x : List ℕ). length x ≡ w) xs

pub flatten_append : (xs ys : List (List ℕ)) → flatten (xs ++ ys) ≡ flatten xs ++ flatten ys
unfolding flatten
flatten_append [] ys = refl
flatten_append (x ∷ xs) ys = ap (λ l. x ++ l) (flatten_append xs ys) ∙ sym (append_assoc x (flatten xs) (flatten ys))

module _ (w : ℕ) where
  pub length_flatten : (xs : List (List ℕ)) → Wide w xs → length (flatten xs) ≡ length xs * w
  unfolding flatten
  length_flatten [] h = omega arith
  length_flatten (x ∷ xs) h =
      let a = length-append x (flatten xs) in
      let i = length_flatten xs h.1 in
      let s = suc-mul (length xs) w in
      omega (arith, h.0)

  pub wide_at : (xs : List (List ℕ)) → Wide w xs → (r : ℕ) → r < length xs → length (get_or xs r []) ≡ w
  wide_at [] h r l = absurd (omega arith)
  wide_at (x ∷ xs) h zero l = h.0
  wide_at (x ∷ xs) h (suc r) l = wide_at xs h.1 r (omega arith)

  pub flatten_at : (xs : List (List ℕ)) → Wide w xs → (r c : ℕ) → r < length xs → c < w
      → get_or (flatten xs) (r * w + c) 0 ≡ get_or (get_or xs r []) c 0
  unfolding flatten
  flatten_at [] h r c l k = absurd (omega arith)
  flatten_at (x ∷ xs) h zero c l k =
      let n : 0 * w + c ≡ c = omega arith in
      rw n (get_or-append x (flatten xs) 0 c (let e = h.0 in omega arith))
  flatten_at (x ∷ xs) h (suc r) c l k =
      let e = h.0 in
      let s = suc-mul r w in
      let n : suc r * w + c ≡ length x + (r * w + c) = omega arith in
      rw n (get_or-append-add x (flatten xs) (r * w + c) 0 ∙ flatten_at xs h.1 r c (omega arith) k)
