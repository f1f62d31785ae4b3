-- The entries that are lent, as many as there are at most.
use Prim.Native.Nat.{ℕ, ◌≤◌, min}
use native.Mathlib.Nat.{min-eq_left, min-eq_right}
use native.Mathlib.Omega.{arith}
use mathlib.Core.Path.{◌≡◌, sym, ◌∙◌, ap}
use mathlib.Core.List.{List}
use lib.ListN.{length, take}
use lib.Seq.{take_all}
use Rattle.sequences.proofs.Orders.{less, same, more, three}
use Rattle.queues.specs.declared.Entry.{Entry}

pub taken_all : (n : ℕ) (es : List Entry) → take (min n (length es)) es ≡ take n es
taken_all n es = elim
    (three n (length es)) [
      | less l ↦ few (let z : n ≤ length es = omega arith in z)
      | same e ↦ few (let z : n ≤ length es = omega arith in
          z)
      | more l ↦ many (let z : length es ≤ n = omega arith in z)
    ]
  where
    few : n ≤ length es → take (min n (length es)) es ≡ take n es
    few h = ap (λ (k : ℕ). take k es) (min-eq_left h)

    many : length es ≤ n → take (min n (length es)) es ≡ take n es
    many h = ap (λ (k : ℕ). take k es) (min-eq_right h) ∙ take_all (length es) es (let z : length es ≤ length es = omega arith in z)
        ∙ sym (take_all n es h)
