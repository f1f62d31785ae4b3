-- In the sorted list of some numbers by lists that they have: a number stands right behind one with the same list exactly where a smaller
-- number in it has that list.
use Prim.Native.Nat.{ℕ, ◌-◌, ◌≤◌, ◌<◌}
use native.Mathlib.Omega.{arith}
use mathlib.Core.Path.{◌≡◌, sym, ◌∙◌, ap, subst}
use mathlib.Core.Bool.{true, false}
use mathlib.Core.List.{List}
use lib.ListN.{length, get_or}
use borrow.Author.Tests.{lt-ltb, ltb-true}
use Rattle.sequences.specs.Sequences.{lex_before}
use Rattle.sequences.proofs.Booleans.{absurd_true, Decided, yes, no, decided}
use Rattle.sequences.proofs.Orders.{Three, less, same, more, three}
use Rattle.sequences.proofs.Ascending.{Ascending}
use Rattle.sequences.proofs.SortedStrictly.{ascending_pairs}
use Rattle.sequences.proofs.SortedNumbers.{before, totally, totally_ordered, alike, snoc_before, snoc_same}

module _ (f : ℕ → List ℕ) (w : ℕ) (l : (a : ℕ) → length (f a) ≡ w) (s : List ℕ) (a : Ascending (totally f w l) s) where
  abbrev at : ℕ → ℕ
  at p = get_or s p 0

  never : (x y : ℕ) → totally f w l x y ≡ true → totally f w l y x ≡ true → ⊥
  never x y p q = absurd_true q ((totally_ordered f w l).asym x y p)

  -- a number whose neighbour does not come before it has the same list as that smaller number
  pub neighbour_same : (q : ℕ) → 1 ≤ q → q < length s → before f w l (at (q - 1)) (at q) ≡ false
      → (at (q - 1) < at q) × (f (at (q - 1)) ≡ f (at q))
  neighbour_same q h k e =
      let t = ascending_pairs (totally f w l) s 0 a (q - 1) q (omega arith) k in
      let e₂ : before f w l (at q) (at (q - 1)) ≡ false = elim (decided (before f w l (at q) (at (q - 1)))) [
        | yes p ↦ absurd (never (at (q - 1)) (at q) t (snoc_before (at q) (at (q - 1)) (f (at q)) (f (at (q - 1))) p))
        | no p ↦ p
      ] in
      let g = alike f w l (at (q - 1)) (at q) e e₂ in
      (ltb-true (at (q - 1)) (at q) (sym (snoc_same (at (q - 1)) (at q) (f (at (q - 1))) (f (at q)) g) ∙ t), g)

  -- and where a smaller number has the same list, the neighbour does not come before
  pub same_neighbour : (p q : ℕ) → p < length s → q < length s → at p < at q → f (at p) ≡ f (at q)
      → (1 ≤ q) × (before f w l (at (q - 1)) (at q) ≡ false)
  same_neighbour p q hp hq h g = go (three p q)
    where
      t : totally f w l (at p) (at q) ≡ true
      t = snoc_same (at p) (at q) (f (at p)) (f (at q)) g ∙ lt-ltb (at p) (at q) h

      apart : p < q → Decided (before f w l (at (q - 1)) (at q)) → before f w l (at (q - 1)) (at q) ≡ false
      apart k (no e) = e
      apart k (yes e) = absurd (between (three p (q - 1)))
        where
          t₂ : totally f w l (at (q - 1)) (at p) ≡ true
          t₂ = snoc_before (at (q - 1)) (at p) (f (at (q - 1))) (f (at p)) (ap (lex_before (f (at (q - 1)))) g ∙ e)

          between : Three p (q - 1) → ⊥
          between (less m) = never (at p) (at (q - 1)) (ascending_pairs (totally f w l) s 0 a p (q - 1) m (omega arith)) t₂
          between (same m) = let t₃ = subst (λ r. totally f w l (at r) (at p) ≡ true) (sym m) t₂ in never (at p) (at p) t₃ t₃
          between (more m) = omega arith

      go : Three p q → (1 ≤ q) × (before f w l (at (q - 1)) (at q) ≡ false)
      go (less k) = (omega arith, apart k (decided (before f w l (at (q - 1)) (at q))))
      go (same k) = absurd (let e = ap at k in omega arith)
      go (more k) = absurd (never (at p) (at q) t (ascending_pairs (totally f w l) s 0 a q p k hp))
