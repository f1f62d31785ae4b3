-- The greater of each, register by register; and what a kept list is that test 12 passes.
use Prim.Native.Nat.{ℕ, suc, ◌+◌, ◌≤◌, ◌<◌, max}
use native.Mathlib.Omega.{arith}
use native.Mathlib.Nat.{zero-add}
use native.Mathlib.Numerals.{add-one}
use mathlib.Core.Path.{◌≡◌, refl, sym, ◌∙◌, ap, ap₂}
use mathlib.Core.Bool.{Bool, true, false, ◌||◌}
use mathlib.Core.List.{List, [], ◌∷◌, ◌++◌}
use lib.Dec.{eqb}
use lib.ListN.{length, get_or, take, drop, set}
use lib.Seq.{length-take-le, take-suc, take-length, drop-cons, get_or-append_seam, paste}
use borrow.Author.Tests.{eqb-true}
use Rattle.sequences.specs.Sequences.{all, over}
use Rattle.sequences.proofs.Booleans.{and_left}
use Rattle.sequences.proofs.Buffers.{over_next}
use Rattle.registers.specs.Registers.{register_count, registers_in, greater_of, is_rank, are_registers, kept_registers}
use Rattle.registers.proofs.Bounds.{greater_length, none_greater}

greater_last : (xs ys : List ℕ) (x y : ℕ) → length xs ≡ length ys
    → greater_of (xs ++ (x ∷ [])) (ys ++ (y ∷ [])) ≡ greater_of xs ys ++ (max x y ∷ [])
unfolding greater_of
greater_last [] [] x y h = refl
greater_last [] (b ∷ ys) x y h = absurd (omega arith)
greater_last (a ∷ xs) [] x y h = absurd (omega arith)
greater_last (a ∷ xs) (b ∷ ys) x y h = ap (λ l. max a b ∷ l) (greater_last xs ys x y (omega arith))

-- the first i merged
abbrev pub merged_to : List ℕ → List ℕ → ℕ → List ℕ
merged_to kept list i = greater_of (take i kept) (take i list)

pub merged_none : (kept list : List ℕ) → kept ≡ over (merged_to kept list 0) kept
unfolding greater_of
merged_none kept list = refl

module _ (kept list : List ℕ) (fit : length list ≤ length kept) where
  module _ (i : ℕ) (h : i < length list) where
    merged_length : length (merged_to kept list i) ≡ i
    merged_length =
        let a = length-take-le i kept (omega arith) in
        let b = length-take-le i list (omega arith) in
        greater_length (take i kept) (take i list) (a ∙ sym b) ∙ a

    merged_next : merged_to kept list i ++ (max (get_or kept i 0) (get_or list i 0) ∷ []) ≡ merged_to kept list (i + 1)
    merged_next =
        let a = length-take-le i kept (omega arith) in
        let b = length-take-le i list (omega arith) in
        sym (ap (λ n. greater_of (take n kept) (take n list)) (add-one i)
        ∙ ap₂ greater_of (take-suc kept i 0 (omega arith)) (take-suc list i 0 h)
        ∙ greater_last (take i kept) (take i list) (get_or kept i 0) (get_or list i 0) (a ∙ sym b))

    -- the word behind them is as it was
    pub next_read : get_or (over (merged_to kept list i) kept) i 0 ≡ get_or kept i 0
    next_read =
        let n = merged_length in
        ap (λ k. get_or (merged_to kept list i ++ drop k kept) i 0) n
        ∙ ap (λ l. get_or (merged_to kept list i ++ l) i 0) (drop-cons kept i 0 (omega arith))
        ∙ ap (λ k. get_or (merged_to kept list i ++ get_or kept i 0 ∷ drop (suc i) kept) k 0) (sym n)
        ∙ get_or-append_seam (merged_to kept list i) (get_or kept i 0) (drop (suc i) kept) 0

    pub merged_over_lem : set (over (merged_to kept list i) kept) i (max (get_or kept i 0) (get_or list i 0)) ≡ over (merged_to kept list (i + 1)) kept
    merged_over_lem =
        let n = merged_length in
        ap (λ k. set (over (merged_to kept list i) kept) k (max (get_or kept i 0) (get_or list i 0))) (sym n)
        ∙ over_next (merged_to kept list i) kept (max (get_or kept i 0) (get_or list i 0)) (omega arith)
        ∙ ap (λ l. over l kept) merged_next

  pub merged_whole : over (merged_to kept list (length list)) kept ≡ over (greater_of (take (length list) kept) list) kept
  merged_whole = ap (λ l. over (greater_of (take (length list) kept) l) kept) (take-length list)

-- ---- by what is kept
-- a kept list with words has all 16
some_kept : (ws : List ℕ) → (length ws ≡ 0 → ⊥) → kept_registers ws ≡ true → length ws ≡ register_count
some_kept ws n h = go (eqb (length ws) 0) refl h
  where
    go : (b : Bool) → eqb (length ws) 0 ≡ b → b || are_registers ws ≡ true → length ws ≡ register_count
    go true p e = absurd (n (eqb-true (length ws) 0 p))
    go false p e = eqb-true (length ws) register_count (and_left (eqb (length ws) register_count) (all is_rank ws) e)

pub some_in : (ws : List ℕ) → (length ws ≡ 0 → ⊥) → registers_in ws ≡ ws
some_in [] n = absurd (n refl)
some_in (w ∷ ws) n = refl

kept_length : (ws : List ℕ) → kept_registers ws ≡ true → length (registers_in ws) ≡ register_count
kept_length [] h = refl
kept_length (w ∷ ws) h = some_kept (w ∷ ws) (λ e. absurd (omega arith)) h

-- two lists that pass test 12 have 16 registers merged
pub merged_sixteen : (kept list : List ℕ) → kept_registers kept ≡ true → length list ≡ register_count
    → length (greater_of (registers_in kept) list) ≡ register_count
merged_sixteen kept list h e =
    let k = kept_length kept h in
    greater_length (registers_in kept) list (k ∙ sym e) ∙ k

module _ (kept list : List ℕ) (sixteen : length list ≡ register_count) where
  abbrev Merges : ℕ → List ℕ → ℕ → Type 0
  Merges given after n =
      (n ≡ length (greater_of (registers_in (take given kept)) list)) × (after ≡ over (greater_of (registers_in (take given kept)) list) kept)

  -- nothing is kept: the list is copied
  pub none_merged : (given : ℕ) → given ≡ 0 → (after : List ℕ) → after ≡ paste kept 0 list (length list) → Merges given after (length list)
  none_merged given z after e =
      let g = none_greater list sixteen in
      let same : after ≡ over list kept =
      e ∙ ap (λ k. take (length list) list ++ drop k kept) (zero-add (length list)) ∙ ap (λ l. l ++ drop (length list) kept) (take-length list) in
      rw z (ap length (sym g), same ∙ ap (λ l. over l kept) (sym g))

  -- all 16 are kept
  pub some_merged : (given : ℕ) → given ≤ length kept → kept_registers (take given kept) ≡ true → (given ≡ 0 → ⊥) → (after : List ℕ)
      → after ≡ over (greater_of (take (length list) kept) list) kept → Merges given after (length list)
  some_merged given l right n after e =
      let s : length (take given kept) ≡ given = length-take-le given kept l in
      let some : length (take given kept) ≡ 0 → ⊥ = λ z. n (sym s ∙ z) in
      let k : given ≡ length list = sym s ∙ some_kept (take given kept) some right ∙ sym sixteen in
      let is : registers_in (take given kept) ≡ take (length list) kept = some_in (take given kept) some ∙ ap (λ m. take m kept) k in
      let t : length (take (length list) kept) ≡ length list = length-take-le (length list) kept (omega (arith, k)) in
      rw is (sym (greater_length (take (length list) kept) list t ∙ t), e)
