-- What is gathered and what is merged passes test 12; an empty kept list adds nothing.
use Prim.Native.Nat.{ℕ, ◌%◌, ◌^◌, ◌≤◌, max}
use native.Mathlib.Omega.{arith}
use native.Mathlib.Nat.{max-le, zero-max}
use mathlib.Core.Path.{◌≡◌, refl, sym, ◌∙◌, ap, ap₂}
use mathlib.Core.Bool.{Bool, true, false, cond}
use mathlib.Core.List.{List, [], ◌∷◌, map}
use lib.Dec.{eqb}
use lib.ListN.{length, replicate, length-map}
use lib.Count.{leading_le}
use borrow.Author.Tests.{leb-true, le-leb, eq-eqb, eqb-true}
use Rattle.sequences.specs.Sequences.{all, numbers}
use Rattle.sequences.proofs.Booleans.{and_left, and_right, and_both}
use Rattle.sequences.proofs.Numbers.{numbers_length}
use Rattle.register_hashes.specs.Hashes.{hash_of, picked_by, rank_in}
use Rattle.registers.specs.Registers.{register_count, most_rank, given_to, register_of, registers_of, registers_in, greater_of, is_rank, are_registers}

-- ---- of some values
given_most : (i x : ℕ) → given_to i x ≤ most_rank
unfolding given_to rank_in
given_most i x = go (eqb (picked_by (hash_of x)) i)
  where
    go : (b : Bool) → cond b (rank_in (hash_of x)) 0 ≤ most_rank
    go true = omega (arith, leading_le 60 (hash_of x % 2 ^ 60))
    go false = omega arith

register_most : (i : ℕ) (xs : List ℕ) → register_of i xs ≤ most_rank
unfolding register_of
register_most i [] = omega arith
register_most i (x ∷ xs) = max-le (given_most i x) (register_most i xs)

all_map : (f : ℕ → ℕ) → ((i : ℕ) → f i ≤ most_rank) → (is : List ℕ) → all is_rank (map f is) ≡ true
unfolding all
all_map f h [] = refl
all_map f h (i ∷ is) = and_both (is_rank (f i)) (all is_rank (map f is)) (le-leb (f i) most_rank (h i)) (all_map f h is)

pub registers_length : (xs : List ℕ) → length (registers_of xs) ≡ register_count
unfolding registers_of
registers_length xs = length-map (numbers register_count) (λ i. register_of i xs) ∙ numbers_length register_count

registers_most : (xs : List ℕ) → all is_rank (registers_of xs) ≡ true
unfolding registers_of
registers_most xs = all_map (λ i. register_of i xs) (λ i. register_most i xs) (numbers register_count)

pub registers_right : (xs : List ℕ) → are_registers (registers_of xs) ≡ true
registers_right xs =
    and_both (eqb (length (registers_of xs)) register_count) (all is_rank (registers_of xs))
    (eq-eqb (length (registers_of xs)) register_count (registers_length xs)) (registers_most xs)

-- ---- of two lists
pub greater_length : (xs ys : List ℕ) → length xs ≡ length ys → length (greater_of xs ys) ≡ length xs
unfolding greater_of
greater_length [] ys e = refl
greater_length (x ∷ xs) [] e = absurd (omega arith)
greater_length (x ∷ xs) (y ∷ ys) e = let n = greater_length xs ys (omega arith) in omega arith

pub greater_most : (xs ys : List ℕ) → all is_rank xs ≡ true → all is_rank ys ≡ true → all is_rank (greater_of xs ys) ≡ true
unfolding greater_of all
greater_most [] ys p q = refl
greater_most (x ∷ xs) [] p q = refl
greater_most (x ∷ xs) (y ∷ ys) p q =
    let a = leb-true x most_rank (and_left (is_rank x) (all is_rank xs) p) in
    let b = leb-true y most_rank (and_left (is_rank y) (all is_rank ys) q) in
    and_both (is_rank (max x y)) (all is_rank (greater_of xs ys)) (le-leb (max x y) most_rank (max-le a b))
    (greater_most xs ys (and_right (is_rank x) (all is_rank xs) p) (and_right (is_rank y) (all is_rank ys) q))

pub greater_right : (xs ys : List ℕ) → are_registers xs ≡ true → are_registers ys ≡ true → are_registers (greater_of xs ys) ≡ true
greater_right xs ys p q =
    let m = eqb-true (length xs) register_count (and_left (eqb (length xs) register_count) (all is_rank xs) p) in
    let n = eqb-true (length ys) register_count (and_left (eqb (length ys) register_count) (all is_rank ys) q) in
    and_both (eqb (length (greater_of xs ys)) register_count) (all is_rank (greater_of xs ys))
    (eq-eqb (length (greater_of xs ys)) register_count (greater_length xs ys (m ∙ sym n) ∙ m))
    (greater_most xs ys (and_right (eqb (length xs) register_count) (all is_rank xs) p) (and_right (eqb (length ys) register_count) (all is_rank ys) q))

-- ---- of an empty kept list
zeros_greater : (ys : List ℕ) → greater_of (replicate (length ys) 0) ys ≡ ys
unfolding greater_of
zeros_greater [] = refl
zeros_greater (y ∷ ys) = ap₂ ◌∷◌ (zero-max y) (zeros_greater ys)

pub none_greater : (ys : List ℕ) → length ys ≡ register_count → greater_of (registers_in []) ys ≡ ys
none_greater ys e = ap (λ n. greater_of (replicate n 0) ys) (sym e) ∙ zeros_greater ys
