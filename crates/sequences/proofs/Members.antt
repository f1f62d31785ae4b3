-- A word among others, by its place among them; words that are all different, by theirs.
use Prim.Native.Nat.{ℕ, zero, suc, ◌<◌}
use native.Mathlib.Omega.{arith}
use mathlib.Core.Path.{◌≡◌, refl, sym}
use mathlib.Core.Logic.{◌↔◌}
use mathlib.Core.Bool.{Bool, true, false, ◌||◌, not}
use mathlib.Core.List.{List, [], ◌∷◌}
use lib.Dec.{eqb}
use lib.ListN.{length, get_or}
use borrow.Author.Tests.{eqb-true, eq-eqb, not-true}
use Rattle.sequences.specs.Sequences.{all, member, distinct}
use Rattle.sequences.proofs.Booleans.{absurd_true, and_left, and_right, and_both}
use Rattle.sequences.proofs.Elements.{all_cons, member_all}

pub member_first : (x : ℕ) (xs : List ℕ) → member x (x ∷ xs) ≡ true
unfolding member
member_first x xs = rw (eq-eqb x x refl)

pub member_later : (x y : ℕ) (xs : List ℕ) → member x xs ≡ true → member x (y ∷ xs) ≡ true
unfolding member
member_later x y xs e = go (eqb x y)
  where
    go : (b : Bool) → b || member x xs ≡ true
    go true = refl
    go false = e

pub member_at : (xs : List ℕ) (i : ℕ) → i < length xs → member (get_or xs i 0) xs ≡ true
member_at [] i l = absurd (omega arith)
member_at (x ∷ xs) zero l = member_first x xs
member_at (x ∷ xs) (suc i) l = member_later (get_or xs i 0) x xs (member_at xs i (omega arith))

-- where it stands
pub member_place : (w : ℕ) (xs : List ℕ) → member w xs ≡ true → (i : ℕ) × (i < length xs) × (get_or xs i 0 ≡ w)
unfolding member
member_place w [] e = absurd_true e refl
member_place w (x ∷ xs) e = go (eqb w x) refl e (member_place w xs)
  where
    go : (b : Bool) → eqb w x ≡ b → b || member w xs ≡ true → (member w xs ≡ true → (i : ℕ) × (i < length xs) × (get_or xs i 0 ≡ w))
        → (i : ℕ) × (i < length (x ∷ xs)) × (get_or (x ∷ xs) i 0 ≡ w)
    go true p f ih = (0, omega arith, sym (eqb-true w x p))
    go false p f ih = let r = ih f in (suc r.0, omega (arith, r.1), r.2)

-- what passes at each element
among_all : (f : ℕ → Bool) (xs : List ℕ) → ((w : ℕ) → member w xs ≡ true → f w ≡ true) → all f xs ≡ true
unfolding all
among_all f [] h = refl
among_all f (x ∷ xs) h = all_cons f x xs (h x (member_first x xs)) (among_all f xs (λ w e. h w (member_later w x xs e)))

pub all_when : (f : ℕ → Bool) (xs : List ℕ) → (all f xs ≡ true) ↔ ((w : ℕ) → member w xs ≡ true → f w ≡ true)
all_when f xs = (λ e w m. member_all f w xs e m, among_all f xs)

-- no two of them at two places
distinct_apart : (xs : List ℕ) → distinct xs ≡ true → (i j : ℕ) → i < j → j < length xs → get_or xs i 0 ≡ get_or xs j 0 → ⊥
unfolding distinct
distinct_apart [] e i j l m p = omega arith
distinct_apart (x ∷ xs) e i zero l m p = omega arith
distinct_apart (x ∷ xs) e zero (suc j) l m p =
    let again : member x xs ≡ true = rw p (member_at xs j (omega arith)) in
    absurd_true again (not-true (member x xs) (and_left (not (member x xs)) (distinct xs) e))
distinct_apart (x ∷ xs) e (suc i) (suc j) l m p =
    distinct_apart xs (and_right (not (member x xs)) (distinct xs) e) i j (omega arith) (omega arith) p

apart_distinct : (xs : List ℕ) → ((i j : ℕ) → i < j → j < length xs → ¬ (get_or xs i 0 ≡ get_or xs j 0)) → distinct xs ≡ true
unfolding distinct
apart_distinct [] h = refl
apart_distinct (x ∷ xs) h =
    and_both (not (member x xs)) (distinct xs) (go (member x xs) refl)
    (apart_distinct xs (λ i j l m. h (suc i) (suc j) (omega arith) (omega arith)))
  where
    go : (b : Bool) → member x xs ≡ b → not b ≡ true
    go false e = refl
    go true e = let r = member_place x xs e in absurd (h 0 (suc r.0) (omega arith) (omega (arith, r.1)) (sym r.2))

pub distinct_when : (xs : List ℕ) → (distinct xs ≡ true) ↔ ((i j : ℕ) → i < j → j < length xs → ¬ (get_or xs i 0 ≡ get_or xs j 0))
distinct_when xs = (λ e i j l m p. distinct_apart xs e i j l m p, apart_distinct xs)
