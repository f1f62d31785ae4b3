-- A test that passes at each element of a list: what it says of the list's elements, and of lists made from it.
use Prim.Native.Nat.{ℕ, zero, suc, ◌<◌}
use native.Mathlib.Omega.{arith}
use mathlib.Core.Path.{◌≡◌, refl, sym, ◌∙◌, ap}
use mathlib.Core.Bool.{Bool, true, false, ◌||◌}
use mathlib.Core.List.{List, [], ◌∷◌, ◌++◌}
use lib.Dec.{eqb}
use lib.ListN.{length, take, get_or, set, replicate}
use borrow.Author.Tests.{eqb-true}
use Rattle.sequences.specs.Sequences.{all, all_below, member}
use Rattle.sequences.proofs.Booleans.{absurd_true, and_left, and_right, and_both}
use Rattle.sequences.proofs.Counting as counting

module _ {A : Type 0} (f : A → Bool) where
  pub all_head : (x : A) (xs : List A) → all f (x ∷ xs) ≡ true → f x ≡ true
  unfolding all
  all_head x xs e = and_left (f x) (all f xs) e

  pub all_tail : (x : A) (xs : List A) → all f (x ∷ xs) ≡ true → all f xs ≡ true
  unfolding all
  all_tail x xs e = and_right (f x) (all f xs) e

  pub all_cons : (x : A) (xs : List A) → f x ≡ true → all f xs ≡ true → all f (x ∷ xs) ≡ true
  unfolding all
  all_cons x xs p q = and_both (f x) (all f xs) p q

  -- the element with a number, or what stands for one that is not there
  pub all_get_d : (xs : List A) (i : ℕ) (d : A) → all f xs ≡ true → f d ≡ true → f (get_or xs i d) ≡ true
  unfolding all
  all_get_d [] i d e p = p
  all_get_d (x ∷ xs) zero d e p = and_left (f x) (all f xs) e
  all_get_d (x ∷ xs) (suc i) d e p = all_get_d xs i d (and_right (f x) (all f xs) e) p

  pub all_at_lem : (xs : List A) (i : ℕ) (d : A) → all f xs ≡ true → i < length xs → f (get_or xs i d) ≡ true
  unfolding all
  all_at_lem [] i d e l = absurd (omega arith)
  all_at_lem (x ∷ xs) zero d e l = and_left (f x) (all f xs) e
  all_at_lem (x ∷ xs) (suc i) d e l = all_at_lem xs i d (and_right (f x) (all f xs) e) (omega arith)

  pub all_take : (n : ℕ) (xs : List A) → all f xs ≡ true → all f (take n xs) ≡ true
  unfolding all
  all_take zero xs e = refl
  all_take (suc n) [] e = refl
  all_take (suc n) (x ∷ xs) e =
      and_both (f x) (all f (take n xs)) (and_left (f x) (all f xs) e) (all_take n xs (and_right (f x) (all f xs) e))

  pub all_append : (xs ys : List A) → all f xs ≡ true → all f ys ≡ true → all f (xs ++ ys) ≡ true
  unfolding all
  all_append [] ys p q = q
  all_append (x ∷ xs) ys p q =
      and_both (f x) (all f (xs ++ ys)) (and_left (f x) (all f xs) p) (all_append xs ys (and_right (f x) (all f xs) p) q)

  pub all_set : (xs : List A) (i : ℕ) (a : A) → all f xs ≡ true → f a ≡ true → all f (set xs i a) ≡ true
  unfolding all
  all_set [] i a e p = refl
  all_set (x ∷ xs) zero a e p = and_both (f a) (all f xs) p (and_right (f x) (all f xs) e)
  all_set (x ∷ xs) (suc i) a e p =
      and_both (f x) (all f (set xs i a)) (and_left (f x) (all f xs) e) (all_set xs i a (and_right (f x) (all f xs) e) p)

  pub all_replicate : (n : ℕ) (a : A) → f a ≡ true → all f (replicate n a) ≡ true
  unfolding all
  all_replicate zero a p = refl
  all_replicate (suc n) a p = and_both (f a) (all f (replicate n a)) p (all_replicate n a p)

  -- another test that passes wherever this one does
  pub all_weaken : (g : A → Bool) (xs : List A) → ((x : A) → f x ≡ true → g x ≡ true) → all f xs ≡ true → all g xs ≡ true
  unfolding all
  all_weaken g [] h e = refl
  all_weaken g (x ∷ xs) h e =
      and_both (g x) (all g xs) (h x (and_left (f x) (all f xs) e)) (all_weaken g xs h (and_right (f x) (all f xs) e))

-- a word that is among others passes what they all pass
pub member_all : (f : ℕ → Bool) (a : ℕ) (xs : List ℕ) → all f xs ≡ true → member a xs ≡ true → f a ≡ true
unfolding all member
member_all f a [] e m = absurd_true refl (sym m)
member_all f a (x ∷ xs) e m = go (eqb a x) refl m (member_all f a xs (and_right (f x) (all f xs) e))
  where
    go : (b : Bool) → eqb a x ≡ b → b || member a xs ≡ true → (member a xs ≡ true → f a ≡ true) → f a ≡ true
    go true p q ih = ap f (eqb-true a x p) ∙ and_left (f x) (all f xs) e
    go false p q ih = ih q

-- ---- place by place
-- two tests that imply each other
pub same_test : (a b : Bool) → (a ≡ true → b ≡ true) → (b ≡ true → a ≡ true) → a ≡ b
same_test true b p q = sym (p refl)
same_test false true p q = q refl
same_test false false p q = refl

module _ {A : Type 0} (f : A → Bool) (d : A) where
  pub all_element : (xs : List A) → all f xs ≡ true → (i : ℕ) → i < length xs → f (get_or xs i d) ≡ true
  unfolding all
  all_element [] e i l = absurd (omega arith)
  all_element (x ∷ xs) e zero l = and_left (f x) (all f xs) e
  all_element (x ∷ xs) e (suc i) l = all_element xs (and_right (f x) (all f xs) e) i (omega arith)

  pub element_all : (xs : List A) → ((i : ℕ) → i < length xs → f (get_or xs i d) ≡ true) → all f xs ≡ true
  unfolding all
  element_all [] h = refl
  element_all (x ∷ xs) h =
      and_both (f x) (all f xs) (h zero (omega arith)) (element_all xs (λ i l. h (suc i) (omega arith)))

  -- the test of a list is the test of each of its places
  pub all_below_lem : (xs : List A) → all f xs ≡ all_below (λ i. f (get_or xs i d)) (length xs)
  all_below_lem xs =
      same_test (all f xs) (all_below (λ i. f (get_or xs i d)) (length xs))
      (λ e. counting.at_all (λ i. f (get_or xs i d)) (length xs) (all_element xs e))
      (λ e. element_all xs (counting.all_at_lem (λ i. f (get_or xs i d)) (length xs) e))
