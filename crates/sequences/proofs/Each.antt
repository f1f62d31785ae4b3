-- A property that each element of a list has, and what keeps it: joining, keeping some, inserting, the best of them.
use Prim.Native.Nat.{ℕ, zero, suc}
use mathlib.Core.Path.{◌≡◌, refl}
use mathlib.Core.Bool.{Bool, true}
use mathlib.Core.List.{List, [], ◌∷◌, ◌++◌, map}
use lib.ListN.{take, drop}
use Rattle.sequences.specs.Sequences.{all, keep}
use Rattle.sequences.proofs.Booleans.{and_left, and_right, and_both, yes, no, decided}
use Rattle.sequences.specs.Sorting.{insert_by, insert_all_by, sort_by, best_by}
use Rattle.sequences.proofs.Inserting.{insert_nil, insert_here, insert_later}

abbrev pub Each : {A : Type 0} → (A → Type 0) → List A → Type 0
Each P [] = Unit {0}
Each P (x ∷ xs) = P x × Each P xs

-- what each element has, the elements of a list made from them have
pub each_map : {A B : Type 0} (P : B → Type 0) (f : A → B) → ((a : A) → P (f a)) → (xs : List A) → Each P (map f xs)
each_map P f h [] = tt
each_map P f h (x ∷ xs) = (h x, each_map P f h xs)

module _ {A : Type 0} (P : A → Type 0) where
  pub each_append : (xs ys : List A) → Each P xs → Each P ys → Each P (xs ++ ys)
  each_append [] ys p q = q
  each_append (x ∷ xs) ys p q = (p.0, each_append xs ys p.1 q)

  pub each_take : (k : ℕ) (xs : List A) → Each P xs → Each P (take k xs)
  each_take zero xs p = tt
  each_take (suc k) [] p = tt
  each_take (suc k) (x ∷ xs) p = (p.0, each_take k xs p.1)

  pub each_drop : (k : ℕ) (xs : List A) → Each P xs → Each P (drop k xs)
  each_drop zero xs p = p
  each_drop (suc k) [] p = tt
  each_drop (suc k) (x ∷ xs) p = each_drop k xs p.1

  pub each_keep : (f : A → Bool) (xs : List A) → Each P xs → Each P (keep f xs)
  unfolding keep
  each_keep f [] p = tt
  each_keep f (x ∷ xs) p =
      elim (decided (f x)) [ yes e ↦ rw e (p.0, each_keep f xs p.1) | no e ↦ rw e (each_keep f xs p.1) ]

  -- ---- of an order: the elements put in and those that were there
  module _ (before : A → A → Bool) where
    pub each_insert : (y : A) (xs : List A) → P y → Each P xs → Each P (insert_by before y xs)
    each_insert y [] h p = rw (insert_nil before y) (h, tt)
    each_insert y (x ∷ xs) h p =
        elim (decided (before y x)) [
          | yes e ↦ rw (insert_here before y x xs e) (h, p)
          | no e ↦ rw (insert_later before y x xs e) (p.0, each_insert y xs h p.1)
        ]

    pub each_insert_all : (ys xs : List A) → Each P ys → Each P xs → Each P (insert_all_by before xs ys)
    unfolding insert_all_by
    each_insert_all [] xs q p = p
    each_insert_all (y ∷ ys) xs q p = each_insert_all ys (insert_by before y xs) q.1 (each_insert y xs q.0 p)

    pub each_best : (k : ℕ) (xs : List A) → Each P xs → Each P (best_by before k xs)
    unfolding best_by sort_by
    each_best k xs p = each_take k (insert_all_by before [] xs) (each_insert_all xs [] p tt)

-- ---- a test that passes at each element
module _ {A : Type 0} (f : A → Bool) where
  pub each_kept : (xs : List A) → Each (λ x. f x ≡ true) (keep f xs)
  unfolding keep
  each_kept [] = tt
  each_kept (x ∷ xs) = elim (decided (f x)) [ yes e ↦ rw e (e, each_kept xs) | no e ↦ rw e (each_kept xs) ]

  pub each_all : (xs : List A) → Each (λ x. f x ≡ true) xs → all f xs ≡ true
  unfolding all
  each_all [] p = refl
  each_all (x ∷ xs) p = and_both (f x) (all f xs) p.0 (each_all xs p.1)

  pub all_each : (xs : List A) → all f xs ≡ true → Each (λ x. f x ≡ true) xs
  unfolding all
  all_each [] e = tt
  all_each (x ∷ xs) e = (and_left (f x) (all f xs) e, all_each xs (and_right (f x) (all f xs) e))

  pub all_drop : (k : ℕ) (xs : List A) → all f xs ≡ true → all f (drop k xs) ≡ true
  all_drop k xs p = each_all (drop k xs) (each_drop (λ x. f x ≡ true) k xs (all_each xs p))
