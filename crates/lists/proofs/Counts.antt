-- How many of a list pass a test: joining adds up, sorting changes nothing, and what leaves some out counts no more.
use Prim.Native.Nat.{ℕ, zero, suc, ◌+◌, ◌≤◌}
use native.Mathlib.Omega.{arith}
use mathlib.Core.Path.{◌≡◌, ◌∙◌, ap}
use mathlib.Core.Bool.{Bool, true, false}
use mathlib.Core.List.{List, [], ◌∷◌, ◌++◌}
use lib.ListN.{length, take, length-append}
use Rattle.sequences.specs.Sequences.{keep}
use Rattle.sequences.proofs.Booleans.{Decided, yes, no, decided}
use Rattle.sequences.specs.Sorting.{insert_by, insert_all_by, sort_by, best_by}
use Rattle.lists.specs.Rows.{ahead}
pub use Rattle.sequences.proofs.Keeping.{keep_nil, keep_yes, keep_no, keep_append}
use Rattle.sequences.proofs.Inserting.{insert_nil, insert_here, insert_later}
use Rattle.lists.proofs.Leaving.{ahead_all, ahead_row}

abbrev pub count : {A : Type 0} → (A → Bool) → List A → ℕ
count f xs = length (keep f xs)

module _ {A : Type 0} (f : A → Bool) where
  pub count_nil : count f [] ≡ 0
  count_nil = ap length (keep_nil f)

  pub count_yes : (x : A) (xs : List A) → f x ≡ true → count f (x ∷ xs) ≡ suc (count f xs)
  count_yes x xs e = ap length (keep_yes f x xs e)

  pub count_no : (x : A) (xs : List A) → f x ≡ false → count f (x ∷ xs) ≡ count f xs
  count_no x xs e = ap length (keep_no f x xs e)

  -- one more in front counts for at most one
  pub count_more : (x : A) (xs : List A) → (count f xs ≤ count f (x ∷ xs)) × (count f (x ∷ xs) ≤ suc (count f xs))
  count_more x xs =
      elim (decided (f x)) [
        | yes e ↦ let c = count_yes x xs e in (omega arith, omega arith)
        | no e ↦ let c = count_no x xs e in (omega arith, omega arith)
      ]

  -- the same element in front of both
  pub count_both : (x : A) (xs ys : List A) → count f xs ≤ count f ys → count f (x ∷ xs) ≤ count f (x ∷ ys)
  count_both x xs ys h =
      elim (decided (f x)) [
        | yes e ↦ let a = count_yes x xs e in let b = count_yes x ys e in omega arith
        | no e ↦ let a = count_no x xs e in let b = count_no x ys e in omega arith
      ]

  pub count_append : (xs ys : List A) → count f (xs ++ ys) ≡ count f xs + count f ys
  count_append xs ys = ap length (keep_append f xs ys) ∙ length-append (keep f xs) (keep f ys)

  pub count_take : (k : ℕ) (xs : List A) → count f (take k xs) ≤ count f xs
  count_take zero xs = omega (arith, count_nil)
  count_take (suc k) [] = omega arith
  count_take (suc k) (x ∷ xs) = count_both x (take k xs) xs (count_take k xs)

  pub count_keep : (g : A → Bool) (xs : List A) → count f (keep g xs) ≤ count f xs
  unfolding keep
  count_keep g [] = omega arith
  count_keep g (x ∷ xs) =
      let i = count_keep g xs in
      elim (decided (g x)) [
        | yes e ↦ rw e (count_both x (keep g xs) xs i)
        | no e ↦ rw e (let m = count_more x xs in omega arith)
      ]

  -- ---- inserting
  module _ (before : A → A → Bool) where
    pub count_insert : (y : A) (xs : List A) → count f (insert_by before y xs) ≡ count f (y ∷ xs)
    count_insert y [] = rw (insert_nil before y)
    count_insert y (x ∷ xs) =
        elim (decided (before y x)) [
          | yes e ↦ rw (insert_here before y x xs e)
          | no e ↦ rw (insert_later before y x xs e) (passed (decided (f x)) (decided (f y)) (count_insert y xs))
        ]
      where
        passed : Decided (f x) → Decided (f y) → count f (insert_by before y xs) ≡ count f (y ∷ xs)
            → count f (x ∷ insert_by before y xs) ≡ count f (y ∷ x ∷ xs)
        passed (yes p) (yes q) i =
            omega (arith, count_yes x (insert_by before y xs) p, count_yes y xs q, count_yes y (x ∷ xs) q, count_yes x xs p)
        passed (yes p) (no q) i =
            omega (arith, count_yes x (insert_by before y xs) p, count_no y xs q, count_no y (x ∷ xs) q, count_yes x xs p)
        passed (no p) (yes q) i =
            omega (arith, count_no x (insert_by before y xs) p, count_yes y xs q, count_yes y (x ∷ xs) q, count_no x xs p)
        passed (no p) (no q) i =
            omega (arith, count_no x (insert_by before y xs) p, count_no y xs q, count_no y (x ∷ xs) q, count_no x xs p)

    pub count_insert_all : (ys xs : List A) → count f (insert_all_by before xs ys) ≡ count f xs + count f ys
    unfolding insert_all_by
    count_insert_all [] xs = omega (arith, count_nil)
    count_insert_all (y ∷ ys) xs =
        let a = count_insert_all ys (insert_by before y xs) in
        let b = count_insert y xs in
        elim (decided (f y)) [
          | yes e ↦ omega (arith, count_yes y xs e, count_yes y ys e)
          | no e ↦ omega (arith, count_no y xs e, count_no y ys e)
        ]

    -- sorting leaves nothing out and adds nothing, whatever is counted
    pub count_sort : (xs : List A) → count f (sort_by before xs) ≡ count f xs
    unfolding sort_by
    count_sort xs = omega (arith, count_insert_all xs [], count_nil)

    pub count_best : (k : ℕ) (xs : List A) → count f (best_by before k xs) ≤ count f xs
    unfolding best_by
    count_best k xs = omega (arith, count_take k (sort_by before xs), count_sort xs)

pub count_ahead : (f : List ℕ → Bool) (before : List ℕ → List ℕ → Bool) (threshold : List ℕ) (xs : List (List ℕ))
    → count f (ahead before threshold xs) ≤ count f xs
count_ahead f before [] xs = rw (ahead_all before xs) (omega arith)
count_ahead f before (w ∷ ws) xs = rw (ahead_row before w ws xs) (count_keep f (λ x. before x (w ∷ ws)) xs)
