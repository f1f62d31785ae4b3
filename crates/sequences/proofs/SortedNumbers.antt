-- Sorting rising numbers by lists that they have: the same as sorting them by those lists and then by the number itself. So the sorted
-- list ascends strictly, and a smaller number comes first among those of one list.
use Prim.Native.Nat.{ℕ, ◌+◌, ◌<◌}
use native.Mathlib.Omega.{arith}
use mathlib.Core.Path.{◌≡◌, refl, sym, ◌∙◌, ap, subst}
use mathlib.Core.Bool.{Bool, true, false}
use mathlib.Core.Logic.{inl, inr}
use mathlib.Core.List.{List, [], ◌∷◌, ◌++◌}
use lib.Dec.{ltb}
use lib.ListN.{length, length-append}
use borrow.Author.Tests.{lt-ltb, le-ltb, ltb-true}
use Rattle.sequences.specs.Sequences.{lex_before}
use Rattle.sequences.specs.Sorting.{insert_by, insert_all_by, sort_by}
use Rattle.sequences.proofs.Booleans.{absurd_true, Decided, yes, no, decided}
use Rattle.sequences.proofs.Orders.{Three, less, same, more, three, lex_less, lex_same, lex_more, lex_equal, Ordered, lex_ordered}
use Rattle.sequences.proofs.Inserting.{insert_nil, insert_here, insert_later}
use Rattle.sequences.proofs.Each.{Each, each_insert}
use Rattle.sequences.proofs.EachMore.{each_weaken}
use Rattle.sequences.proofs.Ascending.{Ascending}
use Rattle.sequences.proofs.SortedStrictly.{Apart, ascending_insert}

-- ---- one element more at the end
module _ (a b : ℕ) where
  pub snoc_before : (xs ys : List ℕ) → lex_before xs ys ≡ true → lex_before (xs ++ (a ∷ [])) (ys ++ (b ∷ [])) ≡ true
  unfolding lex_before
  snoc_before xs [] e = absurd_true e refl
  snoc_before [] (y ∷ ys) e = absurd_true e refl
  snoc_before (x ∷ xs) (y ∷ ys) e = go (three x y) (snoc_before xs ys)
    where
      go : Three x y → (lex_before xs ys ≡ true → lex_before (xs ++ (a ∷ [])) (ys ++ (b ∷ [])) ≡ true)
          → lex_before (x ∷ xs ++ (a ∷ [])) (y ∷ ys ++ (b ∷ [])) ≡ true
      go (less h) ih = lex_less (xs ++ (a ∷ [])) (ys ++ (b ∷ [])) h
      go (same h) ih = lex_same (xs ++ (a ∷ [])) (ys ++ (b ∷ [])) h ∙ ih (sym (lex_same xs ys h) ∙ e)
      go (more h) ih = absurd_true e (lex_more xs ys h)

  pub snoc_same : (xs ys : List ℕ) → xs ≡ ys → lex_before (xs ++ (a ∷ [])) (ys ++ (b ∷ [])) ≡ ltb a b
  unfolding lex_before
  snoc_same xs ys e = ap (λ zs. lex_before (zs ++ (a ∷ [])) (ys ++ (b ∷ []))) e ∙ go ys
    where
      one : lex_before (a ∷ []) (b ∷ []) ≡ ltb a b
      one = at (three a b)
        where
          at : Three a b → lex_before (a ∷ []) (b ∷ []) ≡ ltb a b
          at (less h) = lex_less [] [] h ∙ sym (lt-ltb a b h)
          at (same h) = lex_same [] [] h ∙ sym (le-ltb a b (omega arith))
          at (more h) = lex_more [] [] h ∙ sym (le-ltb a b (omega arith))

      go : (zs : List ℕ) → lex_before (zs ++ (a ∷ [])) (zs ++ (b ∷ [])) ≡ ltb a b
      go [] = one
      go (z ∷ zs) = lex_same {x = z} {y = z} (zs ++ (a ∷ [])) (zs ++ (b ∷ [])) refl ∙ go zs

-- ---- numbers by their lists, and then by themselves
module _ (f : ℕ → List ℕ) (w : ℕ) (l : (a : ℕ) → length (f a) ≡ w) where
  abbrev pub before : ℕ → ℕ → Bool
  before a b = lex_before (f a) (f b)

  abbrev pub totally : ℕ → ℕ → Bool
  totally a b = lex_before (f a ++ (a ∷ [])) (f b ++ (b ∷ []))

  pub totally_ordered : Ordered totally
  totally_ordered = lex_ordered (λ a. f a ++ (a ∷ [])) (w + 1) (λ a. length-append (f a) (a ∷ []) ∙ ap (λ n. n + 1) (l a))

  -- neither by its list
  pub alike : (a b : ℕ) → before a b ≡ false → before b a ≡ false → f a ≡ f b
  alike a b p q = lex_equal (f a) (f b) (l a ∙ sym (l b)) p q

  -- a smaller number comes first, unless its list comes later
  pub totally_less : (x y : ℕ) → x < y → totally y x ≡ before y x
  totally_less x y h = go (decided (before y x)) (decided (before x y))
    where
      go : Decided (before y x) → Decided (before x y) → totally y x ≡ before y x
      go (yes p) q = snoc_before y x (f y) (f x) p ∙ sym p
      go (no p) (yes q) = totally_ordered.asym x y (snoc_before x y (f x) (f y) q) ∙ sym p
      go (no p) (no q) = snoc_same y x (f y) (f x) (alike y x p q) ∙ le-ltb y x (omega arith) ∙ sym p

  pub totally_apart : (x y : ℕ) → x < y → Apart totally y x
  totally_apart x y h = go (decided (before y x)) (decided (before x y))
    where
      go : Decided (before y x) → Decided (before x y) → Apart totally y x
      go (yes p) q = inl (snoc_before y x (f y) (f x) p)
      go (no p) (yes q) = inr (snoc_before x y (f x) (f y) q)
      go (no p) (no q) = inr (snoc_same x y (f x) (f y) (alike x y q p) ∙ lt-ltb x y h)

  same_insert : (y : ℕ) (xs : List ℕ) → Each (λ x. x < y) xs → insert_by before y xs ≡ insert_by totally y xs
  same_insert y [] d = insert_nil before y ∙ sym (insert_nil totally y)
  same_insert y (x ∷ xs) d =
      elim (decided (before y x)) [
        | yes e ↦ insert_here before y x xs e ∙ sym (insert_here totally y x xs (totally_less x y d.0 ∙ e))
        | no e ↦
            insert_later before y x xs e ∙ ap (λ zs. x ∷ zs) (same_insert y xs d.1)
            ∙ sym (insert_later totally y x xs (totally_less x y d.0 ∙ e))
      ]

  -- sorting rising numbers, put in after smaller ones
  same_insert_all : (ys xs : List ℕ) → Ascending ltb ys → Each (λ y. Each (λ x. x < y) xs) ys
      → insert_all_by before xs ys ≡ insert_all_by totally xs ys
  unfolding insert_all_by
  same_insert_all [] xs a d = refl
  same_insert_all (y ∷ ys) xs a d =
      ap (λ zs. insert_all_by before zs ys) (same_insert y xs d.0)
      ∙ same_insert_all ys (insert_by totally y xs) a.1 (go ys a.0 d.1)
    where
      go : (zs : List ℕ) → Each (λ z. ltb y z ≡ true) zs → Each (λ z. Each (λ x. x < z) xs) zs
          → Each (λ z. Each (λ x. x < z) (insert_by totally y xs)) zs
      go [] p q = tt
      go (z ∷ zs) p q = (each_insert (λ x. x < z) totally y xs (ltb-true y z p.0) q.0, go zs p.1 q.1)

  pub same_sort : (xs : List ℕ) → Ascending ltb xs → sort_by before xs ≡ sort_by totally xs
  unfolding sort_by
  same_sort xs a = same_insert_all xs [] a (all xs)
    where
      all : (zs : List ℕ) → Each (λ z. Each (λ x. x < z) []) zs
      all [] = tt
      all (z ∷ zs) = (tt, all zs)

  -- so the sorted list ascends strictly
  total_insert_all : (ys xs : List ℕ) → Ascending ltb ys → Each (λ y. Each (λ x. x < y) xs) ys → Ascending totally xs
      → Ascending totally (insert_all_by totally xs ys)
  unfolding insert_all_by
  total_insert_all [] xs a d s = s
  total_insert_all (y ∷ ys) xs a d s =
      total_insert_all ys (insert_by totally y xs) a.1 (go ys a.0 d.1)
      (ascending_insert totally totally_ordered y xs (each_weaken (λ x h. totally_apart x y h) xs d.0) s)
    where
      go : (zs : List ℕ) → Each (λ z. ltb y z ≡ true) zs → Each (λ z. Each (λ x. x < z) xs) zs
          → Each (λ z. Each (λ x. x < z) (insert_by totally y xs)) zs
      go [] p q = tt
      go (z ∷ zs) p q = (each_insert (λ x. x < z) totally y xs (ltb-true y z p.0) q.0, go zs p.1 q.1)

  pub sort_ascends : (xs : List ℕ) → Ascending ltb xs → Ascending totally (sort_by before xs)
  unfolding sort_by
  sort_ascends xs a = subst (Ascending totally) (sym (same_sort xs a)) (total_insert_all xs [] a (all xs) tt)
    where
      all : (zs : List ℕ) → Each (λ z. Each (λ x. x < z) []) zs
      all [] = tt
      all (z ∷ zs) = (tt, all zs)
