-- What comes last of two lists added: the last element of the one, of the other, or of both joined.
use mathlib.Core.Path.{◌≡◌, refl, ◌∙◌, ap}
use mathlib.Core.Bool.{Bool, true, false, cond}
use mathlib.Core.List.{List, [], ◌∷◌, ◌++◌}
use Rattle.lists.specs.Groups.{add_by, add_all_by}
use Rattle.sequences.proofs.Each.{Each}
use Rattle.sequences.proofs.Ascending.{Ahead, Ascending}
use Rattle.lists.proofs.Adding.{add_all_last}

-- each of the list comes before z
abbrev pub Below : {A : Type 0} → (A → A → Bool) → A → List A → Type 0
Below before z xs = Each (λ y. before y z ≡ true) xs

-- of an ascending list, the last is above the others
pub ascending_last : {A : Type 0} (before : A → A → Bool) (xs : List A) (z : A) → Ascending before (xs ++ (z ∷ []))
    → Ascending before xs × Below before z xs
ascending_last before [] z a = (tt, tt)
ascending_last before (x ∷ xs) z a =
    let r = ascending_last before xs z a.1 in
    let p = ahead_last xs a.0 in
    ((p.0, r.0), (p.1, r.1))
  where
    ahead_last : (ys : List _) → Ahead before x (ys ++ (z ∷ [])) → Ahead before x ys × (before x z ≡ true)
    ahead_last [] b = (tt, b.0)
    ahead_last (y ∷ ys) b = let r = ahead_last ys b.1 in ((b.0, r.0), r.1)

module _ {A : Type 0} (before : A → A → Bool) (join : A → A → A)
    (asym : (a b : A) → before a b ≡ true → before b a ≡ false)
    (left : (a b c : A) → before (join a b) c ≡ before a c) where
  -- ---- one element
  -- after all that come before it
  add_below : (z : A) (l : List A) → Below before z l → add_by before join z l ≡ l ++ (z ∷ [])
  unfolding add_by
  add_below z [] b = refl
  add_below z (y ∷ l) b = rw (asym y z b.0, b.0) (ap (λ r. y ∷ r) (add_below z l b.1))

  -- one that comes before the last leaves the last where it is
  add_keeps : (h z : A) (l : List A) → before h z ≡ true → add_by before join h (l ++ (z ∷ [])) ≡ add_by before join h l ++ (z ∷ [])
  unfolding add_by
  add_keeps h z [] e = rw e
  add_keeps h z (y ∷ l) e = go (before h y) (before y h) (add_keeps h z l e)
    where
      go : (s t : Bool) → add_by before join h (l ++ (z ∷ [])) ≡ add_by before join h l ++ (z ∷ [])
          → cond s (h ∷ y ∷ (l ++ (z ∷ []))) (cond t (y ∷ add_by before join h (l ++ (z ∷ []))) (join y h ∷ (l ++ (z ∷ []))))
          ≡ cond s (h ∷ y ∷ l) (cond t (y ∷ add_by before join h l) (join y h ∷ l)) ++ (z ∷ [])
      go true t ih = refl
      go false true ih = ap (λ r. y ∷ r) ih
      go false false ih = refl

  -- joined to the last, where that is its equal
  add_joins : (y x : A) (l : List A) → Below before y l → before y x ≡ false → before x y ≡ false
      → add_by before join y (l ++ (x ∷ [])) ≡ l ++ (join x y ∷ [])
  unfolding add_by
  add_joins y x [] b e f = rw (e, f)
  add_joins y x (z ∷ l) b e f = rw (asym z y b.0, b.0) (ap (λ r. z ∷ r) (add_joins y x l b.1 e f))

  -- ---- all of them stay below
  below_add : (z h : A) (l : List A) → before h z ≡ true → Below before z l → Below before z (add_by before join h l)
  unfolding add_by
  below_add z h [] e b = (e, tt)
  below_add z h (y ∷ l) e b = go (before h y) (before y h) (below_add z h l e b.1)
    where
      go : (s t : Bool) → Below before z (add_by before join h l)
          → Below before z (cond s (h ∷ y ∷ l) (cond t (y ∷ add_by before join h l) (join y h ∷ l)))
      go true t i = (e, b)
      go false true i = (b.0, i)
      go false false i = (left y h z ∙ b.0, b.1)

  below_add_all : (z : A) (ys xs : List A) → Below before z xs → Below before z ys → Below before z (add_all_by before join xs ys)
  unfolding add_all_by
  below_add_all z [] xs p q = p
  below_add_all z (y ∷ ys) xs p q = below_add_all z ys (add_by before join y xs) (below_add z y xs q.0 p) q.1

  -- ---- the last of both lists
  -- is the first list's
  pub last_old : (x : A) (ys xs : List A) → Below before x ys
      → add_all_by before join (xs ++ (x ∷ [])) ys ≡ add_all_by before join xs ys ++ (x ∷ [])
  unfolding add_all_by
  last_old x [] xs b = refl
  last_old x (y ∷ ys) xs b =
      ap (λ l. add_all_by before join l ys) (add_keeps y x xs b.0) ∙ last_old x ys (add_by before join y xs) b.1

  -- is the second list's
  pub last_new : (y : A) (ys xs : List A) → Below before y xs → Below before y ys
      → add_all_by before join xs (ys ++ (y ∷ [])) ≡ add_all_by before join xs ys ++ (y ∷ [])
  last_new y ys xs p q =
      add_all_last before join xs ys y ∙ add_below y (add_all_by before join xs ys) (below_add_all y ys xs p q)

  -- is in both
  pub last_both : (x y : A) (ys xs : List A) → Below before x ys → Below before y xs → Below before y ys
      → before y x ≡ false → before x y ≡ false
      → add_all_by before join (xs ++ (x ∷ [])) (ys ++ (y ∷ [])) ≡ add_all_by before join xs ys ++ (join x y ∷ [])
  last_both x y ys xs p q r e f =
      add_all_last before join (xs ++ (x ∷ [])) ys y
      ∙ ap (add_by before join y) (last_old x ys xs p)
      ∙ add_joins y x (add_all_by before join xs ys) (below_add_all y ys xs q r) e f
