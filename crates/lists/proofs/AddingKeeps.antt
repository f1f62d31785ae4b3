-- What adding keeps: a property that joining keeps, and the image under a map that keeps the order and the join.
use mathlib.Core.Path.{◌≡◌, refl, sym, ◌∙◌, ap, ap₂}
use mathlib.Core.Bool.{Bool, true, false, cond, ◌&&◌}
use mathlib.Core.List.{List, [], ◌∷◌, map}
use Rattle.sequences.specs.Sequences.{neighbours}
use Rattle.lists.specs.Groups.{add_by, add_all_by}
use Rattle.sequences.proofs.Each.{Each}
use Rattle.sequences.proofs.Ascending.{Ahead, Ascending}

-- ---- a property of each element
module _ {A : Type 0} (P : A → Type 0) (before : A → A → Bool) (join : A → A → A)
    (closed : (x y : A) → P x → P y → P (join x y)) where
  pub each_add : (x : A) (ys : List A) → P x → Each P ys → Each P (add_by before join x ys)
  unfolding add_by
  each_add x [] p q = (p, tt)
  each_add x (y ∷ ys) p q = go (before x y) (before y x) (each_add x ys p q.1)
    where
      go : (b c : Bool) → Each P (add_by before join x ys)
          → Each P (cond b (x ∷ y ∷ ys) (cond c (y ∷ add_by before join x ys) (join y x ∷ ys)))
      go true c i = (p, q)
      go false true i = (q.0, i)
      go false false i = (closed y x q.0 p, q.1)

  pub each_add_all : (xs ys : List A) → Each P xs → Each P ys → Each P (add_all_by before join xs ys)
  unfolding add_all_by
  each_add_all xs [] p q = p
  each_add_all xs (y ∷ ys) p q = each_add_all (add_by before join y xs) ys (each_add y xs q.0 p) q.1

-- ---- a map that keeps the order
module _ {A B : Type 0} (f : A → B) (before : A → A → Bool) (before' : B → B → Bool)
    (keeps : (x y : A) → before' (f x) (f y) ≡ before x y) where
  ahead_map : (x : A) (ys : List A) → Ahead before x ys → Ahead before' (f x) (map f ys)
  ahead_map x [] a = tt
  ahead_map x (y ∷ ys) a = (keeps x y ∙ a.0, ahead_map x ys a.1)

  pub ascending_map : (xs : List A) → Ascending before xs → Ascending before' (map f xs)
  ascending_map [] a = tt
  ascending_map (x ∷ xs) a = (ahead_map x xs a.0, ascending_map xs a.1)

  ahead_unmap : (x : A) (ys : List A) → Ahead before' (f x) (map f ys) → Ahead before x ys
  ahead_unmap x [] a = tt
  ahead_unmap x (y ∷ ys) a = (sym (keeps x y) ∙ a.0, ahead_unmap x ys a.1)

  pub ascending_unmap : (xs : List A) → Ascending before' (map f xs) → Ascending before xs
  ascending_unmap [] a = tt
  ascending_unmap (x ∷ xs) a = (ahead_unmap x xs a.0, ascending_unmap xs a.1)

  pub neighbours_map : (xs : List A) → neighbours before' (map f xs) ≡ neighbours before xs
  unfolding neighbours
  neighbours_map [] = refl
  neighbours_map (x ∷ []) = refl
  neighbours_map (x ∷ y ∷ ys) = ap₂ ◌&&◌ (keeps x y) (neighbours_map (y ∷ ys))

  -- and the join
  module _ (join : A → A → A) (join' : B → B → B) (joins : (x y : A) → f (join x y) ≡ join' (f x) (f y)) where
    pub add_map : (x : A) (ys : List A) → map f (add_by before join x ys) ≡ add_by before' join' (f x) (map f ys)
    unfolding add_by
    add_map x [] = refl
    add_map x (y ∷ ys) = rw (keeps x y, keeps y x) (go (before x y) (before y x) (add_map x ys))
      where
        go : (b c : Bool) → map f (add_by before join x ys) ≡ add_by before' join' (f x) (map f ys)
            → map f (cond b (x ∷ y ∷ ys) (cond c (y ∷ add_by before join x ys) (join y x ∷ ys)))
            ≡ cond b (f x ∷ f y ∷ map f ys) (cond c (f y ∷ add_by before' join' (f x) (map f ys)) (join' (f y) (f x) ∷ map f ys))
        go true c e = refl
        go false true e = ap (λ l. f y ∷ l) e
        go false false e = ap (λ z. z ∷ map f ys) (joins y x)

    pub add_all_map : (xs ys : List A) → map f (add_all_by before join xs ys) ≡ add_all_by before' join' (map f xs) (map f ys)
    unfolding add_all_by
    add_all_map xs [] = refl
    add_all_map xs (y ∷ ys) =
        add_all_map (add_by before join y xs) ys ∙ ap (λ l. add_all_by before' join' l (map f ys)) (add_map y xs)
