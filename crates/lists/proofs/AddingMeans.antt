-- What is added up: each element of the sum is the join, in sequence, of the elements of its place, and each element has its
-- place there.
use mathlib.Core.Path.{◌≡◌, refl, ◌∙◌, ap}
use mathlib.Core.Bool.{Bool, true, false}
use mathlib.Core.List.{List, [], ◌∷◌, ◌++◌, append-nil}
use lib.Seq.{append_snoc}
use Rattle.sequences.specs.Sequences.{keep}
use Rattle.lists.specs.Groups.{add_by, add_all_by}
use Rattle.lists.proofs.Counts.{keep_append}
use Rattle.lists.proofs.Stable.{alike}
use Rattle.lists.proofs.Alike.{Among, here, there, neither_like, less_unlike, more_unlike, like_self, like_join, unlike}
use Rattle.lists.proofs.Keeping.{keep_agree, keep_none}
use Rattle.sequences.proofs.Each.{Each, each_append}
use Rattle.sequences.proofs.EachMore.{each_weaken, each_always}
use Rattle.sequences.proofs.Ascending.{ahead_less, Ascending}
use Rattle.lists.proofs.Adding.{Joins, Places, less, same, more, places, add_nil, add_less, add_more, add_same, same_less, ascending_add}

-- elements joined from the first on
abbrev pub joined_from : {A : Type 0} → (A → A → A) → A → List A → A
joined_from join x [] = x
joined_from join x (y ∷ ys) = joined_from join (join x y) ys

-- x is the join of some elements, of which there are some
abbrev pub JoinOf : {A : Type 0} → (A → A → A) → List A → A → Type 0
JoinOf join [] x = ⊥
JoinOf join (y ∷ ys) x = joined_from join y ys ≡ x

pub join_more : {A : Type 0} (join : A → A → A) (xs : List A) (x y : A) → JoinOf join xs x → JoinOf join (xs ++ (y ∷ [])) (join x y)
join_more join [] x y h = absurd h
join_more {A} join (z ∷ zs) x y h = go zs z h
  where
    go : (ws : List A) (w : A) → joined_from join w ws ≡ x → joined_from join w (ws ++ (y ∷ [])) ≡ join x y
    go [] w h = ap (λ v. join v y) h
    go (v ∷ ws) w h = go ws (join w v) h

-- what a list of sums has to do with the elements added
pub record Sums {A : Type 0} (before : A → A → Bool) (join : A → A → A) (xs sums : List A) : Type 0 where
  -- each sum is the join of the elements of its place, of which there are some
  pub joined : Each (λ s. JoinOf join (keep (alike before s) xs) s) sums
  -- each element has a sum of its place
  pub among : Each (λ x. Among before x sums) xs
  -- no two sums are of one place
  pub ascending : Ascending before sums

module _ {A : Type 0} {before : A → A → Bool} {join : A → A → A} (j : Joins before join) where
  abbrev like : A → A → Bool
  like = alike before

  abbrev add : A → List A → List A
  add x l = add_by before join x l

  -- ---- one more element
  those_more : (s x : A) (xs : List A) → like s x ≡ true → keep (like s) (xs ++ (x ∷ [])) ≡ keep (like s) xs ++ (x ∷ [])
  unfolding keep
  those_more s x xs e = keep_append (like s) xs (x ∷ []) ∙ (rw e)

  those_stay : (s x : A) (xs : List A) → like s x ≡ false → keep (like s) (xs ++ (x ∷ [])) ≡ keep (like s) xs
  unfolding keep
  those_stay s x xs e = keep_append (like s) xs (x ∷ []) ∙ (rw e (append-nil (keep (like s) xs)))

  -- a sum of another place stays what it was
  stay : (x : A) (xs : List A) (s : A) → like s x ≡ false → JoinOf join (keep (like s) xs) s
      → JoinOf join (keep (like s) (xs ++ (x ∷ []))) s
  stay x xs s e h = rw (those_stay s x xs e) h

  -- a first element of its place
  fresh : (x : A) (xs : List A) → keep (like x) xs ≡ [] → JoinOf join (keep (like x) (xs ++ (x ∷ []))) x
  fresh x xs e = rw (those_more x x xs (like_self j x), e) refl

  -- an element joined to the sum of its place
  grow : (x : A) (xs : List A) (s : A) → like s x ≡ true → JoinOf join (keep (like s) xs) s
      → JoinOf join (keep (like (join s x)) (xs ++ (x ∷ []))) (join s x)
  grow x xs s e h =
      rw (keep_agree (like (join s x)) (like s) (xs ++ (x ∷ [])) (each_always (like_join j s x) (xs ++ (x ∷ []))), those_more s x xs e)
      (join_more join (keep (like s) xs) s x h)

  stay_all : (x : A) (xs sums : List A) → Each (λ s. like s x ≡ false) sums → Each (λ s. JoinOf join (keep (like s) xs) s) sums
      → Each (λ s. JoinOf join (keep (like s) (xs ++ (x ∷ []))) s) sums
  stay_all x xs [] u h = tt
  stay_all x xs (s ∷ sums) u h = (stay x xs s u.0 h.0, stay_all x xs sums u.1 h.1)

  joined_add : (x : A) (xs sums : List A) → Ascending before sums → Each (λ s. JoinOf join (keep (like s) xs) s) sums
      → (Each (λ s. like s x ≡ false) sums → keep (like x) xs ≡ [])
      → Each (λ s. JoinOf join (keep (like s) (xs ++ (x ∷ []))) s) (add x sums)
  joined_add x xs [] a h f = rw (add_nil j x) (fresh x xs (f tt), tt)
  joined_add x xs (s ∷ sums) a h f = go (places before x s) (joined_add x xs sums a.1 h.1)
    where
      Sum : A → Type 0
      Sum t = JoinOf join (keep (like t) (xs ++ (x ∷ []))) t

      go : Places before x s → ((Each (λ t. like t x ≡ false) sums → keep (like x) xs ≡ []) → Each Sum (add x sums))
          → Each Sum (add x (s ∷ sums))
      go (less e) ih =
          let u : Each (λ t. like t x ≡ false) sums =
          each_weaken (λ t. more_unlike j t x) sums (ahead_less j.ordered x s sums e a.0) in
          rw (add_less j x s sums e) (fresh x xs (f (more_unlike j s x e, u)), stay_all x xs (s ∷ sums) (more_unlike j s x e, u) h)
      go (same p q) ih =
          let u : Each (λ t. like t x ≡ false) sums =
          each_weaken (λ t b. more_unlike j t x (same_less j x s t q b)) sums a.0 in
          rw (add_same j x s sums p q) (grow x xs s (neither_like j s x q p) h.0, stay_all x xs sums u h.1)
      go (more e) ih =
          rw (add_more j x s sums e) (stay x xs s (less_unlike j s x e) h.0, ih (λ n. f (less_unlike j s x e, n)))

  -- ---- each element has a sum of its place
  among_new : (x : A) (sums : List A) → Among before x (add x sums)
  among_new x [] = rw (add_nil j x) (here (like_self j x))
  among_new x (s ∷ sums) = go (places before x s) (among_new x sums)
    where
      go : Places before x s → Among before x (add x sums) → Among before x (add x (s ∷ sums))
      go (less e) ih = rw (add_less j x s sums e) (here (like_self j x))
      go (same p q) ih = rw (add_same j x s sums p q) (here (like_join j s x x ∙ neither_like j s x q p))
      go (more e) ih = rw (add_more j x s sums e) (there ih)

  among_stay : (x y : A) {sums : List A} → Among before y sums → Among before y (add x sums)
  among_stay x y (here {x = s} {xs = sums} e) = go (places before x s)
    where
      go : Places before x s → Among before y (add x (s ∷ sums))
      go (less p) = rw (add_less j x s sums p) (there (here e))
      go (same p q) = rw (add_same j x s sums p q) (here (like_join j s x y ∙ e))
      go (more p) = rw (add_more j x s sums p) (here e)
  among_stay x y (there {x = s} {xs = sums} h) = go (places before x s) (among_stay x y h)
    where
      go : Places before x s → Among before y (add x sums) → Among before y (add x (s ∷ sums))
      go (less p) ih = rw (add_less j x s sums p) (there (there h))
      go (same p q) ih = rw (add_same j x s sums p q) (there h)
      go (more p) ih = rw (add_more j x s sums p) (there ih)

  -- an element whose place no sum has is the first of its place
  none_like : (x : A) (xs sums : List A) → Each (λ y. Among before y sums) xs → Each (λ s. like s x ≡ false) sums
      → keep (like x) xs ≡ []
  none_like x xs sums h u = keep_none (like x) xs (each_weaken (λ y m. unlike j x y m u) xs h)

  -- ---- all of them
  sums_add : (x : A) (xs sums : List A) → Sums before join xs sums → Sums before join (xs ++ (x ∷ [])) (add x sums)
  sums_add x xs sums h =
      record {
        joined = joined_add x xs sums h.ascending h.joined (none_like x xs sums h.among);
        among =
            each_append (λ y. Among before y (add x sums)) xs (x ∷ []) (each_weaken (λ y. among_stay x y) xs h.among)
            (among_new x sums, tt);
        ascending = ascending_add j x sums h.ascending;
      }

  sums_add_all : (ys xs sums : List A) → Sums before join xs sums → Sums before join (xs ++ ys) (add_all_by before join sums ys)
  unfolding add_all_by
  sums_add_all [] xs sums h = rw append-nil h
  sums_add_all (y ∷ ys) xs sums h =
      rw (← append_snoc xs y ys) (sums_add_all ys (xs ++ (y ∷ [])) (add y sums) (sums_add y xs sums h))

  -- the sum of some elements
  pub sums_of : (xs : List A) → Sums before join xs (add_all_by before join [] xs)
  sums_of xs = sums_add_all xs [] [] (record { joined = tt; among = tt; ascending = tt })
