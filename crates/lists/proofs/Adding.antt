-- Adding elements up at their places: the list stays strictly ascending, elements of different places may be added in
-- either sequence, and a part that is added up first adds as its elements do, one by one.
use mathlib.Core.Path.{◌≡◌, refl, sym, ◌∙◌, ap}
use mathlib.Core.Bool.{Bool, true, false, cond}
use mathlib.Core.List.{List, [], ◌∷◌, ◌++◌}
use Rattle.sequences.proofs.Booleans.{absurd_true}
use Rattle.sequences.proofs.Orders.{Ordered}
use Rattle.lists.specs.Groups.{add_by, add_all_by}
use Rattle.sequences.proofs.EachMore.{each_weaken}
use Rattle.sequences.proofs.Ascending.{Ahead, Ascending, ahead_less}

-- an associative join whose result stands where its first part stands
pub record Joins {A : Type 0} (before : A → A → Bool) (join : A → A → A) : Type 0 where
  pub ordered : Ordered before
  pub left : (a b c : A) → before (join a b) c ≡ before a c
  pub right : (a b c : A) → before c (join a b) ≡ before c a
  pub assoc : (a b c : A) → join (join a b) c ≡ join a (join b c)

-- two elements, three ways
pub data Places {A : Type 0} (before : A → A → Bool) (x y : A) : Type 0 where
  less : before x y ≡ true → Places before x y
  same : before x y ≡ false → before y x ≡ false → Places before x y
  more : before y x ≡ true → Places before x y

pub places : {A : Type 0} (before : A → A → Bool) (x y : A) → Places before x y
places before x y = go (before x y) refl (before y x) refl
  where
    go : (b : Bool) → before x y ≡ b → (c : Bool) → before y x ≡ c → Places before x y
    go true e c f = less e
    go false e true f = more f
    go false e false f = same e f

-- the elements of two lists, one after the other
pub add_all_append : {A : Type 0} (before : A → A → Bool) (join : A → A → A) (xs ys zs : List A)
    → add_all_by before join xs (ys ++ zs) ≡ add_all_by before join (add_all_by before join xs ys) zs
unfolding add_all_by
add_all_append before join xs [] zs = refl
add_all_append before join xs (y ∷ ys) zs = add_all_append before join (add_by before join y xs) ys zs

-- one more element
pub add_all_last : {A : Type 0} (before : A → A → Bool) (join : A → A → A) (xs ys : List A) (z : A)
    → add_all_by before join xs (ys ++ (z ∷ [])) ≡ add_by before join z (add_all_by before join xs ys)
unfolding add_all_by
add_all_last before join xs ys z = add_all_append before join xs ys (z ∷ [])

module _ {A : Type 0} {before : A → A → Bool} {join : A → A → A} (j : Joins before join) where
  abbrev add : A → List A → List A
  add x l = add_by before join x l

  abbrev add_all : List A → List A → List A
  add_all gs l = add_all_by before join gs l

  -- ---- one element, by its place and the first one's
  pub add_nil : (x : A) → add_by before join x [] ≡ x ∷ []
  unfolding add_by
  add_nil x = refl

  pub add_less : (x y : A) (ys : List A) → before x y ≡ true → add_by before join x (y ∷ ys) ≡ x ∷ y ∷ ys
  unfolding add_by
  add_less x y ys e = rw e

  pub add_more : (x y : A) (ys : List A) → before y x ≡ true → add_by before join x (y ∷ ys) ≡ y ∷ add_by before join x ys
  unfolding add_by
  add_more x y ys e = rw (j.ordered.asym y x e, e)

  pub add_same : (x y : A) (ys : List A) → before x y ≡ false → before y x ≡ false
      → add_by before join x (y ∷ ys) ≡ join y x ∷ ys
  unfolding add_by
  add_same x y ys e f = rw (e, f)

  -- ---- elements of one place
  pub same_less : (x y a : A) → before y x ≡ false → before y a ≡ true → before x a ≡ true
  same_less x y a f g = go (before x a) refl
    where
      go : (b : Bool) → before x a ≡ b → before x a ≡ true
      go true h = h
      go false h = absurd_true (j.ordered.weak y a x g h) f

  pub same_left : (x y a : A) → before x y ≡ false → before y a ≡ false → before x a ≡ false
  same_left x y a e g = go (before x a) refl
    where
      go : (b : Bool) → before x a ≡ b → before x a ≡ false
      go true k = absurd_true (j.ordered.weak x a y k g) e
      go false k = k

  -- ---- two elements: of different places in either sequence, of one place joined first
  pub commute : (h z : A) (l : List A) → before h z ≡ true
      → add_by before join h (add_by before join z l) ≡ add_by before join z (add_by before join h l)
  unfolding add_by
  commute h z [] e = add_less h z [] e ∙ sym (add_more z h [] e)
  commute h z (a ∷ l) e = go (places before h a) (places before z a) (commute h z l e)
    where
      go : Places before h a → Places before z a → add h (add z l) ≡ add z (add h l)
          → add h (add z (a ∷ l)) ≡ add z (add h (a ∷ l))
      go (less p) (less q) ih =
          ap (add h) (add_less z a l q) ∙ add_less h z (a ∷ l) e ∙ ap (λ r. h ∷ r) (sym (add_less z a l q))
          ∙ sym (add_more z h (a ∷ l) e) ∙ ap (add z) (sym (add_less h a l p))
      go (less p) (same q r) ih =
          ap (add h) (add_same z a l q r) ∙ add_less h (join a z) l (j.right a z h ∙ p)
          ∙ ap (λ r. h ∷ r) (sym (add_same z a l q r)) ∙ sym (add_more z h (a ∷ l) e) ∙ ap (add z) (sym (add_less h a l p))
      go (less p) (more q) ih =
          ap (add h) (add_more z a l q) ∙ add_less h a (add z l) p ∙ ap (λ r. h ∷ r) (sym (add_more z a l q))
          ∙ sym (add_more z h (a ∷ l) e) ∙ ap (add z) (sym (add_less h a l p))
      go (same p r) (less q) ih = absurd_true (j.ordered.trans h z a e q) p
      go (same p r) (same q s) ih = absurd_true (j.ordered.weak h z a e s) p
      go (same p r) (more q) ih =
          ap (add h) (add_more z a l q) ∙ add_same h a (add z l) p r
          ∙ sym (add_more z (join a h) l (j.left a h z ∙ q)) ∙ ap (add z) (sym (add_same h a l p r))
      go (more p) (less q) ih = absurd_true (j.ordered.trans h z a e q) (j.ordered.asym a h p)
      go (more p) (same q s) ih = absurd_true (j.ordered.weak h z a e s) (j.ordered.asym a h p)
      go (more p) (more q) ih =
          ap (add h) (add_more z a l q) ∙ add_more h a (add z l) p ∙ ap (λ r. a ∷ r) ih
          ∙ sym (add_more z a (add h l) q) ∙ ap (add z) (sym (add_more h a l p))

  pub both_add : (h z : A) (l : List A) → before h z ≡ false → before z h ≡ false
      → add_by before join h (add_by before join z l) ≡ add_by before join (join z h) l
  unfolding add_by
  both_add h z [] e f = add_same h z [] e f
  both_add h z (a ∷ l) e f = go (places before z a) (both_add h z l e f)
    where
      go : Places before z a → add h (add z l) ≡ add (join z h) l → add h (add z (a ∷ l)) ≡ add (join z h) (a ∷ l)
      go (less p) ih =
          ap (add h) (add_less z a l p) ∙ add_same h z (a ∷ l) e f ∙ sym (add_less (join z h) a l (j.left z h a ∙ p))
      go (same p q) ih =
          ap (add h) (add_same z a l p q)
          ∙ add_same h (join a z) l (j.right a z h ∙ same_left h z a e p) (j.left a z h ∙ same_left a z h q f)
          ∙ ap (λ x. x ∷ l) (j.assoc a z h)
          ∙ sym (add_same (join z h) a l (j.left z h a ∙ p) (j.right z h a ∙ q))
      go (more p) ih =
          ap (add h) (add_more z a l p) ∙ add_more h a (add z l) (j.ordered.weak a z h p e)
          ∙ ap (λ r. a ∷ r) ih ∙ sym (add_more (join z h) a l (j.right z h a ∙ p))

  -- ---- the list stays strictly ascending
  ahead_add : (z h : A) (l : List A) → before z h ≡ true → Ahead before z l → Ahead before z (add_by before join h l)
  unfolding add_by
  ahead_add z h [] e a = (e, tt)
  ahead_add z h (y ∷ ys) e a = go (before h y) (before y h) (ahead_add z h ys e a.1)
    where
      go : (b c : Bool) → Ahead before z (add h ys)
          → Ahead before z (cond b (h ∷ y ∷ ys) (cond c (y ∷ add h ys) (join y h ∷ ys)))
      go true c i = (e, a)
      go false true i = (a.0, i)
      go false false i = (j.right y h z ∙ a.0, a.1)

  pub ascending_add : (h : A) (l : List A) → Ascending before l → Ascending before (add_by before join h l)
  unfolding add_by
  ascending_add h [] r = (tt, tt)
  ascending_add h (y ∷ ys) r = go (before h y) refl (before y h) refl (ascending_add h ys r.1)
    where
      go : (b : Bool) → before h y ≡ b → (c : Bool) → before y h ≡ c → Ascending before (add h ys)
          → Ascending before (cond b (h ∷ y ∷ ys) (cond c (y ∷ add h ys) (join y h ∷ ys)))
      go true e c f i = ((e, ahead_less j.ordered h y ys e r.0), r)
      go false e true f i = (ahead_add y h ys f r.0, i)
      go false e false f i = (each_weaken (λ z p. j.left y h z ∙ p) ys r.0, r.1)

  pub ascending_add_all : (xs ys : List A) → Ascending before xs → Ascending before (add_all_by before join xs ys)
  unfolding add_all_by
  ascending_add_all xs [] r = r
  ascending_add_all xs (y ∷ ys) r = ascending_add_all (add y xs) ys (ascending_add y xs r)

  -- ---- a part that is added up first
  slide : (h : A) (zs gs : List A) → Ahead before h zs → add_all (add h gs) zs ≡ add h (add_all gs zs)
  unfolding add_all_by
  slide h [] gs a = refl
  slide h (z ∷ zs) gs a = ap (λ l. add_all l zs) (sym (commute h z gs a.0)) ∙ slide h zs (add z gs) a.1

  one_later : (h : A) (l gs : List A) → Ascending before l → add_all gs (add h l) ≡ add h (add_all gs l)
  unfolding add_all_by add_by
  one_later h [] gs r = refl
  one_later h (z ∷ zs) gs r = go (places before h z) (one_later h zs (add z gs) r.1)
    where
      go : Places before h z → add_all (add z gs) (add h zs) ≡ add h (add_all (add z gs) zs)
          → add_all gs (add h (z ∷ zs)) ≡ add h (add_all (add z gs) zs)
      go (less p) ih =
          ap (add_all gs) (add_less h z zs p) ∙ ap (λ l. add_all l zs) (sym (commute h z gs p))
          ∙ slide h zs (add z gs) (ahead_less j.ordered h z zs p r.0)
      go (same p q) ih =
          ap (add_all gs) (add_same h z zs p q) ∙ ap (λ l. add_all l zs) (sym (both_add h z gs p q))
          ∙ slide h zs (add z gs) (each_weaken (λ y f. same_less h z y q f) zs r.0)
      go (more p) ih = ap (add_all gs) (add_more h z zs p) ∙ ih

  all_later : (hs l gs : List A) → Ascending before l → add_all gs (add_all l hs) ≡ add_all (add_all gs l) hs
  unfolding add_all_by
  all_later [] l gs r = refl
  all_later (h ∷ hs) l gs r = all_later hs (add h l) gs (ascending_add h l r) ∙ ap (λ x. add_all x hs) (one_later h l gs r)

  -- adding what was added up equals adding its elements one by one
  pub add_twice : (xs ys : List A) → add_all_by before join xs (add_all_by before join [] ys) ≡ add_all_by before join xs ys
  unfolding add_all_by
  add_twice xs ys = all_later ys [] xs tt

  -- the sum of two parts is the sum of their sums
  pub add_parts : (xs ys : List A)
      → add_all_by before join [] (xs ++ ys) ≡ add_all_by before join (add_all_by before join [] xs) (add_all_by before join [] ys)
  add_parts xs ys = add_all_append before join [] xs ys ∙ sym (add_twice (add_all [] xs) ys)
