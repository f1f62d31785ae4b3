-- The walk from the back over two lists of records: one step of it, what a map keeps of it, and that over two ascending
-- lists it makes the one added to the other.
use Prim.Native.Nat.{ℕ, zero, suc, ◌≤◌, ◌<◌}
use native.Mathlib.Omega.{arith}
use mathlib.Core.Path.{◌≡◌, refl, sym, ◌∙◌, ap}
use mathlib.Core.Bool.{Bool, true, false}
use mathlib.Core.List.{List, [], ◌∷◌, ◌++◌}
use Rattle.std.specs.declared.cmp.Ordering.{Ordering}
use Rattle.std.specs.declared.cmp.Ordering.TheVariants.{Less, Equal, Greater}
use Rattle.lists.specs.Groups.{add_all_by}
use Rattle.lists.specs.Sides.{side_by}
use Rattle.list_group_merges.specs.MergingBackwards.{by_side, BackWalk, walked, walked_in}
use Rattle.sequences.proofs.Each.{each_append}
use Rattle.sequences.proofs.EachMore.{each_weaken}
use Rattle.list_group_merges.proofs.AddingLast.{Below, last_old, last_new, last_both}

-- ---- one step
-- from i records of the first list and j of the second, where the last of both is the second's, the first's, or in both
pub data Goes : ℕ → ℕ → Ordering → ℕ → ℕ → Type 0 where
  new : {i q : ℕ} → Goes i (suc q) Less i q
  both : {p q : ℕ} → Goes (suc p) (suc q) Equal p q
  old : {p q : ℕ} → Goes (suc p) (suc q) Greater p (suc q)

abbrev pub step_by : {R : Type 0} → BackWalk R → Ordering → ℕ → ℕ → R → R
step_by v s p q r = by_side s (v.new q r) (v.both p q r) (v.old p r)

pub walk_end : {R : Type 0} (side : ℕ → ℕ → Ordering) (v : BackWalk R) (i : ℕ) → walked side v i 0 ≡ v.ends i
unfolding walked walked_in
walk_end side v zero = refl
walk_end side v (suc i) = refl

pub walk_goes : {R : Type 0} (side : ℕ → ℕ → Ordering) (v : BackWalk R) {i j : ℕ} {s : Ordering} {p q : ℕ} → side i j ≡ s → Goes i j s p q
    → walked side v i j ≡ step_by v s p q (walked side v p q)
unfolding walked walked_in
walk_goes side v e (new {i = zero}) = refl
walk_goes side v e (new {i = suc i}) = rw e
walk_goes side v e both = rw e
walk_goes side v e old = rw e

-- ---- what a map keeps, up to n records of the first list and m of the second
pub walk_map : {R S : Type 0} (side : ℕ → ℕ → Ordering) (v : BackWalk R) (u : BackWalk S) (f : R → S) (n m : ℕ)
    → ((i : ℕ) → i ≤ n → f (v.ends i) ≡ u.ends i)
    → ((q : ℕ) → q < m → (r : R) → f (v.new q r) ≡ u.new q (f r))
    → ((p : ℕ) → p < n → (r : R) → f (v.old p r) ≡ u.old p (f r))
    → ((p q : ℕ) → p < n → q < m → (r : R) → f (v.both p q r) ≡ u.both p q (f r))
    → (i j : ℕ) → i ≤ n → j ≤ m → f (walked side v i j) ≡ walked side u i j
unfolding walked walked_in
walk_map side v u f n m he hn ho hb zero zero a b = he 0 a
walk_map side v u f n m he hn ho hb zero (suc q) a b =
    hn q (omega arith) (walked side v zero q) ∙ ap (u.new q) (walk_map side v u f n m he hn ho hb zero q a (omega arith))
walk_map side v u f n m he hn ho hb (suc p) zero a b = he (suc p) a
walk_map side v u f n m he hn ho hb (suc p) (suc q) a b =
    go (side (suc p) (suc q)) (walk_map side v u f n m he hn ho hb (suc p) q a (omega arith))
    (walk_map side v u f n m he hn ho hb p (suc q) (omega arith) b)
    (walk_map side v u f n m he hn ho hb p q (omega arith) (omega arith))
  where
    go : (s : Ordering) → f (walked side v (suc p) q) ≡ walked side u (suc p) q
        → f (walked side v p (suc q)) ≡ walked side u p (suc q) → f (walked side v p q) ≡ walked side u p q
        → f (by_side s (v.new q (walked side v (suc p) q)) (v.both p q (walked side v p q)) (v.old p (walked side v p (suc q))))
        ≡ by_side s (u.new q (walked side u (suc p) q)) (u.both p q (walked side u p q)) (u.old p (walked side u p (suc q)))
    go Less x y z = hn q (omega arith) (walked side v (suc p) q) ∙ ap (u.new q) x
    go Equal x y z = hb p q (omega arith) (omega arith) (walked side v p q) ∙ ap (u.both p q) z
    go Greater x y z = ho p (omega arith) (walked side v p (suc q)) ∙ ap (u.old p) y

-- ---- over lists
-- the first n records
unfoldable pub first : {A : Type 0} → (ℕ → A) → ℕ → List A
first f zero = []
first f (suc n) = first f n ++ (f n ∷ [])

abbrev pub list_walk : {A : Type 0} → (A → A → A) → (ℕ → A) → (ℕ → A) → BackWalk (List A)
list_walk join f h =
    record {
      ends = first f;
      new = λ q r. r ++ (h q ∷ []);
      old = λ p r. r ++ (f p ∷ []);
      both = λ p q r. r ++ (join (f p) (h q) ∷ []);
    }

-- an order in which equals may take each other's place among elements that are alike
module _ {A : Type 0} (Alike : A → Type 0) (before : A → A → Bool) (join : A → A → A)
    (trans : (a b c : A) → before a b ≡ true → before b c ≡ true → before a c ≡ true)
    (asym : (a b : A) → before a b ≡ true → before b a ≡ false)
    (weak : (a b c : A) → Alike b → Alike c → before a b ≡ true → before c b ≡ false → before a c ≡ true)
    (left : (a b c : A) → before (join a b) c ≡ before a c)
    (f h : ℕ → A) (n m : ℕ) (af : (p : ℕ) → p < n → Alike (f p)) (ah : (q : ℕ) → q < m → Alike (h q))
    (bf : (p : ℕ) → p < n → Below before (f p) (first f p)) (bh : (q : ℕ) → q < m → Below before (h q) (first h q))
    (side : ℕ → ℕ → Ordering) (agree : (p q : ℕ) → p < n → q < m → side (suc p) (suc q) ≡ side_by before (f p) (h q)) where
  -- what comes before x comes before y as well
  below_trans : (x y : A) (l : List A) → before x y ≡ true → Below before x l → Below before y l
  below_trans x y l e b = each_weaken (λ z p. trans z x y p e) l b

  below_same : (x y : A) (l : List A) → Alike x → Alike y → before y x ≡ false → Below before x l → Below before y l
  below_same x y l a c e b = each_weaken (λ z p. weak z x y a c p e) l b

  below_last : (z x : A) (l : List A) → Below before z l → before x z ≡ true → Below before z (l ++ (x ∷ []))
  below_last z x l b e = each_append (λ y. before y z ≡ true) l (x ∷ []) b (e, tt)

  pub walk_adds : (i j : ℕ) → i ≤ n → j ≤ m → walked side (list_walk join f h) i j ≡ add_all_by before join (first f i) (first h j)
  unfolding walked walked_in first add_all_by
  walk_adds zero zero a b = refl
  walk_adds (suc p) zero a b = refl
  walk_adds zero (suc q) a b =
      ap (λ l. l ++ (h q ∷ [])) (walk_adds zero q a (omega arith))
      ∙ sym (last_new before join asym left (h q) (first h q) [] tt (bh q (omega arith)))
  walk_adds (suc p) (suc q) a b =
      go (before (f p) (h q)) refl (before (h q) (f p)) refl (walk_adds (suc p) q a (omega arith))
      (walk_adds p (suc q) (omega arith) b) (walk_adds p q (omega arith) (omega arith))
    where
      agrees : side (suc p) (suc q) ≡ side_by before (f p) (h q)
      agrees = agree p q (omega arith) (omega arith)

      lf : Below before (f p) (first f p)
      lf = bf p (omega arith)

      lh : Below before (h q) (first h q)
      lh = bh q (omega arith)

      go : (s : Bool) → before (f p) (h q) ≡ s → (t : Bool) → before (h q) (f p) ≡ t
          → walked side (list_walk join f h) (suc p) q ≡ add_all_by before join (first f (suc p)) (first h q)
          → walked side (list_walk join f h) p (suc q) ≡ add_all_by before join (first f p) (first h (suc q))
          → walked side (list_walk join f h) p q ≡ add_all_by before join (first f p) (first h q)
          → walked side (list_walk join f h) (suc p) (suc q) ≡ add_all_by before join (first f (suc p)) (first h (suc q))
      go true s t r x y z =
          let k : side (suc p) (suc q) ≡ Less = agrees ∙ rw s in
          rw k (ap (λ l. l ++ (h q ∷ [])) x
          ∙ sym (last_new before join asym left (h q) (first h q) (first f (suc p))
          (below_last (h q) (f p) (first f p) (below_trans (f p) (h q) (first f p) s lf) s) lh))
      go false s true r x y z =
          let k : side (suc p) (suc q) ≡ Greater = agrees ∙ rw (s, r) in
          rw k (ap (λ l. l ++ (f p ∷ [])) y
          ∙ sym (last_old before join asym left (f p) (first h (suc q)) (first f p)
          (below_last (f p) (h q) (first h q) (below_trans (h q) (f p) (first h q) r lh) r)))
      go false s false r x y z =
          let k : side (suc p) (suc q) ≡ Equal = agrees ∙ rw (s, r) in
          rw k (ap (λ l. l ++ (join (f p) (h q) ∷ [])) z
          ∙ sym (last_both before join asym left (f p) (h q) (first h q) (first f p)
          (below_same (h q) (f p) (first h q) (ah q (omega arith)) (af p (omega arith)) s lh)
          (below_same (f p) (h q) (first f p) (af p (omega arith)) (ah q (omega arith)) r lf) lh r s))
