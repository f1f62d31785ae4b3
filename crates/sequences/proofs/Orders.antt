-- Strict orders in which "neither comes before the other" is transitive, and the lexicographic order as one.
use Prim.Native.Nat.{ℕ, ◌<◌}
use native.Mathlib.Omega.{arith}
use native.Mathlib.Decide.{dec_lt}
use mathlib.Core.Path.{◌≡◌, refl, sym, ◌∙◌, ap₂}
use mathlib.Core.Bool.{Bool, true, false, true≢false}
use mathlib.Core.List.{List, [], ◌∷◌}
use lib.ListN.{length}
use borrow.Author.Tests.{lt-ltb, le-ltb, eq-eqb, ne_eqb}
use Rattle.sequences.specs.Sequences.{lex_before}
use Rattle.sequences.proofs.Booleans.{absurd_true}

pub record Ordered {A : Type 0} (before : A → A → Bool) : Type 0 where
  pub trans : (a b c : A) → before a b ≡ true → before b c ≡ true → before a c ≡ true
  pub asym : (a b : A) → before a b ≡ true → before b a ≡ false
  pub weak : (a b c : A) → before a b ≡ true → before c b ≡ false → before a c ≡ true

-- ---- numbers, three ways
pub data Three (x y : ℕ) : Type 0 where
  less : x < y → Three x y
  same : x ≡ y → Three x y
  more : y < x → Three x y

pub three : (x y : ℕ) → Three x y
three x y = elim (dec_lt x y) [ yes h ↦ less h | no h ↦ elim (dec_lt y x) [ yes k ↦ more k | no k ↦ same (omega arith) ] ]

-- ---- lists, by their heads
module _ {x y : ℕ} (xs ys : List ℕ) where
  pub lex_less : x < y → lex_before (x ∷ xs) (y ∷ ys) ≡ true
  unfolding lex_before
  lex_less h = rw (lt-ltb x y h)

  pub lex_same : x ≡ y → lex_before (x ∷ xs) (y ∷ ys) ≡ lex_before xs ys
  unfolding lex_before
  lex_same h = rw (le-ltb x y (omega arith), eq-eqb x y h)

  pub lex_more : y < x → lex_before (x ∷ xs) (y ∷ ys) ≡ false
  unfolding lex_before
  lex_more h = rw (le-ltb x y (omega arith), ne_eqb x y (λ e. omega arith))

pub lex_trans : (xs ys zs : List ℕ) → lex_before xs ys ≡ true → lex_before ys zs ≡ true → lex_before xs zs ≡ true
unfolding lex_before
lex_trans xs ys [] p q = q
lex_trans xs [] (c ∷ zs) p q = absurd (true≢false (sym q))
lex_trans [] (b ∷ ys) (c ∷ zs) p q = p
lex_trans (a ∷ xs) (b ∷ ys) (c ∷ zs) p q = go (three a b) (three b c) (lex_trans xs ys zs)
  where
    go : Three a b → Three b c → (lex_before xs ys ≡ true → lex_before ys zs ≡ true → lex_before xs zs ≡ true)
        → lex_before (a ∷ xs) (c ∷ zs) ≡ true
    go (less h) (less k) ih = lex_less {x = a} {y = c} xs zs (omega arith)
    go (less h) (same k) ih = lex_less {x = a} {y = c} xs zs (omega arith)
    go (less h) (more k) ih = absurd_true q (lex_more ys zs k)
    go (same h) (less k) ih = lex_less {x = a} {y = c} xs zs (omega arith)
    go (same h) (same k) ih = lex_same xs zs (h ∙ k) ∙ ih (sym (lex_same xs ys h) ∙ p) (sym (lex_same ys zs k) ∙ q)
    go (same h) (more k) ih = absurd_true q (lex_more ys zs k)
    go (more h) k ih = absurd_true p (lex_more xs ys h)

pub lex_asym : (xs ys : List ℕ) → lex_before xs ys ≡ true → lex_before ys xs ≡ false
unfolding lex_before
lex_asym xs [] p = absurd (true≢false (sym p))
lex_asym [] (b ∷ ys) p = refl
lex_asym (a ∷ xs) (b ∷ ys) p = go (three a b) (lex_asym xs ys)
  where
    go : Three a b → (lex_before xs ys ≡ true → lex_before ys xs ≡ false) → lex_before (b ∷ ys) (a ∷ xs) ≡ false
    go (less h) ih = lex_more ys xs h
    go (same h) ih = lex_same ys xs (sym h) ∙ ih (sym (lex_same xs ys h) ∙ p)
    go (more h) ih = absurd_true p (lex_more xs ys h)

-- the third list is as long as the second
pub lex_weak : (xs ys zs : List ℕ) → length zs ≡ length ys → lex_before xs ys ≡ true → lex_before zs ys ≡ false
    → lex_before xs zs ≡ true
unfolding lex_before
lex_weak xs [] zs l p q = absurd (true≢false (sym p))
lex_weak xs (b ∷ ys) [] l p q = absurd (omega (arith, l))
lex_weak [] (b ∷ ys) (c ∷ zs) l p q = p
lex_weak (a ∷ xs) (b ∷ ys) (c ∷ zs) l p q = go (three a b) (three c b) (lex_weak xs ys zs (omega (arith, l)))
  where
    go : Three a b → Three c b → (lex_before xs ys ≡ true → lex_before zs ys ≡ false → lex_before xs zs ≡ true)
        → lex_before (a ∷ xs) (c ∷ zs) ≡ true
    go h (less k) ih = absurd_true (lex_less zs ys k) q
    go (less h) (same k) ih = lex_less {x = a} {y = c} xs zs (omega arith)
    go (less h) (more k) ih = lex_less {x = a} {y = c} xs zs (omega arith)
    go (same h) (same k) ih = lex_same xs zs (h ∙ sym k) ∙ ih (sym (lex_same xs ys h) ∙ p) (sym (lex_same zs ys k) ∙ q)
    go (same h) (more k) ih = lex_less {x = a} {y = c} xs zs (omega arith)
    go (more h) (same k) ih = absurd_true p (lex_more xs ys h)
    go (more h) (more k) ih = absurd_true p (lex_more xs ys h)

-- lists of one length of which neither comes before the other are the same
pub lex_equal : (xs ys : List ℕ) → length xs ≡ length ys → lex_before xs ys ≡ false → lex_before ys xs ≡ false → xs ≡ ys
lex_equal [] [] l p q = refl
lex_equal [] (y ∷ ys) l p q = absurd (omega (arith, l))
lex_equal (x ∷ xs) [] l p q = absurd (omega (arith, l))
lex_equal (x ∷ xs) (y ∷ ys) l p q = go (three x y) (lex_equal xs ys (omega (arith, l)))
  where
    go : Three x y → (lex_before xs ys ≡ false → lex_before ys xs ≡ false → xs ≡ ys) → x ∷ xs ≡ y ∷ ys
    go (less h) ih = absurd_true (lex_less xs ys h) p
    go (same h) ih = ap₂ ◌∷◌ h (ih (sym (lex_same xs ys h) ∙ p) (sym (lex_same ys xs (sym h)) ∙ q))
    go (more h) ih = absurd_true (lex_less ys xs h) q

-- the order of things by lists of one length that they have
pub lex_ordered : {A : Type 0} (f : A → List ℕ) (n : ℕ) → ((a : A) → length (f a) ≡ n)
    → Ordered (λ x y. lex_before (f x) (f y))
lex_ordered f n l =
    record {
      trans = λ a b c. lex_trans (f a) (f b) (f c);
      asym = λ a b. lex_asym (f a) (f b);
      weak = λ a b c. lex_weak (f a) (f b) (f c) (l c ∙ sym (l b));
    }
