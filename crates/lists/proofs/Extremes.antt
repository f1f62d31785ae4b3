-- The lesser and the greater of two numbers, each of which may be unbound: associative on any words, and on numbers and
-- unbound commutative, again a number or unbound, and one of the two.
use Prim.Native.Nat.{ℕ}
use native.Mathlib.Omega.{arith}
use mathlib.Core.Path.{◌≡◌, refl, sym, ◌∙◌}
use mathlib.Core.Bool.{Bool, true, false, cond}
use lib.Dec.{eqb, leb}
use borrow.Author.Tests.{eqb-true, eqb-false, ne_eqb, leb-true, leb-false, le-leb, lt-leb}
use Rattle.words.specs.Words.{is_number, term_kind, number_kind, value_rank, unbound}
use Rattle.words.proofs.Ranks.{rank_one}
use Rattle.lists.specs.Groups.{lesser, greater}

-- ---- any choice of two words, and unbound beside it
abbrev or_other : (ℕ → ℕ → ℕ) → ℕ → ℕ → ℕ
or_other op a b = cond (eqb a unbound) b (cond (eqb b unbound) a (op a b))

module _ (op : ℕ → ℕ → ℕ) (stays : (a b : ℕ) → (a ≡ unbound → ⊥) → (b ≡ unbound → ⊥) → op a b ≡ unbound → ⊥) where
  or_assoc : (a b c : ℕ) → op (op a b) c ≡ op a (op b c) → or_other op (or_other op a b) c ≡ or_other op a (or_other op b c)
  or_assoc a b c assoc = go (eqb a unbound) refl (eqb b unbound) refl (eqb c unbound) refl
    where
      go : (x : Bool) → eqb a unbound ≡ x → (y : Bool) → eqb b unbound ≡ y → (z : Bool) → eqb c unbound ≡ z
          → or_other op (or_other op a b) c ≡ or_other op a (or_other op b c)
      go true p y q z r = simp p
      go false p true q z r = simp (p, q)
      go false p false q true r =
          simp (p, q, r, ne_eqb (op a b) unbound (stays a b (eqb-false a unbound p) (eqb-false b unbound q)))
      go false p false q false r =
          simp (
            p,
            q,
            r,
            ne_eqb (op a b) unbound (stays a b (eqb-false a unbound p) (eqb-false b unbound q)),
            ne_eqb (op b c) unbound (stays b c (eqb-false b unbound q) (eqb-false c unbound r)),
            assoc,
          )

-- the first of the least, the last of the greatest, in the order of some rank
module _ (rank : ℕ → ℕ) where
  abbrev first : ℕ → ℕ → ℕ
  first a b = cond (leb (rank a) (rank b)) a b

  abbrev last : ℕ → ℕ → ℕ
  last a b = cond (leb (rank a) (rank b)) b a

  both_assoc : (a b c : ℕ) → (first (first a b) c ≡ first a (first b c)) × (last (last a b) c ≡ last a (last b c))
  both_assoc a b c = go (leb (rank a) (rank b)) refl (leb (rank b) (rank c)) refl
    where
      go : (x : Bool) → leb (rank a) (rank b) ≡ x → (y : Bool) → leb (rank b) (rank c) ≡ y
          → (first (first a b) c ≡ first a (first b c)) × (last (last a b) c ≡ last a (last b c))
      go true p true q =
          let h = leb-true (rank a) (rank b) p in
          let k = leb-true (rank b) (rank c) q in
          let e = le-leb (rank a) (rank c) (omega arith) in
          (simp (p, q, e), simp (p, q, e))
      go true p false q = (simp (p, q), simp (p, q))
      go false p true q = (simp (p, q), simp (p, q))
      go false p false q =
          let h = leb-false (rank a) (rank b) p in
          let k = leb-false (rank b) (rank c) q in
          let e = lt-leb (rank a) (rank c) (omega arith) in
          (simp (p, q, e), simp (p, q, e))

-- a choice of two is one of them
one_of : (x : Bool) (a b c : ℕ) → (a ≡ c → ⊥) → (b ≡ c → ⊥) → cond x a b ≡ c → ⊥
one_of true a b c p q e = p e
one_of false a b c p q e = q e

pub lesser_assoc : (a b c : ℕ) → lesser (lesser a b) c ≡ lesser a (lesser b c)
unfolding lesser
lesser_assoc a b c =
    or_assoc (first value_rank) (λ x y p q. one_of (leb (value_rank x) (value_rank y)) x y unbound p q) a b c
    (both_assoc value_rank a b c).0

pub greater_assoc : (a b c : ℕ) → greater (greater a b) c ≡ greater a (greater b c)
unfolding greater
greater_assoc a b c =
    or_assoc (last value_rank) (λ x y p q. one_of (leb (value_rank x) (value_rank y)) y x unbound q p) a b c
    (both_assoc value_rank a b c).1

-- ---- numbers and unbound
pub number_bound : (a : ℕ) → is_number a ≡ true → eqb a unbound ≡ false
number_bound a h = ne_eqb a unbound (λ e. let k = eqb-true (term_kind a) number_kind h in omega arith)

-- numbers of one rank are one word
pub number_same : (a b : ℕ) → is_number a ≡ true → is_number b ≡ true → value_rank a ≡ value_rank b → a ≡ b
number_same a b p q e =
    let h = eqb-true (term_kind a) number_kind p in
    let k = eqb-true (term_kind b) number_kind q in
    rank_one a b (h ∙ sym k) e

-- beside unbound the other one stays
pub lesser_unbound : (b : ℕ) → lesser unbound b ≡ b
unfolding lesser
lesser_unbound b = refl

pub greater_unbound : (b : ℕ) → greater unbound b ≡ b
unfolding greater
greater_unbound b = refl

pub unbound_lesser : (a : ℕ) → is_number a ≡ true → lesser a unbound ≡ a
unfolding lesser
unbound_lesser a h = rw (number_bound a h)

pub unbound_greater : (a : ℕ) → is_number a ≡ true → greater a unbound ≡ a
unfolding greater
unbound_greater a h = rw (number_bound a h)

module _ (a b : ℕ) (p : is_number a ≡ true) (q : is_number b ≡ true) where
  -- of two numbers, the one whose rank is not above the other's
  pub lesser_numbers : lesser a b ≡ cond (leb (value_rank a) (value_rank b)) a b
  unfolding lesser
  lesser_numbers = rw (number_bound a p, number_bound b q)

  pub greater_numbers : greater a b ≡ cond (leb (value_rank a) (value_rank b)) b a
  unfolding greater
  greater_numbers = rw (number_bound a p, number_bound b q)

-- ---- the sequence of two does not matter
-- a number, or unbound
pub data Measured (w : ℕ) : Type 0 where
  nothing : w ≡ unbound → Measured w
  number : is_number w ≡ true → Measured w

both_comm : (a b : ℕ) → is_number a ≡ true → is_number b ≡ true
    → (first value_rank a b ≡ first value_rank b a) × (last value_rank a b ≡ last value_rank b a)
both_comm a b p q = go (leb (value_rank a) (value_rank b)) refl (leb (value_rank b) (value_rank a)) refl
  where
    go : (x : Bool) → leb (value_rank a) (value_rank b) ≡ x → (y : Bool) → leb (value_rank b) (value_rank a) ≡ y
        → (first value_rank a b ≡ first value_rank b a) × (last value_rank a b ≡ last value_rank b a)
    go true e true f =
        let h = leb-true (value_rank a) (value_rank b) e in
        let k = leb-true (value_rank b) (value_rank a) f in
        let s : a ≡ b = number_same a b p q (omega arith) in
        (simp (e, f) s, simp (e, f) (sym s))
    go true e false f = (simp (e, f), simp (e, f))
    go false e true f = (simp (e, f), simp (e, f))
    go false e false f =
        let h = leb-false (value_rank a) (value_rank b) e in
        let k = leb-false (value_rank b) (value_rank a) f in
        absurd (omega arith)

pub lesser_comm : (a b : ℕ) → Measured a → Measured b → lesser a b ≡ lesser b a
lesser_comm a b (nothing p) (nothing q) = rw (p, q)
lesser_comm a b (nothing p) (number q) = rw p (lesser_unbound b ∙ sym (unbound_lesser b q))
lesser_comm a b (number p) (nothing q) = rw q (unbound_lesser a p ∙ sym (lesser_unbound a))
lesser_comm a b (number p) (number q) = lesser_numbers a b p q ∙ (both_comm a b p q).0 ∙ sym (lesser_numbers b a q p)

pub greater_comm : (a b : ℕ) → Measured a → Measured b → greater a b ≡ greater b a
greater_comm a b (nothing p) (nothing q) = rw (p, q)
greater_comm a b (nothing p) (number q) = rw p (greater_unbound b ∙ sym (unbound_greater b q))
greater_comm a b (number p) (nothing q) = rw q (unbound_greater a p ∙ sym (greater_unbound a))
greater_comm a b (number p) (number q) = greater_numbers a b p q ∙ (both_comm a b p q).1 ∙ sym (greater_numbers b a q p)
