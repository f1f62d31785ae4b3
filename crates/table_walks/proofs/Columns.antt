-- Laws of columns compared from the last to the first: what one of them adds, and that a sum and a comparison say it.
use Rattle.std.proofs.Common.{◌≡◌, ℕ, ◌+◌, ◌%◌, ◌<◌, ◌≤◌, Bool, true, false, cond, ltb, leb, ◌⊎◌, List, length, get_or, drop, sym, refl, ◌∙◌, inl, inr, ⊎_elim}
use Rattle.std.proofs.Common.{arith, ltb-true, le-ltb, lt-ltb, le-leb, leb-true}
use Rattle.std.specs.Int.{from_bool}
use borrow.Author.Tests.{lt-leb}
use Rattle.sequences.specs.Sequences.{lex_before}
use Rattle.sequences.proofs.Booleans.{absurd_true}
use Rattle.sequences.proofs.Orders.{Three, less, same, more, three}
use Rattle.tables.proofs.Sides.{from_less, from_same, from_more}

-- ---- a key against another, where it is known what the columns after it say
less_says : (x y : ℕ) → x < y → (after : Bool) → cond after (leb x y) (ltb x y) ≡ true
less_says x y h true = le-leb x y (omega arith)
less_says x y h false = lt-ltb x y h

same_says : (x y : ℕ) → x ≡ y → (after : Bool) → cond after (leb x y) (ltb x y) ≡ after
same_says x y h true = le-leb x y (omega arith)
same_says x y h false = le-ltb x y (omega arith)

more_says : (x y : ℕ) → y < x → (after : Bool) → cond after (leb x y) (ltb x y) ≡ false
more_says x y h true = lt-leb x y h
more_says x y h false = le-ltb x y (omega arith)

-- a column more
pub column_says : (xs ys : List ℕ) (k : ℕ) → k < length xs → k < length ys
    → cond (lex_before (drop (k + 1) xs) (drop (k + 1) ys)) (leb (get_or xs k 0) (get_or ys k 0)) (ltb (get_or xs k 0) (get_or ys k 0))
    ≡ lex_before (drop k xs) (drop k ys)
column_says xs ys k hx hy = go (three (get_or xs k 0) (get_or ys k 0))
  where
    go : Three (get_or xs k 0) (get_or ys k 0)
        → cond (lex_before (drop (k + 1) xs) (drop (k + 1) ys)) (leb (get_or xs k 0) (get_or ys k 0)) (ltb (get_or xs k 0) (get_or ys k 0))
        ≡ lex_before (drop k xs) (drop k ys)
    go (less h) = less_says _ _ h (lex_before (drop (k + 1) xs) (drop (k + 1) ys)) ∙ sym (from_less xs ys k hx hy h)
    go (same h) = same_says _ _ h (lex_before (drop (k + 1) xs) (drop (k + 1) ys)) ∙ sym (from_same xs ys k hx hy h)
    go (more h) = more_says _ _ h (lex_before (drop (k + 1) xs) (drop (k + 1) ys)) ∙ sym (from_more xs ys k hx hy h)

-- ---- the same by a sum that may be too great
pub from_bool-few : (b : Bool) → from_bool b ≤ 1
from_bool-few true = omega arith
from_bool-few false = omega arith

-- one of two tests at least says yes
one_says : (a b : Bool) (c : Bool) → (a ≡ true → c ≡ true) → (b ≡ true → c ≡ true) → (c ≡ true → (a ≡ true) ⊎ (b ≡ true))
    → ltb 0 (from_bool a + from_bool b) ≡ c
one_says true b true f g h = lt-ltb 0 (1 + from_bool b) (omega arith)
one_says true b false f g h = absurd_true (f refl) refl
one_says false true true f g h = refl
one_says false true false f g h = absurd_true (g refl) refl
one_says false false true f g h = ⊎_elim (λ e. absurd_true e refl) (λ e. absurd_true e refl) (h refl)
one_says false false false f g h = refl

-- the least number that is no long word
abbrev pub longs : ℕ
longs = 18446744073709551616

-- where the columns after a key say yes, one more than the later key: where that is no long word, nothing is greater than the key
pub sum_says : (x y sum : ℕ) (after : Bool) → x < longs → y < longs → sum ≡ (y + from_bool after) % longs
    → ltb 0 (from_bool (ltb x sum) + from_bool (ltb sum y)) ≡ cond after (leb x y) (ltb x y)
sum_says x y sum true hx hy e =
    one_says (ltb x sum) (ltb sum y) (leb x y)
    (λ h. le-leb x y (omega (arith, ltb-true x sum h)))
    (λ h. le-leb x y (omega (arith, ltb-true sum y h)))
    (λ h. go (three (y + 1) longs) (leb-true x y h))
  where
    go : Three (y + 1) longs → x ≤ y → (ltb x sum ≡ true) ⊎ (ltb sum y ≡ true)
    go (less k) h = inl (lt-ltb x sum (omega arith))
    go (same k) h = inr (lt-ltb sum y (omega arith))
    go (more k) h = absurd (omega arith)
sum_says x y sum false hx hy e =
    let n : sum ≡ y = omega arith in
    rw (n, le-ltb y y (omega arith)) (one_says (ltb x y) false (ltb x y) (λ h. h) (λ h. absurd_true h refl) inl)
