-- Strings put one behind the other, and cut again at their ends.
use Prim.Native.Nat.{ℕ, suc, ◌+◌, ◌-◌, ◌<◌}
use native.Mathlib.Omega.{arith}
use mathlib.Core.Path.{◌≡◌, refl, sym, ◌∙◌, ap, ap₂}
use mathlib.Core.Bool.{true}
use mathlib.Core.List.{List, [], ◌∷◌, ◌++◌, flatten}
use lib.Dec.{leb}
use lib.ListN.{length, get_or, take, drop, length-append, take-append-drop, drop_of_length-le}
use lib.Seq.{take-append_seam, drop-append_seam, drop-drop}
use borrow.Author.Tests.{le-leb, leb-true, eq-eqb, eqb-true}
use Rattle.sequences.proofs.Booleans.{and_left, and_right, and_both}
use Rattle.dictionaries.specs.Dictionaries.{byte_range, strings_from, ends_right}
use Rattle.dictionary_numberings.specs.Numbering.{ends_after}

pub ends_length : (a : ℕ) (ss : List (List ℕ)) → length (ends_after a ss) ≡ length ss
unfolding ends_after
ends_length a [] = refl
ends_length a (s ∷ ss) = ap suc (ends_length (a + length s) ss)

pub ends_cut : (n a : ℕ) (ss : List (List ℕ)) → a + length (flatten ss) ≡ n → ends_right n a (ends_after a ss) ≡ true
unfolding ends_after ends_right flatten
ends_cut n a [] h = eq-eqb a n (omega arith)
ends_cut n a (s ∷ ss) h =
    let l = length-append s (flatten ss) in
    and_both _ _ (le-leb a (a + length s) (omega arith)) (ends_cut n (a + length s) ss (omega arith))

pub strings_cut : (bytes : List ℕ) (a : ℕ) (ss : List (List ℕ)) → drop a bytes ≡ flatten ss → strings_from bytes a (ends_after a ss) ≡ ss
unfolding ends_after strings_from flatten
strings_cut bytes a [] h = refl
strings_cut bytes a (s ∷ ss) h =
    let n : a + length s - a ≡ length s = omega arith in
    ap₂ ◌∷◌ (ap₂ (λ k l. take k l) n h ∙ take-append_seam s (flatten ss))
    (strings_cut bytes (a + length s) ss (sym (drop-drop (length s) a bytes) ∙ (ap (drop (length s)) h ∙ drop-append_seam s (flatten ss))))

-- strings that ends cut off, put together again, are the bytes
pub strings_joined : (bytes : List ℕ) (a : ℕ) (ends : List ℕ) → ends_right (length bytes) a ends ≡ true
    → flatten (strings_from bytes a ends) ≡ drop a bytes
unfolding ends_right strings_from flatten
strings_joined bytes a [] h = let e = eqb-true a (length bytes) h in sym (drop_of_length-le bytes {i = a} (omega arith))
strings_joined bytes a (e ∷ es) h =
    let l = leb-true a e (and_left (leb a e) _ h) in
    let n : a + (e - a) ≡ e = omega arith in
    ap (λ t. byte_range bytes a e ++ t)
    (strings_joined bytes e es (and_right (leb a e) _ h) ∙ (ap (λ k. drop k bytes) (sym n) ∙ sym (drop-drop (e - a) a bytes)))
    ∙ take-append-drop (e - a) (drop a bytes)

-- the last of them is the number of bytes: so this is below what all of them are below
pub ends_below : (m n a : ℕ) (ends : List ℕ) → ends_right n a ends ≡ true → a < m → ((i : ℕ) → get_or ends i 0 < m) → n < m
unfolding ends_right
ends_below m n a [] h l f = let e = eqb-true a n h in omega arith
ends_below m n a (e ∷ es) h l f = ends_below m n e es (and_right (leb a e) _ h) (f 0) (λ i. f (suc i))
