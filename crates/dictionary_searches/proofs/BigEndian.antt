-- Eight bytes as one number: the numbers are in the order of the bytes.
use Prim.Native.Nat.{ℕ, zero, suc, ◌+◌, ◌*◌, ◌≤◌, ◌<◌}
use native.Mathlib.Omega.{arith}
use native.Mathlib.Numerals.{add-one}
use mathlib.Core.Path.{◌≡◌, refl, sym, ◌∙◌, ap, ap₂}
use mathlib.Core.List.{List, [], ◌∷◌}
use lib.ListN.{length, get_or, drop, length-drop}
use lib.Seq.{drop-cons, drop-drop, get_or-drop}
use Rattle.sequences.proofs.Orders.{Three, less, same, more, three}
use Rattle.std.specs.declared.cmp.Ordering.TheVariants.{Less, Greater}
use Rattle.dictionaries.specs.Lookups.{precedence}
use Rattle.dictionaries.proofs.Searching.{precedence_less, precedence_more, precedence_same}
use Rattle.dictionary_searches.specs.BigEndian.{big_endian}

-- each element of a list is a byte
abbrev pub Bytes : List ℕ → Type 0
Bytes bs = (i : ℕ) → get_or bs i 0 < 256

-- ---- a number is less, whatever comes behind it
big_less : (n v w : ℕ) (xs ys : List ℕ) → n ≤ length xs → n ≤ length ys → Bytes xs → Bytes ys → v < w → big_endian v n xs < big_endian w n ys
unfolding big_endian
big_less zero v w xs ys a b f g h = h
big_less (suc n) v w [] ys a b f g h = absurd (omega arith)
big_less (suc n) v w (x ∷ xs) [] a b f g h = absurd (omega arith)
big_less (suc n) v w (x ∷ xs) (y ∷ ys) a b f g h =
    let l = f 0 in
    big_less n (v * 256 + x) (w * 256 + y) xs ys (omega arith) (omega arith) (λ i. f (suc i)) (λ i. g (suc i)) (omega arith)

-- ---- what the numbers of the first n bytes say of the strings
pub record Tells (n v : ℕ) (xs ys : List ℕ) : Type 0 where
  pub if_less : big_endian v n xs < big_endian v n ys → precedence xs ys ≡ Less
  pub if_more : big_endian v n ys < big_endian v n xs → precedence xs ys ≡ Greater
  pub if_same : big_endian v n xs ≡ big_endian v n ys → precedence xs ys ≡ precedence (drop n xs) (drop n ys)

pub tells : (n v : ℕ) (xs ys : List ℕ) → n ≤ length xs → n ≤ length ys → Bytes xs → Bytes ys → Tells n v xs ys
unfolding big_endian
tells zero v xs ys a b f g = record { if_less = λ h. absurd (omega arith); if_more = λ h. absurd (omega arith); if_same = λ h. refl }
tells (suc n) v [] ys a b f g = absurd (omega arith)
tells (suc n) v (x ∷ xs) [] a b f g = absurd (omega arith)
tells (suc n) v (x ∷ xs) (y ∷ ys) a b f g = go (three x y) (tells n (v * 256 + x) xs ys (omega arith) (omega arith) (λ i. f (suc i)) (λ i. g (suc i)))
  where
    go : Three x y → Tells n (v * 256 + x) xs ys → Tells (suc n) v (x ∷ xs) (y ∷ ys)
    go (less h) t =
        let l = big_less n (v * 256 + x) (v * 256 + y) xs ys (omega arith) (omega arith) (λ i. f (suc i)) (λ i. g (suc i)) (omega arith) in
        record {
          if_less = λ k. precedence_less {x = x} {y = y} xs ys h;
          if_more = λ k. absurd (omega arith);
          if_same = λ k. absurd (omega arith);
        }
    go (more h) t =
        let l = big_less n (v * 256 + y) (v * 256 + x) ys xs (omega arith) (omega arith) (λ i. g (suc i)) (λ i. f (suc i)) (omega arith) in
        record {
          if_less = λ k. absurd (omega arith);
          if_more = λ k. precedence_more {x = x} {y = y} xs ys h;
          if_same = λ k. absurd (omega arith);
        }
    go (same h) t =
        let e : big_endian (v * 256 + y) n ys ≡ big_endian (v * 256 + x) n ys = ap (λ z. big_endian (v * 256 + z) n ys) (sym h) in
        record {
          if_less = λ k. precedence_same {x = x} {y = y} xs ys h ∙ t.if_less (omega arith);
          if_more = λ k. precedence_same {x = x} {y = y} xs ys h ∙ t.if_more (omega arith);
          if_same = λ k. precedence_same {x = x} {y = y} xs ys h ∙ t.if_same (omega arith);
        }

-- ---- from a place on
module _ (xs ys : List ℕ) (i : ℕ) (a : i + 8 ≤ length xs) (b : i + 8 ≤ length ys) (f : Bytes xs) (g : Bytes ys) where
  later : (bs : List ℕ) → Bytes bs → Bytes (drop i bs)
  later bs h j = let e = get_or-drop i bs j 0 in omega (arith, h (i + j))

  pub eight_tells : Tells 8 0 (drop i xs) (drop i ys)
  eight_tells =
      tells 8 0 (drop i xs) (drop i ys) (omega (arith, length-drop i xs)) (omega (arith, length-drop i ys)) (later xs f) (later ys g)

  pub eight_same : big_endian 0 8 (drop i xs) ≡ big_endian 0 8 (drop i ys)
      → precedence (drop i xs) (drop i ys) ≡ precedence (drop (i + 8) xs) (drop (i + 8) ys)
  eight_same e = eight_tells.if_same e ∙ ap₂ precedence (drop-drop 8 i xs) (drop-drop 8 i ys)

-- ---- a byte more
byte_more : (bs : List ℕ) (v w n i k : ℕ) → i < length bs → k ≡ i + 1 → w ≡ v * 256 + get_or bs i 0
    → big_endian v (suc n) (drop i bs) ≡ big_endian w n (drop k bs)
unfolding big_endian
byte_more bs v w n i k h e f = rw (e, f, add-one i, drop-cons bs i 0 h) refl

byte_none : (bs : List ℕ) (v : ℕ) → big_endian v 0 bs ≡ v
unfolding big_endian
byte_none bs v = refl

-- eight of them
pub eight_bytes : (bs : List ℕ) (i a b c d e f g h : ℕ) → i + 8 ≤ length bs
    → a ≡ 0 * 256 + get_or bs i 0 → b ≡ a * 256 + get_or bs (i + 1) 0 → c ≡ b * 256 + get_or bs (i + 2) 0 → d ≡ c * 256 + get_or bs (i + 3) 0
    → e ≡ d * 256 + get_or bs (i + 4) 0 → f ≡ e * 256 + get_or bs (i + 5) 0 → g ≡ f * 256 + get_or bs (i + 6) 0 → h ≡ g * 256 + get_or bs (i + 7) 0
    → h ≡ big_endian 0 8 (drop i bs)
eight_bytes bs i a b c d e f g h l pa pb pc pd pe pf pg ph =
    sym
    (byte_more bs 0 a 7 i (i + 1) (omega arith) refl pa
    ∙ (byte_more bs a b 6 (i + 1) (i + 2) (omega arith) (omega arith) pb
    ∙ (byte_more bs b c 5 (i + 2) (i + 3) (omega arith) (omega arith) pc
    ∙ (byte_more bs c d 4 (i + 3) (i + 4) (omega arith) (omega arith) pd
    ∙ (byte_more bs d e 3 (i + 4) (i + 5) (omega arith) (omega arith) pe
    ∙ (byte_more bs e f 2 (i + 5) (i + 6) (omega arith) (omega arith) pf
    ∙ (byte_more bs f g 1 (i + 6) (i + 7) (omega arith) (omega arith) pg
    ∙ (byte_more bs g h 0 (i + 7) (i + 8) (omega arith) (omega arith) ph ∙ byte_none (drop (i + 8) bs) h))))))))

-- the first four
pub four_bytes : (bs : List ℕ) → 4 ≤ length bs
    → ((get_or bs 0 0 * 256 + get_or bs 1 0) * 256 + get_or bs 2 0) * 256 + get_or bs 3 0 ≡ big_endian 0 4 bs
unfolding big_endian
four_bytes [] h = absurd (omega arith)
four_bytes (a ∷ []) h = absurd (omega arith)
four_bytes (a ∷ b ∷ []) h = absurd (omega arith)
four_bytes (a ∷ b ∷ c ∷ []) h = absurd (omega arith)
four_bytes (a ∷ b ∷ c ∷ d ∷ bs) h = omega arith

-- by four and four
pub two_fours : (bs : List ℕ) (i v w : ℕ) → i + 8 ≤ length bs
    → v ≡ ((get_or bs i 0 * 256 + get_or bs (i + 1) 0) * 256 + get_or bs (i + 2) 0) * 256 + get_or bs (i + 3) 0
    → w ≡ ((get_or bs (i + 4) 0 * 256 + get_or bs (i + 5) 0) * 256 + get_or bs (i + 6) 0) * 256 + get_or bs (i + 7) 0
    → v * 4294967296 + w ≡ big_endian 0 8 (drop i bs)
two_fours bs i v w l p q =
    let a = 0 * 256 + get_or bs i 0 in
    let b = a * 256 + get_or bs (i + 1) 0 in
    let c = b * 256 + get_or bs (i + 2) 0 in
    let d = c * 256 + get_or bs (i + 3) 0 in
    let e = d * 256 + get_or bs (i + 4) 0 in
    let f = e * 256 + get_or bs (i + 5) 0 in
    let g = f * 256 + get_or bs (i + 6) 0 in
    let h = g * 256 + get_or bs (i + 7) 0 in
    let z : v * 4294967296 + w ≡ h = omega (arith, p, q) in
    z ∙ eight_bytes bs i a b c d e f g h l refl refl refl refl refl refl refl refl
