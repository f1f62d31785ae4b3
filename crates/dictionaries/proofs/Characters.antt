-- Well-formed bytes character by character.
use Prim.Native.Nat.{ℕ, ◌+◌, ◌-◌, ◌*◌, ◌≤◌, ◌<◌}
use native.Mathlib.Omega.{arith}
use mathlib.Core.Path.{◌≡◌, refl, sym, ◌∙◌, ap, ap₂, subst, subst₂}
use mathlib.Core.Bool.{Bool, true, false, true≢false}
use mathlib.Core.Option.{Option, none, some}
use mathlib.Core.List.{List, [], ◌∷◌}
use lib.Dec.{leb}
use borrow.Author.Tests.{leb-true}
use Rattle.sequences.proofs.Booleans.{and_left, and_right, yes, no, decided}
use Rattle.sequences.proofs.Each.{Each}
use Rattle.dictionaries.specs.Utf8.{Span, span, is_in, trailing, Utf8Row, utf8_table, after_in, after_first}
use Rattle.dictionaries.specs.Utf8.{formed_from, well_formed, first_bits, six_more, code_points_from, code_points}

-- bytes and the code points that they stand for, by the bits of each byte
pub data Utf8Text : List ℕ → List ℕ → Type 0 where
  end : Utf8Text [] []
  one : {bs cs : List ℕ} {p : ℕ} → p < 0x80 → Utf8Text bs cs → Utf8Text (p ∷ bs) (p ∷ cs)
  two : {bs cs : List ℕ} {p q : ℕ} → p < 0x20 → q < 0x40 → 0x80 ≤ p * 64 + q → Utf8Text bs cs
      → Utf8Text ((0xC0 + p) ∷ (0x80 + q) ∷ bs) ((p * 64 + q) ∷ cs)
  three : {bs cs : List ℕ} {p q r : ℕ} → p < 0x10 → q < 0x40 → r < 0x40 → 0x800 ≤ (p * 64 + q) * 64 + r → Utf8Text bs cs
      → Utf8Text ((0xE0 + p) ∷ (0x80 + q) ∷ (0x80 + r) ∷ bs) (((p * 64 + q) * 64 + r) ∷ cs)
  four : {bs cs : List ℕ} {p q r s : ℕ} → p < 0x08 → q < 0x40 → r < 0x40 → s < 0x40 → 0x10000 ≤ ((p * 64 + q) * 64 + r) * 64 + s
      → ((p * 64 + q) * 64 + r) * 64 + s < 0x110000 → Utf8Text bs cs
      → Utf8Text ((0xF0 + p) ∷ (0x80 + q) ∷ (0x80 + r) ∷ (0x80 + s) ∷ bs) ((((p * 64 + q) * 64 + r) * 64 + s) ∷ cs)

in_least : (s : Span) (b : ℕ) → is_in s b ≡ true → s.least ≤ b
in_least s b e = leb-true s.least b (and_left (leb s.least b) (leb b s.greatest) e)

in_greatest : (s : Span) (b : ℕ) → is_in s b ≡ true → b ≤ s.greatest
in_greatest s b e = leb-true b s.greatest (and_right (leb s.least b) (leb b s.greatest) e)

-- what is still to come of a character, and then the rest
abbrev Unread : List ℕ → List Span → ℕ → List ℕ → Type 0
Unread bs [] c cs = (ds : List ℕ) × (cs ≡ c ∷ ds) × Utf8Text bs ds
Unread [] (s ∷ ss) c cs = ⊥
Unread (b ∷ bs) (s ∷ ss) c cs = (is_in s b ≡ true) × Unread bs ss (six_more c b) cs

-- ---- the characters, by how many bytes they have
one_text : (a : ℕ) (bs cs : List ℕ) → a ≤ 0x7F → Unread bs [] a cs → Utf8Text (a ∷ bs) cs
one_text a bs cs h t = subst (Utf8Text (a ∷ bs)) (sym t.1) (one (omega arith) t.2)

two_text : (a : ℕ) (bs cs : List ℕ) → 0xC2 ≤ a → a ≤ 0xDF → Unread bs (trailing ∷ []) (a - 0xC0) cs → Utf8Text (a ∷ bs) cs
two_text a [] cs h k t = absurd t
two_text a (b ∷ bs) cs h k t =
    let l = in_least trailing b t.0 in
    let g = in_greatest trailing b t.0 in
    let u : 0xC0 + (a - 0xC0) ≡ a = omega arith in
    let v : 0x80 + (b - 0x80) ≡ b = omega arith in
    subst₂ Utf8Text (ap₂ (λ x y. x ∷ y ∷ bs) u v) (sym t.1.1)
    (two {p = a - 0xC0} {q = b - 0x80} (omega arith) (omega arith) (omega arith) t.1.2)

module _ (a : ℕ) (s : Span) (above : 0x80 ≤ s.least) (below : s.greatest ≤ 0xBF) where
  three_text : (bs cs : List ℕ) → 0xE0 ≤ a → a ≤ 0xEF → 0x800 ≤ ((a - 0xE0) * 64 + (s.least - 0x80)) * 64
      → Unread bs (s ∷ trailing ∷ []) (a - 0xE0) cs → Utf8Text (a ∷ bs) cs
  three_text [] cs h k m t = absurd t
  three_text (b ∷ []) cs h k m t = absurd t.1
  three_text (b ∷ c ∷ bs) cs h k m t =
      let l = in_least s b t.0 in
      let g = in_greatest s b t.0 in
      let n = in_least trailing c t.1.0 in
      let o = in_greatest trailing c t.1.0 in
      let u : 0xE0 + (a - 0xE0) ≡ a = omega arith in
      let v : 0x80 + (b - 0x80) ≡ b = omega arith in
      let w : 0x80 + (c - 0x80) ≡ c = omega arith in
      subst₂ Utf8Text (ap₂ (λ x y. x ∷ y ∷ (0x80 + (c - 0x80)) ∷ bs) u v ∙ ap (λ z. a ∷ b ∷ z ∷ bs) w) (sym t.1.1.1)
      (three {p = a - 0xE0} {q = b - 0x80} {r = c - 0x80} (omega arith) (omega arith) (omega arith) (omega arith) t.1.1.2)

  four_text : (bs cs : List ℕ) → 0xF0 ≤ a → a ≤ 0xF7 → 0x10000 ≤ (((a - 0xF0) * 64 + (s.least - 0x80)) * 64) * 64
      → (((a - 0xF0) * 64 + (s.greatest - 0x80)) * 64 + 0x3F) * 64 + 0x3F < 0x110000 → Unread bs (s ∷ trailing ∷ trailing ∷ []) (a - 0xF0) cs
      → Utf8Text (a ∷ bs) cs
  four_text [] cs h k m m₂ t = absurd t
  four_text (b ∷ []) cs h k m m₂ t = absurd t.1
  four_text (b ∷ c ∷ []) cs h k m m₂ t = absurd t.1.1
  four_text (b ∷ c ∷ d ∷ bs) cs h k m m₂ t =
      let l = in_least s b t.0 in
      let g = in_greatest s b t.0 in
      let n = in_least trailing c t.1.0 in
      let o = in_greatest trailing c t.1.0 in
      let i = in_least trailing d t.1.1.0 in
      let j = in_greatest trailing d t.1.1.0 in
      let u : 0xF0 + (a - 0xF0) ≡ a = omega arith in
      let v : 0x80 + (b - 0x80) ≡ b = omega arith in
      let w : 0x80 + (c - 0x80) ≡ c = omega arith in
      let x : 0x80 + (d - 0x80) ≡ d = omega arith in
      subst₂ Utf8Text
      (ap₂ (λ x y. x ∷ y ∷ (0x80 + (c - 0x80)) ∷ (0x80 + (d - 0x80)) ∷ bs) u v ∙ ap₂ (λ y z. a ∷ b ∷ y ∷ z ∷ bs) w x)
      (sym t.1.1.1.1)
      (four {p = a - 0xF0} {q = b - 0x80} {r = c - 0x80} {s = d - 0x80}
      (omega arith) (omega arith) (omega arith) (omega arith) (omega arith) (omega arith) t.1.1.1.2)

-- ---- by the rows of the table
by_rows : (P : Option (List Span) → Type 0) (a : ℕ) (rs : List Utf8Row)
    → Each (λ (r : Utf8Row). is_in r.first a ≡ true → P (some r.after)) rs → P none → P (after_in rs a)
by_rows P a [] e n = n
by_rows P a (r ∷ rs) e n =
    elim (decided (is_in r.first a)) [ yes h ↦ rw h (e.0 h) | no h ↦ rw h (by_rows P a rs e.1 n) ]

-- the bytes after a first one that has been read
abbrev rest_formed : List ℕ → Option (List Span) → Bool
rest_formed bs o = elim o [ none ↦ false | some ss ↦ formed_from bs ss ]

abbrev rest_points : ℕ → List ℕ → Option (List Span) → List ℕ
rest_points a bs o = elim o [ none ↦ [] | some ss ↦ code_points_from bs ss (first_bits ss a) ]

first_text : (a : ℕ) (bs : List ℕ)
    → ((ss : List Span) → formed_from bs ss ≡ true → (c : ℕ) → Unread bs ss c (code_points_from bs ss c))
    → rest_formed bs (after_first a) ≡ true → Utf8Text (a ∷ bs) (rest_points a bs (after_first a))
unfolding after_first
first_text a bs ih =
    by_rows (λ o. rest_formed bs o ≡ true → Utf8Text (a ∷ bs) (rest_points a bs o)) a utf8_table (
      one_row_lem,
      (
        two_row,
        (
          three_row 0xE0 0xE0 0xA0 0xBF (omega arith) (omega arith) (λ k. omega arith) (λ k. omega arith) (λ k. omega arith),
          (
            three_row 0xE1 0xEC 0x80 0xBF (omega arith) (omega arith) (λ k. omega arith) (λ k. omega arith) (λ k. omega arith),
            (
              three_row 0xED 0xED 0x80 0x9F (omega arith) (omega arith) (λ k. omega arith) (λ k. omega arith) (λ k. omega arith),
              (
                three_row 0xEE 0xEF 0x80 0xBF (omega arith) (omega arith) (λ k. omega arith) (λ k. omega arith) (λ k. omega arith),
                (
                  four_row 0xF0 0xF0 0x90 0xBF (omega arith) (omega arith) (λ k. omega arith) (λ k. omega arith) (λ k. omega arith) (λ k. omega arith),
                  (
                    four_row 0xF1 0xF3 0x80 0xBF (omega arith) (omega arith) (λ k. omega arith) (λ k. omega arith) (λ k. omega arith) (λ k. omega arith),
                    (
                      four_row 0xF4 0xF4 0x80 0x8F (omega arith) (omega arith) (λ k. omega arith) (λ k. omega arith) (λ k. omega arith)
                          (λ k. omega arith),
                      tt,
                    ),
                  ),
                ),
              ),
            ),
          ),
        ),
      ),
    )
    (λ f. absurd (true≢false (sym f)))
  where
    one_row_lem : is_in (span 0x00 0x7F) a ≡ true → formed_from bs [] ≡ true → Utf8Text (a ∷ bs) (code_points_from bs [] a)
    one_row_lem h f = one_text a bs _ (in_greatest (span 0x00 0x7F) a h) (ih [] f a)

    two_row : is_in (span 0xC2 0xDF) a ≡ true → formed_from bs (trailing ∷ []) ≡ true
        → Utf8Text (a ∷ bs) (code_points_from bs (trailing ∷ []) (a - 0xC0))
    two_row h f = two_text a bs _ (in_least (span 0xC2 0xDF) a h) (in_greatest (span 0xC2 0xDF) a h) (ih (trailing ∷ []) f (a - 0xC0))

    three_row : (l g m n : ℕ) → 0x80 ≤ m → n ≤ 0xBF → (l ≤ a → 0xE0 ≤ a) → (a ≤ g → a ≤ 0xEF)
        → (l ≤ a → 0x800 ≤ ((a - 0xE0) * 64 + (m - 0x80)) * 64)
        → is_in (span l g) a ≡ true → formed_from bs (span m n ∷ trailing ∷ []) ≡ true
        → Utf8Text (a ∷ bs) (code_points_from bs (span m n ∷ trailing ∷ []) (a - 0xE0))
    three_row l g m n u v x y z h f =
        three_text a (span m n) u v bs _ (x (in_least (span l g) a h)) (y (in_greatest (span l g) a h)) (z (in_least (span l g) a h))
        (ih (span m n ∷ trailing ∷ []) f (a - 0xE0))

    four_row : (l g m n : ℕ) → 0x80 ≤ m → n ≤ 0xBF → (l ≤ a → 0xF0 ≤ a) → (a ≤ g → a ≤ 0xF7)
        → (l ≤ a → 0x10000 ≤ (((a - 0xF0) * 64 + (m - 0x80)) * 64) * 64)
        → (a ≤ g → (((a - 0xF0) * 64 + (n - 0x80)) * 64 + 0x3F) * 64 + 0x3F < 0x110000)
        → is_in (span l g) a ≡ true → formed_from bs (span m n ∷ trailing ∷ trailing ∷ []) ≡ true
        → Utf8Text (a ∷ bs) (code_points_from bs (span m n ∷ trailing ∷ trailing ∷ []) (a - 0xF0))
    four_row l g m n u v x y z z₂ h f =
        four_text a (span m n) u v bs _ (x (in_least (span l g) a h)) (y (in_greatest (span l g) a h)) (z (in_least (span l g) a h))
        (z₂ (in_greatest (span l g) a h))
        (ih (span m n ∷ trailing ∷ trailing ∷ []) f (a - 0xF0))

unread : (bs : List ℕ) (ss : List Span) → formed_from bs ss ≡ true → (c : ℕ) → Unread bs ss c (code_points_from bs ss c)
unfolding formed_from code_points_from
unread [] [] e c = ([], refl, end)
unread [] (s ∷ ss) e c = absurd (true≢false (sym e))
unread (a ∷ bs) [] e c = (rest_points a bs (after_first a), refl, first_text a bs (unread bs) e)
unread (b ∷ bs) (s ∷ ss) e c =
    (and_left (is_in s b) (formed_from bs ss) e, unread bs ss (and_right (is_in s b) (formed_from bs ss) e) (six_more c b))

-- well-formed bytes are characters, and stand for their code points
pub text_of : (bs : List ℕ) → well_formed bs ≡ true → Utf8Text bs (code_points bs)
unfolding formed_from
text_of [] e = end
text_of (a ∷ bs) e = first_text a bs (unread bs) e
