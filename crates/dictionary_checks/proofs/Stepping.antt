-- Bytes are well-formed exactly where the steps from byte to byte are, and leave nothing to come.
use Prim.Native.Nat.{ℕ, suc, ◌+◌, ◌≤◌, ◌<◌}
use native.Mathlib.Numerals.{add-one}
use mathlib.Core.Path.{◌≡◌, refl, sym, ◌∙◌, ap}
use mathlib.Core.Bool.{Bool, false, cond, ◌&&◌}
use Rattle.std.specs.Prelude.{Option, None, Some}
use mathlib.Core.Option as math
use mathlib.Core.List.{List, [], ◌∷◌}
use lib.ListN.{length, get_or, drop, drop_of_length-le}
use lib.Seq.{drop-cons}
use Rattle.sequences.proofs.Booleans.{yes, no, decided}
use Rattle.dictionaries.specs.Utf8.{Span, span, is_in, trailing, Utf8Row, utf8_row, after_in, after_first, formed_from}
use Rattle.dictionary_checks.specs.declared.Rest.{Rest}
use Rattle.dictionary_checks.specs.declared.Rest.TheVariants.{Nothing, One, Two, Three, AfterE0, AfterEd, AfterF0, AfterF4}
use Rattle.dictionary_checks.specs.Steps.{spans_in, first_step, spans_after, later_step, next_step, nothing_left, formed_after}

-- one row of the table
row : (s : Span) (ss : List Span) (r : Rest) (b : ℕ) (rs : List Utf8Row) (step : Option Rest) → ss ≡ spans_in r
    → after_in rs b ≡ spans_after step
    → after_in (utf8_row s ss ∷ rs) b ≡ spans_after (cond (is_in s b) (Some r) step)
row s ss r b rs step e h = elim (decided (is_in s b)) [ yes k ↦ rw k (ap math.some e) | no k ↦ rw k h ]

-- the rows of the table from each on, and what they make of a byte
abbrev rows9 : List Utf8Row
rows9 = []

abbrev step9 : ℕ → Option Rest
step9 b = None

abbrev rows8 : List Utf8Row
rows8 = utf8_row (span 0xF4 0xF4) (span 0x80 0x8F ∷ trailing ∷ trailing ∷ []) ∷ rows9

abbrev step8 : ℕ → Option Rest
step8 b = cond (is_in (span 0xF4 0xF4) b) (Some AfterF4) (step9 b)

abbrev rows7 : List Utf8Row
rows7 = utf8_row (span 0xF1 0xF3) (trailing ∷ trailing ∷ trailing ∷ []) ∷ rows8

abbrev step7 : ℕ → Option Rest
step7 b = cond (is_in (span 0xF1 0xF3) b) (Some Three) (step8 b)

abbrev rows6 : List Utf8Row
rows6 = utf8_row (span 0xF0 0xF0) (span 0x90 0xBF ∷ trailing ∷ trailing ∷ []) ∷ rows7

abbrev step6 : ℕ → Option Rest
step6 b = cond (is_in (span 0xF0 0xF0) b) (Some AfterF0) (step7 b)

abbrev rows5 : List Utf8Row
rows5 = utf8_row (span 0xEE 0xEF) (trailing ∷ trailing ∷ []) ∷ rows6

abbrev step5 : ℕ → Option Rest
step5 b = cond (is_in (span 0xEE 0xEF) b) (Some Two) (step6 b)

abbrev rows4 : List Utf8Row
rows4 = utf8_row (span 0xED 0xED) (span 0x80 0x9F ∷ trailing ∷ []) ∷ rows5

abbrev step4 : ℕ → Option Rest
step4 b = cond (is_in (span 0xED 0xED) b) (Some AfterEd) (step5 b)

abbrev rows3 : List Utf8Row
rows3 = utf8_row (span 0xE1 0xEC) (trailing ∷ trailing ∷ []) ∷ rows4

abbrev step3 : ℕ → Option Rest
step3 b = cond (is_in (span 0xE1 0xEC) b) (Some Two) (step4 b)

abbrev rows2 : List Utf8Row
rows2 = utf8_row (span 0xE0 0xE0) (span 0xA0 0xBF ∷ trailing ∷ []) ∷ rows3

abbrev step2 : ℕ → Option Rest
step2 b = cond (is_in (span 0xE0 0xE0) b) (Some AfterE0) (step3 b)

abbrev rows1 : List Utf8Row
rows1 = utf8_row (span 0xC2 0xDF) (trailing ∷ []) ∷ rows2

abbrev step1 : ℕ → Option Rest
step1 b = cond (is_in (span 0xC2 0xDF) b) (Some One) (step2 b)

-- the table's spans behind a first byte are those of the step
pub first_spans : (b : ℕ) → after_first b ≡ spans_after (first_step b)
unfolding after_first first_step
first_spans b =
    (row (span 0x00 0x7F) [] Nothing b rows1 (step1 b) refl
    (row (span 0xC2 0xDF) (trailing ∷ []) One b rows2 (step2 b) refl
    (row (span 0xE0 0xE0) (span 0xA0 0xBF ∷ trailing ∷ []) AfterE0 b rows3 (step3 b) refl
    (row (span 0xE1 0xEC) (trailing ∷ trailing ∷ []) Two b rows4 (step4 b) refl
    (row (span 0xED 0xED) (span 0x80 0x9F ∷ trailing ∷ []) AfterEd b rows5 (step5 b) refl
    (row (span 0xEE 0xEF) (trailing ∷ trailing ∷ []) Two b rows6 (step6 b) refl
    (row (span 0xF0 0xF0) (span 0x90 0xBF ∷ trailing ∷ trailing ∷ []) AfterF0 b rows7 (step7 b) refl
    (row (span 0xF1 0xF3) (trailing ∷ trailing ∷ trailing ∷ []) Three b rows8 (step8 b) refl
    (row (span 0xF4 0xF4) (span 0x80 0x8F ∷ trailing ∷ trailing ∷ []) AfterF4 b rows9 (step9 b) refl
    refl)))))))))

abbrev by_option : List ℕ → math.Option (List Span) → Bool
by_option bs o = elim o [ math.none ↦ false | math.some ss ↦ formed_from bs ss ]

spans_formed : (bs : List ℕ) (step : Option Rest) → by_option bs (spans_after step) ≡ formed_after bs step
spans_formed bs (Some r) = refl
spans_formed bs None = refl

first_formed : (b : ℕ) (bs : List ℕ) → by_option bs (after_first b) ≡ formed_after bs (first_step b)
first_formed b bs = ap (by_option bs) (first_spans b) ∙ spans_formed bs (first_step b)

later_formed : (s : Span) (r : Rest) (b : ℕ) (bs : List ℕ) → (is_in s b && formed_from bs (spans_in r)) ≡ formed_after bs (later_step s r b)
later_formed s r b bs = elim (decided (is_in s b)) [ yes k ↦ rw k refl | no k ↦ rw k refl ]

pub next_formed : (r : Rest) (b : ℕ) (bs : List ℕ) → formed_from (b ∷ bs) (spans_in r) ≡ formed_after bs (next_step r b)
unfolding formed_from
next_formed Nothing b bs = first_formed b bs
next_formed One b bs = later_formed trailing Nothing b bs
next_formed Two b bs = later_formed trailing One b bs
next_formed Three b bs = later_formed trailing Two b bs
next_formed AfterE0 b bs = later_formed (span 0xA0 0xBF) One b bs
next_formed AfterEd b bs = later_formed (span 0x80 0x9F) One b bs
next_formed AfterF0 b bs = later_formed (span 0x90 0xBF) Two b bs
next_formed AfterF4 b bs = later_formed (span 0x80 0x8F) Two b bs

whole_formed : (r : Rest) → formed_from [] (spans_in r) ≡ nothing_left r
unfolding formed_from
whole_formed Nothing = refl
whole_formed One = refl
whole_formed Two = refl
whole_formed Three = refl
whole_formed AfterE0 = refl
whole_formed AfterEd = refl
whole_formed AfterF0 = refl
whole_formed AfterF4 = refl

-- ---- from a place on
module _ (bytes : List ℕ) (i : ℕ) (r : Rest) where
  pub end_formed : length bytes ≤ i → formed_from (drop i bytes) (spans_in r) ≡ nothing_left r
  end_formed h = ap (λ l. formed_from l (spans_in r)) (drop_of_length-le bytes {i = i} h) ∙ whole_formed r

  module _ (h : i < length bytes) (step : Option Rest) (e : step ≡ next_step r (get_or bytes i 0)) where
    stepped : formed_from (drop i bytes) (spans_in r) ≡ formed_after (drop (suc i) bytes) step
    stepped =
        ap (λ l. formed_from l (spans_in r)) (drop-cons bytes i 0 h)
        ∙ next_formed r (get_or bytes i 0) (drop (suc i) bytes)
        ∙ ap (formed_after (drop (suc i) bytes)) (sym e)

    pub more_formed : (q : Rest) → step ≡ Some q → formed_from (drop i bytes) (spans_in r) ≡ formed_from (drop (i + 1) bytes) (spans_in q)
    more_formed q f = stepped ∙ ap (formed_after (drop (suc i) bytes)) f ∙ ap (λ n. formed_from (drop n bytes) (spans_in q)) (sym (add-one i))

    pub wrong_formed : step ≡ None → formed_from (drop i bytes) (spans_in r) ≡ false
    wrong_formed f = stepped ∙ ap (formed_after (drop (suc i) bytes)) f
