-- The bytes of a character after the first, one by one.
use Prim.Native.Nat.{ℕ, ◌+◌, ◌*◌, ◌≤◌, ◌<◌}
use native.Mathlib.Omega.{arith}
use native.Mathlib.Numerals.{add-one}
use mathlib.Core.Path.{◌≡◌, refl, sym, ◌∙◌, ap}
use mathlib.Core.Bool.{true, false, true≢false}
use mathlib.Core.List.{List, [], ◌∷◌}
use lib.ListN.{length, get_or, drop, drop_of_length-le}
use lib.Seq.{drop-cons}
use Rattle.sequences.proofs.Booleans.{yes, no, decided}
use Rattle.dictionaries.specs.Utf8.{Span, span, is_in, trailing, first_bits, six_more}
use Rattle.dictionary_checks.specs.declared.Rest.{Rest}
use Rattle.dictionary_checks.specs.declared.Rest.TheVariants.{Nothing, One, Two, Three, AfterE0, AfterEd, AfterF0, AfterF4}
use Rattle.std.specs.Prelude.{Option, None, Some}
use Rattle.dictionary_checks.specs.Steps.{spans_in, spans_after, later_step, next_step, nothing_left}
use Rattle.characters.specs.declared.Character.{Character}
use Rattle.characters.specs.Sequences.{character, bad_byte, sequence_from, sequence_by, sequence_of}
use Rattle.dictionary_checks.proofs.Stepping.{first_spans}

-- more than the bits can come to that were read before a rest
abbrev pub bits_below : Rest → ℕ
bits_below Nothing = 0x1_0000_0000
bits_below One = 0x100_0000
bits_below Two = 0x1_0000
bits_below Three = 0x100
bits_below AfterE0 = 0x1_0000
bits_below AfterEd = 0x1_0000
bits_below AfterF0 = 0x100
bits_below AfterF4 = 0x100

pub bits_first : (r : Rest) → 0x100 ≤ bits_below r
bits_first Nothing = omega arith
bits_first One = omega arith
bits_first Two = omega arith
bits_first Three = omega arith
bits_first AfterE0 = omega arith
bits_first AfterEd = omega arith
bits_first AfterF0 = omega arith
bits_first AfterF4 = omega arith

-- what a byte makes of the rest and of the bits
abbrev sequence_after : Option Rest → List ℕ → ℕ → ℕ → Character
sequence_after (Some r) bs c n = sequence_from bs (spans_in r) c n
sequence_after None bs c n = bad_byte

-- room for six bits more
abbrev RoomAfter : Rest → Option Rest → Type 0
RoomAfter r (Some q) = 0x100 * bits_below r ≤ bits_below q
RoomAfter r None = Unit {0}

later_sequence : (s : Span) (ss : List Span) (r : Rest) (b : ℕ) (bs : List ℕ) (c n : ℕ) → ss ≡ spans_in r
    → sequence_from (b ∷ bs) (s ∷ ss) c n ≡ sequence_after (later_step s r b) bs (six_more c b) (n + 1)
unfolding sequence_from
later_sequence s ss r b bs c n e =
    elim (decided (is_in s b)) [
      | yes k ↦ rw k (ap (λ l. sequence_from bs l (six_more c b) (n + 1)) e)
      | no k ↦ rw k refl
    ]

next_sequence : (r : Rest) (b : ℕ) (bs : List ℕ) (c n : ℕ) → nothing_left r ≡ false
    → sequence_from (b ∷ bs) (spans_in r) c n ≡ sequence_after (next_step r b) bs (six_more c b) (n + 1)
next_sequence Nothing b bs c n e = absurd (true≢false e)
next_sequence One b bs c n e = later_sequence trailing [] Nothing b bs c n refl
next_sequence Two b bs c n e = later_sequence trailing (spans_in One) One b bs c n refl
next_sequence Three b bs c n e = later_sequence trailing (spans_in Two) Two b bs c n refl
next_sequence AfterE0 b bs c n e = later_sequence (span 0xA0 0xBF) (spans_in One) One b bs c n refl
next_sequence AfterEd b bs c n e = later_sequence (span 0x80 0x9F) (spans_in One) One b bs c n refl
next_sequence AfterF0 b bs c n e = later_sequence (span 0x90 0xBF) (spans_in Two) Two b bs c n refl
next_sequence AfterF4 b bs c n e = later_sequence (span 0x80 0x8F) (spans_in Two) Two b bs c n refl

later_room : (r : Rest) (s : Span) (q : Rest) (b : ℕ) → 0x100 * bits_below r ≤ bits_below q → RoomAfter r (later_step s q b)
later_room r s q b h = elim (decided (is_in s b)) [ yes k ↦ rw k h | no k ↦ rw k tt ]

next_room : (r : Rest) (b : ℕ) → nothing_left r ≡ false → RoomAfter r (next_step r b)
next_room Nothing b e = absurd (true≢false e)
next_room One b e = later_room One trailing Nothing b (omega arith)
next_room Two b e = later_room Two trailing One b (omega arith)
next_room Three b e = later_room Three trailing Two b (omega arith)
next_room AfterE0 b e = later_room AfterE0 (span 0xA0 0xBF) One b (omega arith)
next_room AfterEd b e = later_room AfterEd (span 0x80 0x9F) One b (omega arith)
next_room AfterF0 b e = later_room AfterF0 (span 0x90 0xBF) Two b (omega arith)
next_room AfterF4 b e = later_room AfterF4 (span 0x80 0x8F) Two b (omega arith)

none_there : (r : Rest) (c n : ℕ) → nothing_left r ≡ false → sequence_from [] (spans_in r) c n ≡ bad_byte
unfolding sequence_from
none_there Nothing c n e = absurd (true≢false e)
none_there One c n e = refl
none_there Two c n e = refl
none_there Three c n e = refl
none_there AfterE0 c n e = refl
none_there AfterEd c n e = refl
none_there AfterF0 c n e = refl
none_there AfterF4 c n e = refl

all_there : (bs : List ℕ) (r : Rest) (c n : ℕ) → nothing_left r ≡ true → sequence_from bs (spans_in r) c n ≡ character c n
unfolding sequence_from
all_there [] Nothing c n e = refl
all_there (b ∷ bs) Nothing c n e = refl
all_there bs One c n e = absurd (true≢false (sym e))
all_there bs Two c n e = absurd (true≢false (sym e))
all_there bs Three c n e = absurd (true≢false (sym e))
all_there bs AfterE0 c n e = absurd (true≢false (sym e))
all_there bs AfterEd c n e = absurd (true≢false (sym e))
all_there bs AfterF0 c n e = absurd (true≢false (sym e))
all_there bs AfterF4 c n e = absurd (true≢false (sym e))

-- ---- from a place of a text on
module _ (text : List ℕ) (at : ℕ) (r : Rest) (c n : ℕ) where
  pub sequence_done : nothing_left r ≡ true → sequence_from (drop at text) (spans_in r) c n ≡ character c n
  sequence_done e = all_there (drop at text) r c n e

  module _ (e : nothing_left r ≡ false) where
    pub sequence_cut : length text ≤ at → sequence_from (drop at text) (spans_in r) c n ≡ bad_byte
    sequence_cut h = ap (λ l. sequence_from l (spans_in r) c n) (drop_of_length-le text {i = at} h) ∙ none_there r c n e

    module _ (h : at < length text) (step : Option Rest) (f : step ≡ next_step r (get_or text at 0)) where
      stepped : sequence_from (drop at text) (spans_in r) c n ≡ sequence_after step (drop (at + 1) text) (six_more c (get_or text at 0)) (n + 1)
      stepped =
          ap (λ l. sequence_from l (spans_in r) c n) (drop-cons text at 0 h ∙ ap (λ m. get_or text at 0 ∷ drop m text) (sym (add-one at)))
          ∙ next_sequence r (get_or text at 0) (drop (at + 1) text) c n e
          ∙ ap (λ s. sequence_after s (drop (at + 1) text) (six_more c (get_or text at 0)) (n + 1)) (sym f)

      pub sequence_wrong : step ≡ None → sequence_from (drop at text) (spans_in r) c n ≡ bad_byte
      sequence_wrong g = stepped ∙ ap (λ s. sequence_after s (drop (at + 1) text) (six_more c (get_or text at 0)) (n + 1)) g

      pub sequence_more : (q : Rest) → step ≡ Some q
          → sequence_from (drop at text) (spans_in r) c n ≡ sequence_from (drop (at + 1) text) (spans_in q) (six_more c (get_or text at 0)) (n + 1)
      sequence_more q g = stepped ∙ ap (λ s. sequence_after s (drop (at + 1) text) (six_more c (get_or text at 0)) (n + 1)) g

      pub room_more : (q : Rest) → step ≡ Some q → 0x100 * bits_below r ≤ bits_below q
      room_more q g = rw (sym f ∙ g) at (next_room r (get_or text at 0) e)

pub bits_most : (r : Rest) → bits_below r ≤ 0x1_0000_0000
bits_most Nothing = omega arith
bits_most One = omega arith
bits_most Two = omega arith
bits_most Three = omega arith
bits_most AfterE0 = omega arith
bits_most AfterEd = omega arith
bits_most AfterF0 = omega arith
bits_most AfterF4 = omega arith

-- ---- the first byte
module _ (a : ℕ) (bs : List ℕ) where
  pub sequence_begins : (r : Rest) → next_step Nothing a ≡ Some r → sequence_of a bs ≡ sequence_from bs (spans_in r) (first_bits (spans_in r) a) 0
  unfolding sequence_of
  sequence_begins r e = ap (λ o. sequence_by o a bs) (first_spans a ∙ ap spans_after e)

  pub sequence_begins_not : next_step Nothing a ≡ None → sequence_of a bs ≡ bad_byte
  unfolding sequence_of
  sequence_begins_not e = ap (λ o. sequence_by o a bs) (first_spans a ∙ ap spans_after e)
