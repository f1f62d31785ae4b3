-- One character of UTF-8, by tables 3-7 and 3-6 of the Unicode Standard. Assumes nothing: these are definitions.
use Rattle.std.specs.Prelude.{ℕ, ◌+◌, cond, List, [], ◌∷◌}
use Rattle.std.proofs.Math.Option.{Option, none, some}
use Rattle.dictionaries.specs.Utf8.{Span, is_in, after_first, first_bits, six_more}
use Rattle.characters.specs.declared.Character.{Character}

abbrev pub character : ℕ → ℕ → Character
character p n = record { point = p; more = n }

-- a number after the last code point: what a byte that is no UTF-8 is read as, by itself
abbrev pub no_point : ℕ
no_point = 0x110000

abbrev pub bad_byte : Character
bad_byte = character no_point 0

-- a character of which n bytes after the first came to the bits c, and the others are still to be in some spans
unfoldable pub sequence_from : List ℕ → List Span → ℕ → ℕ → Character
sequence_from bs [] c n = character c n
sequence_from [] (s ∷ ss) c n = bad_byte
sequence_from (b ∷ bs) (s ∷ ss) c n = cond (is_in s b) (sequence_from bs ss (six_more c b) (n + 1)) bad_byte

-- the spans of the bytes after a first one, and the bytes that stand there
abbrev pub sequence_by : Option (List Span) → ℕ → List ℕ → Character
sequence_by none a bs = bad_byte
sequence_by (some ss) a bs = sequence_from bs ss (first_bits ss a) 0

-- the character that a byte and those behind it begin with
unfoldable pub sequence_of : ℕ → List ℕ → Character
sequence_of a bs = sequence_by (after_first a) a bs
