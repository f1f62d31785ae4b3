-- UTF-8 as the Unicode Standard has it: table 3-7, the well-formed sequences of bytes, and table 3-6, the bits that a sequence stands for.
-- Assumes nothing: these are definitions.
use Rattle.std.specs.Prelude.{ℕ, ◌+◌, ◌-◌, ◌*◌, Bool, true, false, cond, ◌&&◌, List, [], ◌∷◌, leb}
use Rattle.std.proofs.Math.Option.{Option, none, some}

-- ---- table 3-7
-- the bytes from a least to a greatest one
pub record Span : Type 0 where
  pub least : ℕ
  pub greatest : ℕ

abbrev pub span : ℕ → ℕ → Span
span a b = record { least = a; greatest = b }

abbrev pub is_in : Span → ℕ → Bool
is_in s b = leb s.least b && leb b s.greatest

-- a byte after the first, where the table has no other span
abbrev pub trailing : Span
trailing = span 0x80 0xBF

-- a row: the span of the first byte and those of the bytes after it
pub record Utf8Row : Type 0 where
  pub first : Span
  pub after : List Span

abbrev pub utf8_row : Span → List Span → Utf8Row
utf8_row s ss = record { first = s; after = ss }

abbrev pub utf8_table : List Utf8Row
utf8_table =
    utf8_row (span 0x00 0x7F) []
    ∷ utf8_row (span 0xC2 0xDF) (trailing ∷ [])
    ∷ utf8_row (span 0xE0 0xE0) (span 0xA0 0xBF ∷ trailing ∷ [])
    ∷ utf8_row (span 0xE1 0xEC) (trailing ∷ trailing ∷ [])
    ∷ utf8_row (span 0xED 0xED) (span 0x80 0x9F ∷ trailing ∷ [])
    ∷ utf8_row (span 0xEE 0xEF) (trailing ∷ trailing ∷ [])
    ∷ utf8_row (span 0xF0 0xF0) (span 0x90 0xBF ∷ trailing ∷ trailing ∷ [])
    ∷ utf8_row (span 0xF1 0xF3) (trailing ∷ trailing ∷ trailing ∷ [])
    ∷ utf8_row (span 0xF4 0xF4) (span 0x80 0x8F ∷ trailing ∷ trailing ∷ [])
    ∷ []

-- the spans of the bytes after a first one, none where no row has it
abbrev pub after_in : List Utf8Row → ℕ → Option (List Span)
after_in [] a = none
after_in (r ∷ rs) a = cond (is_in r.first a) (some r.after) (after_in rs a)

unfoldable pub after_first : ℕ → Option (List Span)
after_first a = after_in utf8_table a

-- bytes of which the first are still to be in some spans, and the others are sequences of the table
unfoldable pub formed_from : List ℕ → List Span → Bool
formed_from [] [] = true
formed_from [] (s ∷ ss) = false
formed_from (a ∷ bs) [] = elim (after_first a) [ none ↦ false | some ss ↦ formed_from bs ss ]
formed_from (a ∷ bs) (s ∷ ss) = is_in s a && formed_from bs ss

abbrev pub well_formed : List ℕ → Bool
well_formed bs = formed_from bs []

-- ---- table 3-6
-- the bits of a first byte, by how many come after it
abbrev pub first_bits : List Span → ℕ → ℕ
first_bits [] a = a
first_bits (s ∷ []) a = a - 0xC0
first_bits (s ∷ t ∷ []) a = a - 0xE0
first_bits (s ∷ t ∷ u ∷ ss) a = a - 0xF0

-- six more
abbrev pub six_more : ℕ → ℕ → ℕ
six_more c b = c * 64 + (b - 0x80)

-- the code points of bytes, of which the first are still to come to the bits c
unfoldable pub code_points_from : List ℕ → List Span → ℕ → List ℕ
code_points_from [] [] c = c ∷ []
code_points_from [] (s ∷ ss) c = []
code_points_from (a ∷ bs) [] c = c ∷ elim (after_first a) [ none ↦ [] | some ss ↦ code_points_from bs ss (first_bits ss a) ]
code_points_from (b ∷ bs) (s ∷ ss) c = code_points_from bs ss (six_more c b)

abbrev pub code_points : List ℕ → List ℕ
code_points [] = []
code_points (a ∷ bs) = elim (after_first a) [ none ↦ [] | some ss ↦ code_points_from bs ss (first_bits ss a) ]
