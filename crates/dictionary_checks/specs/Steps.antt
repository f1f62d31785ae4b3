-- Table 3-7 read byte by byte: what is still to come of a character, and what a byte makes of it. Assumes nothing: these are definitions.
use Rattle.std.specs.Prelude.{ℕ, Bool, true, false, cond, ◌&&◌, List, [], ◌∷◌, Option, None, Some}
use Rattle.std.proofs.Math.Option as math
use Rattle.dictionaries.specs.Utf8.{Span, span, is_in, trailing, formed_from}
use Rattle.dictionary_checks.specs.declared.Rest.{Rest}
use Rattle.dictionary_checks.specs.declared.Rest.TheVariants.{Nothing, One, Two, Three, AfterE0, AfterEd, AfterF0, AfterF4}

abbrev pub spans_in : Rest → List Span
spans_in Nothing = []
spans_in One = trailing ∷ []
spans_in Two = trailing ∷ trailing ∷ []
spans_in Three = trailing ∷ trailing ∷ trailing ∷ []
spans_in AfterE0 = span 0xA0 0xBF ∷ trailing ∷ []
spans_in AfterEd = span 0x80 0x9F ∷ trailing ∷ []
spans_in AfterF0 = span 0x90 0xBF ∷ trailing ∷ trailing ∷ []
spans_in AfterF4 = span 0x80 0x8F ∷ trailing ∷ trailing ∷ []

-- what a byte leaves to come of its character, none where it may not stand there: a first byte, and a later one
unfoldable pub first_step : ℕ → Option Rest
first_step b =
    cond (is_in (span 0x00 0x7F) b) (Some Nothing)
    (cond (is_in (span 0xC2 0xDF) b) (Some One)
    (cond (is_in (span 0xE0 0xE0) b) (Some AfterE0)
    (cond (is_in (span 0xE1 0xEC) b) (Some Two)
    (cond (is_in (span 0xED 0xED) b) (Some AfterEd)
    (cond (is_in (span 0xEE 0xEF) b) (Some Two)
    (cond (is_in (span 0xF0 0xF0) b) (Some AfterF0)
    (cond (is_in (span 0xF1 0xF3) b) (Some Three)
    (cond (is_in (span 0xF4 0xF4) b) (Some AfterF4) None))))))))

-- the spans of the bytes that are still to come after a step
abbrev pub spans_after : Option Rest → math.Option (List Span)
spans_after (Some r) = math.some (spans_in r)
spans_after None = math.none

abbrev pub later_step : Span → Rest → ℕ → Option Rest
later_step s r b = cond (is_in s b) (Some r) None

abbrev pub next_step : Rest → ℕ → Option Rest
next_step Nothing b = first_step b
next_step One b = later_step trailing Nothing b
next_step Two b = later_step trailing One b
next_step Three b = later_step trailing Two b
next_step AfterE0 b = later_step (span 0xA0 0xBF) One b
next_step AfterEd b = later_step (span 0x80 0x9F) One b
next_step AfterF0 b = later_step (span 0x90 0xBF) Two b
next_step AfterF4 b = later_step (span 0x80 0x8F) Two b

abbrev pub nothing_left : Rest → Bool
nothing_left Nothing = true
nothing_left One = false
nothing_left Two = false
nothing_left Three = false
nothing_left AfterE0 = false
nothing_left AfterEd = false
nothing_left AfterF0 = false
nothing_left AfterF4 = false

-- whether the bytes `bs` behind a byte are well formed, by what that byte leaves to come
abbrev pub formed_after : List ℕ → Option Rest → Bool
formed_after bs (Some r) = formed_from bs (spans_in r)
formed_after bs None = false

-- the first bytes are in some spans, one in each
unfoldable pub each_in_span : List ℕ → List Span → Bool
each_in_span bs [] = true
each_in_span [] (s ∷ ss) = false
each_in_span (b ∷ bs) (s ∷ ss) = is_in s b && each_in_span bs ss
