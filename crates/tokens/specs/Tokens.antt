-- The token that some characters begin with: the longest that fits. Assumes nothing: these are definitions.
use Rattle.std.specs.Prelude.{ℕ, zero, suc, ◌+◌, ◌-◌, Bool, false, cond, ◌&&◌, ◌||◌, List, [], ◌∷◌, ◌++◌, eqb, drop}
use Rattle.characters.specs.Sequences.{no_point}
use Rattle.characters.specs.Escapes.{backslash}
use Rattle.tokens.specs.declared.TokenKind.TheVariants as kind
use Rattle.tokens.specs.declared.Token.{Token}
use Rattle.tokens.specs.Classes.{is_one_of, is_digit, is_ascii_letter, is_word_character, is_iri_character, is_sign}
use Rattle.tokens.specs.Classes.{is_name_base, begins_variable, is_variable_character}
use Rattle.tokens.specs.Runs.{run_length, first_is, starts_with, blanks_length, dotted_end, name_item, local_length}
use Rattle.tokens.specs.Numerals.{token, is_plus_minus, number_or, signed_or}
use Rattle.tokens.specs.Texts.{wrong_at, text_of}

-- [143,144] ?x and $x; ? alone is a sign
abbrev pub variable_or_sign : ℕ → List ℕ → Token
variable_or_sign c cs =
    cond (first_is begins_variable cs) (token kind.Variable (run_length is_variable_character cs + 1))
    (cond (eqb c 0x3F) (token kind.Sign 1) (token kind.NoToken 1))

-- [139] < begins an IRI where one fits, else it is < or <=; a byte that is no UTF-8 within one is the token
abbrev pub angle_by : ℕ → List ℕ → Token
angle_by n cs =
    cond (starts_with 0x3E (drop n cs)) (token kind.Iri (n + 2))
    (cond (starts_with no_point (drop n cs)) (wrong_at kind.BadByte (n + 1)) (token kind.Sign (cond (starts_with 0x3D cs) 2 1)))

abbrev pub angle_of : List ℕ → Token
angle_of cs = angle_by (run_length is_iri_character cs) cs

-- [140,141] behind a prefix of n characters or none: its colon and a local name or none
abbrev pub prefixed_of : ℕ → List ℕ → Token
prefixed_of n cs = token kind.PrefixedName (n + 1 + local_length cs)

-- a word, or nothing where the first character is no ASCII letter
abbrev pub word_token : ℕ → List ℕ → Token
word_token c cs = cond (is_ascii_letter c) (token kind.Word (run_length is_word_character cs + 1)) (token kind.NoToken 1)

-- [168] PN_PREFIX with its colon, else a word
abbrev pub named_by : ℕ → ℕ → List ℕ → Token
named_by e c cs = cond (starts_with 0x3A (drop e cs)) (prefixed_of (e + 1) (drop (e + 1) cs)) (word_token c cs)

abbrev pub named_of : ℕ → List ℕ → Token
named_of c cs = named_by (dotted_end name_item 0 cs 0 0) c cs

-- [142] _: and a label
abbrev pub blank_of : List ℕ → Token
blank_of cs =
    cond (starts_with 0x3A cs && first_is begins_variable (drop 1 cs)) (token kind.BlankLabel (dotted_end name_item 0 (drop 2 cs) 3 3)) (token kind.NoToken 1)

-- [145] @ and a language tag: letters, then parts of letters and digits, each behind a -
abbrev pub is_tag_character : ℕ → Bool
is_tag_character c = is_ascii_letter c || is_digit c

abbrev pub goes_on_tag : ℕ → List ℕ → Bool
goes_on_tag c cs = is_tag_character c || (eqb c 0x2D && first_is is_tag_character cs)

-- how far the parts reach, n characters from the @ on
unfoldable pub tag_end : List ℕ → ℕ → ℕ
tag_end [] n = n
tag_end (c ∷ cs) n = cond (is_tag_character c || (eqb c 0x2D && first_is is_tag_character cs)) (tag_end cs (n + 1)) n

abbrev pub tag_by : ℕ → List ℕ → Token
tag_by n cs = cond (eqb n 0) (token kind.NoToken 1) (token kind.LanguageTag (cond (starts_with 0x2D (drop n cs)) (tag_end (drop n cs) (n + 1)) (n + 1)))

abbrev pub tag_of : List ℕ → Token
tag_of cs = tag_by (run_length is_ascii_letter cs) cs

-- two signs that are one token: && || ^^, and != >= ; & alone is none
abbrev pub pair_or : Token → ℕ → List ℕ → Token
pair_or other a cs = cond (starts_with a cs) (token kind.Sign 2) other

abbrev pub sign_of : ℕ → List ℕ → Token
sign_of c cs =
    cond (eqb c 0x26) (pair_or (token kind.NoToken 1) 0x26 cs)
    (cond (is_one_of (0x7C ∷ 0x5E ∷ []) c) (pair_or (token kind.Sign 1) c cs)
    (cond (is_one_of (0x21 ∷ 0x3E ∷ []) c) (pair_or (token kind.Sign 1) 0x3D cs)
    (cond (is_sign c) (token kind.Sign 1) (token kind.NoToken 1))))

unfoldable pub token_of : List ℕ → Token
token_of [] = token kind.End 0
token_of (c ∷ cs) =
    cond (eqb c no_point) (token kind.BadByte 1)
    (cond (eqb c backslash) (token kind.WrongEscape 1)
    (cond (is_one_of (0x22 ∷ 0x27 ∷ []) c) (text_of c cs)
    (cond (is_one_of (0x3F ∷ 0x24 ∷ []) c) (variable_or_sign c cs)
    (cond (eqb c 0x3C) (angle_of cs)
    (cond (is_digit c) (number_or (token kind.NoToken 1) (c ∷ cs))
    (cond (eqb c 0x2E) (number_or (token kind.Sign 1) (c ∷ cs))
    (cond (is_plus_minus c) (signed_or (token kind.Sign 1) cs)
    (cond (eqb c 0x3A) (prefixed_of 0 cs)
    (cond (is_name_base c) (named_of c cs)
    (cond (eqb c 0x5F) (blank_of cs)
    (cond (eqb c 0x40) (tag_of cs) (sign_of c cs))))))))))))

-- ---- all tokens of a text
-- what a place has where no character before reaches it: a token with its place, or nothing where blanks begin;
-- and how many characters that takes behind the first
abbrev pub token_here : ℕ → Token → Token
token_here at t = record { kind = t.kind; start = at + t.start; size = t.size }

abbrev pub tokens_here : ℕ → List ℕ → List Token
tokens_here at cs = cond (eqb (blanks_length false cs) 0) (token_here at (token_of cs) ∷ []) []

abbrev pub behind_here : List ℕ → ℕ
behind_here cs = cond (eqb (blanks_length false cs) 0) ((token_of cs).start + (token_of cs).size - 1) (blanks_length false cs - 1)

-- the tokens of characters from a place on, of which the first k are taken; the end of the text is the last
unfoldable pub tokens_from : ℕ → ℕ → List ℕ → List Token
tokens_from k at [] = token_here at (token kind.End 0) ∷ []
tokens_from (suc k) at (c ∷ cs) = tokens_from k (at + 1) cs
tokens_from zero at (c ∷ cs) = tokens_here at (c ∷ cs) ++ tokens_from (behind_here (c ∷ cs)) (at + 1) cs

abbrev pub tokens_of : List ℕ → List Token
tokens_of points = tokens_from 0 0 points
