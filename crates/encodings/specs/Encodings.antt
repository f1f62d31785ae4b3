-- Terms of strings and whole numbers, and their words by two dictionaries. Assumes nothing: these are definitions.
use Rattle.std.specs.Prelude.{ℕ, ◌-◌, Bool, true, cond, List, [], ◌∷◌, ltb, ℤ, pos, negsuc}
use Rattle.std.proofs.Math.Option.{Option, none, some}
use Rattle.words.specs.Words as words
use Rattle.plans.specs.Conditions.{next}
use Rattle.std.specs.Prelude.{Result, Ok, Err}
use Rattle.dictionaries.specs.Utf8.{code_points}
use Rattle.dictionaries.specs.Dictionaries.{strings_of}
use Rattle.dictionaries.specs.Lookups.{lookup_in}
use Rattle.sparql.specs.Terms.{RdfTermOver, iri, integer, text}
use Rattle.sparql_strings.specs.Carrying.{carry_term}
use Rattle.sparql_strings.specs.Strings.{by_string, Dictionaries}

-- a term as it is given, names and texts by their bytes; and by the code points that these are
abbrev pub StringTerm : Type 0
StringTerm = RdfTermOver by_string

abbrev pub in_code_points : StringTerm → StringTerm
in_code_points x = carry_term (record { name = code_points; text = code_points }) x

-- a whole number that 30 bits have in two's complement: from -2^29 to 2^29 - 1
abbrev pub is_signed30 : ℤ → Bool
is_signed30 (pos n) = ltb n 0x2000_0000
is_signed30 (negsuc n) = ltb n 0x2000_0000

-- its bits
abbrev pub bits_of30 : ℤ → ℕ
bits_of30 (pos n) = n
bits_of30 (negsuc n) = 0x3FFF_FFFF - n

-- ---- the word of a term, none where there is none: a string that the dictionary has not, or a whole number that is out of its bits
abbrev pub number_word : ℤ → Option ℕ
number_word n = cond (is_signed30 n) (some (words.number (bits_of30 n))) none

abbrev pub found_word : (ℕ → ℕ) → Result ℕ ℕ → Option ℕ
found_word kind (Ok n) = some (kind n)
found_word kind (Err n) = none

abbrev pub word_of : Dictionaries → StringTerm → Option ℕ
word_of d (iri s) = found_word words.name (lookup_in (strings_of d.name_bytes d.name_ends) s)
word_of d (integer n) = number_word n
word_of d (text s) = found_word words.text (lookup_in (strings_of d.text_bytes d.text_ends) s)

-- the words of terms, one behind the other; none where one of them has none
unfoldable pub words_of : Dictionaries → List StringTerm → Option (List ℕ)
words_of d [] = some []
words_of d (x ∷ xs) = next (word_of d x) (λ w. next (words_of d xs) (λ ws. some (w ∷ ws)))

-- a term but for a whole number that is out of its 30 bits
abbrev pub is_encodable : StringTerm → Bool
is_encodable (iri s) = true
is_encodable (integer n) = is_signed30 n
is_encodable (text s) = true
