-- Names: IRIs, prefixes and what they stand for. Lists are of code points. Assumes nothing: these are definitions.
use Rattle.std.specs.Prelude.{ℕ, ◌+◌, ◌-◌, Bool, cond, ◌&&◌, ◌||◌, not, List, [], ◌∷◌, ◌++◌, eqb, leb, length, take, drop}
use Rattle.sequences.specs.Sequences.{keep}
use Rattle.dictionaries.specs.Utf8.{span, is_in}
use Rattle.dictionaries.specs.Strings.{same_string}
use Rattle.tokens.specs.Classes.{is_one_of, is_digit, is_ascii_letter}
use Rattle.tokens.specs.Runs.{run_length, first_is, starts_with}
use Rattle.tokens.specs.declared.TokenKind.TheVariants as kind
use Rattle.tokens.specs.TokenWords.{kind_number}
use Rattle.syntax.specs.Kinds.{prefix_word}
use Rattle.terminals.specs.Spellings.{keyword_kind}

-- a token as it is spelled: the number of its kind, and its characters
pub record SpelledToken : Type 0 where
  pub is : ℕ
  pub letters : List ℕ

-- what stands between the first and the last character: < and >, or two quotes
abbrev pub within : List ℕ → List ℕ
within cs = take (length cs - 2) (drop 1 cs)

-- an IRI with a scheme, [A-Za-z][A-Za-z0-9+.-]*: ; any other is relative
abbrev pub is_scheme_character : ℕ → Bool
is_scheme_character c = is_ascii_letter c || (is_digit c || is_one_of (0x2B ∷ 0x2E ∷ 0x2D ∷ []) c)

unfoldable pub has_scheme : List ℕ → Bool
has_scheme cs = first_is is_ascii_letter cs && starts_with 0x3A (drop (run_length is_scheme_character cs) cs)

-- the characters before the first colon are the prefix, those behind it the local name
abbrev pub is_no_colon : ℕ → Bool
is_no_colon c = not (eqb c 0x3A)

unfoldable pub prefix_size : List ℕ → ℕ
prefix_size cs = run_length is_no_colon cs

abbrev pub name_prefix : List ℕ → List ℕ
name_prefix cs = take (prefix_size cs) cs

abbrev pub local_of : List ℕ → List ℕ
local_of cs = drop (prefix_size cs + 1) cs

-- a prefix with its colon and nothing behind it
abbrev pub is_bare : List ℕ → Bool
is_bare cs = eqb (prefix_size cs + 1) (length cs)

-- [173] in a local name a backslash only says that the character behind it is one of the name
abbrev pub is_no_backslash : ℕ → Bool
is_no_backslash c = not (eqb c 0x5C)

unfoldable pub unescaped : List ℕ → List ℕ
unescaped cs = keep is_no_backslash cs

-- ---- declarations: PREFIX, a prefix and an IRI, again and again from the first token on
pub data Declared : Type 0 where
  nothing : Declared
  iri : List ℕ → Declared

pub record Declaration : Type 0 where
  pub prefix : List ℕ
  pub stands : Declared

abbrev pub is_declaration : SpelledToken → SpelledToken → SpelledToken → Bool
is_declaration w p i =
    eqb w.is (kind_number kind.Word)
    && (eqb p.is (kind_number kind.PrefixedName)
    && (eqb i.is (kind_number kind.Iri) && (eqb (keyword_kind w.letters) prefix_word && is_bare p.letters)))

abbrev pub declaration : SpelledToken → SpelledToken → Declaration
declaration p i = record { prefix = name_prefix p.letters; stands = iri (within i.letters) }

unfoldable pub declarations_of : List SpelledToken → List Declaration
declarations_of [] = []
declarations_of (w ∷ []) = []
declarations_of (w ∷ p ∷ []) = []
declarations_of (w ∷ p ∷ i ∷ ps) = cond (is_declaration w p i) (declaration p i ∷ declarations_of ps) []

-- what a prefix stands for: the last declaration of it counts
unfoldable pub last_declared : List Declaration → List ℕ → Declared → Declared
last_declared [] p found = found
last_declared (d ∷ ds) p found = last_declared ds p (cond (same_string p d.prefix) d.stands found)

-- the IRI of a name: as it is written in <>, or the prefix's with the local name behind it
abbrev with_local : Declared → List ℕ → Declared
with_local nothing local = nothing
with_local (iri i) local = iri (i ++ unescaped local)

abbrev pub named : List Declaration → ℕ → List ℕ → Declared
named ds k cs =
    cond (eqb k (kind_number kind.Iri)) (iri (within cs))
    (cond (eqb k (kind_number kind.PrefixedName)) (with_local (last_declared ds (name_prefix cs) nothing) (local_of cs)) nothing)

-- ---- years: year: and a number from 1 to 9,999 in its shortest writing
abbrev year_number : List ℕ → Bool
year_number cs = first_is (is_in (span 0x31 0x39)) cs && (eqb (run_length is_digit cs) (length cs) && leb (length cs) 4)

abbrev pub year_scheme : List ℕ
year_scheme = 0x79 ∷ 0x65 ∷ 0x61 ∷ 0x72 ∷ 0x3A ∷ []

unfoldable pub is_year_name : List ℕ → Bool
is_year_name cs = same_string (take 5 cs) year_scheme && year_number (drop 5 cs)
