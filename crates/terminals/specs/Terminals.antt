-- What each token of a text is for the grammar. Assumes nothing: these are definitions.
use Rattle.std.specs.Prelude.{ℕ, ◌+◌, ◌*◌, suc, Bool, false, cond, ◌&&◌, ◌||◌, List, [], ◌∷◌, eqb, leb, length, take, drop}
use Rattle.dictionaries.specs.Utf8.{span, is_in}
use Rattle.dictionaries.specs.Strings.{same_string}
use Rattle.tokens.specs.Classes.{is_one_of, is_digit}
use Rattle.tokens.specs.Runs.{run_length, first_is, starts_with}
use Rattle.tokens.specs.declared.TokenKind.TheVariants as kind
use Rattle.tokens.specs.TokenWords.{kind_number}
use Rattle.syntax.specs.Kinds.{end_token, variable_token, name_token, whole_token, typed_whole_token, odd_token, typed_odd_token, text_token, typed_text_token}
use Rattle.syntax.specs.Kinds.{prefix_name_token, prefix_iri_token, year_token, count_token, year_variable_token, undeclared_token, relative_token}
use Rattle.syntax.specs.Kinds.{typed_other_token, other_value_token, unread_token, bad_token, wrong_token, typing_token}
use Rattle.syntax.specs.Kinds.{prefix_word, from_word, graph_word, grouping_word, order_word, limit_word, offset_word}
use Rattle.terminals.specs.Spellings.{spelled_kind, keyword_kind}
use Rattle.terminals.specs.Names.{SpelledToken, within, has_scheme, is_bare, Declaration, declarations_of, Declared, nothing, iri, named, is_year_name}

-- ---- numbers: [+-]?[0-9]+
abbrev pub is_signed : List ℕ → Bool
is_signed cs = first_is (is_one_of (0x2B ∷ 0x2D ∷ [])) cs

abbrev pub unsigned : List ℕ → List ℕ
unsigned cs = cond (is_signed cs) (drop 1 cs) cs

unfoldable pub is_whole_number : List ℕ → Bool
is_whole_number cs = first_is is_digit (unsigned cs) && eqb (run_length is_digit (unsigned cs)) (length (unsigned cs))

-- no +, no zeros before other digits, no -0
unfoldable pub is_shortest : List ℕ → Bool
is_shortest cs =
    cond (starts_with 0x2B cs) false
    (cond (starts_with 0x2D cs) (first_is (is_in (span 0x31 0x39)) (drop 1 cs)) (first_is (is_in (span 0x31 0x39)) cs || eqb (length cs) 1))

-- behind LIMIT and OFFSET a number without a sign is a count
abbrev pub number_terminal : ℕ → List ℕ → ℕ
number_terminal last cs =
    cond (is_one_of (limit_word ∷ offset_word ∷ []) last && first_is is_digit cs) count_token (cond (is_shortest cs) whole_token odd_token)

-- ---- names
-- behind FROM a name is a year or not
abbrev pub year_or : ℕ → List ℕ → ℕ
year_or last i = cond (eqb last from_word && is_year_name i) year_token name_token

abbrev pub iri_terminal : ℕ → List ℕ → ℕ
iri_terminal last i = cond (has_scheme i) (cond (eqb last prefix_name_token) prefix_iri_token (year_or last i)) relative_token

abbrev declared_kind : ℕ → Declared → ℕ
declared_kind last nothing = undeclared_token
declared_kind last (iri i) = year_or last i

abbrev pub name_terminal : ℕ → List ℕ → Declared → ℕ
name_terminal last cs d = cond (eqb last prefix_word && is_bare cs) prefix_name_token (declared_kind last d)

-- ---- texts
-- the characters within one quote on each side, or three
abbrev pub is_long : List ℕ → Bool
is_long cs = leb 6 (length cs) && same_string (take 1 cs) (take 1 (drop 1 cs))

unfoldable pub quoted : List ℕ → List ℕ
quoted cs = cond (is_long cs) (within (within (within cs))) (within cs)

-- http://www.w3.org/2001/XMLSchema#
abbrev schema : List ℕ → List ℕ
schema cs =
    0x68 ∷ 0x74 ∷ 0x74 ∷ 0x70 ∷ 0x3A ∷ 0x2F ∷ 0x2F ∷ 0x77 ∷ 0x77 ∷ 0x77 ∷ 0x2E ∷ 0x77 ∷ 0x33 ∷ 0x2E ∷ 0x6F ∷ 0x72 ∷ 0x67
    ∷ 0x2F ∷ 0x32 ∷ 0x30 ∷ 0x30 ∷ 0x31 ∷ 0x2F ∷ 0x58 ∷ 0x4D ∷ 0x4C ∷ 0x53 ∷ 0x63 ∷ 0x68 ∷ 0x65 ∷ 0x6D ∷ 0x61 ∷ 0x23 ∷ cs

abbrev pub xsd_string : List ℕ
xsd_string = schema (0x73 ∷ 0x74 ∷ 0x72 ∷ 0x69 ∷ 0x6E ∷ 0x67 ∷ [])

abbrev pub xsd_integer : List ℕ
xsd_integer = schema (0x69 ∷ 0x6E ∷ 0x74 ∷ 0x65 ∷ 0x67 ∷ 0x65 ∷ 0x72 ∷ [])

abbrev pub typed_number : List ℕ → ℕ
typed_number cs = cond (is_whole_number cs) (cond (is_shortest cs) typed_whole_token typed_odd_token) typed_other_token

-- a text of the datatype that is named behind its ^^
abbrev pub typed_terminal : List ℕ → Declared → ℕ
typed_terminal cs nothing = typed_other_token
typed_terminal cs (iri i) =
    cond (same_string i xsd_string) typed_text_token (cond (same_string i xsd_integer) (typed_number (quoted cs)) typed_other_token)

abbrev pub text_terminal : List Declaration → List ℕ → List SpelledToken → ℕ
text_terminal ds cs [] = text_token
text_terminal ds cs (s ∷ []) = text_token
text_terminal ds cs (s ∷ t ∷ ps) =
    cond (eqb s.is (kind_number kind.Sign) && eqb (spelled_kind s.letters) typing_token) (typed_terminal cs (named ds t.is t.letters)) text_token

-- ---- variables: ?x and $x are one; GRAPH's is known from behind GRAPH on, up to GROUP or ORDER
abbrev pub variable_terminal : List ℕ → List ℕ → ℕ
variable_terminal graph cs = cond (same_string (drop 1 cs) graph) year_variable_token variable_token

abbrev pub graph_behind : List ℕ → ℕ → ℕ → List ℕ → List ℕ
graph_behind graph last k cs =
    cond (is_one_of (grouping_word ∷ order_word ∷ []) k) [] (cond (eqb last graph_word && eqb k variable_token) (drop 1 cs) graph)

-- ---- a token behind one of the kind `last`, before the others
unfoldable pub terminal_kind : List Declaration → ℕ → List ℕ → ℕ → List ℕ → List SpelledToken → ℕ
terminal_kind ds last graph k cs ps =
    cond (eqb k (kind_number kind.End)) end_token
    (cond (eqb k (kind_number kind.Word)) (keyword_kind cs)
    (cond (eqb k (kind_number kind.Variable)) (variable_terminal graph cs)
    (cond (eqb k (kind_number kind.Iri)) (iri_terminal last (within cs))
    (cond (eqb k (kind_number kind.PrefixedName)) (name_terminal last cs (named ds k cs))
    (cond (is_one_of (kind_number kind.BlankLabel ∷ kind_number kind.LanguageTag ∷ []) k) unread_token
    (cond (eqb k (kind_number kind.Integer)) (number_terminal last cs)
    (cond (is_one_of (kind_number kind.Decimal ∷ kind_number kind.Double ∷ []) k) other_value_token
    (cond (eqb k (kind_number kind.QuotedText)) (text_terminal ds cs ps)
    (cond (eqb k (kind_number kind.Sign)) (spelled_kind cs)
    (cond (is_one_of (kind_number kind.BadByte ∷ kind_number kind.NoToken ∷ []) k) bad_token wrong_token))))))))))

abbrev pub kind_here : List Declaration → ℕ → List ℕ → SpelledToken → List SpelledToken → ℕ
kind_here ds last graph p ps = terminal_kind ds last graph p.is p.letters ps

-- a word for each token: its kind, and above it its number
unfoldable pub terminals_from : List Declaration → ℕ → ℕ → List ℕ → List SpelledToken → List ℕ
terminals_from ds i last graph [] = []
terminals_from ds i last graph (p ∷ ps) =
    (kind_here ds last graph p ps + 128 * i)
    ∷ terminals_from ds (suc i) (kind_here ds last graph p ps) (graph_behind graph last (kind_here ds last graph p ps) p.letters) ps

abbrev pub terminals_of : List SpelledToken → List ℕ
terminals_of ps = terminals_from (declarations_of ps) 0 end_token [] ps

-- ---- the tokens of some characters, spelled; a token is three words
abbrev pub piece : List ℕ → ℕ → ℕ → ℕ → SpelledToken
piece points k s n = record { is = k; letters = take n (drop s points) }

unfoldable pub pieces : List ℕ → List ℕ → List SpelledToken
pieces points [] = []
pieces points (k ∷ []) = []
pieces points (k ∷ s ∷ []) = []
pieces points (k ∷ s ∷ n ∷ ws) = piece points k s n ∷ pieces points ws
