-- Numbers in a text [146-155]. Assumes nothing: these are definitions.
use Rattle.std.specs.Prelude.{ℕ, ◌+◌, Bool, cond, ◌||◌, List, [], ◌∷◌, eqb, drop}
use Rattle.tokens.specs.declared.TokenKind.{TokenKind}
use Rattle.tokens.specs.declared.TokenKind.TheVariants as kind
use Rattle.tokens.specs.declared.Token.{Token}
use Rattle.tokens.specs.Classes.{is_digit, is_one_of}
use Rattle.tokens.specs.Runs.{run_length, first_is, starts_with}

abbrev pub token : TokenKind → ℕ → Token
token k n = record { kind = k; start = 0; size = n }

-- + or -
abbrev pub is_plus_minus : ℕ → Bool
is_plus_minus c = is_one_of (0x2B ∷ 0x2D ∷ []) c

abbrev pub digits_length : List ℕ → ℕ
digits_length cs = run_length is_digit cs

-- [155] EXPONENT: e or E, a sign or none, digits; 0 where there is none
abbrev pub exponent_by : ℕ → ℕ → ℕ
exponent_by n before = cond (eqb n 0) 0 (before + n)

abbrev pub exponent_length : List ℕ → ℕ
exponent_length cs =
    cond (first_is (is_one_of (0x65 ∷ 0x45 ∷ [])) cs)
    (cond (first_is is_plus_minus (drop 1 cs)) (exponent_by (digits_length (drop 2 cs)) 2) (exponent_by (digits_length (drop 1 cs)) 1))
    0

-- n digits, a point and m digits or none, and an exponent of x characters or none
-- [146] INTEGER, [147] DECIMAL with digits behind the point, [148] DOUBLE with an exponent. Without digits it is no number
abbrev pub whole_or : Token → ℕ → ℕ → Token
whole_or other n x = cond (eqb n 0) other (cond (eqb x 0) (token kind.Integer n) (token kind.Double (n + x)))

abbrev pub pointed_or : Token → ℕ → ℕ → ℕ → Token
pointed_or other n m x =
    cond (eqb m 0)
    (cond (eqb n 0 || eqb x 0) (whole_or other n 0) (token kind.Double (n + 1 + x)))
    (cond (eqb x 0) (token kind.Decimal (n + 1 + m)) (token kind.Double (n + 1 + m + x)))

abbrev pub number_by : Token → ℕ → List ℕ → Token
number_by other n cs =
    cond (starts_with 0x2E (drop n cs))
    (pointed_or other n (digits_length (drop (n + 1) cs)) (exponent_length (drop (n + 1 + digits_length (drop (n + 1) cs)) cs)))
    (whole_or other n (exponent_length (drop n cs)))

-- the number that some characters begin with, or another token
unfoldable pub number_or : Token → List ℕ → Token
number_or other cs = number_by other (digits_length cs) cs

abbrev pub one_more : Token → Token
one_more t = token t.kind (t.size + 1)

-- [149-154] a number with its sign, or the sign alone
unfoldable pub signed_or : Token → List ℕ → Token
signed_or other cs = cond (eqb (number_or (token kind.Sign 0) cs).size 0) other (one_more (number_or (token kind.Sign 0) cs))
