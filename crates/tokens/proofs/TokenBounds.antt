-- Every token but the end takes a character, and all of its characters are there.
use Prim.Native.Nat.{ℕ, zero, suc, ◌+◌, ◌-◌, ◌≤◌, ◌<◌, zero-le}
use native.Mathlib.Omega.{arith}
use mathlib.Core.Path.{◌≡◌}
use mathlib.Core.Bool.{Bool, true, false, cond, ◌&&◌, ◌||◌, not}
use mathlib.Core.List.{List, [], ◌∷◌}
use lib.Dec.{eqb}
use lib.ListN.{length, get_or, drop, length-drop}
use lib.Seq.{drop-cons}
use borrow.Author.Tests.{eqb-false}
use Rattle.sequences.proofs.Booleans.{yes, no, decided, and_right}
use Rattle.characters.specs.Sequences.{no_point}
use Rattle.characters.specs.Escapes.{backslash}
use Rattle.tokens.specs.declared.TokenKind.{TokenKind}
use Rattle.tokens.specs.declared.TokenKind.TheVariants as kind
use Rattle.tokens.specs.declared.Token.{Token}
use Rattle.tokens.specs.Classes.{is_one_of, is_digit, is_ascii_letter, is_name_base, is_word_character, is_iri_character, is_sign, is_line_end, is_text_escape}
use Rattle.tokens.specs.Classes.{begins_variable, is_variable_character}
use Rattle.tokens.specs.Runs.{run_length, first_is, starts_with, dotted_end, name_item}
use Rattle.tokens.specs.Numerals.{token, is_plus_minus, digits_length, exponent_by, exponent_length, whole_or, pointed_or, number_or, signed_or}
use Rattle.tokens.specs.Texts.{two_more, text_from, text_of}
use Rattle.tokens.specs.Tokens.{variable_or_sign, angle_of, prefixed_of, word_token, named_of, blank_of, tag_of, pair_or, sign_of, token_of}
use Rattle.tokens.proofs.RunBounds.{first_some, behind_some, run_fits_lem, name_item_fits, dotted_fits, local_fits, tag_fits}

-- a token has so many characters at least, and ends within so many
pub record TokenFits (least most : ℕ) (t : Token) : Type 0 where
  pub taken : least ≤ t.size
  pub within : t.start + t.size ≤ most

wider : (least a b : ℕ) (t : Token) → a ≤ b → TokenFits least a t → TokenFits least b t
wider least a b t h f = record { taken = f.taken; within = omega (arith, f.within) }

single : (k : TokenKind) (n : ℕ) → TokenFits 1 (suc n) (token k 1)
single k n = omega arith

either_fits : {most : ℕ} {s t : Token} (b : Bool) → TokenFits 1 most s → TokenFits 1 most t → TokenFits 1 most (cond b s t)
either_fits true f g = f
either_fits false f g = g

-- ---- numbers
exponent_by_fits : (n before l : ℕ) → n ≤ l - before → exponent_by n before ≤ l
exponent_by_fits n before l h =
    elim (decided (eqb n 0)) [ yes k ↦ rw k zero-le | no k ↦ rw k (omega (arith, eqb-false n 0 k)) ]

pub exponent_fits : (cs : List ℕ) → exponent_length cs ≤ length cs
exponent_fits cs =
    elim (decided (first_is (is_one_of (0x65 ∷ 0x45 ∷ [])) cs)) [
      | yes k ↦
          elim (decided (first_is is_plus_minus (drop 1 cs))) [
            | yes m ↦
                rw (k, m)
                (exponent_by_fits (digits_length (drop 2 cs)) 2 (length cs) (omega (arith, run_fits_lem is_digit (drop 2 cs), length-drop 2 cs)))
            | no m ↦
                rw (k, m)
                (exponent_by_fits (digits_length (drop 1 cs)) 1 (length cs) (omega (arith, run_fits_lem is_digit (drop 1 cs), length-drop 1 cs)))
          ]
      | no k ↦ rw k zero-le
    ]

module _ (least most : ℕ) (other : Token) (h : least ≤ 1) (f : TokenFits least most other) (n : ℕ) where
  whole_fits : (x : ℕ) → n + x ≤ most → TokenFits least most (whole_or other n x)
  whole_fits x i =
      elim (decided (eqb n 0)) [
        | yes k ↦ rw k f
        | no k ↦
            let p : 1 ≤ n = omega (arith, eqb-false n 0 k) in
            elim (decided (eqb x 0)) [ yes m ↦ rw (k, m) (omega arith) | no m ↦ rw (k, m) (omega arith) ]
      ]

  pointed_fits : (m x : ℕ) → n + 1 + m + x ≤ most → TokenFits least most (pointed_or other n m x)
  pointed_fits m x i =
      elim (decided (eqb m 0)) [
        | yes k ↦
            elim (decided (eqb n 0 || eqb x 0)) [
              | yes l ↦ rw (k, l) (whole_fits 0 (omega arith))
              | no l ↦ rw (k, l) (omega arith)
            ]
        | no k ↦ elim (decided (eqb x 0)) [ yes l ↦ rw (k, l) (omega arith) | no l ↦ rw (k, l) (omega arith) ]
      ]

pub number_fits : (least : ℕ) (cs : List ℕ) (other : Token) → least ≤ 1 → TokenFits least (length cs) other
    → TokenFits least (length cs) (number_or other cs)
unfolding number_or
number_fits least cs other h f =
    let n = digits_length cs in
    let m = digits_length (drop (n + 1) cs) in
    let i = run_fits_lem is_digit cs in
    elim (decided (starts_with 0x2E (drop n cs))) [
      | yes k ↦
          let p = behind_some (λ c. eqb c 0x2E) n cs k in
          let j = run_fits_lem is_digit (drop (n + 1) cs) in
          let q : n + 1 + m ≤ length cs = omega (arith, j, length-drop (n + 1) cs) in
          let x = exponent_fits (drop (n + 1 + m) cs) in
          rw k
          (pointed_fits least (length cs) other h f n m (exponent_length (drop (n + 1 + m) cs)) (omega (arith, x, length-drop (n + 1 + m) cs)))
      | no k ↦
          let x = exponent_fits (drop n cs) in
          rw k (whole_fits least (length cs) other h f n (exponent_length (drop n cs)) (omega (arith, x, length-drop n cs)))
    ]

signed_fits : (cs : List ℕ) → TokenFits 1 (suc (length cs)) (signed_or (token kind.Sign 1) cs)
unfolding signed_or
signed_fits cs =
    let f = number_fits 0 cs (token kind.Sign 0) (omega arith) (omega arith) in
    elim (decided (eqb (number_or (token kind.Sign 0) cs).size 0)) [
      | yes k ↦ rw k (single kind.Sign (length cs))
      | no k ↦ rw k (record { taken = omega arith; within = omega (arith, f.within) })
    ]

-- ---- texts
pub two_there : (q : ℕ) (cs : List ℕ) → two_more q cs ≡ true → 2 ≤ length cs
two_there q cs e = omega (arith, behind_some (λ c. eqb c q) 1 cs (and_right (starts_with q cs) (starts_with q (drop 1 cs)) e))

quote_fits : (long : Bool) (q c : ℕ) (cs : List ℕ) (n : ℕ) → eqb c q && (not long || two_more q cs) ≡ true
    → TokenFits 1 (n + suc (length cs)) (token kind.QuotedText (cond long (n + 3) (n + 1)))
quote_fits true q c cs n e = omega (arith, two_there q cs (and_right (eqb c q) (two_more q cs) e))
quote_fits false q c cs n e = omega arith

text_from_fits : (long : Bool) (q k : ℕ) (cs : List ℕ) (n : ℕ) → 1 ≤ n → TokenFits 1 (n + length cs) (text_from long q k cs n)
unfolding text_from
text_from_fits long q k [] n h = omega arith
text_from_fits long q (suc k) (c ∷ cs) n h =
    wider 1 (n + 1 + length cs) (n + suc (length cs)) (text_from long q k cs (n + 1)) (omega arith) (text_from_fits long q k cs (n + 1) (omega arith))
text_from_fits long q zero (c ∷ cs) n h =
    let most = n + suc (length cs) in
    let more = text_from_fits long q 0 cs (n + 1) (omega arith) in
    let behind = text_from_fits long q 1 cs (n + 1) (omega arith) in
    let go = wider 1 (n + 1 + length cs) most (text_from long q 0 cs (n + 1)) (omega arith) more in
    let escaped = wider 1 (n + 1 + length cs) most (text_from long q 1 cs (n + 1)) (omega arith) behind in
    elim (decided (eqb c q && (not long || two_more q cs))) [
      | yes t ↦ rw t (quote_fits long q c cs n t)
      | no t ↦
          elim (decided (eqb c no_point)) [
            | yes u ↦ rw (t, u) (omega arith)
            | no u ↦
                elim (decided (eqb c backslash)) [
                  | yes v ↦
                      elim (decided (first_is is_text_escape cs)) [
                        | yes w ↦ rw (t, u, v, w) escaped
                        | no w ↦ rw (t, u, v, w) (omega arith)
                      ]
                  | no v ↦
                      elim (decided (is_line_end c && not long)) [ yes w ↦ rw (t, u, v, w) (omega arith) | no w ↦ rw (t, u, v, w) go ]
                ]
          ]
    ]

text_fits : (q : ℕ) (cs : List ℕ) → TokenFits 1 (suc (length cs)) (text_of q cs)
unfolding text_of
text_fits q cs =
    elim (decided (two_more q cs)) [
      | yes k ↦
          rw k
          (wider 1 (3 + length (drop 2 cs)) (suc (length cs)) (text_from true q 0 (drop 2 cs) 3) (omega (arith, two_there q cs k, length-drop 2 cs))
          (text_from_fits true q 0 (drop 2 cs) 3 (omega arith)))
      | no k ↦
          rw k (wider 1 (1 + length cs) (suc (length cs)) (text_from false q 0 cs 1) (omega arith) (text_from_fits false q 0 cs 1 (omega arith)))
    ]

-- ---- the others
variable_fits : (c : ℕ) (cs : List ℕ) → TokenFits 1 (suc (length cs)) (variable_or_sign c cs)
variable_fits c cs =
    let f : TokenFits 1 (suc (length cs)) (token kind.Variable (run_length is_variable_character cs + 1)) =
    omega (arith, run_fits_lem is_variable_character cs) in
    either_fits (first_is begins_variable cs) f (either_fits (eqb c 0x3F) (single kind.Sign (length cs)) (single kind.NoToken (length cs)))

angle_fits : (cs : List ℕ) → TokenFits 1 (suc (length cs)) (angle_of cs)
angle_fits cs =
    let n = run_length is_iri_character cs in
    elim (decided (starts_with 0x3E (drop n cs))) [
      | yes k ↦ rw k (omega (arith, behind_some (λ c. eqb c 0x3E) n cs k))
      | no k ↦
          elim (decided (starts_with no_point (drop n cs))) [
            | yes l ↦ rw (k, l) (omega (arith, behind_some (λ c. eqb c no_point) n cs l))
            | no l ↦
                elim (decided (starts_with 0x3D cs)) [
                  | yes m ↦ rw (k, l, m) (omega (arith, first_some (λ c. eqb c 0x3D) cs m))
                  | no m ↦ rw (k, l, m) (omega arith)
                ]
          ]
    ]

prefixed_fits : (n : ℕ) (cs : List ℕ) (most : ℕ) → n + 1 + length cs ≤ most → TokenFits 1 most (prefixed_of n cs)
prefixed_fits n cs most h = omega (arith, local_fits cs)

word_fits : (c : ℕ) (cs : List ℕ) → TokenFits 1 (suc (length cs)) (word_token c cs)
word_fits c cs =
    let f : TokenFits 1 (suc (length cs)) (token kind.Word (run_length is_word_character cs + 1)) = omega (arith, run_fits_lem is_word_character cs) in
    either_fits (is_ascii_letter c) f (single kind.NoToken (length cs))

named_fits : (c : ℕ) (cs : List ℕ) → TokenFits 1 (suc (length cs)) (named_of c cs)
named_fits c cs =
    let e = dotted_end name_item 0 cs 0 0 in
    elim (decided (starts_with 0x3A (drop e cs))) [
      | yes k ↦
          let h = behind_some (λ d. eqb d 0x3A) e cs k in
          rw k (prefixed_fits (e + 1) (drop (e + 1) cs) (suc (length cs)) (omega (arith, h, length-drop (e + 1) cs)))
      | no k ↦ rw k (word_fits c cs)
    ]

blank_fits : (cs : List ℕ) → TokenFits 1 (suc (length cs)) (blank_of cs)
blank_fits cs =
    let a = starts_with 0x3A cs in
    let b = first_is begins_variable (drop 1 cs) in
    elim (decided (a && b)) [
      | yes k ↦
          let h = behind_some begins_variable 1 cs (and_right a b k) in
          let d = dotted_fits name_item name_item_fits 0 (drop 2 cs) 3 3 (omega arith) (omega arith) in
          rw k (omega (arith, h, d.0, d.1, length-drop 2 cs))
      | no k ↦ rw k (single kind.NoToken (length cs))
    ]

tag_token_fits : (cs : List ℕ) → TokenFits 1 (suc (length cs)) (tag_of cs)
tag_token_fits cs =
    let n = run_length is_ascii_letter cs in
    let i = run_fits_lem is_ascii_letter cs in
    elim (decided (eqb n 0)) [
      | yes k ↦ rw k (single kind.NoToken (length cs))
      | no k ↦
          elim (decided (starts_with 0x2D (drop n cs))) [
            | yes l ↦
                let d = tag_fits (drop n cs) (n + 1) in
                rw (k, l) (omega (arith, d.0, d.1, length-drop n cs))
            | no l ↦ rw (k, l) (omega arith)
          ]
    ]

pair_fits : (k : TokenKind) (a : ℕ) (cs : List ℕ) → TokenFits 1 (suc (length cs)) (pair_or (token k 1) a cs)
pair_fits k a cs =
    elim (decided (starts_with a cs)) [
      | yes t ↦ rw t (omega (arith, first_some (λ c. eqb c a) cs t))
      | no t ↦ rw t (single k (length cs))
    ]

sign_fits : (c : ℕ) (cs : List ℕ) → TokenFits 1 (suc (length cs)) (sign_of c cs)
sign_fits c cs =
    either_fits (eqb c 0x26) (pair_fits kind.NoToken 0x26 cs)
    (either_fits (is_one_of (0x7C ∷ 0x5E ∷ []) c) (pair_fits kind.Sign c cs)
    (either_fits (is_one_of (0x21 ∷ 0x3E ∷ []) c) (pair_fits kind.Sign 0x3D cs)
    (either_fits (is_sign c) (single kind.Sign (length cs)) (single kind.NoToken (length cs)))))

pub token_fits : (c : ℕ) (cs : List ℕ) → TokenFits 1 (suc (length cs)) (token_of (c ∷ cs))
unfolding token_of
token_fits c cs =
    either_fits (eqb c no_point) (single kind.BadByte (length cs))
    (either_fits (eqb c backslash) (single kind.WrongEscape (length cs))
    (either_fits (is_one_of (0x22 ∷ 0x27 ∷ []) c) (text_fits c cs)
    (either_fits (is_one_of (0x3F ∷ 0x24 ∷ []) c) (variable_fits c cs)
    (either_fits (eqb c 0x3C) (angle_fits cs)
    (either_fits (is_digit c) (number_fits 1 (c ∷ cs) (token kind.NoToken 1) (omega arith) (single kind.NoToken (length cs)))
    (either_fits (eqb c 0x2E) (number_fits 1 (c ∷ cs) (token kind.Sign 1) (omega arith) (single kind.Sign (length cs)))
    (either_fits (is_plus_minus c) (signed_fits cs)
    (either_fits (eqb c 0x3A) (prefixed_fits 0 cs (suc (length cs)) (omega arith))
    (either_fits (is_name_base c) (named_fits c cs)
    (either_fits (eqb c 0x5F) (blank_fits cs)
    (either_fits (eqb c 0x40) (tag_token_fits cs) (sign_fits c cs))))))))))))

pub token_there : (points : List ℕ) (at : ℕ) → at < length points → TokenFits 1 (length points - at) (token_of (drop at points))
token_there points at h =
    let cs = drop (suc at) points in
    let c = get_or points at 0 in
    rw (drop-cons points at 0 h)
    (wider 1 (suc (length cs)) (length points - at) (token_of (c ∷ cs)) (omega (arith, length-drop (suc at) points)) (token_fits c cs))
