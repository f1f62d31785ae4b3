-- The tokens of a text one by one: blanks are passed over, then a token is read, and the others follow it.
use Prim.Native.Nat.{ℕ, zero, suc, ◌+◌, ◌-◌, ◌≤◌, ◌<◌, zero-le}
use native.Mathlib.Omega.{arith}
use native.Mathlib.Nat.{add-zero}
use native.Mathlib.Numerals.{add-one}
use mathlib.Core.Path.{◌≡◌, refl, sym, ◌∙◌, ap}
use mathlib.Core.Bool.{Bool, true, false, not}
use mathlib.Core.List.{List, [], ◌∷◌}
use lib.Dec.{eqb}
use lib.ListN.{length, get_or, drop, drop_of_length-le}
use lib.Seq.{drop-cons, drop-drop}
use borrow.Author.Tests.{eqb-true, eqb-false}
use Rattle.sequences.proofs.Booleans.{yes, no, decided}
use Rattle.characters.specs.Sequences.{no_point}
use Rattle.tokens.specs.declared.TokenKind.TheVariants as kind
use Rattle.tokens.specs.declared.Token.{Token}
use Rattle.tokens.specs.Classes.{is_blank, is_line_end}
use Rattle.tokens.specs.Runs.{blanks_length}
use Rattle.tokens.specs.Numerals.{token}
use Rattle.tokens.specs.Tokens.{token_of, token_here, tokens_from}
use Rattle.tokens.proofs.TokenBounds.{TokenFits, token_fits, token_there}

-- ---- blanks
blanks_fit : (cs : List ℕ) (comment : Bool) → blanks_length comment cs ≤ length cs
unfolding blanks_length
blanks_fit [] true = zero-le
blanks_fit [] false = zero-le
blanks_fit (c ∷ cs) true =
    elim (decided (eqb c no_point)) [ yes k ↦ rw k zero-le | no k ↦ rw k (omega (arith, blanks_fit cs (not (is_line_end c)))) ]
blanks_fit (c ∷ cs) false =
    elim (decided (eqb c 0x23)) [
      | yes k ↦ rw k (omega (arith, blanks_fit cs true))
      | no k ↦ elim (decided (is_blank c)) [ yes m ↦ rw (k, m) (omega (arith, blanks_fit cs false)) | no m ↦ rw (k, m) zero-le ]
    ]

-- behind them there are none
blanks_once : (cs : List ℕ) (comment : Bool) → blanks_length false (drop (blanks_length comment cs) cs) ≡ 0
unfolding blanks_length
blanks_once [] true = refl
blanks_once [] false = refl
blanks_once (c ∷ cs) true =
    elim (decided (eqb c no_point)) [
      | yes k ↦ rw k (ap (λ d. blanks_length false (d ∷ cs)) (eqb-true c no_point k))
      | no k ↦
          let m = blanks_length (not (is_line_end c)) cs in
          rw k (ap (λ n. blanks_length false (drop n (c ∷ cs))) (add-one m) ∙ blanks_once cs (not (is_line_end c)))
    ]
blanks_once (c ∷ cs) false =
    elim (decided (eqb c 0x23)) [
      | yes k ↦ rw k (ap (λ n. blanks_length false (drop n (c ∷ cs))) (add-one (blanks_length true cs)) ∙ blanks_once cs true)
      | no k ↦
          elim (decided (is_blank c)) [
            | yes m ↦ rw (k, m) (ap (λ n. blanks_length false (drop n (c ∷ cs))) (add-one (blanks_length false cs)) ∙ blanks_once cs false)
            | no m ↦ rw (k, m) (rw (k, m) refl)
          ]
    ]

-- ---- characters that are taken already
tokens_behind : (k at : ℕ) (cs : List ℕ) → k ≤ length cs → tokens_from k at cs ≡ tokens_from 0 (at + k) (drop k cs)
unfolding tokens_from
tokens_behind zero at cs h = ap (λ n. tokens_from 0 n cs) (sym (add-zero at))
tokens_behind (suc k) at [] h = absurd (omega arith)
tokens_behind (suc k) at (c ∷ cs) h =
    let z : at + 1 + k ≡ at + suc k = omega arith in
    tokens_behind k (at + 1) cs (omega arith) ∙ ap (λ n. tokens_from 0 n (drop k cs)) z

-- ---- blanks are passed over
module _ (at b : ℕ) (k : eqb b 0 ≡ false) where
  skip_some : (c : ℕ) (cs : List ℕ) → b ≡ blanks_length false (c ∷ cs) → tokens_from 0 at (c ∷ cs) ≡ tokens_from (b - 1) (at + 1) cs
  unfolding tokens_from
  skip_some c cs e = rw (sym e, k) refl

  skip_more : (cs : List ℕ) → b ≡ blanks_length false cs → b ≤ length cs → tokens_from 0 at cs ≡ tokens_from 0 (at + b) (drop b cs)
  skip_more [] e h = absurd (eqb-false b 0 k (omega arith))
  skip_more (c ∷ cs) e h =
      let p = eqb-false b 0 k in
      let x : suc (b - 1) ≡ b = omega (arith, p) in
      let y : at + 1 + (b - 1) ≡ at + b = omega (arith, p) in
      skip_some c cs e
      ∙ tokens_behind (b - 1) (at + 1) cs (omega (arith, p))
      ∙ ap (λ n. tokens_from 0 n (drop (b - 1) cs)) y
      ∙ ap (λ n. tokens_from 0 (at + b) (drop n (c ∷ cs))) x

tokens_skip : (at : ℕ) (cs : List ℕ) → tokens_from 0 at cs ≡ tokens_from 0 (at + blanks_length false cs) (drop (blanks_length false cs) cs)
tokens_skip at cs =
    elim (decided (eqb (blanks_length false cs) 0)) [
      | yes k ↦ rw (eqb-true (blanks_length false cs) 0 k) (ap (λ n. tokens_from 0 n cs) (sym (add-zero at)))
      | no k ↦ skip_more at (blanks_length false cs) k cs refl (blanks_fit cs false)
    ]

module _ (points : List ℕ) (from next : ℕ) (e : next ≡ from + blanks_length false (drop from points)) where
  behind_blanks : drop (blanks_length false (drop from points)) (drop from points) ≡ drop next points
  behind_blanks = drop-drop (blanks_length false (drop from points)) from points ∙ ap (λ n. drop n points) (sym e)

  pub skipped_blanks : blanks_length false (drop next points) ≡ 0
  skipped_blanks = ap (blanks_length false) (sym behind_blanks) ∙ blanks_once (drop from points) false

  pub skipped_tokens : tokens_from 0 from (drop from points) ≡ tokens_from 0 next (drop next points)
  skipped_tokens =
      tokens_skip from (drop from points)
      ∙ ap (λ n. tokens_from 0 n (drop (blanks_length false (drop from points)) (drop from points))) (sym e)
      ∙ ap (tokens_from 0 next) behind_blanks

-- ---- a token, and those behind it
module _ (at c : ℕ) (cs : List ℕ) (e : blanks_length false (c ∷ cs) ≡ 0) (t : Token) (r : t ≡ token_of (c ∷ cs)) where
  tokens_begin : tokens_from 0 at (c ∷ cs) ≡ token_here at t ∷ tokens_from (t.start + t.size - 1) (at + 1) cs
  unfolding tokens_from
  tokens_begin = rw (e, sym r) refl

  tokens_first : tokens_from 0 at (c ∷ cs) ≡ token_here at t ∷ tokens_from 0 (at + (t.start + t.size)) (drop (t.start + t.size) (c ∷ cs))
  tokens_first =
      let f : TokenFits 1 (suc (length cs)) t = rw r (token_fits c cs) in
      let n = t.start + t.size in
      let x : suc (n - 1) ≡ n = omega (arith, f.taken) in
      let y : at + 1 + (n - 1) ≡ at + n = omega (arith, f.taken) in
      tokens_begin
      ∙ ap (λ l. token_here at t ∷ l)
      (tokens_behind (n - 1) (at + 1) cs (omega (arith, f.within))
      ∙ ap (λ m. tokens_from 0 m (drop (n - 1) cs)) y
      ∙ ap (λ m. tokens_from 0 (at + n) (drop m (c ∷ cs))) x)

module _ (points : List ℕ) (at : ℕ) where
  pub tokens_over : length points ≤ at → tokens_from 0 at (drop at points) ≡ token_here at (token kind.End 0) ∷ []
  unfolding tokens_from
  tokens_over h = rw (drop_of_length-le points {i = at} h) refl

  module _ (h : at < length points) (t : Token) (r : t ≡ token_here at (token_of (drop at points))) where
    -- it has a character, begins here or further on, and ends within the text
    pub token_span : (1 ≤ t.size) × (at ≤ t.start) × (t.start + t.size ≤ length points)
    token_span =
        let f = token_there points at h in
        rw r (omega (arith, f.taken, f.within, h))

    pub tokens_next : blanks_length false (drop at points) ≡ 0
        → tokens_from 0 at (drop at points) ≡ t ∷ tokens_from 0 (t.start + t.size) (drop (t.start + t.size) points)
    tokens_next e =
        let o = token_of (drop at points) in
        let c = get_or points at 0 in
        let cs = drop (suc at) points in
        let d = drop-cons points at 0 h in
        let n = o.start + o.size in
        let z : at + n ≡ at + o.start + o.size = omega arith in
        let u : t.start + t.size ≡ at + n = ap (λ x. x.start + x.size) r ∙ sym z in
        ap (tokens_from 0 at) d
        ∙ tokens_first at c cs (ap (blanks_length false) (sym d) ∙ e) o (ap token_of d)
        ∙ ap (λ l. token_here at o ∷ tokens_from 0 (at + n) l) (ap (drop n) (sym d) ∙ drop-drop n at points)
        ∙ ap (λ m. token_here at o ∷ tokens_from 0 m (drop m points)) (sym u)
        ∙ ap (λ x. x ∷ tokens_from 0 (t.start + t.size) (drop (t.start + t.size) points)) (sym r)
