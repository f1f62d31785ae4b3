-- A text has at most a token for each character and its end, and each token ends within it.
use Prim.Native.Nat.{ℕ, zero, suc, ◌+◌, ◌-◌, ◌≤◌}
use native.Mathlib.Omega.{arith}
use mathlib.Core.Path.{◌≡◌, refl}
use mathlib.Core.Bool.{Bool, true, false}
use mathlib.Core.List.{List, [], ◌∷◌}
use lib.Dec.{eqb, leb}
use lib.ListN.{length}
use borrow.Author.Tests.{le-leb}
use Rattle.sequences.specs.Sequences.{all}
use Rattle.sequences.proofs.Booleans.{yes, no, decided}
use Rattle.sequences.proofs.Elements.{all_cons}
use Rattle.tokens.specs.declared.TokenKind.TheVariants as kind
use Rattle.tokens.specs.declared.Token.{Token}
use Rattle.tokens.specs.Runs.{blanks_length}
use Rattle.tokens.specs.Numerals.{token}
use Rattle.tokens.specs.Tokens.{token_of, token_here, tokens_from, tokens_of}
use Rattle.tokens.proofs.TokenBounds.{token_fits}

count_from : (k at : ℕ) (cs : List ℕ) → length (tokens_from k at cs) ≤ suc (length cs)
unfolding tokens_from
count_from k at [] = omega arith
count_from (suc k) at (c ∷ cs) = omega (arith, count_from k (at + 1) cs)
count_from zero at (c ∷ cs) =
    elim (decided (eqb (blanks_length false (c ∷ cs)) 0)) [
      | yes e ↦ rw e (omega (arith, count_from ((token_of (c ∷ cs)).start + (token_of (c ∷ cs)).size - 1) (at + 1) cs))
      | no e ↦ rw e (omega (arith, count_from (blanks_length false (c ∷ cs) - 1) (at + 1) cs))
    ]

pub tokens_count : (points : List ℕ) → length (tokens_of points) ≤ length points + 1
tokens_count points = omega (arith, count_from 0 0 points)

abbrev pub ends_within : ℕ → Token → Bool
ends_within n t = leb (t.start + t.size) n

within_from : (n k at : ℕ) (cs : List ℕ) → at + length cs ≤ n → all (ends_within n) (tokens_from k at cs) ≡ true
unfolding tokens_from all
within_from n k at [] h =
    all_cons (ends_within n) (token_here at (token kind.End 0)) [] (le-leb (at + 0 + 0) n (omega arith)) refl
within_from n (suc k) at (c ∷ cs) h = within_from n k (at + 1) cs (omega arith)
within_from n zero at (c ∷ cs) h =
    let t = token_of (c ∷ cs) in
    let f = token_fits c cs in
    elim (decided (eqb (blanks_length false (c ∷ cs)) 0)) [
      | yes e ↦
          rw e
          (all_cons (ends_within n) (token_here at t) (tokens_from (t.start + t.size - 1) (at + 1) cs)
          (le-leb (at + t.start + t.size) n (omega (arith, f.within)))
          (within_from n (t.start + t.size - 1) (at + 1) cs (omega arith)))
      | no e ↦ rw e (within_from n (blanks_length false (c ∷ cs) - 1) (at + 1) cs (omega arith))
    ]

pub tokens_within : (points : List ℕ) → all (ends_within (length points)) (tokens_of points) ≡ true
tokens_within points = within_from (length points) 0 0 points (omega arith)
