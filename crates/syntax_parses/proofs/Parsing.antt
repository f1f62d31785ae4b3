-- Tokens in turn.
use Prim.Native.Nat.{ℕ, ◌+◌, ◌≤◌, ◌<◌}
use mathlib.Core.Path.{◌≡◌, sym, ◌∙◌, ap}
use mathlib.Core.List.{List, ◌∷◌}
use lib.ListN.{length, get_or, drop, drop_of_length-le}
use Rattle.syntax.specs.Machine.{on, off, fed_to, read, fault, word_kind, parsed}
use Rattle.syntax_parses.proofs.Stacks.{first_waits}

module _ (tokens : List ℕ) (i : ℕ) where
  module _ (h : i < length tokens) (st out : List ℕ) where
    abbrev t : ℕ
    t = get_or tokens i 0

    step : parsed (drop i tokens) st out ≡ parsed (t ∷ drop (i + 1) tokens) st out
    step = ap (λ l. parsed l st out) (first_waits tokens i h)

    pub parse_on : (st' out' : List ℕ) → on st' out' ≡ fed_to (word_kind t) t st out
        → parsed (drop (i + 1) tokens) st' out' ≡ parsed (drop i tokens) st out
    unfolding parsed
    parse_on st' out' e = sym (step ∙ rw (sym e))

    pub parse_off : (n : ℕ) → off n ≡ fed_to (word_kind t) t st out → fault n t ≡ parsed (drop i tokens) st out
    unfolding parsed
    parse_off n e = sym (step ∙ rw (sym e))

  module _ (h : length tokens ≤ i) (stack out : List ℕ) (top : ℕ) where
    pub parse_done : length stack ≤ top → read out ≡ parsed (drop i tokens) (drop top stack) out
    unfolding parsed
    parse_done l = rw (drop_of_length-le tokens {i = i} h, drop_of_length-le stack {i = top} l)

    pub parse_short : top < length stack → fault 3 0 ≡ parsed (drop i tokens) (drop top stack) out
    unfolding parsed
    parse_short l = rw (drop_of_length-le tokens {i = i} h, first_waits stack top l)
