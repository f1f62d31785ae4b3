-- A token and the symbols that wait for it, one after the other.
use Prim.Native.Nat.{ℕ, ◌+◌, ◌≤◌, ◌<◌}
use mathlib.Core.Path.{◌≡◌, sym, ◌∙◌, ap}
use mathlib.Core.Bool.{Bool, true, false}
use mathlib.Core.List.{List, [], ◌∷◌, ◌++◌}
use lib.ListN.{length, get_or, take, drop, set, drop_of_length-le}
use borrow.Author.Tests.{lt-ltb, le-ltb}
use Rattle.syntax.specs.Cells.{refuse, pass, shift}
use Rattle.syntax.specs.Grammar.{cell_of}
use Rattle.syntax.specs.Machine.{AfterToken, on, off, fed_to, written_if}
use Rattle.syntax_cells.specs.TableWords.{grammar_words}
use Rattle.syntax_cells.specs.declared.Placing.{Placing}
use Rattle.syntax_cells.specs.Finding.{placed_symbols}
use Rattle.syntax_parses.proofs.Stacks.{first_waits, one_written}

-- ---- the first symbol
module _ (k t s : ℕ) (st out : List ℕ) where
  pub goes_node : 64 ≤ s → fed_to k t (s ∷ st) out ≡ fed_to k t st (out ++ (s ∷ []))
  unfolding fed_to
  goes_node h = rw (le-ltb s 64 h)

  module _ (h : s < 64) where
    pub goes_refuse : (n : ℕ) → cell_of s k ≡ refuse n → fed_to k t (s ∷ st) out ≡ off n
    unfolding fed_to
    goes_refuse n e = rw (lt-ltb s 64 h, e)

    pub goes_pass : cell_of s k ≡ pass → fed_to k t (s ∷ st) out ≡ fed_to k t st out
    unfolding fed_to
    goes_pass e = rw (lt-ltb s 64 h, e)

    pub goes_shift : (b : Bool) (p : List ℕ) → cell_of s k ≡ shift b p → fed_to k t (s ∷ st) out ≡ on (p ++ st) (written_if b t out)
    unfolding fed_to
    goes_shift b p e = rw (lt-ltb s 64 h, e)

-- ---- in buffers
pub feed_end : (k t at : ℕ) (stack out : List ℕ) → length stack ≤ at → fed_to k t (drop at stack) out ≡ off 3
unfolding fed_to
feed_end k t at stack out h = rw (drop_of_length-le stack {i = at} h)

module _ (k t at m : ℕ) (stack out : List ℕ) (h : at < length stack) where
  step : {A : AfterToken} → fed_to k t (get_or stack at 0 ∷ drop (at + 1) stack) (take m out) ≡ A → fed_to k t (drop at stack) (take m out) ≡ A
  step e = ap (λ l. fed_to k t l (take m out)) (first_waits stack at h) ∙ e

  pub feed_node : 64 ≤ get_or stack at 0 → m < length out
      → fed_to k t (drop (at + 1) stack) (take (m + 1) (set out m (get_or stack at 0))) ≡ fed_to k t (drop at stack) (take m out)
  feed_node a b =
      ap (fed_to k t (drop (at + 1) stack)) (one_written out m (get_or stack at 0) b)
      ∙ sym (step (goes_node k t (get_or stack at 0) (drop (at + 1) stack) (take m out) a))

  module _ (a : get_or stack at 0 < 64) where
    pub feed_refuse : (n : ℕ) → refuse n ≡ cell_of (get_or stack at 0) k → off n ≡ fed_to k t (drop at stack) (take m out)
    feed_refuse n e = sym (step (goes_refuse k t (get_or stack at 0) (drop (at + 1) stack) (take m out) a n (sym e)))

    pub feed_pass : pass ≡ cell_of (get_or stack at 0) k → fed_to k t (drop (at + 1) stack) (take m out) ≡ fed_to k t (drop at stack) (take m out)
    feed_pass e = sym (step (goes_pass k t (get_or stack at 0) (drop (at + 1) stack) (take m out) a (sym e)))

    module _ (low : ℕ) (stack' p : List ℕ) (f : drop low stack' ≡ p ++ drop (at + 1) stack) where
      pub feed_shift : shift false p ≡ cell_of (get_or stack at 0) k → on (drop low stack') (take m out) ≡ fed_to k t (drop at stack) (take m out)
      feed_shift e =
          ap (λ l. on l (take m out)) f
          ∙ sym (step (goes_shift k t (get_or stack at 0) (drop (at + 1) stack) (take m out) a false p (sym e)))

      pub feed_write : shift true p ≡ cell_of (get_or stack at 0) k → m < length out
          → on (drop low stack') (take (m + 1) (set out m t)) ≡ fed_to k t (drop at stack) (take m out)
      feed_write e d =
          ap (λ l. on l (take (m + 1) (set out m t))) f
          ∙ ap (on (p ++ drop (at + 1) stack)) (one_written out m t d)
          ∙ sym (step (goes_shift k t (get_or stack at 0) (drop (at + 1) stack) (take m out) a true p (sym e)))

-- what is put before the symbols, from the lent table
pub placed_from : (p : Placing) (table rest l : List ℕ) → table ≡ grammar_words
    → l ≡ take p.size (drop p.start table) ++ rest → l ≡ placed_symbols p ++ rest
unfolding placed_symbols
placed_from p table rest l h e = e ∙ ap (λ t. take p.size (drop p.start t) ++ rest) h
