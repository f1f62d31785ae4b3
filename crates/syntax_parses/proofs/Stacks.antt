-- Symbols that wait, from a place of a buffer on; words that are written, before one.
use Prim.Native.Nat.{ℕ, ◌+◌, ◌<◌}
use native.Mathlib.Numerals.{add-one}
use mathlib.Core.Path.{◌≡◌, sym, ◌∙◌, ap}
use mathlib.Core.List.{List, [], ◌∷◌, ◌++◌}
use lib.ListN.{length, get_or, take, drop, set}
use lib.Seq.{drop-cons, take-suc-set}

-- the first symbol that waits
pub first_waits : (stack : List ℕ) (at : ℕ) → at < length stack → drop at stack ≡ get_or stack at 0 ∷ drop (at + 1) stack
first_waits stack at h = drop-cons stack at 0 h ∙ ap (λ n. get_or stack at 0 ∷ drop n stack) (sym (add-one at))

-- a word is written
pub one_written : (out : List ℕ) (m x : ℕ) → m < length out → take (m + 1) (set out m x) ≡ take m out ++ (x ∷ [])
one_written out m x h = ap (λ n. take n (set out m x)) (add-one m) ∙ take-suc-set out m x h
