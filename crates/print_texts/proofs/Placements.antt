-- Texts put over a line: one behind another, one byte, and one in front.
use Prim.Native.Nat.{ℕ, suc, ◌+◌, ◌-◌, ◌/◌, ◌%◌, ◌≤◌, ◌<◌}
use native.Mathlib.Omega.{arith}
use native.Mathlib.Numerals.{add-one}
use native.Mathlib.Nat.{zero-add}
use mathlib.Core.Path.{◌≡◌, sym, ◌∙◌, ap}
use mathlib.Core.List.{List, [], ◌∷◌, ◌++◌, append_assoc}
use lib.ListN.{length, take, drop, set, length-append}
use lib.Seq.{take_at, drop_at, drop-drop, set_split, take-set-le, drop-set-lt, drop-cons, get_or-set_same, lt-length-set, append_snoc, length-take-le}
use lib.Seq.{paste-zero}
use Rattle.lists.specs.Putting.{Listed}
use Rattle.print_texts.specs.Texts.{Text, newline, digit, decimal}
use Rattle.print_texts.specs.Placing.{placed, PlacedText}
use Rattle.print_texts.proofs.Decimals.{decimal_more, length_more, decimal_one, length_one}

-- nothing, put anywhere
pub placed_none : (at : ℕ) (line : List ℕ) → placed [] at line ≡ line
placed_none at line = sym (paste-zero line at [])

-- a text, and another behind it
pub placed_both : (a b : Text) (at : ℕ) (line : List ℕ) → at ≤ length line
    → placed b (at + length a) (placed a at line) ≡ placed (a ++ b) at line
placed_both a b at line h =
    let n = at + length a in
    let p = take at line ++ a in
    let r = drop n line in
    let m : length p ≡ n = length-append (take at line) a ∙ ap (λ (k : ℕ). k + length a) (length-take-le at line h) in
    let front : take n (p ++ r) ≡ p = take_at p r n m in
    let back : drop (n + length b) (p ++ r) ≡ drop (n + length b) line =
    sym (drop-drop (length b) n (p ++ r)) ∙ ap (drop (length b)) (drop_at p r n m) ∙ drop-drop (length b) n line in
    let end : n + length b ≡ at + length (a ++ b) = let e = length-append a b in omega arith in
    rw (front, back, end, append_assoc (take at line) a b)

-- both as contracts say it
module _ (a b : Text) (at p q : ℕ) (before between after : List ℕ) (h : at + length a ≤ length before) (x : PlacedText a at before between p) where
  pub placed_then : PlacedText b p between after q → PlacedText (a ++ b) at before after q
  placed_then y = (
    (let e = length-append a b in let f = x.0 in let g = y.0 in omega arith),
    y.1 ∙ rw (x.0, x.1) (placed_both a b at before (omega arith)),
  )

-- in front of the line
pub placed_front : (text : Text) (before after : List ℕ) (r : ℕ) → PlacedText text 0 before after r → Listed text before after r
placed_front text before after r x = (rw zero-add at x.0, rw zero-add at x.1)

-- a byte
pub placed_byte : (b at : ℕ) (line : List ℕ) → at < length line → set line at b ≡ placed (b ∷ []) at line
placed_byte b at line h =
    set_split line at b h ∙ rw (add-one) (sym (append_snoc (take at line) b (drop (suc at) line)))

-- ---- digits from the last one on
-- a byte, and a text in front of it
placed_behind : (t : Text) (d at : ℕ) (line : List ℕ) → at + length t < length line
    → placed t at (set line (at + length t) d) ≡ placed (t ++ (d ∷ [])) at line
placed_behind t d at line h =
    let m = at + length t in
    let front : take at (set line m d) ≡ take at line = take-set-le at line m d (omega arith) in
    let back : drop m (set line m d) ≡ d ∷ drop (suc m) line =
    drop-cons (set line m d) m 0 (lt-length-set line m d h)
    ∙ rw (get_or-set_same line m d 0 h, drop-set-lt (suc m) line m d (omega arith)) in
    let end : at + length (t ++ (d ∷ [])) ≡ suc m = let e = length-append t (d ∷ []) in omega arith in
    rw (front, back, end, ← (append_assoc (take at line) t (d ∷ [])), append_snoc)

module _ (line : List ℕ) (i n : ℕ) (l : length (decimal n) ≤ i) (h : i ≤ length line) where
  -- the last digit of several: the others stand in front of it
  pub digit_more : 10 ≤ n
      → placed (decimal (n / 10)) (i - 1 - length (decimal (n / 10))) (set line (i - 1) (digit (n % 10)))
      ≡ placed (decimal n) (i - length (decimal n)) line
  digit_more m =
      let e = length_more n m in
      let t = decimal (n / 10) in
      let at = i - length (decimal n) in
      let p : i - 1 - length t ≡ at = omega arith in
      let q : i - 1 ≡ at + length t = omega arith in
      rw (p, q)
      (placed_behind t (digit (n % 10)) at line (omega arith) ∙ ap (λ (s : Text). placed s at line) (sym (decimal_more n m)))

  -- the only digit
  pub digit_one : n < 10 → set line (i - 1) (digit n) ≡ placed (decimal n) (i - length (decimal n)) line
  digit_one m = let e = length_one n m in rw (e, decimal_one n m) (placed_byte (digit n) (i - 1) line (omega arith))

-- ---- a whole line: a word, fields, and the end of the line
module _ (word mid : Text) (p q r : ℕ) (line one two three : List ℕ) (h : length word + length mid + 1 ≤ length line) where
  pub whole_line : PlacedText word 0 line one p → PlacedText mid p one two q → PlacedText (newline ∷ []) q two three r
      → Listed (word ++ (mid ++ (newline ∷ []))) line three r
  whole_line x y z =
      let e = length-append word mid in
      rw (← (append_assoc word mid (newline ∷ [])))
      (placed_front (word ++ mid ++ (newline ∷ [])) line three r
      (placed_then (word ++ mid) (newline ∷ []) 0 q r line two three (omega arith)
      (placed_then word mid 0 p q line one two (omega arith) x y) z))
