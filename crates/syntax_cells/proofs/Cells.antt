-- The table is the grammar's, at each symbol and kind of token, by computation.
use Prim.Native.Nat.{ℕ, ◌+◌, ◌*◌, ◌/◌, ◌%◌, ◌<◌, ◌≤◌}
use native.Mathlib.Omega.{arith}
use mathlib.Core.Path.{◌≡◌, refl, sym, ◌∙◌, ap}
use mathlib.Core.Bool.{Bool, true, false, cond}
use mathlib.Core.List.{List}
use lib.Dec.{T, eqb, ltb, leb, leb→le}
use lib.ListN.{length, get_or, take, drop, length-drop}
use lib.Seq.{get_or-take, get_or-drop, length-take-le}
use borrow.Author.Tests.{eq-eqb, ne_eqb, lt-ltb, le-ltb}
use Rattle.syntax.specs.Cells.{Cell, refuse, pass, misplaced}
use Rattle.syntax.specs.Grammar.{cell_of}
use Rattle.syntax_cells.specs.declared.Placing.{Placing}
use Rattle.syntax_cells.specs.declared.CellAction.TheVariants.{Refuse, Pass, Shift}
use Rattle.syntax_cells.specs.TableWords.{grammar_words}
use Rattle.syntax_cells.specs.Finding.{placed_symbols, cell_by, action_of, PlacesFew}
use Rattle.syntax_cells.proofs.Table.{both, both_left, both_right_lem, every, at}
use Rattle.syntax_cells.proofs.Mapped.{mapped, agree}

pub size : length grammar_words ≡ 508
unfolding grammar_words
size = refl

-- the number of a cell, by the word of the symbol's row and that of the cell
abbrev number_by : ℕ → ℕ → ℕ → ℕ → ℕ
number_by s row k w = cond (eqb (w % 128) s) (w / 128) (cond (ltb row 4096) (misplaced k * 64) 1)

abbrev numbered_cell : ℕ → Cell
numbered_cell c = cell_by (action_of c)

abbrev rows : List ℕ
rows = take 64 grammar_words

abbrev row_from : ℕ → List ℕ
row_from row = take 128 (drop (row % 4096) grammar_words)

abbrev found_row : ℕ → ℕ → List Cell
found_row s row = mapped (λ k w. numbered_cell (number_by s row k w)) 0 (row_from row)

abbrev wanted_row : ℕ → ℕ → List Cell
wanted_row s row = mapped (λ k w. cell_of s k) 0 (row_from row)

computed : mapped found_row 0 rows ≡ mapped wanted_row 0 rows
unfolding cell_of placed_symbols grammar_words
computed = refl

-- ---- bounds
short : ℕ → ℕ → Bool
short i x = leb (x % 4096 + 128) 508

rows_short : T (every short 0 rows)
unfolding short grammar_words
rows_short = tt

rows_64 : length rows ≡ 64
unfolding grammar_words
rows_64 = refl

row_word_lem : (s : ℕ) → s < 64 → get_or rows s 0 ≡ get_or grammar_words s 0
row_word_lem s h = get_or-take 64 grammar_words s 0 h

pub row_ends : (s : ℕ) → s < 64 → get_or grammar_words s 0 % 4096 + 128 ≤ 508
unfolding short
row_ends s h =
    let e = row_word_lem s h in
    let l = rows_64 in
    let b = leb→le (get_or rows s 0 % 4096 + 128) 508 (at short rows rows_short s (omega (arith, l))) in
    omega (arith, b, e)

fits : ℕ → ℕ → Bool
fits i x = both (leb (x / 128 / 64 + x / 128 / 4 % 16) 508) (leb (x / 128 / 4 % 16) 8)

all_fit : T (every fits 0 grammar_words)
unfolding fits grammar_words
all_fit = tt

pub number_fits : (i : ℕ) → i < 508
    → (get_or grammar_words i 0 / 128 / 64 + get_or grammar_words i 0 / 128 / 4 % 16 ≤ 508) × (get_or grammar_words i 0 / 128 / 4 % 16 ≤ 8)
unfolding fits
number_fits i h =
    let l = size in
    let t = at fits grammar_words all_fit i (omega (arith, l)) in
    let c = get_or grammar_words i 0 / 128 in
    let a = leb (c / 64 + c / 4 % 16) 508 in
    let b = leb (c / 4 % 16) 8 in
    (leb→le (c / 64 + c / 4 % 16) 508 (both_left a b t), leb→le (c / 4 % 16) 8 (both_right_lem a b t))

few : (b d : Bool) (n : ℕ) (p : Placing) → (p.start + p.size ≤ length grammar_words) × (p.size ≤ 8)
    → PlacesFew (cond b (Refuse n) (cond d Pass (Shift p)))
few true d n p f = tt
few false true n p f = tt
few false false n p f = f

pub places_few : (c : ℕ) → c / 64 + c / 4 % 16 ≤ 508 → c / 4 % 16 ≤ 8 → PlacesFew (action_of c)
places_few c a b =
    let n = size in
    few (eqb (c % 4) 0) (eqb (c % 4) 1) (c / 64) (record { writes = eqb (c % 4) 3; start = c / 64; size = c / 4 % 16 }) (omega (arith, n, a), b)

-- the number of a fault's cell
fault_read : (n : ℕ) → numbered_cell (n * 64) ≡ refuse n
fault_read n =
    let m : n * 64 % 4 ≡ 0 = omega arith in
    let d : n * 64 / 64 ≡ n = omega arith in
    rw (m, d) refl

-- ---- a cell
module _ (s k : ℕ) (hs : s < 64) (hk : k < 128) where
  abbrev row : ℕ
  row = get_or grammar_words s 0

  abbrev word : ℕ
  word = get_or grammar_words (row % 4096 + k) 0

  row_length : length (row_from row) ≡ 128
  row_length =
      let l = size in
      let b = row_ends s hs in
      length-take-le 128 (drop (row % 4096) grammar_words) (simp (length-drop) (omega (arith, l, b)))

  cell_at : numbered_cell (number_by s row k word) ≡ cell_of s k
  cell_at =
      let l = rows_64 in
      let n = row_length in
      let o = agree found_row wanted_row rows s computed (omega (arith, l)) in
      let p : found_row s row ≡ wanted_row s row = ap (found_row s) (sym (row_word_lem s hs)) ∙ o ∙ ap (wanted_row s) (row_word_lem s hs) in
      let q = agree (λ k w. numbered_cell (number_by s row k w)) (λ k w. cell_of s k) (row_from row) k p (omega (arith, n)) in
      let w : get_or (row_from row) k 0 ≡ word =
      get_or-take 128 (drop (row % 4096) grammar_words) k 0 hk ∙ get_or-drop (row % 4096) grammar_words k 0 in
      ap (λ x. numbered_cell (number_by s row k x)) (sym w) ∙ q

  pub cell_owned : word % 128 ≡ s → numbered_cell (word / 128) ≡ cell_of s k
  cell_owned e = ap (λ b. numbered_cell (cond b (word / 128) (cond (ltb row 4096) (misplaced k * 64) 1))) (sym (eq-eqb (word % 128) s e)) ∙ cell_at

  module _ (e : word % 128 ≡ s → ⊥) where
    numbered : (b : Bool) → ltb row 4096 ≡ b → numbered_cell (cond b (misplaced k * 64) 1) ≡ cell_of s k
    numbered b h =
        ap (λ a. numbered_cell (cond a (misplaced k * 64) 1)) (sym h)
        ∙ ap (λ a. numbered_cell (cond a (word / 128) (cond (ltb row 4096) (misplaced k * 64) 1))) (sym (ne_eqb (word % 128) s e))
        ∙ cell_at

    pub cell_passes : 4096 ≤ row → pass ≡ cell_of s k
    cell_passes h = numbered false (le-ltb row 4096 h)

    pub cell_misplaced : row < 4096 → refuse (misplaced k) ≡ cell_of s k
    cell_misplaced h = sym (fault_read (misplaced k)) ∙ numbered true (lt-ltb row 4096 h)
