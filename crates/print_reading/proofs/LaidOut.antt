-- The parts of a file that is not refused: they follow each other within its words, which fit the buffer and are the first in it.
use Prim.Native.Nat.{ℕ, ◌/◌, ◌≤◌}
use native.Mathlib.Omega.{arith}
use mathlib.Core.Path.{◌≡◌, refl, sym, ◌∙◌, ap, ap₂, subst}
use mathlib.Core.Bool.{Bool, true, false, cond, ◌&&◌}
use mathlib.Core.List.{List}
use lib.Dec.{leb}
use lib.ListN.{length, take}
use borrow.Author.Tests.{leb-true}
use Rattle.sequences.proofs.Booleans.{and_left, and_right}
use Rattle.sequences.proofs.Buffers.{take_over}
use Rattle.std.proofs.Common.{Result, Ok, Err}
use Rattle.print_reading.specs.declared.FileParts.{FileParts}
use Rattle.print_reading.specs.Files.{word_bytes, most_file_bytes, file_words, rows_at, plan_at, row_count_in, parts_of, Laid, counts_right, parts_in}
use Rattle.print_reading.specs.Files.{is_file_short, is_whole, layout_of, words_as}
use Rattle.print_reading.proofs.FileWords.{length_words}

-- the parts of some words that are not fewer than their counts say
pub record FileCounted (ws : List ℕ) (p : FileParts) : Type 0 where
  pub enough : plan_at (row_count_in ws) ≤ length ws
  pub parts : p ≡ parts_of (row_count_in ws) (length ws)

counted : (ws : List ℕ) (p : FileParts) → parts_in ws ≡ Ok p → FileCounted ws p
unfolding parts_in counts_right
counted ws p = go (counts_right ws) refl
  where
    go : (b : Bool) → (leb rows_at (length ws) && leb (plan_at (row_count_in ws)) (length ws)) ≡ b
        → cond {A = Result FileParts ℕ} b (Ok (parts_of (row_count_in ws) (length ws))) (Err 1) ≡ Ok p → FileCounted ws p
    go true e q =
        let r : p ≡ parts_of (row_count_in ws) (length ws) = cc in
        let h = and_right (leb rows_at (length ws)) (leb (plan_at (row_count_in ws)) (length ws)) e in
        record { enough = leb-true (plan_at (row_count_in ws)) (length ws) h; parts = r }
    go false e q = let z : ◌≡◌ {A = ℕ} 0 1 = cc in absurd (omega arith)

module _ (bytes : List ℕ) (p : FileParts) where
  accepted : layout_of bytes ≡ Ok p → (length bytes ≤ most_file_bytes) × FileCounted (file_words bytes) p
  unfolding layout_of
  accepted = go (is_file_short bytes && is_whole bytes) refl
    where
      go : (b : Bool) → (is_file_short bytes && is_whole bytes) ≡ b → cond {A = Result FileParts ℕ} b (parts_in (file_words bytes)) (Err 1) ≡ Ok p
          → (length bytes ≤ most_file_bytes) × FileCounted (file_words bytes) p
      go true e q = (leb-true (length bytes) most_file_bytes (and_left (is_file_short bytes) (is_whole bytes) e), counted (file_words bytes) p q)
      go false e q = let z : ◌≡◌ {A = ℕ} 0 1 = cc in absurd (omega arith)

  module _ (h : layout_of bytes ≡ Ok p) where
    pub not_long : length bytes ≤ most_file_bytes
    not_long = (accepted h).0

    pub file_counted : FileCounted (file_words bytes) p
    file_counted = (accepted h).1

    pub laid_out : Laid p × (p.words ≤ most_file_bytes / word_bytes)
    laid_out =
        let a = accepted h in
        let n = length_words bytes in
        let l = a.1.enough in
        subst (λ q. Laid q × (q.words ≤ most_file_bytes / word_bytes)) (sym a.1.parts)
        ((omega arith, omega arith, omega arith, omega arith), omega (arith, a.0))

    pub words_read_lem : (words : List ℕ) → take p.words (words_as bytes words (layout_of bytes)) ≡ file_words bytes
    words_read_lem words =
        ap₂ take (ap (λ (q : FileParts). q.words) file_counted.parts) (ap (words_as bytes words) h)
        ∙ take_over (file_words bytes) words
