-- The parts that the printer lends the calls are those of the file's words.
use Prim.Native.Nat.{ℕ, zero, suc, ◌+◌, ◌-◌, ◌*◌, ◌≤◌}
use native.Mathlib.Omega.{arith}
use mathlib.Core.Path.{◌≡◌, refl, sym, ◌∙◌, ap, ap₂}
use mathlib.Core.List.{List, [], ◌∷◌}
use lib.ListN.{length, take, drop, get_or, length-drop}
use lib.Seq.{take_all, take-take, get_or-take}
use Rattle.tables.specs.Tables.{tables_of, column_count}
use Rattle.print_reading.specs.declared.FileParts.{FileParts}
use Rattle.std.proofs.Common.{Ok}
use Rattle.print_reading.specs.Files.{file_words, row_count_in, pos_at, osp_at, plan_at, layout_of}
use Rattle.print_reading.proofs.LaidOut.{file_counted}
use Rattle.print_writing.specs.FileQueries.{rows_in, pos_in, osp_in, plan_in, file_tables, file_plan, file_quantum, Asks}

-- a part that lies within the first words
part_of_lem : (k a w : ℕ) (xs : List ℕ) → a + k ≤ w → take k (drop a (take w xs)) ≡ take k (drop a xs)
part_of_lem k zero w xs h = take-take k w xs (omega arith)
part_of_lem k (suc a) zero xs h = absurd (omega arith)
part_of_lem zero (suc a) (suc w) [] h = refl
part_of_lem (suc k) (suc a) (suc w) [] h = refl
part_of_lem k (suc a) (suc w) (x ∷ xs) h = part_of_lem k a w xs (omega arith)

module _ (bytes file : List ℕ) (p : FileParts) (h : layout_of bytes ≡ Ok p) (e : take p.words file ≡ file_words bytes) where
  abbrev ws : List ℕ
  ws = file_words bytes

  abbrev n : ℕ
  n = row_count_in ws

  pos_at_lem : p.pos ≡ pos_at n
  pos_at_lem = ap (λ (q : FileParts). q.pos) (file_counted bytes p h).parts

  osp_at_lem : p.osp ≡ osp_at n
  osp_at_lem = ap (λ (q : FileParts). q.osp) (file_counted bytes p h).parts

  plan_at_lem : p.plan ≡ plan_at n
  plan_at_lem = ap (λ (q : FileParts). q.plan) (file_counted bytes p h).parts

  words_at : p.words ≡ length ws
  words_at = ap (λ (q : FileParts). q.words) (file_counted bytes p h).parts

  enough : plan_at n ≤ length ws
  enough = (file_counted bytes p h).enough

  -- `k` words from `a` on
  part_is : (k a : ℕ) → a + k ≤ p.words → take k (drop a file) ≡ take k (drop a ws)
  part_is k a l = sym (part_of_lem k a p.words file l) ∙ ap (λ l. take k (drop a l)) e

  part_at : (k a j b : ℕ) → a + k ≤ p.words → k ≡ j → a ≡ b → take k (drop a file) ≡ take j (drop b ws)
  part_at k a j b l d f = part_is k a l ∙ ap₂ (λ i c. take i (drop c ws)) d f

  rows_are : take (p.pos - 2) (drop 2 file) ≡ rows_in ws
  rows_are = part_at (p.pos - 2) 2 (column_count * n) 2 (omega (arith, pos_at_lem, words_at, enough)) (omega (arith, pos_at_lem)) refl

  pos_are : take (p.osp - p.pos) (drop p.pos file) ≡ pos_in ws
  pos_are =
      part_at (p.osp - p.pos) p.pos n (pos_at n) (omega (arith, pos_at_lem, osp_at_lem, words_at, enough)) (omega (arith, pos_at_lem, osp_at_lem)) pos_at_lem

  osp_are : take (p.plan - p.osp) (drop p.osp file) ≡ osp_in ws
  osp_are =
      part_at (p.plan - p.osp) p.osp n (osp_at n) (omega (arith, osp_at_lem, plan_at_lem, words_at, enough)) (omega (arith, osp_at_lem, plan_at_lem)) osp_at_lem

  plan_is : take (p.words - p.plan) (drop p.plan file) ≡ plan_in ws
  plan_is =
      part_at (p.words - p.plan) p.plan (length ws - plan_at n) (plan_at n) (omega (arith, plan_at_lem, words_at, enough))
      (omega (arith, plan_at_lem, words_at)) plan_at_lem
      ∙ take_all (length ws - plan_at n) (plan_in ws) (omega (arith, length-drop (plan_at n) ws))

  quantum_is : get_or file 1 0 ≡ get_or ws 1 0
  quantum_is = sym (get_or-take p.words file 1 0 (omega (arith, words_at, enough))) ∙ ap (λ l. get_or l 1 0) e

  pub file_asks : Asks bytes (take (p.pos - 2) (drop 2 file)) (take (p.osp - p.pos) (drop p.pos file))
      (take (p.plan - p.osp) (drop p.osp file)) (take (p.words - p.plan) (drop p.plan file)) (get_or file 1 0)
  unfolding file_tables file_plan file_quantum
  file_asks =
      record {
        accepted = (p, h);
        tables =
            ap₂ (λ r s. tables_of r s (take (p.plan - p.osp) (drop p.osp file))) rows_are pos_are
            ∙ ap (tables_of (rows_in ws) (pos_in ws)) osp_are;
        plan_words_fact = plan_is;
        quantum_word = quantum_is;
      }
