-- What the marks of right tables show is their view.
use Prim.Native.Nat.{ℕ, zero, suc, ◌/◌, ◌≤◌}
use native.Mathlib.Omega.{arith}
use mathlib.Core.Path.{◌≡◌, refl, sym, ◌∙◌}
use mathlib.Core.Bool.{true}
use mathlib.Core.List.{List}
use lib.Dec.{ltb}
use lib.ListN.{length, get_or, replicate, length-replicate}
use borrow.Author.Tests.{lt-ltb}
use Rattle.sequences.specs.Sequences.{all, over}
use Rattle.sequences.proofs.Elements.{element_all}
use Rattle.tables.specs.declared.Order.TheVariants.{Spo, Pos, Osp}
use Rattle.tables.specs.Tables.{Tables, column_count, row_count}
use Rattle.tables.specs.Right.{Right}
use Rattle.tables.specs.RowLists.{RowsRight}
use Rattle.views.specs.Views.{visible, view_count, view_of}
use Rattle.views.specs.Renumbered.{passed_before}
use Rattle.views.proofs.Lists.{pos_anew, osp_anew}
use Rattle.view_members.specs.Flags.{Unflagged}
use Rattle.view_marks.specs.Marks.{marks_of}
use Rattle.view_calls.specs.Writing.{shown_by, shown_words, shown_numbers}
use Rattle.view_calls.proofs.Marked.{count_shown, rows_shown, numbers_shown}

module _ (t : Tables) (w : Right t) where
  pub rows_right : RowsRight t.rows
  rows_right = record { whole = w.sized.whole; few = w.sized.few; kinds = w.kinds; years = w.years; up = w.up Spo }

  -- each number of a list names a row
  pub pos_named : (n : ℕ) → row_count t ≤ n → all (λ row. ltb row n) t.pos ≡ true
  pos_named n h =
      element_all (λ row. ltb row n) 0 t.pos
      (λ i l. let k = w.named Pos i (omega (arith, w.sized.pos_length)) in lt-ltb (get_or t.pos i 0) n (omega arith))

  pub osp_named : (n : ℕ) → row_count t ≤ n → all (λ row. ltb row n) t.osp ≡ true
  osp_named n h =
      element_all (λ row. ltb row n) 0 t.osp
      (λ i l. let k = w.named Osp i (omega (arith, w.sized.osp_length)) in lt-ltb (get_or t.osp i 0) n (omega arith))

  module _ (grant : List ℕ) (membership : ℕ) (before marks : List ℕ)
      (marked : marks ≡ over (marks_of (visible t.rows grant membership) (row_count t)) before) where
    pub shown_count : passed_before (shown_by marks) (row_count t) ≡ view_count t.rows grant membership
    shown_count = count_shown t.rows grant membership w.sized.few before marks marked

    pub shown_rows : shown_words t.rows marks ≡ (view_of t grant membership).rows
    shown_rows = rows_shown t.rows grant membership w.sized.few before marks marked

    pub shown_pos : shown_numbers marks t.pos ≡ (view_of t grant membership).pos
    shown_pos =
        numbers_shown t.rows grant membership w.sized.few before marks marked t.pos (pos_named (row_count t) (omega arith))
        ∙ sym (pos_anew t grant membership w)

    pub shown_osp : shown_numbers marks t.osp ≡ (view_of t grant membership).osp
    shown_osp =
        numbers_shown t.rows grant membership w.sized.few before marks marked t.osp (osp_named (row_count t) (omega arith))
        ∙ sym (osp_anew t grant membership w)

-- a list of zeros flags nothing
zeros : (n i : ℕ) → ◌≡◌ {A = ℕ} (get_or (replicate n 0) i 0) 0
zeros zero i = refl
zeros (suc n) zero = refl
zeros (suc n) (suc i) = zeros n i

pub none_flagged : (rows : List ℕ) (n : ℕ) → length rows / column_count ≤ n → Unflagged rows (replicate n 0)
none_flagged rows n h = record { long = omega (arith, length-replicate {A = ℕ} n 0); each = λ row l. zeros n row }
