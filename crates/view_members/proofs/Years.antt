-- Flags, year after year: the rows of the years before a row's are flagged, then those of its year too, and so those before the year's end.
use Prim.Native.Nat.{ℕ, ◌≤◌, ◌<◌}
use native.Mathlib.Omega.{arith}
use mathlib.Core.Path.{◌≡◌, refl, sym, ◌∙◌, ap}
use mathlib.Core.Bool.{Bool, ◌&&◌}
use mathlib.Core.List.{List}
use lib.Dec.{ltb, leb}
use borrow.Author.Tests.{lt-ltb, le-ltb, le-leb, lt-leb}
use Rattle.sequences.proofs.Orders.{Three, less, same, more, three}
use Rattle.tables.specs.declared.Order.TheVariants.{Spo}
use Rattle.tables.specs.Tables.{Tables, year_column, row_count, field_of}
use Rattle.tables.specs.Right.{Right}
use Rattle.tables.specs.Ranges.{range_end}
use Rattle.tables.specs.Years.{year_prefix}
use Rattle.tables.proofs.Years.{years_rise, year_same, year_more, past_end_fact}
use Rattle.view_members.specs.Flags.{admits_own, flag_by, Unflagged, Flagged, FlaggedAs, of_earlier, not_later}

-- the rows before one are flagged, and they are of earlier years
pub record Walked (t : Tables) (grant : List ℕ) (membership : ℕ) (flags : List ℕ) (row : ℕ) : Type 0 where
  pub flagged : FlaggedAs (λ r. ltb r row) t.rows grant membership flags
  pub earlier : row < row_count t → (r : ℕ) → r < row → field_of t.rows r year_column < field_of t.rows row year_column

module _ (t : Tables) (w : Right t) (grant : List ℕ) (membership : ℕ) where
  abbrev year_of : ℕ → ℕ
  year_of row = field_of t.rows row year_column

  pub walked_none : (flags : List ℕ) → Unflagged t.rows flags → Walked t grant membership flags 0
  walked_none flags u =
      record {
        flagged = record { long = u.long; each = λ r h. u.each r h ∙ sym (rw (le-ltb r 0 (omega arith))) };
        earlier = λ l r h. absurd (omega arith);
      }

  -- flags by tests that say the same of each row
  flagged_alike : (f g : ℕ → Bool) (flags : List ℕ) → ((r : ℕ) → r < row_count t → f r ≡ g r)
      → FlaggedAs f t.rows grant membership flags → FlaggedAs g t.rows grant membership flags
  flagged_alike f g flags e a =
      record { long = a.long; each = λ r h. a.each r h ∙ ap (λ b. flag_by (b && admits_own t.rows grant membership r)) (e r h) }

  module _ (flags : List ℕ) (row : ℕ) (l : row < row_count t) where
    pub walked_before : Walked t grant membership flags row
        → FlaggedAs (of_earlier t.rows (field_of t.rows row year_column)) t.rows grant membership flags
    walked_before a = flagged_alike (λ r. ltb r row) (of_earlier t.rows (year_of row)) flags (λ r h. at r h (three r row)) a.flagged
      where
        at : (r : ℕ) → r < row_count t → Three r row → ltb r row ≡ ltb (year_of r) (year_of row)
        at r h (less k) = lt-ltb r row k ∙ sym (lt-ltb (year_of r) (year_of row) (a.earlier l r k))
        at r h (same k) =
            let e : year_of row ≡ year_of r = ap year_of (sym k) in
            le-ltb r row (omega arith) ∙ sym (le-ltb (year_of r) (year_of row) (omega arith))
        at r h (more k) = le-ltb r row (omega arith) ∙ sym (le-ltb (year_of r) (year_of row) (years_rise t w Spo row r k h))

    abbrev end : ℕ
    end = range_end t (year_prefix Spo (year_of row))

    pub row_inside : row < range_end t (year_prefix Spo (field_of t.rows row year_column))
    row_inside = (year_same t w Spo (year_of row) row l refl).1

    pub walked_after : FlaggedAs (not_later t.rows (field_of t.rows row year_column)) t.rows grant membership flags
        → Walked t grant membership flags (range_end t (year_prefix Spo (field_of t.rows row year_column)))
    walked_after a =
        record {
          flagged = flagged_alike (not_later t.rows (year_of row)) (λ r. ltb r end) flags (λ r h. at r h (three (year_of r) (year_of row))) a;
          earlier = λ k r h. below k r h (three (year_of r) (year_of row));
        }
      where
        before : (r : ℕ) → r < row_count t → year_of r ≤ year_of row → Three r end → r < end
        before r h k (less m) = m
        before r h k (same m) = absurd (let a = past_end_fact t w Spo (year_of row) r h (omega arith) in omega arith)
        before r h k (more m) = absurd (let a = past_end_fact t w Spo (year_of row) r h (omega arith) in omega arith)

        at : (r : ℕ) → r < row_count t → Three (year_of r) (year_of row) → leb (year_of r) (year_of row) ≡ ltb r end
        at r h (less k) = le-leb (year_of r) (year_of row) (omega arith) ∙ sym (lt-ltb r end (before r h (omega arith) (three r end)))
        at r h (same k) = le-leb (year_of r) (year_of row) (omega arith) ∙ sym (lt-ltb r end (year_same t w Spo (year_of row) r h k).1)
        at r h (more k) = lt-leb (year_of r) (year_of row) k ∙ sym (le-ltb r end (year_more t w Spo (year_of row) r h k))

        below : end < row_count t → (r : ℕ) → r < end → Three (year_of r) (year_of row) → year_of r < year_of end
        below k r h (less m) = let a = past_end_fact t w Spo (year_of row) end k (omega arith) in omega arith
        below k r h (same m) = let a = past_end_fact t w Spo (year_of row) end k (omega arith) in omega arith
        below k r h (more m) = absurd (let a = year_more t w Spo (year_of row) r (omega arith) m in omega arith)

  -- at the end all are
  pub walked_all : (flags : List ℕ) (row : ℕ) → row_count t ≤ row → Walked t grant membership flags row → Flagged t.rows grant membership flags
  walked_all flags row h a =
      record { long = a.flagged.long; each = λ r l. a.flagged.each r l ∙ rw (lt-ltb r row (omega arith)) }
