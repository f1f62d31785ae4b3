-- Tables cut to the lengths that they have are the tables.
use Rattle.std.proofs.Common.{◌≡◌, ◌*◌, length, take, arith, take_all}
use Rattle.tables.specs.Tables.{Tables, tables_of, column_count}
use Rattle.tables.specs.Right.{Sized}

-- the rows, POS and OSP, each cut to what POS and OSP have
abbrev pub cut_all : Tables → Tables
cut_all t = tables_of (take (length t.pos * column_count) t.rows) (take (length t.pos) t.pos) (take (length t.pos) t.osp)

pub cut_all_none : (t : Tables) → Sized t → cut_all t ≡ t
cut_all_none t s =
    rw (
      take_all (length t.pos * column_count) t.rows (omega (arith, s.whole, s.pos_length)),
      take_all (length t.pos) t.pos (omega arith),
      take_all (length t.pos) t.osp (omega (arith, s.pos_length, s.osp_length)),
    )
