-- The worked cases hold: by computation, and those of the most stems by what suffices.
use Prim.Native.Nat.{ℕ, ◌*◌, ◌≤◌}
use native.Mathlib.Omega.{arith}
use mathlib.Core.Path.{◌≡◌, refl}
use mathlib.Core.List.{flatten}
use lib.ListN.{length-replicate}
use Rattle.words.specs.Computing as words
use Rattle.words.specs.Words.{most_year}
use Rattle.calls.specs.Calls.{NotRefused}
use Rattle.tables.specs.Computing as tables
use Rattle.tables.specs.Tables.{column_count}
use Rattle.woods.specs.Computing as woods
use Rattle.woods.specs.Growing.{most_stems, grow_schema}
use Rattle.woods.specs.Refusals.{rows_for}
use Rattle.woods.specs.Cases.{grow_call, GrowingWorked}
use Rattle.woods.proofs.Writes.{grow_suffices}

unfoldable computing : Unit {0}
unfolding words.computing tables.computing woods.computing flatten
computing = tt

-- buffers of exact lengths are enough
exact : (seed stems year rows pos osp : ℕ) → stems ≤ most_stems → 1 ≤ year → year ≤ most_year → rows ≡ rows_for stems * column_count
    → pos ≡ rows_for stems → osp ≡ rows_for stems → NotRefused grow_schema (grow_call seed stems year rows pos osp)
exact seed stems year rows pos osp f b e r p o =
    let x = length-replicate {A = ℕ} rows 9 in
    let y = length-replicate {A = ℕ} pos 8 in
    let z = length-replicate {A = ℕ} osp 7 in
    (grow_suffices (grow_call seed stems year rows pos osp)).1
    (record {
      few = f;
      begun = b;
      ended = e;
      room = record { for_rows = omega (arith, x, r); for_pos = omega (arith, y, p); for_osp = omega (arith, z, o) };
    })

most : (seed year : ℕ) → 1 ≤ year → year ≤ most_year → NotRefused grow_schema (grow_call seed 32768 year 262144 65536 65536)
most seed year b e = exact seed 32768 year 262144 65536 65536 (omega arith) b e (omega arith) (omega arith) (omega arith)

first_year_lem : (seed : ℕ) → NotRefused grow_schema (grow_call seed 32768 1 262144 65536 65536)
first_year_lem seed = most seed 1 (omega arith) (omega arith)

last_year : (seed : ℕ) → NotRefused grow_schema (grow_call seed 32768 9999 262144 65536 65536)
last_year seed = most seed 9999 (omega arith) (omega arith)

pub growing_worked : GrowingWorked
unfolding computing
growing_worked =
    record {
      draws = refl;
      first_stems_fact = refl;
      last_seed_fact = refl;
      no_stems_fact = refl;
      no_room_asked = refl;
      most_stems_fact = first_year_lem;
      last_year = last_year;
      one_more_fact = refl;
      year_before = refl;
      year_past = refl;
      no_word = refl;
      both = refl;
      short_rows = refl;
      short_pos = refl;
      short_osp = refl;
    }
