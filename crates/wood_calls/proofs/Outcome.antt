-- The outcome of growing a wood, test by test.
use Prim.Native.Nat.{ℕ}
use mathlib.Core.Path.{◌≡◌, sym, ◌∙◌}
use mathlib.Core.Bool.{true, false}
use lib.ListN.{length}
use Rattle.words.specs.Tests.{first_failing}
use Rattle.calls.specs.Calls.{result_of_call}
use Rattle.table_answers.specs.declared.TablesWritten.TheVariants.{Refused}
use Rattle.table_answers.specs.Writing.{tables_room, written_with}
use Rattle.table_answers.specs.Counts.{tables_room_for}
use Rattle.table_answers.proofs.Rooms.{room_counted}
use Rattle.woods.specs.Growing.{GrowInput, wood_in, asked_right, grow_of}
use Rattle.woods.specs.Refusals.{rows_for}
use Rattle.woods.proofs.Writes.{grow_counts}

module _ (i : GrowInput) where
  pub wrong_asked : asked_right i.stems i.year ≡ false → record { answer = Refused 24; buffers = i.buffers } ≡ grow_of i
  unfolding result_of_call first_failing
  wrong_asked e = rw e

  -- ---- 25, as the code tests it
  module _ (a : asked_right i.stems i.year ≡ true) (count : ℕ) (n : count ≡ rows_for i.stems) where
    room_is : tables_room_for count (length i.buffers.rows) (length i.buffers.pos) (length i.buffers.osp) ≡ tables_room (wood_in i) i.buffers
    room_is = rw n (room_counted (wood_in i) i.buffers (rows_for i.stems) (grow_counts i))

    pub no_room : tables_room_for count (length i.buffers.rows) (length i.buffers.pos) (length i.buffers.osp) ≡ false
        → record { answer = Refused 25; buffers = i.buffers } ≡ grow_of i
    unfolding result_of_call first_failing
    no_room e = rw (a, sym room_is ∙ e)

    pub served : tables_room_for count (length i.buffers.rows) (length i.buffers.pos) (length i.buffers.osp) ≡ true
        → written_with (wood_in i) i.buffers ≡ grow_of i
    unfolding result_of_call first_failing
    served e = rw (a, sym room_is ∙ e)
