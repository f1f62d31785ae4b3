-- The outcome of making tables, test by test.
use Prim.Native.Nat.{ℕ, ◌-◌, ◌*◌, ◌%◌, ◌<◌}
use native.Mathlib.Omega.{arith}
use mathlib.Core.Path.{◌≡◌, sym, ◌∙◌}
use mathlib.Core.Bool.{true, false}
use mathlib.Core.List.{List}
use lib.ListN.{length}
use borrow.Author.Tests.{eq-eqb, ne_eqb, lt-leb}
use Rattle.sequences.specs.Sequences.{over}
use Rattle.words.specs.Tests.{first_failing}
use Rattle.calls.specs.Calls.{result_of_call}
use Rattle.tables.specs.declared.Order.TheVariants.{Pos, Osp}
use Rattle.tables.specs.Tables.{column_count, most_rows}
use Rattle.uploads.specs.declared.Made.TheVariants.{Words, Refused}
use Rattle.uploads.specs.Uploads.{upload_count, kept_count, dropped_count, made_tables, dropped_report}
use Rattle.uploads.specs.Making.{make_buffers, MakeInput, MakeResult, upload_right, make_room_right, made_with, make_of}
use Rattle.uploads.proofs.Lengths.{all_rows_lem, made_length, numbers_made}
use Rattle.uploads.proofs.Writes.{room_right_fact}
use Rattle.upload_rooms.specs.Rooms.{make_room_for}

-- ---- 15
module _ (up : List ℕ) where
  pub upload_parts : (length up % column_count ≡ 0 → ⊥) → upload_right up ≡ false
  unfolding upload_right
  upload_parts n = rw (ne_eqb (length up % column_count) 0 n)

  pub upload_many : length up % column_count ≡ 0 → most_rows < upload_count up → upload_right up ≡ false
  unfolding upload_right
  upload_many e h = rw (eq-eqb (length up % column_count) 0 e, lt-leb (upload_count up) most_rows h)

  pub dropped_is : (kept : ℕ) → kept ≡ kept_count up → upload_count up - kept ≡ dropped_count up
  dropped_is kept e = omega (arith, all_rows_lem up)

module _ (i : MakeInput) where
  pub wrong_upload : upload_right i.upload ≡ false → record { answer = Refused 15; buffers = i.buffers } ≡ make_of i
  unfolding result_of_call first_failing
  wrong_upload e = rw e

  -- ---- 16, as the code tests it
  module _ (u : upload_right i.upload ≡ true) (kept dropped : ℕ) (k : kept ≡ kept_count i.upload) (d : dropped ≡ dropped_count i.upload) where
    room_is : make_room_for kept dropped (length i.buffers.rows) (length i.buffers.pos) (length i.buffers.osp) (length i.buffers.report)
        ≡ make_room_right (made_tables i.upload) (dropped_report i.upload) i.buffers
    unfolding make_room_for
    room_is = rw (k, d) (sym (room_right_fact i))

    pub no_room : make_room_for kept dropped (length i.buffers.rows) (length i.buffers.pos) (length i.buffers.osp) (length i.buffers.report)
        ≡ false → record { answer = Refused 16; buffers = i.buffers } ≡ make_of i
    unfolding result_of_call first_failing
    no_room e = rw (u, sym room_is ∙ e)

    pub served : make_room_for kept dropped (length i.buffers.rows) (length i.buffers.pos) (length i.buffers.osp) (length i.buffers.report)
        ≡ true → made_with (made_tables i.upload) (dropped_report i.upload) i.buffers ≡ make_of i
    unfolding result_of_call first_failing
    served e = rw (u, sym room_is ∙ e)

-- ---- a result with the words of what is made
abbrev results : ℕ → ℕ → ℕ → ℕ → List ℕ → List ℕ → List ℕ → List ℕ → MakeResult
results a b c d rows pos osp report = record { answer = Words a b c d; buffers = make_buffers rows pos osp report }

equal_results : {a a' b b' c c' d d' : ℕ} {r r' p p' o o' q q' : List ℕ} → a ≡ a' → b ≡ b' → c ≡ c' → d ≡ d' → r ≡ r'
    → p ≡ p' → o ≡ o' → q ≡ q'
    → results a b c d r p o q ≡ results a' b' c' d' r' p' o' q'
equal_results e f g h i j k l = rw (e, f, g, h, i, j, k, l)

pub same_result : (i : MakeInput) (a b d : ℕ) (rows pos osp report : List ℕ)
    → a ≡ kept_count i.upload * column_count → b ≡ kept_count i.upload → d ≡ length (dropped_report i.upload)
    → rows ≡ over (made_tables i.upload).rows i.buffers.rows → pos ≡ over (made_tables i.upload).pos i.buffers.pos
    → osp ≡ over (made_tables i.upload).osp i.buffers.osp → report ≡ over (dropped_report i.upload) i.buffers.report
    → record { answer = Words a b b d; buffers = make_buffers rows pos osp report } ≡ made_with (made_tables i.upload)
    (dropped_report i.upload) i.buffers
same_result i a b d rows pos osp report e f g h j k l =
    equal_results (e ∙ sym (made_length i.upload)) (f ∙ sym (numbers_made i.upload Pos)) (f ∙ sym (numbers_made i.upload Osp)) g h j k l
