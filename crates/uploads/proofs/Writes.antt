-- When a call is served, in counts of rows, and what it then writes.
use Prim.Native.Nat.{ℕ, ◌*◌, ◌%◌, ◌≤◌}
use mathlib.Core.Path.{◌≡◌, sym, ◌∙◌, ap, subst, subst⁻¹}
use mathlib.Core.Logic.{◌↔◌}
use mathlib.Core.Bool.{true, ◌&&◌}
use mathlib.Core.List.{List}
use lib.Dec.{eqb, leb}
use lib.ListN.{length}
use borrow.Author.Tests.{eq-eqb, le-leb, eqb-true, leb-true}
use Rattle.sequences.specs.Buffers.{Overwritten}
use Rattle.sequences.specs.Sequences.{over}
use Rattle.sequences.proofs.Booleans.{and_left, and_right}
use Rattle.sequences.proofs.Buffers.{overwritten}
use Rattle.words.proofs.Testing.{test_passed}
use Rattle.calls.specs.Calls.{NotRefused}
use Rattle.tables.specs.declared.Order.TheVariants.{Pos, Osp}
use Rattle.tables.specs.Tables.{column_count, most_rows}
use Rattle.uploads.specs.Uploads.{upload_count, kept_count, dropped_count, entry_words, made_rows, made_tables, dropped_report}
use Rattle.uploads.specs.Making.{MakeInput, MakeResult, upload_right, make_room_right, make_tests, make_schema, made_words}
use Rattle.uploads.specs.Refusals.{MakeSuffices, MakeWrites}
use Rattle.uploads.proofs.Lengths.{made_length, numbers_made, report_length}
use Rattle.uploads.proofs.Refusals.{made_so, make_refusals}

-- ---- test 15
module _ (up : List ℕ) where
  pub upload_whole : upload_right up ≡ true → length up % column_count ≡ 0
  unfolding upload_right
  upload_whole e = eqb-true _ _ (and_left (eqb (length up % column_count) 0) _ e)

  pub upload_few : upload_right up ≡ true → upload_count up ≤ most_rows
  unfolding upload_right
  upload_few e = leb-true _ _ (and_right (eqb (length up % column_count) 0) _ e)

  pub upload_right_lem : length up % column_count ≡ 0 → upload_count up ≤ most_rows → upload_right up ≡ true
  unfolding upload_right
  upload_right_lem e h = rw (eq-eqb (length up % column_count) 0 e, le-leb (upload_count up) most_rows h)

-- ---- test 16: what is written has this many words
module _ (i : MakeInput) where
  abbrev up : List ℕ
  up = i.upload

  pub room_right_fact : make_room_right (made_tables up) (dropped_report up) i.buffers
      ≡ (leb (kept_count up * column_count) (length i.buffers.rows)
      && (leb (kept_count up) (length i.buffers.pos)
      && (leb (kept_count up) (length i.buffers.osp) && leb (dropped_count up * entry_words) (length i.buffers.report))))
  unfolding make_room_right
  room_right_fact = rw (made_length up, numbers_made up Pos, numbers_made up Osp, report_length up)

  suffices : NotRefused make_schema i → MakeSuffices i
  suffices m =
      let p = (make_refusals i).served.0 m in
      let e = test_passed 15 (make_tests i) p in
      let a = sym room_right_fact ∙ test_passed 16 (make_tests i) p in
      let b = and_right (leb (kept_count up * column_count) (length i.buffers.rows)) _ a in
      let d = and_right (leb (kept_count up) (length i.buffers.pos)) _ b in
      record {
        whole = upload_whole up e;
        few = upload_few up e;
        rows = leb-true _ _ (and_left (leb (kept_count up * column_count) (length i.buffers.rows)) _ a);
        pos = leb-true _ _ (and_left (leb (kept_count up) (length i.buffers.pos)) _ b);
        osp = leb-true _ _ (and_left (leb (kept_count up) (length i.buffers.osp)) _ d);
        report = leb-true _ _ (and_right (leb (kept_count up) (length i.buffers.osp)) _ d);
      }

  room_enough : MakeSuffices i → make_room_right (made_tables up) (dropped_report up) i.buffers ≡ true
  room_enough s =
      room_right_fact
      ∙ rw (
        le-leb (kept_count up * column_count) (length i.buffers.rows) s.rows,
        le-leb (kept_count up) (length i.buffers.pos) s.pos,
        le-leb (kept_count up) (length i.buffers.osp) s.osp,
        le-leb (dropped_count up * entry_words) (length i.buffers.report) s.report,
      )

  -- served exactly for whole rows that are not too many and for buffers that are no shorter than what is written
  pub make_suffices : NotRefused make_schema i ↔ MakeSuffices i
  make_suffices = (suffices, λ s. (make_refusals i).served.1 (upload_right_lem up s.whole s.few, (room_enough s, tt)))

  -- some words over a buffer, counted otherwise
  counted : (ws before : List ℕ) (n : ℕ) → length ws ≡ n → Overwritten ws before (over ws before) n
  counted ws before n e = subst (Overwritten ws before (over ws before)) e (overwritten ws before)

  pub make_writes : NotRefused make_schema i → MakeWrites i
  make_writes m =
      let e = made_so i m in
      record {
        rows = subst⁻¹ (λ (r : MakeResult). Overwritten (made_rows up) i.buffers.rows r.buffers.rows (kept_count up * column_count)) e
            (counted _ _ _ (made_length up));
        pos = subst⁻¹ (λ (r : MakeResult). Overwritten (made_tables up).pos i.buffers.pos r.buffers.pos (kept_count up)) e
            (counted _ _ _ (numbers_made up Pos));
        osp = subst⁻¹ (λ (r : MakeResult). Overwritten (made_tables up).osp i.buffers.osp r.buffers.osp (kept_count up)) e
            (counted _ _ _ (numbers_made up Osp));
        report = subst⁻¹ (λ (r : MakeResult). Overwritten (dropped_report up) i.buffers.report r.buffers.report (dropped_count up * entry_words)) e
            (counted _ _ _ (report_length up));
        words = ap (λ (r : MakeResult). made_words r.answer) e ∙ rw (made_length up, numbers_made up Pos, numbers_made up Osp, report_length up);
      }
