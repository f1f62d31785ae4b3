-- `write_rows` meets its contract. The invariant: the kept rows among those before this one are written.
use Rattle.std.proofs.Common.{◌≡◌, ℕ, ◌+◌, ◌*◌, ◌≤◌, ◌<◌, true, false, List, [], ◌∷◌, ◌++◌, length, take, get_or, length-append, add-one, sym, ◌∙◌, ap, arith}
use borrow.Author.Tests.{leb-true, eq-eqb, ne_eqb}
use lib.Seq.{take-suc, paste}
use Rattle.sequences.specs.Sequences.{all, over}
use Rattle.sequences.proofs.Elements.{all_at_lem}
use Rattle.sequences.proofs.Growing.{grow_whole, grow_count}
use Rattle.tables.specs.declared.Order.TheVariants.{Spo}
use Rattle.tables.specs.Tables.{column_count, fields_of}
use Rattle.tables.specs.RowLists.{in_rows}
use Rattle.tables.proofs.Columns.{fields_length}
use Rattle.upload_writes.specs.Writing.{is_kept_in, kept_words}
use Rattle.upload_writes.proofs.Written.{written_none, written_yes, written_no, written_part}
use Rattle.upload_writes.proofs.rows.write_rows.Goals as goal
use Rattle.upload_writes.proofs.rows.write_rows.Goals.{then-fates-wide-eq-KEPT, else-fates-wide-eq-KEPT}

module _ (up fates list : List ℕ) (place : ℕ) (here : place < length list) where
  abbrev row : ℕ
  row = get_or list place 0

  named : all (in_rows up) list ≡ true → row * column_count + column_count ≤ length up
  named h = leb-true _ _ (all_at_lem (in_rows up) list place 0 h here)

  -- one place more
  next_place : take (place + 1) list ≡ take place list ++ (row ∷ [])
  next_place = rw (add-one place) (take-suc list place 0 here)

  next_kept : is_kept_in fates row ≡ true
      → kept_words up fates (take (place + 1) list) ≡ kept_words up fates (take place list) ++ fields_of Spo up row
  next_kept e = ap (kept_words up fates) next_place ∙ written_yes (is_kept_in fates) (fields_of Spo up) (take place list) row e

  next_dropped : is_kept_in fates row ≡ false → kept_words up fates (take (place + 1) list) ≡ kept_words up fates (take place list)
  next_dropped e = ap (kept_words up fates) next_place ∙ written_no (is_kept_in fates) (fields_of Spo up) (take place list) row e

  -- there is room for a row that is kept
  room : is_kept_in fates row ≡ true
      → length (kept_words up fates (take place list)) + column_count ≤ length (kept_words up fates list)
  room e =
      let a = written_part (is_kept_in fates) (fields_of Spo up) (place + 1) list in
      let b = ap length (next_kept e) in
      let c = length-append (kept_words up fates (take place list)) (fields_of Spo up row) in
      let d = fields_length Spo up row in
      omega arith

pub loop-row-init : goal.loop-row-init
loop-row-init c =
    let a = c.args in
    let n = written_none (is_kept_in a.fates.now) (fields_of Spo a.upload.now) in
    (ap length n, ap (λ ws. over ws a.rows.now) n)

pub bounds-fates-wide : goal.bounds-fates-wide
bounds-fates-wide c =
    let a = c.args in
    let n = named a.upload.now a.fates.now a.list.now c.loop-row.row-index (omega arith) c.requires.list_value in
    omega (arith, c.wide.ensures, c.requires.upload_in_bounds)

pub fields-words-requires : goal.fields-words-requires
fields-words-requires c =
    let a = c.args in
    named a.upload.now a.fates.now a.list.now c.loop-row.row-index (omega arith) c.requires.list_value

pub copy_in-requires : goal.copy_in-requires
copy_in-requires c =
    let a = c.args in
    let l = c.loop-row in
    let k = eq-eqb _ _ (sym (ap (λ r. get_or a.fates.now r 0) c.wide.ensures) ∙ c.if-fates-wide-eq-KEPT.true) in
    let m = room a.upload.now a.fates.now a.list.now l.row-index (omega arith) k in
    let n = ap length c.fields-words.ensures in
    let d = fields_length Spo a.upload.now (get_or a.list.now l.row-index 0) in
    omega (arith, c.requires.list_in_bounds, l.auto.rows, l.invariant.0)

pub loop-row-preserved : goal.loop-row-preserved
loop-row-preserved c =
    let a = c.args in
    let up = a.upload.now in
    let fates = a.fates.now in
    let list = a.list.now in
    let rows = a.rows.now in
    let l = c.loop-row in
    let i = l.invariant in
    let h : l.row-index < length list = omega arith in
    elim c.if-fates-wide-eq-KEPT.branch [
      | then-fates-wide-eq-KEPT w ↦
          let k = eq-eqb _ _ (sym (ap (λ r. get_or fates r 0) c.wide.ensures) ∙ w.if-fates-wide-eq-KEPT.true) in
          let e = next_kept up fates list l.row-index h k in
          let ws = kept_words up fates (take l.row-index list) in
          let x = fields_of Spo up (get_or list l.row-index 0) in
          let d : length x ≡ column_count = fields_length Spo up (get_or list l.row-index 0) in
          let m = room up fates list l.row-index h k in
          let fits : l.used + length x ≤ length rows = omega (arith, c.requires.list_in_bounds, i.0) in
          let put = w.copy_in.ensures ∙ ap (λ y. paste l.rows l.used y (length y)) w.fields-words.ensures in
          rw (w.rows-is, w.used-is, ← d) (
            grow_count ws x rows l.rows w.copy_in.new.buf l.used i.0 i.1 fits put ∙ sym (ap length e),
            grow_whole ws x rows l.rows w.copy_in.new.buf l.used i.0 i.1 fits put ∙ sym (ap (λ ws. over ws rows) e),
          )
      | else-fates-wide-eq-KEPT w ↦
          let k = ne_eqb _ _ (λ e. w.if-fates-wide-eq-KEPT.false (ap (λ r. get_or fates r 0) c.wide.ensures ∙ e)) in
          let e = next_dropped up fates list l.row-index h k in
          rw (w.rows-is, w.used-is) (i.0 ∙ sym (ap length e), i.1 ∙ sym (ap (λ ws. over ws rows) e))
    ]
