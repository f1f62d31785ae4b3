-- The report names exactly the dropped rows, with their codes, in upload order.
use Prim.Native.Nat.{ℕ, suc, ◌+◌, ◌*◌, ◌<◌}
use native.Mathlib.Omega.{arith}
use mathlib.Core.Path.{◌≡◌, sym, ◌∙◌, ap, subst}
use mathlib.Core.Bool.{true, not}
use mathlib.Core.Logic.{◌⊎◌}
use mathlib.Core.List.{List, [], map}
use lib.Dec.{ltb}
use lib.ListN.{length, get_or, length-map}
use borrow.Author.Tests.{ltb-true, ne_eqb}
use Rattle.sequences.specs.Sequences.{numbers}
use Rattle.sequences.proofs.Each.{each_kept, each_keep}
use Rattle.sequences.proofs.Flattening.{flatten_at}
use Rattle.sequences.proofs.Numbers.{numbers_below, numbers_rise, keep_stands}
use Rattle.sequences.proofs.Somewhere.{each_at, map_at}
use Rattle.sequences.proofs.SortedStrictly.{ascending_keep, ascending_pairs}
use Rattle.uploads.specs.Uploads.{upload_count, kept_code, wrong_code, repeat_code, fate_of, is_dropped, dropped_numbers, dropped_count}
use Rattle.uploads.specs.Uploads.{entry_words, entry_of, dropped_report}
use Rattle.uploads.specs.Exactness.{entry_count, entry_place_at, code_at, Names, Reported}
use Rattle.uploads.proofs.Fates.{wrong_fate, fate_wrong, repeat_fate, fate_repeat, dropped_code, earlier, earlier_repeats}
use Rattle.uploads.proofs.Lengths.{report_wide, report_length}

module _ (up : List ℕ) where
  abbrev rows : List ℕ
  rows = dropped_numbers up

  entries : entry_count (dropped_report up) ≡ dropped_count up
  entries = let e = report_length up in omega arith

  -- the words of an entry
  entry_at : (e c : ℕ) → e < dropped_count up → c < entry_words →
      get_or (dropped_report up) (e * entry_words + c) 0 ≡ get_or (entry_of up (get_or rows e 0)) c 0
  unfolding dropped_report
  entry_at e c h k =
      flatten_at entry_words (map (entry_of up) rows) (report_wide up) e c (omega (arith, length_entries)) k
      ∙ ap (λ x. get_or x c 0) (map_at (entry_of up) rows 0 [] e h)
    where
      length_entries : length (map (entry_of up) rows) ≡ dropped_count up
      length_entries = length-map rows (entry_of up)

  place_is : (e : ℕ) → e < dropped_count up → entry_place_at (dropped_report up) e ≡ get_or rows e 0
  place_is e h =
      let z : e * entry_words ≡ e * entry_words + 0 = omega arith in
      ap (λ n. get_or (dropped_report up) n 0) z ∙ entry_at e 0 h (omega arith)

  code_is : (e : ℕ) → e < dropped_count up → code_at (dropped_report up) e ≡ fate_of up (get_or rows e 0)
  code_is e h = entry_at e 1 h (omega arith)

  -- a named row has the fate that is its code, and a dropped row is named with its fate
  named_fate : (row code : ℕ) → Names (dropped_report up) row code → fate_of up row ≡ code
  named_fate row code n =
      let l = n.there in
      let h : n.entry < dropped_count up = omega (arith, entries) in
      ap (fate_of up) (sym n.place ∙ place_is n.entry h) ∙ sym (code_is n.entry h) ∙ n.is

  fate_named : (row code : ℕ) → row < upload_count up → is_dropped up row ≡ true → fate_of up row ≡ code → Names (dropped_report up) row code
  fate_named row code h d e =
      let p = keep_stands (is_dropped up) (upload_count up) row h d in
      let l = p.inside in
      record {
        entry = p.place;
        there = omega (arith, entries);
        place = place_is p.place l ∙ p.is;
        is = code_is p.place l ∙ ap (fate_of up) p.is ∙ e;
      }

  coded : (row code : ℕ) → fate_of up row ≡ suc code → is_dropped up row ≡ true
  coded row code e = ap not (ne_eqb (fate_of up row) kept_code (λ z. omega arith))

  pub report_exactly : Reported up (dropped_report up)
  report_exactly =
      record {
        whole = let e = report_length up in omega arith;
        ascends = λ e h.
            let l : suc e < dropped_count up = omega (arith, entries) in
            let u = ltb-true (get_or rows e 0) (get_or rows (suc e) 0)
            (ascending_pairs ltb rows 0 (ascending_keep ltb (is_dropped up) (numbers (upload_count up)) (numbers_rise (upload_count up))) e (suc e)
            (omega arith) l) in
            omega (arith, place_is e (omega arith), place_is (suc e) l);
        there = λ e h.
            let l : e < dropped_count up = omega (arith, entries) in
            let b = ltb-true (get_or rows e 0) (upload_count up)
            (each_at (λ i. ltb i (upload_count up) ≡ true) rows 0
            (each_keep (λ i. ltb i (upload_count up) ≡ true) (is_dropped up) (numbers (upload_count up))
            (numbers_below (upload_count up) (upload_count up) (omega arith))) e l) in
            omega (arith, place_is e l);
        codes = λ e h.
            let l : e < dropped_count up = omega (arith, entries) in
            subst (λ n. (n ≡ wrong_code) ⊎ (n ≡ repeat_code)) (sym (code_is e l))
            (dropped_code up (get_or rows e 0) (each_at (λ i. is_dropped up i ≡ true) rows 0 (each_kept (is_dropped up) (numbers (upload_count up))) e l));
        wrong = λ row h. (
          λ n. fate_wrong up row (named_fate row wrong_code n),
          λ g. let e = wrong_fate up row g in fate_named row wrong_code h (coded row 0 e) e,
        );
        repeats = λ row h. (
          λ n. let r = fate_repeat up row (named_fate row repeat_code n) in (r.0, earlier up row r.0 r.1),
          λ g. let e = repeat_fate up row g.0 (earlier_repeats up row g.1) in fate_named row repeat_code h (coded row 1 e) e,
        );
      }
