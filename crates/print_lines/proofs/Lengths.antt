-- How long the texts of a line are at most: terms, fields, lines.
use Prim.Native.Nat.{ℕ, suc, ◌+◌, ◌*◌, ◌^◌, ◌≤◌, ◌<◌}
use native.Mathlib.Omega.{arith}
use mathlib.Core.Path.{◌≡◌}
use mathlib.Core.Bool.{Bool, true, false, cond}
use mathlib.Core.List.{List, [], ◌∷◌}
use lib.ListN.{length, get_or, take, length-append}
use lib.Seq.{length-take-le}
use Rattle.words.specs.Words.{term_kind, term_value, is_variable, is_number, number_value}
use Rattle.lists.specs.Sums.{sum_in}
use Rattle.lists.specs.Groups.{group_in, pair_at, totals_width}
use Rattle.print_texts.specs.Texts.{newline, dash, decimal, integer_text, kind_letter, value_text, term_text, number_field, integer_field, term_field}
use Rattle.print_texts.specs.Texts.{number_fields, term_fields}
use Rattle.print_lines.specs.Lines.{group_fields, list_line}
use Rattle.print_texts.proofs.Decimals.{length_long, length_word}
use Rattle.print_texts.proofs.Terms.{integer_word, integer_long}
use Rattle.print_texts.proofs.Fields.{fields_most, three_length}
use Rattle.print_lines.proofs.Records.{fields_length}

-- ---- fields
-- ten digits, or a dash and nine; with the letter eleven characters
value_most : (w : ℕ) → length (value_text w) ≤ 10
unfolding value_text
value_most w = go (is_number w)
  where
    go : (b : Bool) → length (cond b (integer_text (number_value w)) (decimal (term_value w))) ≤ 10
    go true = integer_word (term_value w) (omega arith)
    go false = length_word (term_value w) (omega arith)

term_most : (w : ℕ) → length (term_text w) ≤ 11
unfolding term_text
term_most w = go (is_variable w)
  where
    go : (b : Bool) → length (cond b (dash ∷ []) (kind_letter (term_kind w) ∷ value_text w)) ≤ 11
    go true = omega arith
    go false = let e = value_most w in omega arith

pub terms_most : (ws : List ℕ) → length (term_fields ws) ≤ 12 * length ws
terms_most ws = fields_most term_field 12 ws (λ i. let e = term_most (get_or ws i 0) in omega arith)

pub words_most : (ws : List ℕ) → ((i : ℕ) → get_or ws i 0 < 2 ^ 32) → length (number_fields ws) ≤ 11 * length ws
words_most ws h = fields_most number_field 11 ws (λ i. let e = length_word (get_or ws i 0) (h i) in omega arith)

-- ---- lines
pub list_length : (ws : List ℕ) → length (list_line ws) ≡ 5 + length (number_fields ws)
unfolding list_line
list_length ws = let a = length-append (number_fields ws) (newline ∷ []) in omega arith

pub list_most : (ws : List ℕ) → ((i : ℕ) → get_or ws i 0 < 2 ^ 32) → length (list_line ws) ≤ 5 + 11 * length ws
list_most ws h =
    let e = words_most ws h in
    let a = list_length ws in
    omega arith

-- the fields of a group's record
module _ (n : ℕ) (ws : List ℕ) (few : n ≤ 4) (whole : n + totals_width ≤ length ws) (h : (i : ℕ) → get_or ws i 0 < 2 ^ 32) where
  pair_most : (at : ℕ) → length (number_field (pair_at ws at)) ≤ 21
  pair_most at =
      let low = h at in
      let high = h (suc at) in
      let e = length_long (pair_at ws at) (omega arith) in
      omega arith

  sum_most : (at : ℕ) → length (integer_field (sum_in (pair_at ws at))) ≤ 21
  sum_most at =
      let low = h at in
      let high = h (suc at) in
      let e = integer_long (pair_at ws at) (omega arith) in
      omega arith

  pub group_fields_most : length (group_fields (group_in n ws)) ≤ 135
  group_fields_most =
      let k = terms_most (take n ws) in
      let t = length-take-le n ws (omega arith) in
      let p = pair_most n in
      let q = pair_most (n + 2) in
      let r = sum_most (n + 4) in
      let s = three_length (number_field (pair_at ws n)) (number_field (pair_at ws (n + 2))) (integer_field (sum_in (pair_at ws (n + 4)))) in
      let e = terms_most (get_or ws (n + 6) 0 ∷ get_or ws (n + 7) 0 ∷ []) in
      let f = fields_length n ws in
      omega arith
