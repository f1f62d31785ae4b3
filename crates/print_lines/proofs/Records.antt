-- The words of a group's record, in the sequence in which they are printed.
use Prim.Native.Nat.{ℕ, suc, ◌+◌, ◌-◌, ◌≤◌, ◌<◌}
use native.Mathlib.Omega.{arith}
use mathlib.Core.Path.{◌≡◌, refl, ◌∙◌, ap}
use mathlib.Core.List.{List, [], ◌∷◌, ◌++◌}
use lib.ListN.{length, get_or, take, drop, length-append}
use lib.Seq.{drop-cons}
use Rattle.lists.specs.Groups.{group_in, totals_width}
use Rattle.print_texts.specs.Texts.{term_fields}
use Rattle.print_lines.specs.Lines.{totals_text, group_fields}

-- the first elements from a place on
pub take_cons : (k at : ℕ) (xs : List ℕ) → at < length xs → take (suc k) (drop at xs) ≡ get_or xs at 0 ∷ take k (drop (suc at) xs)
take_cons k at xs h = rw (drop-cons xs at 0)

module _ (n : ℕ) (ws : List ℕ) where
  pub fields_of_lem : group_fields (group_in n ws)
      ≡ term_fields (take n ws)
      ++ totals_text n ws
      ++ term_fields (get_or ws (n + 6) 0 ∷ get_or ws (n + 7) 0 ∷ [])
  unfolding group_fields group_in
  fields_of_lem = refl

  -- the last two words, least and greatest
  pub last_two : n + totals_width ≤ length ws
      → take (n + 8 - (n + 6)) (drop (n + 6) ws) ≡ get_or ws (n + 6) 0 ∷ get_or ws (n + 7) 0 ∷ []
  last_two h =
      let two : n + 8 - (n + 6) ≡ 2 = omega arith in
      let next : suc (n + 6) ≡ n + 7 = omega arith in
      rw (two, take_cons 1 (n + 6) ws (omega arith), next, take_cons 0 (n + 7) ws (omega arith))

  pub fields_length : length (group_fields (group_in n ws))
      ≡ length (term_fields (take n ws))
      + length (totals_text n ws)
      + length (term_fields (get_or ws (n + 6) 0 ∷ get_or ws (n + 7) 0 ∷ []))
  fields_length =
      let keys = term_fields (take n ws) in
      let totals = totals_text n ws in
      let ends = term_fields (get_or ws (n + 6) 0 ∷ get_or ws (n + 7) 0 ∷ []) in
      ap length fields_of_lem ∙ length-append (keys ++ totals) ends ∙ ap (λ (k : ℕ). k + length ends) (length-append keys totals)
