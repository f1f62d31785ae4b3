-- Rows and records of one width: their words joined end to end are read back as they were. Nothing here says what a
-- record is: the width is any number.
use Prim.Native.Nat.{ℕ, zero, suc, ◌*◌, ◌/◌, ◌%◌, ◌≤◌, ◌<◌}
use native.Mathlib.Omega.{arith}
use native.Mathlib.Nat.{mul-div_cancel, mul-mod_left, suc-mul, div-mul-le_self, zero-div, div-zero, div-add-mod'}
use mathlib.Core.Path.{◌≡◌, refl, ◌∙◌, ap, ap₂}
use mathlib.Core.Bool.{Bool}
use mathlib.Core.List.{List, [], ◌∷◌, ◌++◌, map, flatten}
use lib.ListN.{length, take, drop, length-map, length-drop, take-append-drop}
use lib.Seq.{take_at, drop_at, length-take-le}
use Rattle.words.specs.Bindings.{Bindings, value_of}
use Rattle.sequences.specs.Sequences.{parts}
use Rattle.sequences.specs.Sorting.{insert_by, best_by}
use Rattle.lists.specs.Rows.{project, ahead}
use Rattle.lists.specs.Gathering.{records_in}
use Rattle.sequences.proofs.Each.{each_map, each_append, each_insert, each_best}
pub use Rattle.sequences.proofs.Flattening.{Wide, length_flatten, flatten_append}
use Rattle.lists.proofs.Leaving.{each_ahead}

-- ---- what is wide
pub wide_project : (vs : List ℕ) (bs : List Bindings) → Wide (length vs) (map (project vs) bs)
wide_project vs bs = each_map (λ (x : List ℕ). length x ≡ length vs) (project vs) (λ b. length-map vs (value_of b)) bs

module _ (w : ℕ) where
  pub wide_append : (xs ys : List (List ℕ)) → Wide w xs → Wide w ys → Wide w (xs ++ ys)
  wide_append = each_append (λ (x : List ℕ). length x ≡ w)

  pub wide_insert : (before : List ℕ → List ℕ → Bool) (y : List ℕ) (xs : List (List ℕ)) → length y ≡ w → Wide w xs
      → Wide w (insert_by before y xs)
  wide_insert = each_insert (λ (x : List ℕ). length x ≡ w)

  pub wide_best : (before : List ℕ → List ℕ → Bool) (k : ℕ) (xs : List (List ℕ)) → Wide w xs → Wide w (best_by before k xs)
  wide_best = each_best (λ (x : List ℕ). length x ≡ w)

  pub wide_ahead : (before : List ℕ → List ℕ → Bool) (threshold : List ℕ) (xs : List (List ℕ)) → Wide w xs
      → Wide w (ahead before threshold xs)
  wide_ahead = each_ahead (λ (x : List ℕ). length x ≡ w)

  wide_parts : (n : ℕ) (ws : List ℕ) → n * w ≤ length ws → Wide w (parts w n ws)
  unfolding parts
  wide_parts zero ws h = tt
  wide_parts (suc n) ws h =
      let s = suc-mul n w in
      let d = length-drop w ws in
      (length-take-le w ws (omega arith), wide_parts n (drop w ws) (omega arith))

  length_parts : (n : ℕ) (ws : List ℕ) → length (parts w n ws) ≡ n
  unfolding parts
  length_parts zero ws = refl
  length_parts (suc n) ws = ap suc (length_parts n (drop w ws))

  -- the records of any words are whole, and as many as there is room for
  pub wide_records : (ws : List ℕ) → Wide w (records_in w ws)
  unfolding records_in
  wide_records ws = wide_parts (length ws / w) ws (div-mul-le_self (length ws) w)

  pub length_records : (ws : List ℕ) → length (records_in w ws) ≡ length ws / w
  unfolding records_in
  length_records ws = length_parts (length ws / w) ws

  -- ---- words of records
  parts_flatten : (xs : List (List ℕ)) → Wide w xs → parts w (length xs) (flatten xs) ≡ xs
  unfolding parts flatten
  parts_flatten [] h = refl
  parts_flatten (x ∷ xs) h =
      ap₂ ◌∷◌ (take_at x (flatten xs) w h.0)
      (ap (parts w (length xs)) (drop_at x (flatten xs) w h.0) ∙ parts_flatten xs h.1)

  flatten_parts : (n : ℕ) (ws : List ℕ) → length ws ≡ n * w → flatten (parts w n ws) ≡ ws
  unfolding parts flatten
  flatten_parts zero [] h = refl
  flatten_parts zero (x ∷ ws) h = absurd (omega arith)
  flatten_parts (suc n) ws h =
      let s = suc-mul n w in
      let d = length-drop w ws in
      ap (λ l. take w ws ++ l) (flatten_parts n (drop w ws) (omega arith)) ∙ take-append-drop w ws

  module _ (pos : 0 < w) where
    pub count_flatten : (xs : List (List ℕ)) → Wide w xs → length (flatten xs) / w ≡ length xs
    count_flatten xs h = ap (λ n. n / w) (length_flatten w xs h) ∙ mul-div_cancel (length xs) pos

    -- joined end to end and cut again
    pub records_flatten : (xs : List (List ℕ)) → Wide w xs → records_in w (flatten xs) ≡ xs
    unfolding records_in
    records_flatten xs h = ap (λ n. parts w n (flatten xs)) (count_flatten xs h) ∙ parts_flatten xs h

  -- whole records leave no word over
  pub whole_flatten : (xs : List (List ℕ)) → Wide w xs → length (flatten xs) % w ≡ 0
  whole_flatten xs h = ap (λ n. n % w) (length_flatten w xs h) ∙ mul-mod_left (length xs) w

  -- cut and joined again, where no word is left over
  pub flatten_records : (ws : List ℕ) → length ws % w ≡ 0 → flatten (records_in w ws) ≡ ws
  unfolding records_in
  flatten_records ws h =
      let d = div-add-mod' (length ws) w in
      let e : length ws ≡ length ws / w * w = omega arith in
      flatten_parts (length ws / w) ws e

-- no words, no records; and none of no width
pub records_nil : (w : ℕ) → records_in w [] ≡ []
unfolding records_in parts
records_nil w = rw (zero-div w)

pub records_zero : (ws : List ℕ) → records_in 0 ws ≡ []
unfolding records_in parts
records_zero ws = rw (div-zero (length ws))
