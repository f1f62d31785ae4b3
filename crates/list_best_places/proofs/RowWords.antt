-- Rows of one width as words: the first rows are the first words, a row in front or behind is one row more.
use Prim.Native.Nat.{ℕ, zero, suc, ◌+◌, ◌-◌, ◌*◌, ◌/◌, ◌%◌, ◌≤◌, ◌<◌}
use native.Mathlib.Omega.{arith}
use native.Mathlib.Nat.{zero-mul, suc-mul, mul-sub, mul-mod_left, mul-mod_right, add-div_left, div-add-mod, div-add-mod', mod-eq_of_lt, mod-eq-sub-mod}
use native.Mathlib.Decide.{dec_lt}
use native.Mathlib.Numerals.{add-one}
use mathlib.Core.Path.{◌≡◌, sym, ◌∙◌, ap, ap₂}
use mathlib.Core.List.{List, [], ◌∷◌, ◌++◌, flatten, append-nil}
use lib.ListN.{length, take, drop, length-append, length-drop, take-append-drop}
use lib.Seq.{take-nil, drop-nil, take-append-add, drop-append-add, take_at, drop_at, take-add, drop-drop, length-take-le}
use Rattle.sequences.specs.Sequences.{parts}
use Rattle.lists.specs.Gathering.{records_in}
use Rattle.sequences.proofs.Each.{each_take}
use Rattle.lists.proofs.Records.{Wide, wide_append, wide_records, flatten_records, records_flatten, flatten_append}

module _ (w : ℕ) where
  -- ---- the first rows, and the rows behind them
  pub flatten_take : (p : ℕ) (xs : List (List ℕ)) → Wide w xs → flatten (take p xs) ≡ take (p * w) (flatten xs)
  unfolding flatten
  flatten_take zero xs h = rw (zero-mul w)
  flatten_take (suc p) [] h = sym (take-nil (suc p * w))
  flatten_take (suc p) (x ∷ xs) h =
      let n : suc p * w ≡ length x + p * w = omega (arith, suc-mul p w, h.0) in
      ap (λ l. x ++ l) (flatten_take p xs h.1) ∙ sym (ap (λ m. take m (x ++ flatten xs)) n ∙ take-append-add x (flatten xs) (p * w))

  pub flatten_drop : (p : ℕ) (xs : List (List ℕ)) → Wide w xs → flatten (drop p xs) ≡ drop (p * w) (flatten xs)
  unfolding flatten
  flatten_drop zero xs h = rw (zero-mul w)
  flatten_drop (suc p) [] h = sym (drop-nil (suc p * w))
  flatten_drop (suc p) (x ∷ xs) h =
      let n : suc p * w ≡ length x + p * w = omega (arith, suc-mul p w, h.0) in
      flatten_drop p xs h.1 ∙ sym (ap (λ m. drop m (x ++ flatten xs)) n ∙ drop-append-add x (flatten xs) (p * w))

  -- ---- one row more
  module _ (pos : 0 < w) where
    pub records_cons : (y ws : List ℕ) → length y ≡ w → records_in w (y ++ ws) ≡ y ∷ records_in w ws
    unfolding records_in parts
    records_cons y ws h =
        let n : length (y ++ ws) / w ≡ suc (length ws / w) =
        ap (λ m. m / w) (length-append y ws ∙ ap (λ m. m + length ws) h) ∙ add-div_left (length ws) pos ∙ add-one (length ws / w) in
        ap (λ m. parts w m (y ++ ws)) n ∙ ap₂ (λ a b. a ∷ parts w (length ws / w) b) (take_at y ws w h) (drop_at y ws w h)

    pub records_snoc : (ws y : List ℕ) → length ws % w ≡ 0 → length y ≡ w → records_in w (ws ++ y) ≡ records_in w ws ++ (y ∷ [])
    unfolding flatten
    records_snoc ws y e h =
        let R = records_in w ws in
        ap (records_in w)
        (ap₂ ◌++◌ (sym (flatten_records w ws e)) (sym (append-nil y)) ∙ sym (flatten_append R (y ∷ [])))
        ∙ records_flatten w pos (R ++ (y ∷ [])) (wide_append w R (y ∷ []) (wide_records w ws) (h, tt))

    pub records_append : (xs ys : List ℕ) → length xs % w ≡ 0 → length ys % w ≡ 0 → records_in w (xs ++ ys) ≡ records_in w xs ++ records_in w ys
    records_append xs ys e f =
        let R = records_in w xs in
        let S = records_in w ys in
        ap (records_in w) (ap₂ ◌++◌ (sym (flatten_records w xs e)) (sym (flatten_records w ys f)) ∙ sym (flatten_append R S))
        ∙ records_flatten w pos (R ++ S) (wide_append w R S (wide_records w xs) (wide_records w ys))

    -- the first words, of whole rows, are the first rows
    pub records_take : (n : ℕ) (ws : List ℕ) → n % w ≡ 0 → length ws % w ≡ 0
        → records_in w (take n ws) ≡ take (n / w) (records_in w ws)
    records_take n ws e h =
        let R = records_in w ws in
        let m : n ≡ n / w * w = omega (arith, div-add-mod' n w) in
        let wide = each_take (λ (x : List ℕ). length x ≡ w) (n / w) R (wide_records w ws) in
        ap (records_in w)
        (ap₂ take m (sym (flatten_records w ws h)) ∙ sym (flatten_take (n / w) R (wide_records w ws)))
        ∙ records_flatten w pos (take (n / w) R) wide

-- ---- whole numbers of rows
pub whole_room : (w n : ℕ) → n % w ≡ 0 → 0 < n → w ≤ n
whole_room w n e p =
    elim (dec_lt n w) [
      | yes h ↦ absurd (omega (arith, mod-eq_of_lt h))
      | no h ↦ omega arith
    ]

pub whole_less : (w n : ℕ) → n % w ≡ 0 → w ≤ n → (n - w) % w ≡ 0
whole_less w n e h = sym (mod-eq-sub-mod h) ∙ e

pub whole_rest : (w a n : ℕ) → a % w ≡ 0 → n % w ≡ 0 → (n - a) % w ≡ 0
whole_rest w a n e h =
    let m : n - a ≡ w * (n / w - a / w) = omega (arith, mul-sub w (n / w) (a / w), div-add-mod n w, div-add-mod a w) in
    ap (λ x. x % w) m ∙ mul-mod_right w (n / w - a / w)

pub far_whole : (w n at : ℕ) → at % w ≡ 0 → (at - n * w) % w ≡ 0
far_whole w n at e = whole_rest w (n * w) at (mul-mod_left n w) e

-- the row that ends at a place
pub last_row_lem : (w at : ℕ) (ws : List ℕ) → w ≤ at → take at ws ≡ take (at - w) ws ++ take (at - (at - w)) (drop (at - w) ws)
last_row_lem w at ws h =
    let n : at ≡ at - w + (at - (at - w)) = omega arith in
    ap (λ m. take m ws) n ∙ take-add (at - w) (at - (at - w)) ws

-- ---- row by row: the row at a place, and the words behind it
abbrev pub row_at : ℕ → List ℕ → ℕ → List ℕ
row_at w ws at = take (at + w - at) (drop at ws)

module _ (w : ℕ) (ws : List ℕ) (at : ℕ) where
  pub row_split : drop at ws ≡ row_at w ws at ++ drop (at + w) ws
  row_split =
      let n : at + (at + w - at) ≡ at + w = omega arith in
      sym (take-append-drop (at + w - at) (drop at ws))
      ∙ ap (λ x. row_at w ws at ++ x) (drop-drop (at + w - at) at ws ∙ ap (λ x. drop x ws) n)

  -- where whole rows are left from there on, and some word, there is a row
  pub next_row : length (drop at ws) % w ≡ 0 → at < length ws → at + w ≤ length ws
  next_row e h =
      let d = length-drop at ws in
      omega (arith, whole_room w (length (drop at ws)) e (omega arith))

  module _ (h : at + w ≤ length ws) where
    pub row_length : length (row_at w ws at) ≡ w
    row_length =
        let d = length-drop at ws in
        length-take-le (at + w - at) (drop at ws) (omega arith) ∙ omega arith

    pub rest_whole : length (drop at ws) % w ≡ 0 → length (drop (at + w) ws) % w ≡ 0
    rest_whole e =
        let n : length (drop (at + w) ws) ≡ length (drop at ws) - w =
        omega (arith, length-drop (at + w) ws, length-drop at ws) in
        ap (λ x. x % w) n ∙ whole_less w (length (drop at ws)) e (omega (arith, length-drop at ws))

    -- the first row from there on
    pub row_records : 0 < w → records_in w (drop at ws) ≡ row_at w ws at ∷ records_in w (drop (at + w) ws)
    row_records pos = ap (records_in w) row_split ∙ records_cons w pos (row_at w ws at) (drop (at + w) ws) row_length
