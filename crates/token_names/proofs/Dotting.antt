-- Runs of items and dots, and language tags, from a place on, one step further.
use Prim.Native.Nat.{ℕ, zero, suc, ◌+◌, ◌-◌, ◌≤◌, ◌<◌}
use native.Mathlib.Omega.{arith}
use native.Mathlib.Nat.{add-zero}
use mathlib.Core.Path.{◌≡◌, refl, sym, ◌∙◌, ap}
use mathlib.Core.Bool.{Bool, true, false, cond}
use mathlib.Core.List.{List, [], ◌∷◌}
use lib.Dec.{eqb}
use lib.ListN.{length, get_or, drop, drop_of_length-le, length-drop}
use lib.Seq.{drop-drop}
use Rattle.std.specs.Prelude.{Some, None}
use Rattle.characters.specs.Escapes.{hex_digit}
use Rattle.sequences.proofs.Booleans.{absurd_true}
use Rattle.tokens.specs.Classes.{is_hex_digit, is_name_escape}
use Rattle.tokens.specs.Runs.{first_is, dotted_end, plx_item, local_first, local_item, local_length}
use Rattle.tokens.specs.Tokens.{is_tag_character, goes_on_tag, tag_end}
use Rattle.token_runs.specs.RunClasses.{past_end}
use Rattle.token_runs.proofs.Advancing.{points_next, first_at, second_at}
use Rattle.tokens.proofs.RunBounds.{name_item_fits, local_first_fits, local_item_fits, dotted_shift}
use Rattle.token_names.specs.Items.{counted, item_of, plx_by}

-- ---- what stands behind the last character is no digit
hex_past : is_hex_digit past_end ≡ false
unfolding hex_digit
hex_past = refl

pub plx_read : (points : List ℕ) (at c : ℕ) → plx_item c (drop (at + 1) points)
    ≡ plx_by (eqb c 0x25) (is_hex_digit (get_or points (at + 1) past_end)) (is_hex_digit (get_or points (at + 2) past_end))
    (eqb c 0x5C) (is_name_escape (get_or points (at + 1) past_end))
plx_read points at c =
    let cs = drop (at + 1) points in
    let z : at + 1 + 1 ≡ at + 2 = omega arith in
    let next = get_or points (at + 1) past_end in
    ap (λ b. plx_by (eqb c 0x25) b (first_is is_hex_digit (drop 1 cs)) (eqb c 0x5C) (first_is is_name_escape cs))
    (first_at points (at + 1) is_hex_digit hex_past)
    ∙ ap (λ b. plx_by (eqb c 0x25) (is_hex_digit next) b (eqb c 0x5C) (first_is is_name_escape cs))
    (second_at points (at + 1) is_hex_digit hex_past ∙ ap (λ n. is_hex_digit (get_or points n past_end)) z)
    ∙ ap (λ b. plx_by (eqb c 0x25) (is_hex_digit next) (is_hex_digit (get_or points (at + 2) past_end)) (eqb c 0x5C) b)
    (first_at points (at + 1) is_name_escape refl)

-- ---- items
item_fits : (local : Bool) (c : ℕ) (cs : List ℕ) → item_of local c cs ≤ suc (length cs)
item_fits true c cs = local_item_fits c cs
item_fits false c cs = name_item_fits c cs

-- an item ends within the characters
module _ (points : List ℕ) (at s : ℕ) (h : at < length points) where
  within : s ≤ suc (length (drop (at + 1) points)) → at + s ≤ length points
  within f = omega (arith, f, length-drop (at + 1) points, h)

  pub first_within : s ≡ local_first (get_or points at 0) (drop (at + 1) points) → at + s ≤ length points
  first_within e = within (rw e (local_first_fits (get_or points at 0) (drop (at + 1) points)))

pub item_within : (local : Bool) (points : List ℕ) (at s : ℕ) → at < length points → s ≡ item_of local (get_or points at 0) (drop (at + 1) points)
    → at + s ≤ length points
item_within local points at s h e = within points at s h (rw e (item_fits local (get_or points at 0) (drop (at + 1) points)))

-- what a number of characters says, where there are some and where there are none
some_case : (b : Bool) (s n : ℕ) → Some s ≡ cond b None (Some n) → (s ≡ n) × (b ≡ false)
some_case true s n e = (cc, cc)
some_case false s n e = (cc, refl)

above : (n : ℕ) → eqb n 0 ≡ false → 1 ≤ n
above zero h = absurd_true refl h
above (suc n) h = omega arith

pub counted_some : (s n : ℕ) → Some s ≡ counted n → (s ≡ n) × (1 ≤ s) × (eqb s 0 ≡ false)
counted_some s n e =
    let p = some_case (eqb n 0) s n e in
    let f : eqb s 0 ≡ false = ap (λ m. eqb m 0) p.0 ∙ p.1 in
    (p.0, above s f, f)

none_case : (b : Bool) (n : ℕ) → None ≡ cond b None (Some n) → b ≡ true
none_case true n e = refl
none_case false n e = cc

pub counted_none : (n : ℕ) → None ≡ counted n → eqb n 0 ≡ true
counted_none n e = none_case (eqb n 0) n e

-- ---- items and dots
module _ (size : ℕ → List ℕ → ℕ) where
  -- characters that are still of the item that has begun
  pub dotted_behind : (k : ℕ) (cs : List ℕ) (n e : ℕ) → dotted_end size k cs n e ≡ dotted_end size 0 (drop k cs) (n + k) e
  unfolding dotted_end
  dotted_behind zero cs n e = ap (λ m. dotted_end size 0 cs m e) (sym (add-zero n))
  dotted_behind (suc k) [] n e = refl
  dotted_behind (suc k) (c ∷ cs) n e =
      let z : n + 1 + k ≡ n + suc k = omega arith in
      dotted_behind k cs (n + 1) e ∙ ap (λ m. dotted_end size 0 (drop k cs) m e) z

  module _ (points : List ℕ) (at n e : ℕ) where
    pub dotted_over : length points ≤ at → dotted_end size 0 (drop at points) n e ≡ e
    unfolding dotted_end
    dotted_over h = rw (drop_of_length-le points {i = at} h) refl

    module _ (h : at < length points) where
      pub dotted_dot : eqb (get_or points at 0) 0x2E ≡ true
          → dotted_end size 0 (drop at points) n e ≡ dotted_end size 0 (drop (at + 1) points) (n + 1) e
      unfolding dotted_end
      dotted_dot t = rw (points_next points at h, t) refl

      module _ (t : eqb (get_or points at 0) 0x2E ≡ false) (s : ℕ) (r : s ≡ size (get_or points at 0) (drop (at + 1) points)) where
        pub dotted_stop : eqb s 0 ≡ true → dotted_end size 0 (drop at points) n e ≡ e
        unfolding dotted_end
        dotted_stop u = rw (points_next points at h, t, sym r, u) refl

        pub dotted_item : eqb s 0 ≡ false → 1 ≤ s
            → dotted_end size 0 (drop at points) n e ≡ dotted_end size 0 (drop (at + s) points) (n + s) (n + s)
        unfolding dotted_end
        dotted_item u p =
            let y : at + 1 + (s - 1) ≡ at + s = omega arith in
            let z : n + 1 + (s - 1) ≡ n + s = omega arith in
            rw (points_next points at h, t, sym r, u)
            (dotted_behind (s - 1) (drop (at + 1) points) (n + 1) (n + s)
            ∙ ap (λ m. dotted_end size 0 (drop (s - 1) (drop (at + 1) points)) m (n + s)) z
            ∙ ap (λ l. dotted_end size 0 l (n + s) (n + s)) (drop-drop (s - 1) (at + 1) points)
            ∙ ap (λ m. dotted_end size 0 (drop m points) (n + s) (n + s)) y)

-- ---- local names
module _ (points : List ℕ) (at : ℕ) where
  module _ (h : at < length points) (s : ℕ) (r : s ≡ local_first (get_or points at 0) (drop (at + 1) points)) where
    begun : local_length (drop at points) ≡ cond (eqb s 0) 0 (dotted_end local_item (s - 1) (drop (at + 1) points) 1 s)
    begun =
        ap local_length (points_next points at h)
        ∙ ap (λ n. cond (eqb n 0) 0 (dotted_end local_item (n - 1) (drop (at + 1) points) 1 n)) (sym r)

    pub local_some : eqb s 0 ≡ false → 1 ≤ s
        → local_length (drop at points) + at ≡ dotted_end local_item 0 (drop (at + s) points) (at + s) (at + s)
    local_some u p =
        let x : 1 + (s - 1) ≡ s = omega arith in
        let y : at + 1 + (s - 1) ≡ at + s = omega arith in
        let z : s + at ≡ at + s = omega arith in
        let e : local_length (drop at points) ≡ dotted_end local_item 0 (drop (at + s) points) s s = begun
        ∙ ap (λ b. cond b 0 (dotted_end local_item (s - 1) (drop (at + 1) points) 1 s)) u
        ∙ dotted_behind local_item (s - 1) (drop (at + 1) points) 1 s
        ∙ ap (λ m. dotted_end local_item 0 (drop (s - 1) (drop (at + 1) points)) m s) x
        ∙ ap (λ l. dotted_end local_item 0 l s s) (drop-drop (s - 1) (at + 1) points ∙ ap (λ m. drop m points) y) in
        ap (λ m. m + at) e
        ∙ sym (dotted_shift local_item at 0 (drop (at + s) points) s s)
        ∙ ap (λ m. dotted_end local_item 0 (drop (at + s) points) m m) z

-- ---- language tags
pub tags_at : (points : List ℕ) (at : ℕ) → first_is is_tag_character (drop (at + 1) points) ≡ is_tag_character (get_or points (at + 1) past_end)
tags_at points at = first_at points (at + 1) is_tag_character refl

module _ (points : List ℕ) (at n : ℕ) where
  pub tag_over : length points ≤ at → tag_end (drop at points) n ≡ n
  unfolding tag_end
  tag_over h = rw (drop_of_length-le points {i = at} h) refl

  module _ (h : at < length points) where
    pub tag_on : goes_on_tag (get_or points at 0) (drop (at + 1) points) ≡ true → tag_end (drop at points) n ≡ tag_end (drop (at + 1) points) (n + 1)
    unfolding tag_end
    tag_on t = ap (λ l. tag_end l n) (points_next points at h) ∙ ap (λ b. cond b (tag_end (drop (at + 1) points) (n + 1)) n) t

    pub tag_stop : goes_on_tag (get_or points at 0) (drop (at + 1) points) ≡ false → tag_end (drop at points) n ≡ n
    unfolding tag_end
    tag_stop t = ap (λ l. tag_end l n) (points_next points at h) ∙ ap (λ b. cond b (tag_end (drop (at + 1) points) (n + 1)) n) t
