-- The form of endings: each test that the code makes, by what it has read so far.
use Prim.Native.Nat.{ℕ, ◌+◌, ◌-◌, ◌≤◌, ◌<◌}
use native.Mathlib.Omega.{arith}
use mathlib.Core.Path.{◌≡◌, sym, ◌∙◌, ap}
use mathlib.Core.Bool.{true, false, ◌&&◌, not, and-false}
use mathlib.Core.List.{List}
use lib.Dec.{eqb}
use lib.ListN.{length, get_or, take, drop}
use borrow.Author.Tests.{ne_eqb, le-leb, lt-leb, leb-true, eqb-true}
use Rattle.words.specs.Words.{low, is_variable}
use Rattle.sequences.specs.Sequences.{all}
use Rattle.sequences.proofs.Booleans.{absurd_true, and_left, and_right}
use Rattle.sequences.proofs.Walking.{rest_of, first_none}
use Rattle.plans.specs.declared.EndingKind.{EndingKind}
use Rattle.plans.specs.declared.EndingKind.TheVariants.{Rows, Top, Group, Registers, Invalid}
use Rattle.plans.specs.Endings.{most_keys, row_width, row_variables, after_rows, rows_form, is_key, keys_form, ending_kind_of, form_as, ending_form}

-- ---- a kind 8 part of `n` variables
module _ (ws : List ℕ) (n : ℕ) (en : n ≡ row_width (get_or ws 0 0)) where
  pub rows_none : n ≡ 0 → rows_form ws ≡ false
  unfolding rows_form
  rows_none e = rw (← en, e)

  pub rows_short : length ws < 1 + n → rows_form ws ≡ false
  unfolding rows_form
  rows_short h = rw (← en, lt-leb (1 + n) (length ws) h) (and-false (not (eqb n 0)))

  pub rows_are : (n ≡ 0 → ⊥) → 1 + n ≤ length ws → rows_form ws ≡ all is_variable (take (1 + n - 1) (drop 1 ws))
  unfolding rows_form
  rows_are h g = let e : 1 + n - 1 ≡ n = omega arith in rw (← en, ne_eqb n 0 h, le-leb (1 + n) (length ws) g, e)

  -- of a part that has the form
  pub rows_room : rows_form ws ≡ true → 1 + n ≤ length ws
  unfolding rows_form
  rows_room h =
      leb-true (1 + n) (length ws)
      (and_left _ (all is_variable (take n (drop 1 ws))) (and_right (not (eqb n 0)) _ (rw (← en) at h)))

  pub rows_variables : take (1 + n - 1) (drop 1 ws) ≡ row_variables ws
  rows_variables = let e : 1 + n - 1 ≡ n = omega arith in rw (e, en)

  pub rows_after : take (length ws - (1 + n)) (drop (1 + n) ws) ≡ after_rows ws
  rows_after = rest_of ws (1 + n) ∙ rw en

-- ---- keys
pub keys_none : (ws : List ℕ) → length ws ≡ 0 → keys_form ws ≡ false
unfolding keys_form
keys_none ws h = rw h

pub keys_are : (ws : List ℕ) → (length ws ≡ 0 → ⊥) → length ws ≤ most_keys → keys_form ws ≡ all is_key ws
unfolding keys_form
keys_are ws h g = rw (ne_eqb (length ws) 0 h, le-leb (length ws) most_keys g)

pub keys_long : (ws : List ℕ) → most_keys < length ws → keys_form ws ≡ false
unfolding keys_form
keys_long ws h = rw (lt-leb (length ws) most_keys h) (and-false (not (eqb (length ws) 0)))

-- ---- an ending, by what its first word begins
begins : (l : EndingKind) → ending_kind_of 0 ≡ l → l ≡ Invalid
unfolding ending_kind_of
begins l e = sym e

module _ (ws : List ℕ) (t : EndingKind) (et : t ≡ ending_kind_of (get_or ws 0 0)) where
  -- no words begin nothing
  pub some_word : (t ≡ Invalid → ⊥) → length ws ≡ 0 → ⊥
  some_word h e = h (begins t (sym (et ∙ ap ending_kind_of (first_none ws e))))

  pub form_invalid : t ≡ Invalid → ending_form ws ≡ false
  unfolding form_as
  form_invalid e = rw (← et, e)

  pub form_rows : t ≡ Rows → ending_form ws ≡ (rows_form ws && eqb (length ws) (1 + row_width (get_or ws 0 0)))
  unfolding form_as
  form_rows e = rw (← et, e)

  pub form_top : t ≡ Top
      → ending_form ws ≡ (rows_form (take (length ws - 1) (drop 1 ws)) && keys_form (after_rows (take (length ws - 1) (drop 1 ws))))
  unfolding form_as
  form_top e = rw (← et, e, rest_of)

  pub form_group : t ≡ Group
      → ending_form ws ≡ (eqb (length ws) (2 + low (get_or ws 0 0)) && all is_variable (take (length ws - 1) (drop 1 ws)))
  unfolding form_as
  form_group e = rw (← et, e, rest_of)

  pub form_registers : t ≡ Registers → ending_form ws ≡ (eqb (length ws) 2 && all is_variable (take (length ws - 1) (drop 1 ws)))
  unfolding form_as
  form_registers e = rw (← et, e, rest_of)

  -- of an ending that has the form
  module _ (h : ending_form ws ≡ true) where
    pub rows_here : t ≡ Rows → rows_form ws ≡ true
    rows_here e = and_left (rows_form ws) _ (sym (form_rows e) ∙ h)

    pub rows_next : t ≡ Top → rows_form (take (length ws - 1) (drop 1 ws)) ≡ true
    rows_next e = and_left (rows_form (take (length ws - 1) (drop 1 ws))) _ (sym (form_top e) ∙ h)

    pub group_room : t ≡ Group → (n : ℕ) → n ≡ low (get_or ws 0 0) → length ws ≡ 2 + n
    group_room e n en =
        rw en (eqb-true (length ws) (2 + low (get_or ws 0 0)) (and_left _ (all is_variable (take (length ws - 1) (drop 1 ws))) (sym (form_group e) ∙ h)))

    pub registers_room : t ≡ Registers → length ws ≡ 2
    registers_room e =
        eqb-true (length ws) 2 (and_left (eqb (length ws) 2) (all is_variable (take (length ws - 1) (drop 1 ws))) (sym (form_registers e) ∙ h))

    pub not_invalid : t ≡ Invalid → ⊥
    not_invalid e = absurd_true h (form_invalid e)
