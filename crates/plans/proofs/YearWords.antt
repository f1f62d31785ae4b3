-- The kind 0 word before a plan's head, by cases: no words, another word, 0, a year.
use Prim.Native.Nat.{ℕ}
use native.Mathlib.Omega.{arith}
use mathlib.Core.Path.{◌≡◌, refl, ap, ◌∙◌}
use mathlib.Core.List.{List, [], ◌∷◌}
use lib.ListN.{length, get_or, drop}
use borrow.Author.Tests.{eq-eqb, ne_eqb}
use Rattle.words.specs.Words.{kind, low, year_kind}
use Rattle.plans.specs.declared.Years.TheVariants.{Latest, Every, Named}
use Rattle.plans.specs.Years.{years_numbered, years_in, year_words, from_head}

-- ---- where the head stands
no_word : (ws : List ℕ) → length ws ≡ 0 → year_words ws ≡ 0
unfolding year_words
no_word [] h = refl
no_word (w ∷ ws) h = absurd (omega arith)

other_word : (ws : List ℕ) → (kind (get_or ws 0 0) ≡ year_kind → ⊥) → year_words ws ≡ 0
unfolding year_words
other_word [] h = refl
other_word (w ∷ ws) h = rw (ne_eqb (kind w) year_kind h)

year_word_lem : (ws : List ℕ) → (length ws ≡ 0 → ⊥) → kind (get_or ws 0 0) ≡ year_kind → year_words ws ≡ 1
unfolding year_words
year_word_lem [] n h = absurd (n refl)
year_word_lem (w ∷ ws) n h = rw (eq-eqb (kind w) year_kind h)

module _ (ws : List ℕ) where
  at_none : year_words ws ≡ 0 → from_head ws ≡ ws
  at_none e = ap (λ n. drop n ws) e

  pub head_none : length ws ≡ 0 → from_head ws ≡ ws
  head_none h = at_none (no_word ws h)

  pub head_first : (kind (get_or ws 0 0) ≡ year_kind → ⊥) → from_head ws ≡ ws
  head_first h = at_none (other_word ws h)

  pub head_second : (length ws ≡ 0 → ⊥) → kind (get_or ws 0 0) ≡ year_kind → from_head ws ≡ drop 1 ws
  head_second n h = ap (λ m. drop m ws) (year_word_lem ws n h)

-- ---- the years
pub years_none : (ws : List ℕ) → length ws ≡ 0 → years_in ws ≡ Latest
unfolding years_in
years_none [] h = refl
years_none (w ∷ ws) h = absurd (omega arith)

pub years_latest : (ws : List ℕ) → (kind (get_or ws 0 0) ≡ year_kind → ⊥) → years_in ws ≡ Latest
unfolding years_in
years_latest [] h = refl
years_latest (w ∷ ws) h = rw (ne_eqb (kind w) year_kind h)

years_told : (ws : List ℕ) → (length ws ≡ 0 → ⊥) → kind (get_or ws 0 0) ≡ year_kind → years_in ws ≡ years_numbered (low (get_or ws 0 0))
unfolding years_in
years_told [] n h = absurd (n refl)
years_told (w ∷ ws) n h = rw (eq-eqb (kind w) year_kind h)

module _ (ws : List ℕ) (n : length ws ≡ 0 → ⊥) (h : kind (get_or ws 0 0) ≡ year_kind) (y : ℕ) (ey : y ≡ low (get_or ws 0 0)) where
  pub years_every : y ≡ 0 → years_in ws ≡ Every
  years_every e = years_told ws n h ∙ rw (← ey, e)

  pub years_named : (y ≡ 0 → ⊥) → years_in ws ≡ Named y
  years_named e = years_told ws n h ∙ rw (← ey, ne_eqb y 0 e)
