-- Tests 7 to 11 and 22 as the code makes them: the sizes and the quantum, the state with the threshold, and those of an opening.
use Prim.Native.Nat.{ℕ, ◌≤◌, ◌<◌}
use native.Mathlib.Omega.{arith}
use mathlib.Core.Path.{◌≡◌, refl, sym, ◌∙◌}
use mathlib.Core.Bool.{Bool, true, false, cond, ◌&&◌}
use mathlib.Core.Option.{none, some}
use mathlib.Core.List.{[], ◌∷◌}
use lib.Dec.{leb}
use borrow.Author.Tests.{le-leb, lt-leb}
use Rattle.words.specs.Tests.{first_failing, number_of}
use Rattle.steps.specs.Saved.{least_state_words, number_right}
use Rattle.turns.specs.Turns.{most_steps}
use Rattle.turn_sizes.specs.Testing.{size_number, late_number, start_number}

-- ---- tests 7 and 8, by the buffers' lengths
module _ (state least out quantum : ℕ) where
  abbrev sized : ℕ
  sized = size_number (leb least_state_words state && leb least out) (leb 1 quantum && leb quantum most_steps)

  pub state_short : state < least_state_words → 7 ≡ sized
  state_short h = rw (lt-leb least_state_words state h)

  module _ (h : least_state_words ≤ state) where
    pub output_short : out < least → 7 ≡ sized
    output_short g = rw (le-leb least_state_words state h, lt-leb least out g)

    module _ (g : least ≤ out) where
      pub quantum_none : quantum ≡ 0 → 8 ≡ sized
      quantum_none q = rw (le-leb least_state_words state h, le-leb least out g, q)

      pub quantum_long : (quantum ≡ 0 → ⊥) → most_steps < quantum → 8 ≡ sized
      quantum_long q r = rw (le-leb least_state_words state h, le-leb least out g, le-leb 1 quantum (omega arith), lt-leb quantum most_steps r)

      pub sizes_right : (quantum ≡ 0 → ⊥) → quantum ≤ most_steps → 0 ≡ sized
      sizes_right q r = rw (le-leb least_state_words state h, le-leb least out g, le-leb 1 quantum (omega arith), le-leb quantum most_steps r)

-- ---- tests 9, 22, 10 and 11: the words given, then the state's own tests, then the threshold
module _ (given words : ℕ) (shape survey places threshold : Bool) where
  abbrev late : ℕ
  late = late_number (leb given words && shape) survey places threshold

  pub not_given : words < given → 9 ≡ late
  not_given h = rw (lt-leb given words h)

  module _ (h : given ≤ words) (n : ℕ) (e : n ≡ number_of (first_failing ((9, shape) ∷ (22, survey) ∷ (10, places) ∷ []))) where
    pub state_fails : (n ≡ 0 → ⊥) → n ≡ late
    unfolding first_failing
    state_fails z = rw (le-leb given words h) (e ∙ go shape survey places (λ q. z (e ∙ q)))
      where
        go : (s v p : Bool) → (number_of (cond s (cond v (cond p none (some 10)) (some 22)) (some 9)) ≡ 0 → ⊥)
            → number_of (cond s (cond v (cond p none (some 10)) (some 22)) (some 9)) ≡ late_number s v p threshold
        go true true true q = absurd (q refl)
        go true true false q = refl
        go true false p q = refl
        go false v p q = refl

    threshold_decides : n ≡ 0 → cond threshold 0 11 ≡ late
    unfolding first_failing
    threshold_decides z = rw (le-leb given words h) (go shape survey places (sym e ∙ z))
      where
        go : (s v p : Bool) → number_of (cond s (cond v (cond p none (some 10)) (some 22)) (some 9)) ≡ 0
            → cond threshold 0 11 ≡ late_number s v p threshold
        go true true true q = refl
        go true true false q = absurd (omega arith)
        go true false p q = absurd (omega arith)
        go false v p q = absurd (omega arith)

    module _ (z : n ≡ 0) (r : Bool) (er : r ≡ threshold) where
      pub threshold_passes_lem : r ≡ true → n ≡ late
      threshold_passes_lem h = let y : ◌≡◌ {A = ℕ} (cond threshold 0 11) 0 = rw (sym er ∙ h) in z ∙ sym y ∙ threshold_decides z

      pub threshold_fails_lem : r ≡ false → 11 ≡ late
      threshold_fails_lem h = let y : ◌≡◌ {A = ℕ} (cond threshold 0 11) 11 = rw (sym er ∙ h) in sym y ∙ threshold_decides z

-- ---- tests 7 and 22 of an opening
module _ (state survey : ℕ) where
  abbrev started : ℕ
  started = start_number (leb least_state_words state) (number_right survey)

  pub start_short : state < least_state_words → 7 ≡ started
  start_short h = rw (lt-leb least_state_words state h)

  module _ (h : least_state_words ≤ state) where
    pub start_number_lem : number_right survey ≡ false → 22 ≡ started
    start_number_lem e = rw (le-leb least_state_words state h, e)

    pub start_right : number_right survey ≡ true → 0 ≡ started
    start_right e = rw (le-leb least_state_words state h, e)
