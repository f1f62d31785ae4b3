-- Whole records, one after the other: the first one and the rest.
use Prim.Native.Nat.{ℕ, suc, ◌-◌, ◌/◌, ◌%◌, ◌≤◌, ◌<◌}
use native.Mathlib.Omega.{arith}
use native.Mathlib.Decide.{dec_lt}
use native.Mathlib.Nat.{mod-eq_of_lt, mod-eq-sub-mod, div-eq-sub-div}
use native.Mathlib.Numerals.{add-one}
use mathlib.Core.Path.{◌≡◌, sym, ◌∙◌, ap}
use mathlib.Core.List.{List, ◌∷◌}
use lib.ListN.{length, take, drop, length-drop}
use Rattle.sequences.specs.Sequences.{parts}
use Rattle.lists.specs.Gathering.{records_in}

module _ (w : ℕ) where
  -- words of whole records, of which there are some, hold one
  pub whole_one : (n : ℕ) → n % w ≡ 0 → 0 < n → w ≤ n
  whole_one n h l =
      elim (dec_lt n w) [
        | yes k ↦ absurd (let e = mod-eq_of_lt k in omega arith)
        | no k ↦ omega arith
      ]

  -- and without it they are whole
  pub whole_rest : (n : ℕ) → n % w ≡ 0 → w ≤ n → (n - w) % w ≡ 0
  whole_rest n h l = sym (mod-eq-sub-mod l) ∙ h

  pub records_step : 0 < w → (ws : List ℕ) → w ≤ length ws → records_in w ws ≡ take w ws ∷ records_in w (drop w ws)
  unfolding records_in parts
  records_step p ws h =
      let e : length ws / w ≡ suc (length (drop w ws) / w) =
      div-eq-sub-div p h ∙ add-one ((length ws - w) / w) ∙ ap (λ n. suc (n / w)) (sym (length-drop w ws)) in
      rw e
