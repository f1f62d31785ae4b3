-- A report written count by count.
use Prim.Native.Nat.{ℕ, ◌+◌, ◌<◌}
use native.Mathlib.Omega.{arith}
use native.Mathlib.Numerals.{add-one}
use mathlib.Core.Path.{◌≡◌, refl, sym, ◌∙◌, ap}
use mathlib.Core.List.{List, [], ◌∷◌, ◌++◌, map}
use lib.ListN.{length, set, length-map}
use Rattle.sequences.specs.Sequences.{numbers, over}
use Rattle.sequences.proofs.Numbers.{numbers_none, numbers_next, numbers_length}
use Rattle.sequences.proofs.Buffers.{over_next}
use Rattle.registers.specs.Registers.{registers_in, count_at, report_on}
use Rattle.register_reports.specs.Reporting.{report_words}
use Rattle.list_registers.proofs.Raising.{map_last}

-- the counts at the values below n
abbrev pub reported : List ℕ → ℕ → List ℕ
reported ws n = map (λ v. count_at v (registers_in ws)) (numbers n)

module _ (ws : List ℕ) where
  abbrev counter : ℕ → ℕ
  counter v = count_at v (registers_in ws)

  pub reported_none : (buffer : List ℕ) → buffer ≡ over (reported ws 0) buffer
  reported_none buffer = ap (λ ns. over (map counter ns) buffer) numbers_none

  reported_length : (n : ℕ) → length (reported ws n) ≡ n
  reported_length n = length-map (numbers n) counter ∙ numbers_length n

  reported_next : (n : ℕ) → reported ws n ++ (counter n ∷ []) ≡ reported ws (n + 1)
  reported_next n =
      sym (map_last counter (numbers n) n) ∙ ap (map counter) (numbers_next n ∙ ap numbers (sym (add-one n)))

  -- one count more
  pub reported_over : (n : ℕ) (buffer : List ℕ) → n < length buffer
      → set (over (reported ws n) buffer) n (counter n) ≡ over (reported ws (n + 1)) buffer
  reported_over n buffer h =
      let e = reported_length n in
      ap (λ k. set (over (reported ws n) buffer) k (counter n)) (sym e)
      ∙ over_next (reported ws n) buffer (counter n) (omega arith)
      ∙ ap (λ l. over l buffer) (reported_next n)

  pub reported_whole : reported ws report_words ≡ report_on ws
  unfolding report_on
  reported_whole = refl
