-- The list of no rows, by the ending's kind.
use Prim.Native.Nat.{ℕ, ◌≤◌}
use native.Mathlib.Omega.{arith}
use mathlib.Core.Path.{◌≡◌, refl, sym, ◌∙◌, ap, subst⁻¹}
use mathlib.Core.List.{List, []}
use lib.ListN.{length}
use Rattle.sequences.specs.Sequences.{over}
use Rattle.sequences.proofs.Keeping.{keep_nil}
use Rattle.plans.specs.declared.EndingKind.{EndingKind}
use Rattle.plans.specs.declared.EndingKind.TheVariants.{Registers}
use Rattle.plans.specs.Endings.{Ending}
use Rattle.plans.specs.Reading.{ending_kind_in, measured_in}
use Rattle.plans.proofs.EndingRead.{is_registers}
use Rattle.registers.specs.Registers.{register_count, registers_of}
use Rattle.lists.specs.Rows.{has_value}
use Rattle.lists.specs.Gathering.{gathered, least_output}
use Rattle.lists.specs.Putting.{Listed}
use Rattle.lists.proofs.OneRow.{gathered_nil}
use Rattle.lists.proofs.RegisterLists.{registers_gathered}

module _ (e : Ending) (out : List ℕ) where
  -- any ending but registers writes nothing
  pub none_listed : {l : EndingKind} → ending_kind_in e ≡ l → (l ≡ Registers → ⊥) → (threshold : List ℕ)
      → Listed (gathered e threshold []) out out 0
  none_listed k n threshold =
      subst⁻¹ (λ ws. Listed ws out out 0) (gathered_nil e (λ v h. n (sym k ∙ ap ending_kind_in h)) threshold) (refl, refl)

  module _ (h : ending_kind_in e ≡ Registers) where
    pub registers_room : least_output e ≤ length out → register_count ≤ length out
    registers_room l = omega (arith, ap least_output (is_registers e h))

    pub registers_listed : (after : List ℕ) (n : ℕ) → (n ≡ length (registers_of [])) × (after ≡ over (registers_of []) out) → (threshold : List ℕ)
        → Listed (gathered e threshold []) out after n
    registers_listed after n l threshold =
        subst⁻¹ (λ ws. Listed ws out after n)
        (ap (λ (x : Ending). gathered x threshold []) (is_registers e h) ∙ registers_gathered (measured_in e) threshold []
        ∙ ap registers_of (keep_nil has_value))
        l
