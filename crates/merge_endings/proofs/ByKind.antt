-- An ending is made of what was read of it.
use Prim.Native.Nat.{ℕ}
use mathlib.Core.Path.{◌≡◌, sym, ◌∙◌}
use mathlib.Core.List.{List}
use Rattle.plans.specs.declared.EndingKind.{EndingKind}
use Rattle.plans.specs.declared.EndingKind.TheVariants.{Rows, Top, Group, Registers}
use Rattle.plans.specs.Endings.{Ending, rows, top, group, registers}
use Rattle.plans.specs.Reading.{ending_kind_in, variables_in, keys_in, best_in, measured_in}
use Rattle.plans.proofs.EndingRead.{is_rows_lem, is_top, is_group, is_registers}

module _ (e : Ending) {t : EndingKind} (et : t ≡ ending_kind_in e) where
  pub rows_of : t ≡ Rows → e ≡ rows (variables_in e)
  rows_of h = is_rows_lem e (sym et ∙ h)

  pub top_of : t ≡ Top → {k : ℕ} {vs keys : List ℕ} → k ≡ best_in e → vs ≡ variables_in e → keys ≡ keys_in e → e ≡ top k vs keys
  top_of h ek ev es = rw (ek, ev, es) (is_top e (sym et ∙ h))

  pub group_of : t ≡ Group → {vs : List ℕ} → vs ≡ variables_in e → e ≡ group vs (measured_in e)
  group_of h ev = rw ev (is_group e (sym et ∙ h))

  pub registers_of_lem : t ≡ Registers → e ≡ registers (measured_in e)
  registers_of_lem h = is_registers e (sym et ∙ h)
