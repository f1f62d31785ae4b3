-- What done adds to a list, by the ending's kind.
use Prim.Native.Nat.{ℕ, ◌+◌, ◌≤◌}
use native.Mathlib.Omega.{arith}
use mathlib.Core.Path.{◌≡◌, sym, ◌∙◌, ap, subst, subst⁻¹}
use mathlib.Core.List.{List}
use lib.ListN.{length, take}
use Rattle.plans.specs.declared.EndingKind.TheVariants.{Rows, Top, Group, Registers}
use Rattle.plans.specs.Endings.{Ending, group}
use Rattle.plans.specs.Reading.{ending_kind_in, variables_in, keys_in, best_in, measured_in}
use Rattle.plans.proofs.EndingRead.{is_rows_lem, is_top, is_group, is_registers}
use Rattle.lists.specs.Groups.{totals_width}
use Rattle.lists.specs.Gathering.{least_output}
use Rattle.lists.specs.Closing.{closed}
use Rattle.lists.specs.Putting.{Listed}
use Rattle.lists.proofs.Closing.{rows_closed, top_closed, registers_closed}
use Rattle.list_closings.proofs.ClosedGroups.{listed_own}

module _ (e : Ending) (out : List ℕ) (used : ℕ) (h : used ≤ length out) where
  -- the list as it was
  pub close_rows : ending_kind_in e ≡ Rows → Listed (closed e (take used out)) out out used
  close_rows k =
      subst⁻¹ (λ l. Listed l out out used) (ap (λ (x : Ending). closed x (take used out)) (is_rows_lem e k) ∙ rows_closed (variables_in e) (take used out))
      (listed_own out used h)

  pub close_top : ending_kind_in e ≡ Top → Listed (closed e (take used out)) out out used
  close_top k =
      subst⁻¹ (λ l. Listed l out out used)
      (ap (λ (x : Ending). closed x (take used out)) (is_top e k) ∙ top_closed (best_in e) (variables_in e) (keys_in e) (take used out))
      (listed_own out used h)

  pub close_registers : ending_kind_in e ≡ Registers → Listed (closed e (take used out)) out out used
  close_registers k =
      subst⁻¹ (λ l. Listed l out out used)
      (ap (λ (x : Ending). closed x (take used out)) (is_registers e k) ∙ registers_closed (measured_in e) (take used out))
      (listed_own out used h)

  -- groups, by their variables
  module _ (k : ending_kind_in e ≡ Group) (vs : List ℕ) (ev : vs ≡ variables_in e) where
    pub group_room : least_output e ≤ length out → (length vs + totals_width ≤ length out) × (used ≤ length out)
    group_room l =
        let n : length vs + totals_width ≡ least_output e = rw (is_group e k, ev) in
        (omega arith, h)

    pub close_group : (after : List ℕ) (n : ℕ) → ((m : ℕ) → Listed (closed (group vs m) (take used out)) out after n)
        → Listed (closed e (take used out)) out after n
    close_group after n f =
        subst (λ (x : Ending). Listed (closed x (take used out)) out after n) (rw ev (sym (is_group e k))) (f (measured_in e))
