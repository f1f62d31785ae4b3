-- The variables of an ending, in test 6, by its pieces.
use Prim.Native.Nat.{ℕ}
use mathlib.Core.Path.{◌≡◌, refl, sym, ◌∙◌}
use mathlib.Core.Bool.{Bool, true, false, ◌&&◌}
use mathlib.Core.List.{[], ◌∷◌}
use Rattle.sequences.specs.Sequences.{all, member, distinct}
use Rattle.plans.specs.declared.EndingKind.TheVariants.{Rows, Top, Group, Registers}
use Rattle.plans.specs.Endings.{Ending, rows, top, group, registers, key_among, ending_right}
use Rattle.plans.specs.Reading.{ending_kind_in, variables_in, keys_in, measured_in}

-- the variables are bound and differ, or not: what is left to test
module _ (bound : ℕ → Bool) (b : Bool) where
  -- one variable is other than no other
  one_bound : (v : ℕ) → (all bound (v ∷ []) && distinct (v ∷ [])) ≡ bound v
  unfolding all distinct member
  one_bound v = go (bound v)
    where
      go : (x : Bool) → ((x && true) && true) ≡ x
      go true = refl
      go false = refl

  pub wrong_variables : (e : Ending) → b ≡ (all bound (variables_in e) && distinct (variables_in e)) → b ≡ false
      → ending_right bound e ≡ false
  unfolding ending_right
  wrong_variables (rows vs) h f = sym h ∙ f
  wrong_variables (top k vs keys) h f = rw (← h, f)
  wrong_variables (group vs m) h f = rw (← h, f)
  wrong_variables (registers v) h f = sym (one_bound v) ∙ sym h ∙ f

  pub right_rows : (e : Ending) → b ≡ (all bound (variables_in e) && distinct (variables_in e)) → b ≡ true → ending_kind_in e ≡ Rows
      → ending_right bound e ≡ true
  unfolding ending_right
  right_rows (rows vs) h t k = sym h ∙ t
  right_rows (top n vs keys) h t k = cc
  right_rows (group vs m) h t k = cc
  right_rows (registers v) h t k = cc

  pub right_top : (e : Ending) → b ≡ (all bound (variables_in e) && distinct (variables_in e)) → b ≡ true → ending_kind_in e ≡ Top
      → ending_right bound e ≡ all (key_among (variables_in e)) (keys_in e)
  unfolding ending_right
  right_top (rows vs) h t k = cc
  right_top (top n vs keys) h t k = rw (← h, t)
  right_top (group vs m) h t k = cc
  right_top (registers v) h t k = cc

  pub right_group : (e : Ending) → b ≡ (all bound (variables_in e) && distinct (variables_in e)) → b ≡ true → ending_kind_in e ≡ Group
      → ending_right bound e ≡ bound (measured_in e)
  unfolding ending_right
  right_group (rows vs) h t k = cc
  right_group (top n vs keys) h t k = cc
  right_group (group vs m) h t k = rw (← h, t)
  right_group (registers v) h t k = cc

  pub right_registers : (e : Ending) → b ≡ (all bound (variables_in e) && distinct (variables_in e)) → b ≡ true → ending_kind_in e ≡ Registers
      → ending_right bound e ≡ true
  unfolding ending_right
  right_registers (rows vs) h t k = cc
  right_registers (top n vs keys) h t k = cc
  right_registers (group vs m) h t k = cc
  right_registers (registers v) h t k = sym (one_bound v) ∙ sym h ∙ t
