-- Merging lists of registers, as test 12 passes them: in either order, in any grouping, and a list that was merged adds nothing when it is merged again.
-- An empty kept list adds nothing.
use Prim.Native.Nat.{ℕ}
use mathlib.Core.Path.{◌≡◌, sym, ◌∙◌, ap}
use mathlib.Core.Bool.{true}
use mathlib.Core.List.{List, [], ◌∷◌}
use Rattle.plans.specs.Endings.{registers}
use Rattle.registers.specs.Registers.{registers_in, greater_of, are_registers}
use Rattle.registers.proofs.Merging.{greater_comm, greater_assoc, greater_self}
use Rattle.registers.proofs.Bounds.{none_greater, greater_right}
use Rattle.registers.proofs.Reports.{some_right}
use Rattle.lists.specs.Gathering.{merged, list_right, kept_right}
use Rattle.lists.proofs.RegisterLists.{registers_in_lem, right_length}

-- what is merged are the registers as they are
right_in : (ws : List ℕ) → are_registers ws ≡ true → registers_in ws ≡ ws
right_in ws h = registers_in_lem ws (right_length ws h)

module _ (v : ℕ) where
  abbrev IsList : List ℕ → Type 0
  IsList ws = list_right (registers v) ws ≡ true

  abbrev IsKept : List ℕ → Type 0
  IsKept ws = kept_right (registers v) ws ≡ true

  pub merge_comm : (a b : List ℕ) → IsList a → IsList b → merged (registers v) a b ≡ merged (registers v) b a
  unfolding merged list_right
  merge_comm a b p q =
      ap (λ l. greater_of l b) (right_in a p) ∙ greater_comm a b ∙ ap (λ l. greater_of l a) (sym (right_in b q))

  pub merge_none : (b : List ℕ) → IsList b → merged (registers v) [] b ≡ b
  unfolding merged list_right
  merge_none b q = none_greater b (right_length b q)

  pub merge_self : (a : List ℕ) → IsList a → merged (registers v) a a ≡ a
  unfolding merged list_right
  merge_self a p = ap (λ l. greater_of l a) (right_in a p) ∙ greater_self a

  -- what is kept and a turn's list make a list
  pub merge_right : (a b : List ℕ) → IsKept a → IsList b → IsList (merged (registers v) a b)
  unfolding merged list_right
  merge_right [] b p q = ap are_registers (none_greater b (right_length b q)) ∙ q
  merge_right (x ∷ a) b p q = greater_right (x ∷ a) b (some_right x a p) q

  pub merge_assoc : (a b c : List ℕ) → IsKept a → IsList b → IsList c
      → merged (registers v) (merged (registers v) a b) c ≡ merged (registers v) a (merged (registers v) b c)
  unfolding merged list_right
  merge_assoc a b c p q r =
      ap (λ l. greater_of l c) (right_in (greater_of (registers_in a) b) (merge_right a b p q))
      ∙ greater_assoc (registers_in a) b c
      ∙ ap (λ l. greater_of (registers_in a) (greater_of l c)) (sym (right_in b q))

  -- merged again, a list adds nothing
  pub merge_twice : (a b : List ℕ) → IsKept a → IsList b
      → merged (registers v) (merged (registers v) a b) b ≡ merged (registers v) a b
  merge_twice a b p q = merge_assoc a b b p q q ∙ ap (merged (registers v) a) (merge_self b q)
