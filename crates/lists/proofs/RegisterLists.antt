-- Lists of registers: of some rows and of further ones, merged; of one row more; right for test 12; and 16 words always.
use Prim.Native.Nat.{ℕ}
use native.Mathlib.Omega.{arith}
use mathlib.Core.Path.{◌≡◌, refl, sym, ◌∙◌, ap}
use mathlib.Core.Bool.{Bool, true, false, cond, ◌||◌}
use mathlib.Core.List.{List, [], ◌∷◌, ◌++◌, map, append-nil, map-append}
use lib.Dec.{eqb}
use lib.ListN.{length, replicate}
use borrow.Author.Tests.{eqb-true}
use Rattle.words.specs.Bindings.{Bindings, value_of}
use Rattle.sequences.specs.Sequences.{all, keep, numbers}
use Rattle.sequences.proofs.Booleans.{and_left}
use Rattle.sequences.proofs.Keeping.{keep_append, keep_yes, keep_no, keep_nil}
use Rattle.plans.specs.Endings.{registers}
use Rattle.registers.specs.Registers.{register_count, register_of, registers_of, registers_in, greater_of, is_rank, are_registers, kept_registers}
use Rattle.registers.proofs.Merging.{registers_append}
use Rattle.registers.proofs.Bounds.{registers_length, registers_right, greater_right}
use Rattle.lists.specs.Rows.{has_value, bound_values}
use Rattle.lists.specs.Gathering.{gathered, merged, list_right}
use Rattle.lists.specs.Delivering.{with_row}

-- ---- any registers
-- 16 words are as they are
pub registers_in_lem : (ws : List ℕ) → length ws ≡ register_count → registers_in ws ≡ ws
registers_in_lem [] h = absurd (omega arith)
registers_in_lem (w ∷ ws) h = refl

pub right_length : (ws : List ℕ) → are_registers ws ≡ true → length ws ≡ register_count
right_length ws h = eqb-true (length ws) register_count (and_left (eqb (length ws) register_count) (all is_rank ws) h)

-- what is right for a turn's list is so for a kept one
pub right_kept : (ws : List ℕ) → are_registers ws ≡ true → kept_registers ws ≡ true
right_kept ws h = go (eqb (length ws) 0)
  where
    go : (b : Bool) → b || are_registers ws ≡ true
    go true = refl
    go false = h

-- of no values all are 0
pub no_values : registers_of [] ≡ replicate register_count 0
unfolding registers_of register_of numbers
no_values = refl

module _ (v : ℕ) where
  pub registers_gathered : (threshold : List ℕ) (bs : List Bindings) → gathered (registers v) threshold bs ≡ registers_of (bound_values v bs)
  unfolding gathered
  registers_gathered threshold bs = refl

  pub length_registers : (threshold : List ℕ) (bs : List Bindings) → length (gathered (registers v) threshold bs) ≡ register_count
  length_registers threshold bs = ap length (registers_gathered threshold bs) ∙ registers_length (bound_values v bs)

  -- of no rows all are 0
  pub registers_none : (threshold : List ℕ) → gathered (registers v) threshold [] ≡ replicate register_count 0
  registers_none threshold = registers_gathered threshold [] ∙ ap registers_of (keep_nil has_value) ∙ no_values

  -- ---- test 12
  pub registers_gathered_right : (threshold : List ℕ) (bs : List Bindings) → list_right (registers v) (gathered (registers v) threshold bs) ≡ true
  unfolding list_right
  registers_gathered_right threshold bs = ap are_registers (registers_gathered threshold bs) ∙ registers_right (bound_values v bs)

  pub registers_merged_right : (kept list : List ℕ) → list_right (registers v) kept ≡ true → list_right (registers v) list ≡ true
      → list_right (registers v) (merged (registers v) kept list) ≡ true
  unfolding list_right merged
  registers_merged_right kept list p q =
      ap (λ l. are_registers (greater_of l list)) (registers_in_lem kept (right_length kept p)) ∙ greater_right kept list p q

  -- ---- the values of some rows and of further ones
  pub bound_append : (xs ys : List Bindings) → bound_values v (xs ++ ys) ≡ bound_values v xs ++ bound_values v ys
  bound_append xs ys =
      ap (keep has_value) (map-append (λ b. value_of b v) xs ys) ∙ keep_append has_value (map (λ b. value_of b v) xs) (map (λ b. value_of b v) ys)

  -- the kept list of the earlier rows, merged with a turn's list of the later ones, is the list of both
  pub merge_registers : (xs ys : List Bindings) (threshold : List ℕ)
      → merged (registers v) (gathered (registers v) [] xs) (gathered (registers v) threshold ys) ≡ gathered (registers v) [] (xs ++ ys)
  unfolding merged gathered
  merge_registers xs ys threshold =
      ap (λ l. greater_of l (registers_of (bound_values v ys))) (registers_in_lem _ (registers_length (bound_values v xs)))
      ∙ registers_append (bound_values v xs) (bound_values v ys)
      ∙ ap registers_of (sym (bound_append xs ys))

  -- ---- one row more
  pub delivered_registers : (threshold : List ℕ) (bs : List Bindings) (b : Bindings)
      → with_row (registers v) threshold (gathered (registers v) threshold bs) b ≡ gathered (registers v) threshold (bs ++ (b ∷ []))
  unfolding with_row gathered
  delivered_registers threshold bs b = go (has_value (value_of b v)) refl ∙ ap registers_of (sym (bound_append bs (b ∷ [])))
    where
      go : (x : Bool) → has_value (value_of b v) ≡ x
          → cond x (greater_of (registers_of (bound_values v bs)) (registers_of (value_of b v ∷ []))) (registers_of (bound_values v bs))
          ≡ registers_of (bound_values v bs ++ bound_values v (b ∷ []))
      go true e =
          registers_append (bound_values v bs) (value_of b v ∷ [])
          ∙ ap (λ l. registers_of (bound_values v bs ++ l)) (sym (keep_yes has_value (value_of b v) [] e ∙ ap (λ l. value_of b v ∷ l) (keep_nil has_value)))
      go false e =
          ap registers_of
          (sym (ap (λ l. bound_values v bs ++ l) (keep_no has_value (value_of b v) [] e ∙ keep_nil has_value) ∙ append-nil (bound_values v bs)))
