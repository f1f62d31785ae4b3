-- What is certain of any two ways of merging the same turns' lists: no merge of either refused, they give the same words. Assumes nothing:
-- these are definitions.
use Rattle.std.specs.Prelude.{ℕ, ◌≡◌, true, length}
use Rattle.std.proofs.Math.Option.{some}
use mathlib.Core.List.{List, Permᴰ}
use Rattle.plans.specs.Endings as endings
use Rattle.plans.specs.Endings.{top, group}
use Rattle.plans.specs.Plans.{plan_of}
use Rattle.lists.specs.Rows.{row_before}
use Rattle.merge_orders.specs.Apart.{Apart}
use Rattle.merge_orders.specs.Ways.{Way, turns_along, is_merge, given, rows_merged}

-- both are merges, and of the same turns
pub record Reordered (v w : Way) : Type 0 where
  pub first : is_merge v ≡ true
  pub second : is_merge w ≡ true
  pub turns : Permᴰ (turns_along v) (turns_along w)

abbrev pub SameEnd : List ℕ → List (List ℕ) → Way → Way → Type 0
SameEnd plan lists v w = (a b : List ℕ) → given plan lists v ≡ some a → given plan lists w ≡ some b → a ≡ b

pub record AnyOrder (plan : List ℕ) (lists : List (List ℕ)) : Type 0 where
  pub groups : (vs : List ℕ) (m : ℕ) → (plan_of plan).ending ≡ group vs m → (v w : Way) → Reordered v w → SameEnd plan lists v w
  pub registers : (v : ℕ) → (plan_of plan).ending ≡ endings.registers v → (x y : Way) → Reordered x y → SameEnd plan lists x y
  -- best-of lists: where no two of the lists' rows are equal in all keys
  pub tops : (k : ℕ) (vs keys : List ℕ) → (plan_of plan).ending ≡ top k vs keys → (v w : Way) → Reordered v w
      → Apart (row_before vs keys) (rows_merged (length vs) lists (turns_along v)) → SameEnd plan lists v w
  -- in one order, whatever the grouping, with no such premise
  pub grouped : (k : ℕ) (vs keys : List ℕ) → (plan_of plan).ending ≡ top k vs keys → (v w : Way) → is_merge v ≡ true → is_merge w ≡ true
      → turns_along v ≡ turns_along w → SameEnd plan lists v w
