-- Which thresholds a list that a way gives may be sent for: that of demand 3. Assumes nothing: these are definitions.
use Rattle.std.specs.Prelude.{ℕ, ◌≡◌, true, List, ltb, length}
use Rattle.std.proofs.Math.Option.{some}
use Rattle.sequences.specs.Sequences.{all, distinct}
use Rattle.plans.specs.Endings.{top}
use Rattle.plans.specs.Plans.{plan_of}
use Rattle.lists.specs.Gathering.{least_output}
use Rattle.lists.specs.Thresholds.{last_row, Sent}
use Rattle.merge_orders.specs.Ways.{Way, turns_along, is_merge, given}

-- a way merges some of the turns, none of them twice
pub record SomeOnce (lists : List (List ℕ)) (w : Way) : Type 0 where
  pub there : all (λ i. ltb i (length lists)) (turns_along w) ≡ true
  pub once : distinct (turns_along w) ≡ true

-- the last row of a full best-of list that such a way gives, in whatever order and grouping, may be sent as a threshold
abbrev pub MayBeSent : List ℕ → List (List ℕ) → Type 0
MayBeSent plan lists =
    (k : ℕ) (vs keys : List ℕ) → (plan_of plan).ending ≡ top k vs keys → (w : Way) → is_merge w ≡ true → SomeOnce lists w
    → (a : List ℕ) → given plan lists w ≡ some a → length a ≡ least_output (top k vs keys)
    → Sent (top k vs keys) lists (last_row (top k vs keys) a)
