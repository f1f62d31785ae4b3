-- By which numbers the merges of a way are refused. Assumes nothing: these are definitions.
use Rattle.std.specs.Prelude.{ℕ, ◌≡◌, ◌⊎◌, ◌↔◌, Bool, true, false, ◌&&◌, ◌||◌, List, ltb, length}
use Rattle.std.proofs.Math.Option.{none, some}
use Rattle.words.specs.declared.Written.TheVariants.{Refused}
use Rattle.plans.specs.Endings as endings
use Rattle.plans.specs.Endings.{top, group}
use Rattle.plans.specs.Plans.{plan_of}
use Rattle.merges.specs.Merging.{merge_of}
use Rattle.merge_orders.specs.Ways.{Way, empty, turn, into, input_of, given}

-- a merge of the way is made, of what both of its sides give, and is refused by a number
pub data WayRefusedBy (plan : List ℕ) (lists : List (List ℕ)) (x : ℕ) : Way → Type 0 where
  among_kept : {a b : Way} {behind : List ℕ} → WayRefusedBy plan lists x a → WayRefusedBy plan lists x (into a behind b)
  among_lists : {a b : Way} {behind : List ℕ} → WayRefusedBy plan lists x b → WayRefusedBy plan lists x (into a behind b)
  merging : {a b : Way} {behind : List ℕ} (kept list : List ℕ) → given plan lists a ≡ some kept → given plan lists b ≡ some list
      → (merge_of (input_of plan kept behind list)).answer ≡ Refused x → WayRefusedBy plan lists x (into a behind b)

-- ---- a way over turns' lists: it names turns that there are, and an empty list is lent as the kept one alone
abbrev pub is_empty_way : Way → Bool
is_empty_way empty = true
is_empty_way (turn i) = false
is_empty_way (into a behind b) = false

unfoldable pub from_turns : List (List ℕ) → Way → Bool
from_turns lists empty = false
from_turns lists (turn i) = ltb i (length lists)
from_turns lists (into a behind b) = (is_empty_way a || from_turns lists a) && from_turns lists b

pub record WaysRefused (plan : List ℕ) (lists : List (List ℕ)) : Type 0 where
  -- a way gives no list exactly where one of its merges is refused
  pub refused : (w : Way) → (given plan lists w ≡ none) ↔ ((x : ℕ) × WayRefusedBy plan lists x w)
  -- groups: by 13 or 14, where a total leaves its range or a buffer is too short, whatever the order and the grouping, turns merged again too
  pub groups : (vs : List ℕ) (m : ℕ) → (plan_of plan).ending ≡ group vs m → (w : Way) (x : ℕ) → WayRefusedBy plan lists x w
      → (x ≡ 13) ⊎ (x ≡ 14)
  -- best-of lists and registers: by 14
  pub tops : (k : ℕ) (vs keys : List ℕ) → (plan_of plan).ending ≡ top k vs keys → (w : Way) (x : ℕ) → WayRefusedBy plan lists x w → x ≡ 14
  pub registers : (v : ℕ) → (plan_of plan).ending ≡ endings.registers v → (w : Way) → from_turns lists w ≡ true
      → (x : ℕ) → WayRefusedBy plan lists x w → x ≡ 14
