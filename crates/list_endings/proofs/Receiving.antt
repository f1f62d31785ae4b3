-- A delivered row and a turn's list, by the ending of the plan: what each kind of list asks for, and that what it answers is the
-- list with the row.
use Prim.Native.Nat.{ℕ, ◌≤◌}
use mathlib.Core.Path.{◌≡◌, refl, subst}
use mathlib.Core.List.{List, []}
use lib.ListN.{length, take}
use Rattle.words.specs.Bindings.{Bindings}
use Rattle.plans.specs.declared.EndingKind.TheVariants.{Rows, Top, Group, Registers}
use Rattle.plans.specs.Endings.{Ending, rows, top, group, registers, most_group_variables}
use Rattle.plans.specs.Reading.{ending_kind_in, variables_in, keys_in, best_in, measured_in}
use Rattle.plans.proofs.EndingRead.{is_rows_lem, is_top, is_group, is_registers}
use Rattle.registers.specs.Registers.{register_count}
use Rattle.std.specs.Prelude.{Option, Some}
use Rattle.lists.specs.Delivering.{with_row}
use Rattle.lists.specs.Putting.{Taken, Listed}
use Rattle.list_best.specs.BestLists.{Deliverable}
use Rattle.list_groups.specs.TakingRows.{TakesRow}
use Rattle.list_best.proofs.DeliveredBest.{never_full}
use Rattle.list_groups.proofs.DeliveredGroups.{with_any}
use Rattle.list_endings.specs.Receiving.{Receives}

-- a threshold plays no part in rows
rows_any : (vs threshold list : List ℕ) (b : Bindings) → with_row (rows vs) threshold list b ≡ with_row (rows vs) [] list b
unfolding with_row
rows_any vs threshold list b = refl

-- nor in registers
registers_any : (v : ℕ) (threshold list : List ℕ) (b : Bindings) → with_row (registers v) threshold list b ≡ with_row (registers v) [] list b
unfolding with_row
registers_any v threshold list b = refl

-- ---- registers
module _ (e : Ending) (threshold out : List ℕ) (used : ℕ) (b : Bindings) (r : Receives e threshold out used) (h : ending_kind_in e ≡ Registers) (v : ℕ)
    (ev : v ≡ measured_in e) where
  registers_of_lem : e ≡ registers v
  registers_of_lem = rw ev (is_registers e h)

  pub registers_ready : (used ≡ register_count) × (register_count ≤ length out)
  registers_ready = subst (λ (x : Ending). Receives x threshold out used) registers_of_lem r

  pub registers_taken : (after : List ℕ) (p : Option ℕ) → Taken (with_row (registers v) [] (take used out) b) out after p
      → Taken (with_row e threshold (take used out) b) out after p
  registers_taken after p t = rw (registers_of_lem, registers_any v threshold (take used out) b) t

module _ (e : Ending) (threshold out : List ℕ) (used : ℕ) (b : Bindings) (r : Receives e threshold out used) (vs : List ℕ)
    (ev : vs ≡ variables_in e) where
  -- ---- rows
  module _ (h : ending_kind_in e ≡ Rows) where
    rows_of : e ≡ rows vs
    rows_of = rw ev (is_rows_lem e h)

    pub rows_room : used ≤ length out
    rows_room = subst (λ (x : Ending). Receives x threshold out used) rows_of r

    pub rows_taken_lem : (after : List ℕ) (p : Option ℕ) → Taken (with_row (rows vs) [] (take used out) b) out after p
        → Taken (with_row e threshold (take used out) b) out after p
    rows_taken_lem after p t = rw (rows_of, rows_any vs threshold (take used out) b) t

  -- ---- best-of lists
  module _ (h : ending_kind_in e ≡ Top) (k : ℕ) (ek : k ≡ best_in e) (keys : List ℕ) (ey : keys ≡ keys_in e) where
    top_of : e ≡ top k vs keys
    top_of = rw (ev, ek, ey) (is_top e h)

    pub top_ready : Deliverable k vs keys threshold out used
    top_ready = subst (λ (x : Ending). Receives x threshold out used) top_of r

    pub top_taken : (after : List ℕ) (n : ℕ) → Listed (with_row (top k vs keys) threshold (take used out) b) out after n
        → Taken (with_row e threshold (take used out) b) out after (Some n)
    top_taken after n l = rw top_of (never_full top_ready b l)

  -- ---- groups
  module _ (h : ending_kind_in e ≡ Group) (m : ℕ) (em : m ≡ measured_in e) where
    group_of : e ≡ group vs m
    group_of = rw (ev, em) (is_group e h)

    pub group_ready : (length vs ≤ most_group_variables) × (used ≤ length out) × TakesRow vs m (take used out) b
    group_ready =
        let g : Receives (group vs m) threshold out used = subst (λ (x : Ending). Receives x threshold out used) group_of r in
        (g.0, g.1.0, g.1.1 b)

    pub group_taken : (after : List ℕ) (p : Option ℕ) → Taken (with_row (group vs m) [] (take used out) b) out after p
        → Taken (with_row e threshold (take used out) b) out after p
    group_taken after p t = rw (group_of, with_any vs m threshold (take used out) b) t
