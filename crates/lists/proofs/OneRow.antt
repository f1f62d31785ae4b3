-- The words of a list, for every ending: no rows make none, but for registers, and no or one row no more than the room that test 7 asks for. An
-- empty kept list is taken, tested and counted as the list of no rows.
use Prim.Native.Nat.{ℕ, ◌≤◌}
use native.Mathlib.Omega.{arith}
use mathlib.Core.Path.{◌≡◌, refl, sym, ap}
use mathlib.Core.List.{List, [], ◌∷◌}
use lib.ListN.{length}
use Rattle.words.specs.Bindings.{Bindings}
use Rattle.sequences.specs.Sequences.{all, keep, numbers}
use Rattle.plans.specs.Endings.{Ending, rows, top, group, registers}
use Rattle.registers.specs.Registers.{register_of, registers_of}
use Rattle.lists.specs.Gathering.{gathered, least_output, merged, taken_into, totals_fit, kept_right}
use Rattle.lists.proofs.TopLists.{rows_none, top_none}
use Rattle.lists.proofs.RegisterLists.{length_registers}
use Rattle.lists.proofs.TopValid.{room_gathered}
use Rattle.lists.proofs.TopValid
use Rattle.lists.proofs.GroupLists
use Rattle.lists.proofs.GroupValid.{row_fits}

pub gathered_nil : (e : Ending) → ((v : ℕ) → ¬ (e ≡ registers v)) → (threshold : List ℕ) → gathered e threshold [] ≡ []
gathered_nil (rows vs) h threshold = rows_none vs threshold
gathered_nil (top k vs keys) h threshold = top_none k vs keys threshold
gathered_nil (group vs m) h threshold = GroupLists.gathered_nil vs m threshold
gathered_nil (registers v) h threshold = absurd (h v refl)

pub none_fits : (e : Ending) (threshold : List ℕ) → length (gathered e threshold []) ≤ least_output e
none_fits (rows vs) threshold = omega (arith, ap length (rows_none vs threshold))
none_fits (top k vs keys) threshold = omega (arith, ap length (top_none k vs keys threshold))
none_fits (group vs m) threshold = omega (arith, ap length (GroupLists.gathered_nil vs m threshold))
none_fits (registers v) threshold = omega (arith, length_registers v threshold [])

-- ---- an empty kept list
pub none_taken : (e : Ending) (list : List ℕ) → taken_into e [] list ≡ taken_into e (gathered e [] []) list
unfolding merged gathered keep registers_of register_of numbers
none_taken (rows vs) list = ap (λ l. taken_into (rows vs) l list) (sym (rows_none vs []))
none_taken (top k vs keys) list = ap (λ l. taken_into (top k vs keys) l list) (sym (top_none k vs keys []))
none_taken (group vs m) list = ap (λ l. taken_into (group vs m) l list) (sym (GroupLists.gathered_nil vs m []))
none_taken (registers v) list = refl

pub none_totals : (e : Ending) (list : List ℕ) → totals_fit e [] list ≡ totals_fit e (gathered e [] []) list
unfolding totals_fit
none_totals (rows vs) list = refl
none_totals (top k vs keys) list = refl
none_totals (group vs m) list = ap (λ l. totals_fit (group vs m) l list) (sym (GroupLists.gathered_nil vs m []))
none_totals (registers v) list = refl

pub none_right : (e : Ending) → kept_right e [] ≡ kept_right e (gathered e [] [])
unfolding gathered keep registers_of register_of numbers all
none_right (rows vs) = ap (kept_right (rows vs)) (sym (rows_none vs []))
none_right (top k vs keys) = ap (kept_right (top k vs keys)) (sym (top_none k vs keys []))
none_right (group vs m) = ap (kept_right (group vs m)) (sym (GroupLists.gathered_nil vs m []))
none_right (registers v) = refl

-- ---- one row

pub one_row_lem : (e : Ending) (threshold : List ℕ) (b : Bindings) → length (gathered e threshold (b ∷ [])) ≤ least_output e
one_row_lem (rows vs) threshold b = TopValid.one_row_lem vs threshold b
one_row_lem (top k vs keys) threshold b = room_gathered k vs keys threshold (b ∷ [])
one_row_lem (group vs m) threshold b = row_fits vs m threshold b
one_row_lem (registers v) threshold b = omega (arith, length_registers v threshold (b ∷ []))
