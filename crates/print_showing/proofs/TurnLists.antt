-- A turn's list lies in its output; that of a row query's turn is whole rows.
use Prim.Native.Nat.{ℕ, ◌%◌, ◌≤◌}
use native.Mathlib.Omega.{arith}
use native.Mathlib.Nat.{mul-mod_left}
use mathlib.Core.Path.{◌≡◌, refl, ◌∙◌, ap}
use mathlib.Core.Bool.{Bool, true, false}
use mathlib.Core.List.{List, [], map}
use lib.ListN.{length, drop}
use Rattle.words.specs.Bindings.{Bindings}
use Rattle.sequences.proofs.Booleans.{absurd_true}
use Rattle.tables.specs.Tables.{Tables}
use Rattle.plans.specs.declared.EndingKind.TheVariants.{Rows}
use Rattle.plans.specs.Endings.{Ending, rows, top, group, registers}
use Rattle.plans.specs.Plans.{plan_of}
use Rattle.plans.specs.Reading.{ending_kind_in}
use Rattle.steps.specs.Steps.{after}
use Rattle.lists.specs.Rows.{project}
use Rattle.lists.specs.Gathering.{width, gathered}
use Rattle.lists.specs.Closing.{list_at}
use Rattle.lists.proofs.Records.{wide_project, length_flatten}
use Rattle.lists.proofs.Closing.{rows_at}
use Rattle.turns.specs.declared.TurnEnding.{TurnEnding}
use Rattle.turns.specs.declared.TurnEnding.TheVariants.{Done, Spent, Full, Refused}
use Rattle.turns.specs.declared.Turned.{Turned}
use Rattle.turns.specs.Turns.{is_over, TurnValues, TurnInput, turn_of}
use Rattle.turns.proofs.Refusals.{turn_refusals}
use Rattle.queries.specs.Stepping.{is_served}
use Rattle.queries.specs.Playing.{Shows}
use Rattle.queries.proofs.Taking.{served_room}

-- ---- it lies in its output
module _ (i : TurnInput) where
  -- that of a refused turn has no words
  refused_listed : (e : TurnEnding) → (turn_of i).answer.ending ≡ e → is_served e ≡ false → (turn_of i).answer.listed ≡ 0
  refused_listed (Refused x) p f = ap (λ (w : TurnValues). w.listed) ((turn_refusals i).unchanged x p).words
  refused_listed Done p f = absurd_true refl f
  refused_listed Spent p f = absurd_true refl f
  refused_listed Full p f = absurd_true refl f

  none_listed : is_served (turn_of i).answer.ending ≡ false → (turn_of i).answer.listed ≡ 0
  none_listed f = refused_listed (turn_of i).answer.ending refl f

  by_serving : (b : Bool) → is_served (turn_of i).answer.ending ≡ b → (turn_of i).answer.listed ≤ length (turn_of i).buffers.output
  by_serving true p = served_room i (turn_of i).answer (turn_of i).buffers.output refl refl p
  by_serving false p = omega (arith, none_listed p)

  pub listed_room : (turn_of i).answer.listed ≤ length (turn_of i).buffers.output
  listed_room = by_serving (is_served (turn_of i).answer.ending) refl

-- ---- and is whole rows
gathered_whole : (vs threshold : List ℕ) (bs : List Bindings) → length (gathered (rows vs) threshold bs) % length vs ≡ 0
unfolding gathered
gathered_whole vs threshold bs =
    ap (λ n. n % length vs) (length_flatten (length vs) (map (project vs) bs) (wide_project vs bs)) ∙ mul-mod_left (length (map (project vs) bs)) (length vs)

rows_whole : (e : Ending) → ending_kind_in e ≡ Rows → (threshold : List ℕ) (done : Bool) (bs : List Bindings)
    → length (list_at e threshold done bs) % width e ≡ 0
rows_whole (rows vs) h threshold done bs = ap (λ l. length l % length vs) (rows_at vs threshold done bs) ∙ gathered_whole vs threshold bs
rows_whole (top k vs keys) h threshold done bs = let z : ◌≡◌ {A = ℕ} 0 1 = cc in absurd (omega arith)
rows_whole (group vs m) h threshold done bs = let z : ◌≡◌ {A = ℕ} 0 1 = cc in absurd (omega arith)
rows_whole (registers v) h threshold done bs = let z : ◌≡◌ {A = ℕ} 0 1 = cc in absurd (omega arith)

pub shown_whole : (t : Tables) (plan : List ℕ) (quantum room number : ℕ) (turned : Turned) (list : List ℕ)
    → Shows t plan quantum room number turned list → ending_kind_in (plan_of plan).ending ≡ Rows → length list % width (plan_of plan).ending ≡ 0
shown_whole t plan quantum room number turned list s h =
    let run = after t (plan_of plan) in
    ap (λ l. length l % width (plan_of plan).ending) s.listed
    ∙ rows_whole (plan_of plan).ending h [] (is_over (run s.to).state) (drop (length (run s.from).delivered) (run s.to).delivered)
