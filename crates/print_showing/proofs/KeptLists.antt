-- What a finished query keeps: the merged list of the uncut run, in whole rows or records.
use Prim.Native.Nat.{ℕ, ◌+◌, ◌%◌}
use native.Mathlib.Omega.{arith}
use native.Mathlib.Nat.{zero-mod}
use mathlib.Core.Path.{◌≡◌, refl, ◌∙◌, ap}
use mathlib.Core.Bool.{Bool, true, false, ◌||◌}
use mathlib.Core.List.{List}
use lib.Dec.{eqb}
use lib.ListN.{length}
use borrow.Author.Tests.{eqb-true}
use Rattle.sequences.specs.Sequences.{all}
use Rattle.sequences.proofs.Booleans.{and_left}
use Rattle.sequences.proofs.Buffers.{length_over}
use Rattle.plans.specs.Endings.{Ending, rows, top, group, registers}
use Rattle.plans.specs.Plans.{plan_of}
use Rattle.registers.specs.Registers.{register_count, is_rank, are_registers, kept_registers}
use Rattle.lists.specs.Groups.{totals_width}
use Rattle.lists.specs.Gathering.{width, list_right}
use Rattle.lists.proofs.Gatherings.{ValidKept}
use Rattle.turns.specs.Surveys.{Survey}
use Rattle.cuts.specs.Accepting.{Accepted}
use Rattle.cuts.proofs.Accepting.{opening_accepts}
use Rattle.cuts.proofs.KeptValid.{kept_valid}
use Rattle.queries.specs.declared.Keeping.TheVariants.{Merged}
use Rattle.queries.specs.declared.Played.{Played}
use Rattle.queries.specs.declared.Played.TheVariants.{Finished, Unfinished, Stopped, Refused}
use Rattle.queries.specs.Stepping.{kept_of}
use Rattle.queries.specs.Playing.{part_after, Leaves, IsWhole}
use Rattle.queries.proofs.Showing.{kept_at_end}
use Rattle.print_writing.specs.FileQueries.{file_tables, file_survey, file_plan, file_quantum, IsAccepted, output_room, kept_room}
use Rattle.print_writing.specs.Shown.{most_turns, CanOpen, by_turns_fact, LeftToShow}

-- no registers, or all of them
registers_whole : (ws : List ℕ) → kept_registers ws ≡ true → length ws % register_count ≡ 0
registers_whole ws h = go (eqb (length ws) 0) refl h
  where
    go : (b : Bool) → eqb (length ws) 0 ≡ b → b || are_registers ws ≡ true → length ws % register_count ≡ 0
    go true p e = ap (λ n. n % register_count) (eqb-true (length ws) 0 p)
    go false p e =
        ap (λ n. n % register_count) (eqb-true (length ws) register_count (and_left (eqb (length ws) register_count) (all is_rank ws) e))

-- nothing is kept of a row query; any other list that test 12 passes is whole rows or records, or registers
valid_whole : (e : Ending) (ws : List ℕ) → ValidKept e ws → length (kept_of Merged e ws) % width e ≡ 0
unfolding list_right
valid_whole (rows vs) ws h = zero-mod (length vs)
valid_whole (top k vs keys) ws h = eqb-true (length ws % length vs) 0 (and_left (eqb (length ws % length vs) 0) _ h)
valid_whole (group vs m) ws h =
    eqb-true (length ws % (length vs + totals_width)) 0 (and_left (eqb (length ws % (length vs + totals_width)) 0) _ h)
valid_whole (registers v) ws h = registers_whole ws h

pub kept_whole : (v : Survey) (plan list : List ℕ) → CanOpen v plan → IsWhole Merged v.tables plan list
    → length list % width (plan_of plan).ending ≡ 0
kept_whole v plan list o w =
    let a : Accepted v.tables plan = opening_accepts v plan o.0 o.1 in
    ap (λ l. length l % width (plan_of plan).ending) w.listed
    ∙ valid_whole (plan_of plan).ending _
    (kept_valid v.tables plan a w.steps)

-- what the rounds of an opened query leave, as the printer shows it
module _ (bytes : List ℕ) (a : IsAccepted bytes) (o : CanOpen (file_survey bytes) (file_plan bytes)) (before state kept : List ℕ)
    (l : length before ≡ kept_room) where
  pub left_to_show : (r : Played)
      → Leaves Merged (file_survey bytes) (file_plan bytes) (file_quantum bytes) most_turns (output_room (file_plan bytes)) before state kept r
      → LeftToShow bytes kept r
  left_to_show (Finished words) f =
      let h = f.list in
      let long = length_over (part_after Merged (file_tables bytes) (file_plan bytes) f.steps) before (omega (arith, h.counted, h.room)) in (
        omega (arith, h.room, ap length h.whole, long),
        kept_at_end Merged (file_tables bytes) (file_plan bytes) (file_quantum bytes) most_turns (output_room (file_plan bytes)) before kept words f,
      )
  left_to_show (Unfinished saved words) f = tt
  left_to_show (Stopped x) f = by_turns_fact a o before kept l x f
  left_to_show (Refused x) f = f
