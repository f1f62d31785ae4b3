-- The record of no rows, in literal words: the turn that is done writes it where the group has no variable and the turn no row of its own, and
-- no other turn does. Merged, it leaves what was kept as it was.
use Rattle.std.specs.Prelude.{ℕ, List, [], ◌∷◌, ◌++◌, replicate}
use Rattle.std.proofs.Math.Option.{none, some}
use Rattle.calls.specs.Words.{written_over}
use Rattle.steps.specs.Steps.{in_year}
use Rattle.turns.specs.declared.TurnEnding.TheVariants.{Done, Spent}
use Rattle.turns.specs.Opening.{open_of}
use Rattle.cuts.specs.Histories.{Event, turns, merges, Phone, fresh, history}
use Rattle.worked_cases.specs.Calls.{merging, merged, running, ran, Case, surveyed, turn_call, turn_case, merge_call, kept_buffer}
use Rattle.worked_cases.specs.Wood.{no_rows}
use Rattle.worked_cases.specs.Literals.{stems, in_bare, at_place, opens_to, whole_from}
use Rattle.worked_limits.specs.Faults.{record_of_none}

-- ---- plans
-- plan A's patterns, ?0 n10 n100, ?0 n12 ?1, with a condition and an ending
abbrev pub stems_with : List ℕ → List ℕ → List ℕ
stems_with condition ending =
    0x10000001
    ∷ 0x20000002 ∷ 0xC0000000 ∷ 0x0000000A ∷ 0x00000064 ∷ 0xC0000000 ∷ 0x0000000C ∷ 0xC0000001
    ∷ (condition ++ ending)

-- "true"; ?1 ≥ i1000, which no stem is
abbrev pub any_stem : List ℕ
any_stem = 0x30000000 ∷ []

abbrev pub no_stem : List ℕ
no_stem = 0x70000005 ∷ 0xC0000001 ∷ 0x400003E8 ∷ []

-- one group measuring ?1; a group for each ?0
abbrev pub one_group : List ℕ
one_group = 0xC0000000 ∷ 0xC0000001 ∷ []

abbrev pub groups_by_stem : List ℕ
groups_by_stem = 0xC0000001 ∷ 0xC0000000 ∷ 0xC0000001 ∷ []

-- rows 3, numbers 3, sum 665, least i45, greatest i310
abbrev pub totals_of_stems : List ℕ
totals_of_stems = 3 ∷ 0 ∷ 3 ∷ 0 ∷ 0x00000299 ∷ 0 ∷ 0x4000002D ∷ 0x40000136 ∷ []

-- a list merged into a kept one, and what is then kept
abbrev pub adds : List ℕ → List ℕ → List ℕ → Case
adds kept list result = (
  merging (merge_call (stems_with any_stem one_group) kept 12 list),
  merged (written_over result (kept_buffer 12 kept)),
)

abbrev pub closings : List Case
closings =
    -- a wood without rows: done after 1 step, with the record, in an output of just its words; the uncut run has it at its end and not before
    opens_to no_rows (stems_with any_stem one_group) in_bare
    ∷ turn_case (turn_call no_rows (stems_with any_stem one_group) in_bare 1 [] 8) Done 1 [] record_of_none
    ∷ (running no_rows (stems_with any_stem one_group) 0, ran (some (in_year 0 (record { branch = 0; upper = []; place = 0 }))) [])
    ∷ (running no_rows (stems_with any_stem one_group) 1, ran none record_of_none)
    -- by one variable there is no group; nor is there a row or a best row
    ∷ whole_from no_rows (stems_with any_stem groups_by_stem) in_bare 1 []
    ∷ whole_from no_rows (stems_with any_stem (0x80000001 ∷ 0xC0000001 ∷ [])) in_bare 1 []
    ∷ whole_from no_rows (stems_with any_stem (0x90000001 ∷ 0x80000001 ∷ 0xC0000001 ∷ 0xA0000001 ∷ [])) in_bare 1 []
    -- no stem passes: whole in 10 steps; cut at 9 the first turn has no list, and the last one the record
    ∷ whole_from stems (stems_with no_stem one_group) (at_place 0xF0000000) 10 record_of_none
    ∷ turn_case (turn_call stems (stems_with no_stem one_group) (at_place 0xF0000000) 9 [] 8) Spent 9 (at_place 0xF0000003) []
    ∷ turn_case (turn_call stems (stems_with no_stem one_group) (at_place 0xF0000003) 1 [] 8) Done 1 [] record_of_none
    ∷ whole_from stems (stems_with no_stem groups_by_stem) (at_place 0xF0000000) 10 []
    -- all stems pass: whole in 10 steps, one record; cut at 9 the first turn has it, and the last one, without a row of its own, that of no rows
    ∷ whole_from stems (stems_with any_stem one_group) (at_place 0xF0000000) 10 totals_of_stems
    ∷ turn_case (turn_call stems (stems_with any_stem one_group) (at_place 0xF0000000) 9 [] 8) Spent 9 (at_place 0xF0000003) totals_of_stems
    ∷ turn_case (turn_call stems (stems_with any_stem one_group) (at_place 0xF0000003) 1 [] 8) Done 1 [] record_of_none
    -- merged: alone it is kept, twice it is the same, and beside another record it adds nothing
    ∷ adds [] record_of_none record_of_none
    ∷ adds record_of_none record_of_none record_of_none
    ∷ adds totals_of_stems record_of_none totals_of_stems
    ∷ adds record_of_none totals_of_stems totals_of_stems
    ∷ []

-- ---- two queries cut at 9 of their 10 steps, each turn's list merged
abbrev pub cut_at_nine : List Event
cut_at_nine =
    turns (replicate 7 1) 9 [] (replicate 8 9)
    ∷ merges (replicate 8 4)
    ∷ turns (replicate 7 1) 9 [] (replicate 8 9)
    ∷ merges (replicate 8 4)
    ∷ []

abbrev pub played_by : List ℕ → Phone
played_by condition =
    history (surveyed stems) (stems_with condition one_group) (fresh (open_of (surveyed stems) (stems_with condition one_group) (replicate 11 7))) cut_at_nine

-- done: two served turns of 9 steps and 1, their lists taken
abbrev pub done_with : List ℕ → List ℕ → Phone
done_with list kept =
    record {
      saved = [];
      taken =
          record { quantum = 9; sent = []; ending = Spent; steps = 9; list = list; left = at_place 0xF0000003 }
          ∷ record { quantum = 9; sent = []; ending = Done; steps = 1; list = record_of_none; left = [] }
          ∷ [];
      waiting = [];
      kept = kept;
    }
