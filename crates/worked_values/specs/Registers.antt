-- An ending of registers, in literal words: its form, what a turn lists, test 11, and merging, each limit on both sides.
use Rattle.std.specs.Prelude.{ℕ, List, [], ◌∷◌, ◌++◌, replicate}
use Rattle.std.proofs.Math.Option.{none, some}
use Rattle.words.specs.declared.Written.TheVariants.{Words}
use Rattle.sequences.specs.Sequences.{over}
use Rattle.turns.specs.declared.TurnEnding.TheVariants.{Done, Spent}
use Rattle.turns.specs.Opening.{open_of}
use Rattle.cuts.specs.Histories.{Event, turns, merges, Phone, fresh, history}
use Rattle.worked_cases.specs.Calls.{merging, merged, testing, tested, Case, surveyed, turn_call, turn_case, merge_call, kept_buffer, not_turned, not_merged}
use Rattle.worked_cases.specs.Wood.{no_rows}
use Rattle.worked_cases.specs.Literals.{stems, in_bare, all_diameters, diameters, at_place, opens_to, refuses, whole_from}

-- ---- plans
-- the registers of ?1 and of ?0, in the branch ?0 n12 ?1; its run begins at place 3
abbrev pub species : List ℕ
species = all_diameters (0xD0000000 ∷ 0xC0000001 ∷ [])

abbrev pub stems_of : List ℕ
stems_of = all_diameters (0xD0000000 ∷ 0xC0000000 ∷ [])

-- of ?1, with a condition that no stem passes, ?1 ≥ i1000
abbrev pub no_stems : List ℕ
no_stems = diameters (0x70000005 ∷ 0xC0000001 ∷ 0x400003E8 ∷ []) (0xD0000000 ∷ 0xC0000001 ∷ [])

-- of ?1, in that branch and in one that does not bind it, ?0 n10 n100
abbrev pub half_bound : List ℕ
half_bound =
    0x10000002
    ∷ 0x20000001 ∷ 0xC0000000 ∷ 0x0000000C ∷ 0xC0000001 ∷ 0x30000000
    ∷ 0x20000001 ∷ 0xC0000000 ∷ 0x0000000A ∷ 0x00000064 ∷ 0x30000000
    ∷ 0xD0000000 ∷ 0xC0000001 ∷ []

-- the branch ?0 n12 ?15
abbrev pub of_last : List ℕ → List ℕ
of_last ending = 0x10000001 ∷ 0x20000001 ∷ 0xC0000000 ∷ 0x0000000C ∷ 0xC000000F ∷ 0x30000000 ∷ ending

-- ---- registers
abbrev pub untouched : List ℕ
untouched = 0 ∷ 0 ∷ 0 ∷ 0 ∷ 0 ∷ 0 ∷ 0 ∷ 0 ∷ 0 ∷ 0 ∷ 0 ∷ 0 ∷ 0 ∷ 0 ∷ 0 ∷ 0 ∷ []

-- of i45; of i310; of both; of n1, n2 and n3
abbrev pub of45 : List ℕ
of45 = 0 ∷ 0 ∷ 1 ∷ 0 ∷ 0 ∷ 0 ∷ 0 ∷ 0 ∷ 0 ∷ 0 ∷ 0 ∷ 0 ∷ 0 ∷ 0 ∷ 0 ∷ 0 ∷ []

abbrev pub of310 : List ℕ
of310 = 2 ∷ 0 ∷ 0 ∷ 0 ∷ 0 ∷ 0 ∷ 0 ∷ 0 ∷ 0 ∷ 0 ∷ 0 ∷ 0 ∷ 0 ∷ 0 ∷ 0 ∷ 0 ∷ []

abbrev pub of_diameters : List ℕ
of_diameters = 2 ∷ 0 ∷ 1 ∷ 0 ∷ 0 ∷ 0 ∷ 0 ∷ 0 ∷ 0 ∷ 0 ∷ 0 ∷ 0 ∷ 0 ∷ 0 ∷ 0 ∷ 0 ∷ []

abbrev pub of_stem_names : List ℕ
of_stem_names = 0 ∷ 0 ∷ 0 ∷ 0 ∷ 0 ∷ 0 ∷ 0 ∷ 0 ∷ 1 ∷ 0 ∷ 1 ∷ 0 ∷ 0 ∷ 0 ∷ 1 ∷ 0 ∷ []

-- with n in the first register and with n in the last
abbrev pub first : ℕ → List ℕ
first n = n ∷ replicate 15 0

abbrev pub last : ℕ → List ℕ
last n = replicate 15 0 ++ (n ∷ [])

-- ---- the form of the ending
abbrev pub forms : List Case
forms =
    opens_to stems species (at_place 0xF0000003)
    ∷ opens_to stems (of_last (0xD0000000 ∷ 0xC000000F ∷ [])) (at_place 0xF0000003)
    -- exactly two words
    ∷ refuses stems (all_diameters (0xD0000000 ∷ [])) 5
    ∷ refuses stems (all_diameters (0xD0000000 ∷ 0xC0000001 ∷ 0xC0000000 ∷ [])) 5
    ∷ refuses stems (all_diameters (0xD0000000 ∷ 0xC0000001 ∷ 0x80000001 ∷ 0xC0000001 ∷ [])) 5
    -- low bits 0
    ∷ refuses stems (all_diameters (0xD0000001 ∷ 0xC0000001 ∷ [])) 5
    ∷ refuses stems (all_diameters (0xDFFFFFFF ∷ 0xC0000001 ∷ [])) 5
    -- a variable, from ?0 to ?15, that some branch binds
    ∷ refuses stems (all_diameters (0xD0000000 ∷ 0x00000001 ∷ [])) 5
    ∷ refuses stems (all_diameters (0xD0000000 ∷ 0xBFFFFFFF ∷ [])) 5
    ∷ refuses stems (all_diameters (0xD0000000 ∷ 0xC0000010 ∷ [])) 6
    ∷ refuses stems (all_diameters (0xD0000000 ∷ 0xC0000002 ∷ [])) 6
    ∷ []

-- ---- turns
abbrev pub register_lists : List Case
register_lists =
    whole_from stems species (at_place 0xF0000003) 4 of_diameters
    ∷ whole_from stems stems_of (at_place 0xF0000003) 4 of_stem_names
    -- what is unbound is not hashed
    ∷ whole_from stems half_bound (at_place 0xF0000003) 8 of_diameters
    -- of no rows all 16 are there: at done, and before; also over tables without rows
    ∷ whole_from stems no_stems (at_place 0xF0000003) 4 untouched
    ∷ turn_case (turn_call stems no_stems (at_place 0xF0000003) 2 [] 16) Spent 2 (at_place 0xF0000005) untouched
    ∷ opens_to no_rows species in_bare
    ∷ turn_case (turn_call no_rows species in_bare 1 [] 16) Done 1 [] untouched
    -- never full; 7 asks for 16 words
    ∷ turn_case (turn_call stems species (at_place 0xF0000003) 100 [] 16) Done 4 [] of_diameters
    ∷ not_turned (turn_call stems species (at_place 0xF0000003) 100 [] 15) 7
    -- a threshold is refused, whatever it is
    ∷ (testing (turn_call stems species (at_place 0xF0000003) 5 [] 16), tested none)
    ∷ (testing (turn_call stems species (at_place 0xF0000003) 5 (0x4000002D ∷ []) 16), tested (some 11))
    ∷ (testing (turn_call stems species (at_place 0xF0000003) 5 of_diameters 16), tested (some 11))
    -- cut after 1 step
    ∷ turn_case (turn_call stems species (at_place 0xF0000003) 1 [] 16) Spent 1 (at_place 0xF0000004) of45
    ∷ turn_case (turn_call stems species (at_place 0xF0000004) 9 [] 16) Done 3 [] of310
    ∷ []

-- ---- merging
-- `list` merged into a kept one in a buffer of `room` words, and what is then kept
abbrev pub keeps_registers : List ℕ → ℕ → List ℕ → List ℕ → Case
keeps_registers kept room list result = (
  merging (merge_call species kept room list),
  merged (record { answer = Words 16; buffers = over result (kept_buffer room kept) }),
)

abbrev pub mergings : List Case
mergings =
    -- nothing kept is all 0
    keeps_registers [] 16 of45 of45
    ∷ keeps_registers [] 20 untouched untouched
    -- the greater of each, in either order; a list merged again adds nothing
    ∷ keeps_registers of45 16 of310 of_diameters
    ∷ keeps_registers of310 16 of45 of_diameters
    ∷ keeps_registers of_diameters 16 of45 of_diameters
    ∷ keeps_registers (first 2) 16 (first 3) (first 3)
    ∷ keeps_registers (first 3) 16 (first 2) (first 3)
    -- 61 at most, in either list and in each place
    ∷ keeps_registers (first 61) 16 untouched (first 61)
    ∷ keeps_registers untouched 16 (last 61) (last 61)
    ∷ not_merged (merge_call species (first 62) 16 untouched) 12
    ∷ not_merged (merge_call species (last 62) 16 untouched) 12
    ∷ not_merged (merge_call species untouched 16 (first 62)) 12
    ∷ not_merged (merge_call species untouched 16 (last 62)) 12
    ∷ not_merged (merge_call species [] 16 (last 0xFFFFFFFF)) 12
    -- kept: 0 or 16 words; a turn's list: 16
    ∷ not_merged (merge_call species (0 ∷ []) 16 untouched) 12
    ∷ not_merged (merge_call species (replicate 15 0) 16 untouched) 12
    ∷ not_merged (merge_call species (replicate 17 0) 20 untouched) 12
    ∷ not_merged (merge_call species (replicate 32 0) 32 untouched) 12
    ∷ not_merged (merge_call species [] 16 []) 12
    ∷ not_merged (merge_call species untouched 16 []) 12
    ∷ not_merged (merge_call species untouched 16 (replicate 15 0)) 12
    ∷ not_merged (merge_call species untouched 16 (replicate 17 0)) 12
    ∷ not_merged (record { plan = species; kept = untouched; given = 17; list = untouched }) 12
    -- 14 under 16 words, after 12
    ∷ not_merged (merge_call species [] 15 of45) 14
    ∷ not_merged (merge_call species [] 15 (first 62)) 12
    ∷ []

-- ---- a query cut after its first step, each turn's list merged
abbrev pub cut_at_one : List Event
cut_at_one =
    turns (replicate 7 1) 1 [] (replicate 16 9)
    ∷ merges (replicate 16 4)
    ∷ turns (replicate 7 1) 9 [] (replicate 20 9)
    ∷ merges []
    ∷ []

abbrev pub played : List Event → Phone
played events = history (surveyed stems) species (fresh (open_of (surveyed stems) species (replicate 11 7))) events

-- done: two served turns of 1 step and 3, their lists taken
abbrev pub done_after_four : Phone
done_after_four =
    record {
      saved = [];
      taken =
          record { quantum = 1; sent = []; ending = Spent; steps = 1; list = of45; left = at_place 0xF0000004 }
          ∷ record { quantum = 9; sent = []; ending = Done; steps = 3; list = of310; left = [] }
          ∷ [];
      waiting = [];
      kept = of_diameters;
    }
