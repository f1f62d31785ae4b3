-- Worked cases in literal words: draws, stems of the seed 1 and of the greatest one, and calls at their limits. Assumes nothing: these are definitions.
use Rattle.std.specs.Prelude.{ℕ, ◌≡◌, List, [], ◌∷◌, ◌++◌, map, replicate}
use Rattle.calls.specs.Calls.{NotRefused}
use Rattle.tables.specs.Tables.{Tables, tables_of}
use Rattle.table_answers.specs.declared.TablesWritten.TheVariants.{Words, Refused}
use Rattle.table_answers.specs.Writing.{table_buffers, TablesResult}
use Rattle.woods.specs.Woods.{next_draw}
use Rattle.woods.specs.Growing.{GrowInput, grow_input, grow_schema, grow_of}

-- (n1000000, n10, n116) (n1000000, n12, i220) (n1000001, n10, n106) (n1000001, n12, i615), in i2026: the stand n106 comes before n116
abbrev pub first_stems : Tables
first_stems =
    tables_of
    (0x400007EA ∷ 0x000F4240 ∷ 0x0000000A ∷ 0x00000074 ∷ 0x400007EA ∷ 0x000F4240 ∷ 0x0000000C ∷ 0x400000DC
    ∷ 0x400007EA ∷ 0x000F4241 ∷ 0x0000000A ∷ 0x0000006A ∷ 0x400007EA ∷ 0x000F4241 ∷ 0x0000000C ∷ 0x40000267 ∷ [])
    (2 ∷ 0 ∷ 1 ∷ 3 ∷ []) (2 ∷ 0 ∷ 1 ∷ 3 ∷ [])

-- a call with buffers of `rows`, `pos` and `osp` words, which hold 9 in rows, 8 in POS and 7 in OSP
abbrev pub grow_call : ℕ → ℕ → ℕ → ℕ → ℕ → ℕ → GrowInput
grow_call seed stems year rows pos osp = grow_input seed stems year (replicate rows 9) (replicate pos 8) (replicate osp 7)

-- refused by a number, and nothing written
abbrev pub NotGrownBy : ℕ → GrowInput → Type 0
NotGrownBy x i = grow_of i ≡ record { answer = Refused x; buffers = i.buffers }

-- the answer and the buffers at exit
abbrev pub leaving : ℕ → ℕ → ℕ → List ℕ → List ℕ → List ℕ → TablesResult
leaving a b c rows pos osp = record { answer = Words a b c; buffers = table_buffers rows pos osp }

-- three stems of the greatest seed, in the first year: (n1000000, n10, n105) (n1000000, n12, i331) (n1000001, n10, n115) (n1000001, n12, i563)
-- (n1000002, n10, n109) (n1000002, n12, i304). With those of seed 1 their stands are drawn as 15496 33046 15445 8835 47029 and their diameters as
-- 24200 46195 12311 41343 57284: only mod 20 and mod 600 leave these remainders
abbrev pub last_seed : Tables
last_seed =
    tables_of
    (0x40000001 ∷ 0x000F4240 ∷ 0x0000000A ∷ 0x00000069 ∷ 0x40000001 ∷ 0x000F4240 ∷ 0x0000000C ∷ 0x4000014B
    ∷ 0x40000001 ∷ 0x000F4241 ∷ 0x0000000A ∷ 0x00000073 ∷ 0x40000001 ∷ 0x000F4241 ∷ 0x0000000C ∷ 0x40000233
    ∷ 0x40000001 ∷ 0x000F4242 ∷ 0x0000000A ∷ 0x0000006D ∷ 0x40000001 ∷ 0x000F4242 ∷ 0x0000000C ∷ 0x40000130 ∷ [])
    (0 ∷ 4 ∷ 2 ∷ 5 ∷ 1 ∷ 3 ∷ []) (0 ∷ 4 ∷ 2 ∷ 5 ∷ 1 ∷ 3 ∷ [])

-- ---- the cases
pub record GrowingWorked : Type 0 where
  -- what a draw moves x to: the addend, the factor more, the last below 2^32, and the first that passes it
  pub draws : map next_draw (0 ∷ 1 ∷ 1971 ∷ 1972 ∷ []) ≡ 0x3C6EF35F ∷ 0x3C88596C ∷ 0xFFFBA976 ∷ 0x00150F83 ∷ []
  -- two stems, with a word to spare in each buffer: it stays
  pub first_stems_fact : grow_of (grow_call 1 2 2026 17 5 5)
      ≡ leaving 16 4 4 (first_stems.rows ++ (9 ∷ [])) (first_stems.pos ++ (8 ∷ [])) (first_stems.osp ++ (7 ∷ []))
  -- exact lengths are enough; any seed of 32 bits
  pub last_seed_fact : grow_of (grow_call 4294967295 3 1 24 6 6) ≡ leaving 24 6 6 last_seed.rows last_seed.pos last_seed.osp
  -- no stems write nothing
  pub no_stems_fact : grow_of (grow_call 1 0 2026 1 1 1) ≡ leaving 0 0 0 (9 ∷ []) (8 ∷ []) (7 ∷ [])
  pub no_room_asked : grow_of (grow_call 1 0 2026 0 0 0) ≡ leaving 0 0 0 [] [] []
  -- the most stems, in the first year and in the last
  pub most_stems_fact : (seed : ℕ) → NotRefused grow_schema (grow_call seed 32768 1 262144 65536 65536)
  pub last_year : (seed : ℕ) → NotRefused grow_schema (grow_call seed 32768 9999 262144 65536 65536)
  -- 24: one stem more, a year before the first, one past the last, and the first year as a number's word
  pub one_more_fact : NotGrownBy 24 (grow_call 1 32769 2026 0 0 0)
  pub year_before : NotGrownBy 24 (grow_call 1 2 0 16 4 4)
  pub year_past : NotGrownBy 24 (grow_call 1 2 10000 16 4 4)
  pub no_word : NotGrownBy 24 (grow_call 1 2 0x40000001 16 4 4)
  -- 24 comes before 25
  pub both : NotGrownBy 24 (grow_call 1 2 0 0 0 0)
  -- 25: one word less in any of the buffers
  pub short_rows : NotGrownBy 25 (grow_call 1 2 2026 15 4 4)
  pub short_pos : NotGrownBy 25 (grow_call 1 2 2026 16 3 4)
  pub short_osp : NotGrownBy 25 (grow_call 1 2 2026 16 4 3)
