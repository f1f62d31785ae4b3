-- Registers of single values and reports, in literal words, each limit on both sides.
use Rattle.std.specs.Prelude.{ℕ, ◌-◌, List, [], ◌∷◌, ◌++◌, length, replicate}
use Rattle.words.specs.declared.Written.TheVariants.{Words}
use Rattle.sequences.specs.Sequences.{over}
use Rattle.register_reports.specs.Reporting.{ReportInput}
use Rattle.worked_cases.specs.Calls.{reporting, reported, Case, kept_buffer, not_reported}
use Rattle.worked_values.specs.Registers.{untouched, of_diameters, first, last}

-- n65231, whose hash is 50000EE8C4F88220: register 5, with 16 zeros leading the other 60 bits
abbrev pub far_out : List ℕ
far_out = 0 ∷ 0 ∷ 0 ∷ 0 ∷ 0 ∷ 17 ∷ 0 ∷ 0 ∷ 0 ∷ 0 ∷ 0 ∷ 0 ∷ 0 ∷ 0 ∷ 0 ∷ 0 ∷ []

-- i65231, by its whole word, with its kind: 4FFFCEE8C4F81560, register 4
abbrev pub far_number : List ℕ
far_number = 0 ∷ 0 ∷ 0 ∷ 0 ∷ 1 ∷ 0 ∷ 0 ∷ 0 ∷ 0 ∷ 0 ∷ 0 ∷ 0 ∷ 0 ∷ 0 ∷ 0 ∷ 0 ∷ []

-- one register touched, and what it has
abbrev pub touched : ℕ → ℕ → List ℕ
touched i n = replicate i 0 ++ (n ∷ replicate (15 - i) 0)

-- n5, i5 and t5, which differ in their highest bits alone, share register and rank
abbrev pub of_five : List ℕ
of_five = touched 2 1

-- single words: n65535, n65536, n8388607, n16777216 and t65231; i495942401 and t634260780, whose hashes are 20003678192C9529 and A00017961556E6A3. A byte
-- left out, in another's place or read by another power of two gives one of them another register or another rank
abbrev pub wide_words : List ℕ
wide_words = 0x0000FFFF ∷ 0x00010000 ∷ 0x007FFFFF ∷ 0x01000000 ∷ 0x8000FECF ∷ 0x5D8F7B01 ∷ 0xA5CE0D2C ∷ []

abbrev pub of_wide_words : List (List ℕ)
of_wide_words = touched 9 1 ∷ touched 4 1 ∷ touched 9 2 ∷ touched 4 1 ∷ touched 5 13 ∷ touched 2 15 ∷ touched 10 16 ∷ []

-- a report on a kept list in a buffer of `room` words, into a buffer of `words` words
abbrev pub report_call : List ℕ → ℕ → ℕ → ReportInput
report_call kept room words = record { kept = kept_buffer room kept; given = length kept; report = replicate words 9 }

abbrev pub reports : List ℕ → ℕ → ℕ → List ℕ → Case
reports kept room words counts =
    (reporting (report_call kept room words), reported (record { answer = Words 62; buffers = over counts (replicate words 9) }))

abbrev pub of_reports : List Case
of_reports =
    -- how many registers are at 0, 1, .. 61
    reports of_diameters 16 62 (14 ∷ 1 ∷ 1 ∷ replicate 59 0)
    ∷ reports of_diameters 20 64 (14 ∷ 1 ∷ 1 ∷ replicate 59 0)
    ∷ reports untouched 16 62 (16 ∷ replicate 61 0)
    ∷ reports (replicate 16 61) 16 62 (replicate 61 0 ++ (16 ∷ []))
    ∷ reports (first 61) 16 62 (15 ∷ (replicate 60 0 ++ (1 ∷ [])))
    -- nothing kept is all 0
    ∷ reports [] 0 62 (16 ∷ replicate 61 0)
    ∷ reports [] 5 62 (16 ∷ replicate 61 0)
    -- 7 asks for 62 words, before 12
    ∷ not_reported (report_call of_diameters 16 61) 7
    ∷ not_reported (report_call (first 62) 16 61) 7
    -- 12: 0 or 16 words, 61 at most, and no more words than the buffer has
    ∷ not_reported (report_call (first 62) 16 62) 12
    ∷ not_reported (report_call (last 62) 16 62) 12
    ∷ not_reported (report_call (0 ∷ []) 16 62) 12
    ∷ not_reported (report_call (replicate 15 0) 16 62) 12
    ∷ not_reported (report_call (replicate 17 0) 17 62) 12
    ∷ not_reported (record { kept = untouched; given = 17; report = replicate 62 9 }) 12
    ∷ []
