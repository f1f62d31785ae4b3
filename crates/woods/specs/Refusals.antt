-- When growing a wood is served, in counts of stems, and what it then writes. Assumes nothing: these are definitions.
use Rattle.std.specs.Prelude.{ℕ, ◌*◌, ◌≤◌, ◌≡◌}
use Rattle.std.proofs.Math.Option.{none}
use Rattle.words.specs.Words.{most_year}
use Rattle.words.specs.Tests.{first_failing}
use Rattle.tables.specs.Tables.{table_tests}
use Rattle.table_answers.specs.Writing.{tables_left}
use Rattle.table_answers.specs.Counts.{TablesFit, TablesOver}
use Rattle.woods.specs.Growing.{GrowInput, most_stems, wood_in, grow_of}

-- two rows a stem
abbrev pub rows_for : ℕ → ℕ
rows_for stems = 2 * stems

-- not too many stems, a year that rows may have, and buffers no shorter than what is written: so their exact lengths are enough
pub record GrowSuffices (i : GrowInput) : Type 0 where
  pub few : i.stems ≤ most_stems
  pub begun : 1 ≤ i.year
  pub ended : i.year ≤ most_year
  pub room : TablesFit (rows_for i.stems) i.buffers

-- a served call writes the wood over the first words of the buffers, and counts them
abbrev pub GrowWrites : GrowInput → Type 0
GrowWrites i = TablesOver (wood_in i) (rows_for i.stems) i.buffers (grow_of i)

-- the tables written pass the check, and are the wood of the seed, the count and the year alone
pub record GrownRight (i : GrowInput) : Type 0 where
  pub alone : tables_left (grow_of i) ≡ wood_in i
  pub accepted : first_failing (table_tests (tables_left (grow_of i))) ≡ none
