-- What a served call leaves: the wood of the seed, the count and the year, which the tests accept.
use Prim.Native.Nat.{ℕ, ◌≤◌}
use mathlib.Core.Path.{◌≡◌, ◌∙◌, ap}
use mathlib.Core.Option.{none}
use mathlib.Core.List.{flatten}
use Rattle.words.specs.Words.{most_year}
use Rattle.words.specs.Tests.{first_failing}
use Rattle.calls.specs.Calls.{NotRefused}
use Rattle.tables.specs.Tables.{table_tests}
use Rattle.tables.proofs.MadeTables.{made_accepted}
use Rattle.table_answers.specs.Writing.{tables_left}
use Rattle.table_answers.proofs.Written.{tables_read}
use Rattle.woods.specs.Woods.{wood_rows, wood_of}
use Rattle.woods.specs.Growing.{most_stems, GrowInput, wood_in, grow_schema, grow_of}
use Rattle.woods.specs.Refusals.{GrownRight}
use Rattle.woods.proofs.Stems.{wood_right}
use Rattle.woods.proofs.Refusals.{grown_so}
use Rattle.woods.proofs.Writes.{grow_suffices}

-- the wood itself
pub wood_passes : (seed stems year : ℕ) → stems ≤ most_stems → 1 ≤ year → year ≤ most_year
    → first_failing (table_tests (wood_of seed stems year)) ≡ none
wood_passes seed stems year f b e = made_accepted (flatten (wood_rows seed year stems)) (wood_right seed year stems f b e)

module _ (i : GrowInput) (m : NotRefused grow_schema i) where
  pub wood_left : tables_left (grow_of i) ≡ wood_in i
  wood_left = tables_read (wood_in i) i.buffers (grow_of i) (grown_so i m)

  pub grow_right : GrownRight i
  grow_right =
      let s = (grow_suffices i).0 m in
      record {
        alone = wood_left;
        accepted = ap (λ t. first_failing (table_tests t)) wood_left ∙ wood_passes i.seed i.stems i.year s.few s.begun s.ended;
      }
