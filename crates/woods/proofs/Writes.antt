-- When a call is served, in counts of stems, and what it then writes.
use Prim.Native.Nat.{ℕ, ◌≤◌}
use mathlib.Core.Path.{◌≡◌}
use mathlib.Core.Logic.{◌↔◌}
use mathlib.Core.Bool.{true}
use lib.Dec.{leb}
use borrow.Author.Tests.{le-leb, leb-true}
use Rattle.words.specs.Words.{most_year}
use Rattle.sequences.proofs.Booleans.{and_left, and_right}
use Rattle.words.proofs.Testing.{test_passed}
use Rattle.calls.specs.Calls.{NotRefused}
use Rattle.tables.specs.declared.Order.TheVariants.{Pos, Osp}
use Rattle.table_answers.specs.Counts.{TablesCount}
use Rattle.table_answers.proofs.Rooms.{room_fits}
use Rattle.table_answers.proofs.Written.{tables_over}
use Rattle.woods.specs.Growing.{most_stems, GrowInput, wood_in, asked_right, grow_tests, grow_schema, grow_of}
use Rattle.woods.specs.Refusals.{rows_for, GrowSuffices, GrowWrites}
use Rattle.woods.proofs.Lengths.{rows_length, list_counts}
use Rattle.woods.proofs.Refusals.{grown_so, grow_refusals}

-- ---- test 24
module _ (stems year : ℕ) where
  pub asked_few : asked_right stems year ≡ true → stems ≤ most_stems
  unfolding asked_right
  asked_few e = leb-true _ _ (and_left (leb stems most_stems) _ e)

  pub asked_begun : asked_right stems year ≡ true → 1 ≤ year
  unfolding asked_right
  asked_begun e = leb-true _ _ (and_left (leb 1 year) _ (and_right (leb stems most_stems) _ e))

  pub asked_ended : asked_right stems year ≡ true → year ≤ most_year
  unfolding asked_right
  asked_ended e = leb-true _ _ (and_right (leb 1 year) _ (and_right (leb stems most_stems) _ e))

  pub asked_right_lem : stems ≤ most_stems → 1 ≤ year → year ≤ most_year → asked_right stems year ≡ true
  unfolding asked_right
  asked_right_lem f b e = rw (le-leb stems most_stems f, le-leb 1 year b, le-leb year most_year e)

-- ---- the call
module _ (i : GrowInput) where
  pub grow_counts : TablesCount (wood_in i) (rows_for i.stems)
  grow_counts =
      let n = list_counts i.seed i.stems i.year in
      record { rows = rows_length i.seed i.stems i.year; pos = n Pos; osp = n Osp }

  suffices : NotRefused grow_schema i → GrowSuffices i
  suffices m =
      let p = (grow_refusals i).served.0 m in
      let e = test_passed 24 (grow_tests i) p in
      record {
        few = asked_few i.stems i.year e;
        begun = asked_begun i.stems i.year e;
        ended = asked_ended i.stems i.year e;
        room = (room_fits (wood_in i) i.buffers (rows_for i.stems) grow_counts).0 (test_passed 25 (grow_tests i) p);
      }

  -- served exactly for stems that are not too many, a year that rows may have, and buffers that are no shorter than what is written
  pub grow_suffices : NotRefused grow_schema i ↔ GrowSuffices i
  grow_suffices = (
    suffices,
    λ s. let r = (room_fits (wood_in i) i.buffers (rows_for i.stems) grow_counts).1 s.room in
        (grow_refusals i).served.1 (asked_right_lem i.stems i.year s.few s.begun s.ended, (r, tt)),
  )

  pub grow_writes : NotRefused grow_schema i → GrowWrites i
  grow_writes m = tables_over (wood_in i) i.buffers (grow_of i) (grown_so i m) (rows_for i.stems) grow_counts
