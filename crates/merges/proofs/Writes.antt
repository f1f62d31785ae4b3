-- A served merge writes the merged list over the first words of the kept buffer, which has room for it, and counts them.
use lib.ListN.{length}
use borrow.Author.Tests.{leb-true}
use Rattle.calls.specs.Calls.{NotRefused}
use Rattle.calls.specs.Words.{WordsOver}
use Rattle.calls.proofs.Refusals.{call_so}
use Rattle.calls.proofs.Words.{words_over}
use Rattle.merges.specs.Merging.{MergeInput, merged_words, merge_schema, merge_of}
use Rattle.merges.proofs.Refusals.{merge_is_right, merge_passed}

-- by test 14 there is room
pub merge_writes : (i : MergeInput) → NotRefused merge_schema i → WordsOver (merged_words i) i.kept (merge_of i)
merge_writes i h =
    words_over (merged_words i) i.kept (merge_of i) (call_so merge_schema merge_is_right i h)
    (leb-true (length (merged_words i)) (length i.kept) (merge_passed i 14 h))
