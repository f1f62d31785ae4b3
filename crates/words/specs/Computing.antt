-- One name that opens every definition of this crate and of sequences, for proofs that compute.
use Rattle.words.specs.Words.{signed}
use Rattle.sequences.specs.Sequences.{all_below, count_below, numbers, all, keep, neighbours, member, distinct, parts, lex_before, iterate}
use Rattle.sequences.specs.Sorting.{insert_by, insert_all_by, sort_by, best_by}
use Rattle.words.specs.Tests.{first_failing}

unfoldable pub computing : Unit {0}
unfolding signed all_below count_below numbers all keep neighbours member distinct parts lex_before iterate insert_by insert_all_by sort_by best_by
    first_failing
computing = tt
