-- One name that opens every definition of this crate, for proofs that compute.
use Rattle.lists.specs.Closing.{closed}
use Rattle.lists.specs.Delivering.{with_row}
use Rattle.lists.specs.Gathering.{records_in, gathered, threshold_right, merged, group_right, list_right, totals_fit}
use Rattle.lists.specs.Groups.{lesser, greater, keys_before, add_by, add_all_by, group_words, group_in}
use Rattle.lists.specs.Sums.{sum_bits}
use Rattle.lists.specs.Rows.{index_of, row_ranks, row_before, ahead}

unfoldable pub computing : Unit {0}
unfolding closed with_row records_in gathered threshold_right merged group_right list_right totals_fit lesser greater keys_before add_by add_all_by
    group_words group_in
    sum_bits index_of row_ranks row_before ahead
computing = tt
