-- One name that opens every definition of this crate, for proofs that compute.
use Rattle.tables.specs.Ranges.{start_among, end_among, range_start, range_end, in_range}
use Rattle.tables.specs.RowLists.{row_numbers}
use Rattle.tables.specs.Sides.{side_of}
use Rattle.tables.specs.Tables.{fields_of, lengths_right, row_right, kinds_right, years_right, ascends, names_rows}

unfoldable pub computing : Unit {0}
unfolding start_among end_among range_start range_end in_range row_numbers side_of fields_of lengths_right row_right kinds_right years_right ascends names_rows
computing = tt
