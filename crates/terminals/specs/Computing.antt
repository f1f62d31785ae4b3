-- One name that opens every definition of this crate and of those below, for proofs that compute.
use Rattle.tokens.specs.Computing as tokens
use Rattle.sequences.specs.Sequences.{keep}
use Rattle.dictionaries.specs.Strings.{string_before, same_string}
use Rattle.dictionaries.specs.Dictionaries.{string_rank, is_among}
use Rattle.dictionaries.specs.Lookups.{lookup_in}
use Rattle.terminals.specs.Spellings.{spelled_kind}
use Rattle.terminals.specs.Names.{has_scheme, prefix_size, unescaped, declarations_of, last_declared, is_year_name}
use Rattle.terminals.specs.Terminals.{is_whole_number, is_shortest, quoted, terminal_kind, terminals_from, pieces}

unfoldable pub computing : Unit {0}
unfolding tokens.computing keep string_before same_string string_rank is_among lookup_in spelled_kind has_scheme prefix_size unescaped declarations_of
    last_declared
    is_year_name is_whole_number is_shortest quoted terminal_kind terminals_from pieces
computing = tt
