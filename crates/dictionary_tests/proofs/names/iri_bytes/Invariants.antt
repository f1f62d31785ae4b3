use mathlib.Core.Path.{◌≡◌}
use mathlib.Core.Bool.{◌&&◌}
use lib.Dec.{eqb}
use lib.ListN.{drop}
use Rattle.sequences.specs.Sequences.{all}
use Rattle.dictionaries.specs.Checking.{iri_character}
use Rattle.dictionary_tests.proofs.names.iri_bytes.Given as goal

abbrev pub invariant-loop-b : goal.invariant-loop-b
invariant-loop-b l = all iri_character l.bytes ≡ eqb l.greatest 0 && all iri_character (drop l.b-index l.bytes)
