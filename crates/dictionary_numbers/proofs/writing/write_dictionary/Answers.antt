-- `write_dictionary` meets its contract.
use native.Mathlib.Omega.{arith}
use mathlib.Core.Path.{◌≡◌, ◌∙◌, ap}
use Rattle.sequences.specs.Sequences.{numbers}
use Rattle.sequences.specs.Sorting.{sort_by}
use Rattle.dictionaries.specs.Dictionaries.{place_before}
use Rattle.dictionary_numberings.specs.Sorted.{sorted_places}
use Rattle.dictionary_numberings.proofs.Places.{numbers_within}
use Rattle.dictionary_numbers.proofs.writing.write_dictionary.Goals as goal
use Rattle.dictionary_numbers.proofs.writing.write_dictionary.Goals.{After-sort}

abbrev Sorted : Type 0
Sorted = After-sort

-- the places as the sort leaves them
sorted : (d : Sorted) → d.sort.new.list ≡ sorted_places d.args.bytes.now d.args.ends.now
sorted d =
    d.sort.ensures ∙ ap (sort_by (place_before d.args.bytes.now d.args.ends.now)) (d.count_up.ensures ∙ ap numbers d.requires.numbers_len.1)

pub sort-requires : goal.sort-requires
sort-requires c =
    record {
      ends_value = c.requires.ends_value;
      list_value = rw (c.count_up.ensures, c.requires.numbers_len.1) (numbers_within c.args.bytes.now c.args.ends.now);
      list_in_bounds = omega (arith, c.count_up.auto.list, c.requires.numbers_len);
    }

pub write_strings-requires : goal.write_strings-requires
write_strings-requires c =
    let p = c.requires in
    record {
      ends_value = p.ends_value;
      places_value = sorted (goal.at.write_strings-requires c).After-sort;
      ends_len_bound = (p.ends_len_bound.0, omega (arith, c.sort.auto.spare, p.numbers_len.0));
      bytes_in_bounds = (p.ends_len_bound.1, p.ends_len_bound.2);
    }

pub returns : goal.returns
returns c =
    let e = c.write_strings.ensures in
    record {
      bytes_value = e.bytes_value;
      bytes = e.bytes;
      ends = e.ends;
      numbers = e.numbers;
      places = sorted (goal.at.returns c).After-sort;
    }
