-- Terms whose names and texts are numbered by two calls, and the dictionaries that these leave. Assumes nothing: these are definitions.
use Rattle.std.specs.Prelude.{◌≡◌, List}
use Rattle.calls.specs.Calls.{NotRefused}
use Rattle.dictionary_numberings.specs.NumberCall.{NumberInput, given_strings, number_call, bytes_left, ends_left}
use Rattle.sparql_strings.specs.Strings.{Dictionaries}
use Rattle.encodings.specs.Encodings.{StringTerm}
use Rattle.encodings.specs.Gathered.{names_in, texts_in}

-- a call is given the names of some terms and another the texts, and both are served
pub record NumbersTerms (xs : List StringTerm) (names texts : NumberInput) : Type 0 where
  pub names_given : given_strings names ≡ names_in xs
  pub texts_given : given_strings texts ≡ texts_in xs
  pub names_served : NotRefused number_call names
  pub texts_served : NotRefused number_call texts

abbrev pub dictionaries_left : NumberInput → NumberInput → Dictionaries
dictionaries_left names texts =
    record { name_bytes = bytes_left names; name_ends = ends_left names; text_bytes = bytes_left texts; text_ends = ends_left texts }
