-- The worked cases hold, by computation.
use mathlib.Core.Path.{refl}
use Rattle.call_numbers.specs.Cases.{NumbersWorked}

pub numbers_worked : NumbersWorked
numbers_worked =
    record {
      endings = refl;
      writing = refl;
      turning = refl;
      making = refl;
      writing_tables = refl;
      queueing = refl;
      serving = refl;
      kinds = refl;
      numbering = refl;
      finding = refl;
      lending = refl;
    }
