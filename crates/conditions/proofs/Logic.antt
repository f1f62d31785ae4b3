-- The table of and, in Kleene's three-valued logic: its sides may change places.
use mathlib.Core.Path.{◌≡◌, refl}
use Rattle.conditions.specs.declared.Truth.{Truth}
use Rattle.conditions.specs.declared.Truth.TheVariants.{True, False, Error}
use Rattle.conditions.specs.Truth.{conjunction}

pub and_commutes : (a b : Truth) → conjunction a b ≡ conjunction b a
and_commutes True True = refl
and_commutes True False = refl
and_commutes True Error = refl
and_commutes False True = refl
and_commutes False False = refl
and_commutes False Error = refl
and_commutes Error True = refl
and_commutes Error False = refl
and_commutes Error Error = refl
