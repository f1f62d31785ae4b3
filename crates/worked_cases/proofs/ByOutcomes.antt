-- A table holds where what its calls give is what it says: so one computation proves a table of any length.
use mathlib.Core.Path.{◌≡◌, ap}
use mathlib.Core.List.{List, [], ◌∷◌, map, tail}
use Rattle.worked_cases.specs.Calls.{Result, result_for, Case, Hold, all, ◌&◌}

abbrev pub outcomes : List Case → List Result
outcomes cs = map (λ (c : Case). result_for c.0) cs

abbrev pub claims : List Case → List Result
claims cs = map (λ (c : Case). c.1) cs

abbrev first_or : Result → List Result → Result
first_or r [] = r
first_or r (x ∷ xs) = x

pub by_outcomes : (cs : List Case) → outcomes cs ≡ claims cs → Hold cs
by_outcomes [] e = all
by_outcomes (c ∷ cs) e = ap (first_or c.1) e & by_outcomes cs (ap tail e)
