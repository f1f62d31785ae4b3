-- The number that a visible row has in the view. Assumes nothing: these are definitions.
use Rattle.std.specs.Prelude.{ℕ, Bool, List, length}
use Rattle.sequences.specs.Sequences.{keep, numbers}
use Rattle.views.specs.Views.{visible}

-- how many numbers below `n` pass `f`
abbrev pub passed_before : (ℕ → Bool) → ℕ → ℕ
passed_before f n = length (keep f (numbers n))

-- how many visible rows come before `row`
abbrev pub new_number : List ℕ → List ℕ → ℕ → ℕ → ℕ
new_number rows grant membership row = passed_before (visible rows grant membership) row
