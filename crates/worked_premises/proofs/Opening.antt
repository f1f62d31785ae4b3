-- An opening that answers with words is served.
use Prim.Native.Nat.{ℕ}
use native.Mathlib.Omega.{arith}
use mathlib.Core.Path.{◌≡◌}
use mathlib.Core.List.{List}
use Rattle.words.specs.declared.Written.TheVariants.{Words}
use Rattle.turns.specs.Surveys.{Survey}
use Rattle.turns.specs.Opening.{open_of, Opens}

pub opens_by : (v : Survey) (plan state : List ℕ) (n : ℕ) → (open_of v plan state).answer ≡ Words n → Opens v plan state
opens_by v plan state n e x r = let z : ◌≡◌ {A = ℕ} 0 1 = cc in omega arith
