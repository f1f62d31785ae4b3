-- The characters from a place on, by the one that stands there.
use Prim.Native.Nat.{ℕ, ◌+◌, ◌<◌}
use mathlib.Core.Path.{◌≡◌, sym, ◌∙◌, ap}
use mathlib.Core.List.{List, ◌∷◌}
use lib.ListN.{length, get_or, drop}
use Rattle.token_runs.proofs.Advancing.{points_next}

pub begun : (points : List ℕ) (at c : ℕ) → at < length points → c ≡ get_or points at 0 → drop at points ≡ c ∷ drop (at + 1) points
begun points at c h e = points_next points at h ∙ ap (λ d. d ∷ drop (at + 1) points) (sym e)
