-- A list of groups that is closed: as it was with a variable or with words, else the words of the record of no rows.
use Prim.Native.Nat.{ℕ, ◌≤◌}
use native.Mathlib.Omega.{arith}
use mathlib.Core.Path.{◌≡◌, refl, sym, ◌∙◌, ap, subst, subst⁻¹}
use mathlib.Core.List.{List, [], ◌∷◌, ◌++◌}
use lib.ListN.{length, take, drop, take-append-drop}
use lib.Seq.{length-take-le}
use Rattle.sequences.specs.Sequences.{over}
use Rattle.plans.specs.Endings.{group}
use Rattle.lists.specs.Groups.{of_nothing, totals_width, group_words}
use Rattle.lists.specs.Closing.{or_nothing, closed}
use Rattle.lists.specs.Putting.{Listed}
use Rattle.list_group_totals.specs.GroupTotals.{totals_of, totals_words}

-- the first words of a buffer, over them, leave it as it was
pub over_own : (out : List ℕ) (used : ℕ) → used ≤ length out → over (take used out) out ≡ out
over_own out used h = ap (λ n. take used out ++ drop n out) (length-take-le used out h) ∙ take-append-drop used out

pub listed_own : (out : List ℕ) (used : ℕ) → used ≤ length out → Listed (take used out) out out used
listed_own out used h = (sym (length-take-le used out h), sym (over_own out used h))

-- with a variable the list is as it was
pub closed_keyed : (vs out : List ℕ) (used m : ℕ) → (length vs ≡ 0 → ⊥) → used ≤ length out
    → Listed (closed (group vs m) (take used out)) out out used
unfolding closed
closed_keyed [] out used m n h = absurd (n refl)
closed_keyed (v ∷ vs) out used m n h = listed_own out used h

-- and so it is with some words
pub closed_some : (vs out : List ℕ) (used m : ℕ) → length vs ≡ 0 → (used ≡ 0 → ⊥) → used ≤ length out
    → Listed (closed (group vs m) (take used out)) out out used
unfolding closed
closed_some (v ∷ vs) out used m z n h = absurd (omega arith)
closed_some [] out used m z n h = go (take used out) refl
  where
    go : (l : List ℕ) → take used out ≡ l → Listed (or_nothing (take used out)) out out used
    go [] e = absurd (n (let k = length-take-le used out h in omega (arith, ap length e)))
    go (w ∷ ws) e =
        subst⁻¹ (λ l. Listed (or_nothing l) out out used) e
        (subst (λ l. Listed l out out used) e (listed_own out used h))

-- else it is the record of no rows
pub closed_none : (vs out : List ℕ) (used m : ℕ) (after ws : List ℕ) → length vs ≡ 0 → used ≡ 0 → ws ≡ totals_words (totals_of of_nothing)
    → after ≡ ws ++ drop totals_width out → Listed (closed (group vs m) (take used out)) out after totals_width
unfolding closed group_words
closed_none (v ∷ vs) out used m after ws z e p q = absurd (omega arith)
closed_none [] out used m after ws z e p q = rw (e, q, p) (refl, refl)
