-- The positions of a history's turns are fixed: the uncut run is at no state twice, so the words that a turn leaves tell where it is.
use Prim.Native.Nat.{ℕ, ◌<◌}
use mathlib.Core.Path.{◌≡◌, refl, sym, ◌∙◌, ap, subst}
use mathlib.Core.Option.{Option, none, some}
use mathlib.Core.List.{List, [], ◌∷◌}
use Rattle.sequences.proofs.Orders.{less, same, more, three}
use Rattle.tables.specs.Tables.{Tables}
use Rattle.plans.specs.Plans.{Plan, plan_of}
use Rattle.steps.specs.Steps.{State, after}
use Rattle.steps.specs.Saved.{saved_words, position_words, state_in}
use Rattle.steps.proofs.AcceptedStates.{loads_back}
use Rattle.steps.proofs.Ends.{states_distinct}
use Rattle.turns.specs.Surveys.{Survey}
use Rattle.cuts.specs.Histories.{ServedTurn, Phone}
use Rattle.cuts.specs.Uncut.{Placed, AsUncut}
use Rattle.cuts.specs.Accepting.{Accepted}

module _ (v : Survey) (plan : List ℕ) (a : Accepted v.tables plan) where
  abbrev t : Tables
  t = v.tables

  abbrev q : Plan
  q = plan_of plan

  -- `n` steps are not past the run's end
  abbrev Going : ℕ → Type 0
  Going n = (m : ℕ) → m < n → (after t q m).state ≡ none → ⊥

  -- the words of a state, or none at the end, are those of one position
  position_once : (m n : ℕ) → Going m → Going n → saved_words v.number (after t q m).state ≡ saved_words v.number (after t q n).state
      → m ≡ n
  unfolding position_words
  position_once m n f g w = go (after t q m).state refl (after t q n).state refl w
    where
      go : (o : Option State) → (after t q m).state ≡ o → (p : Option State) → (after t q n).state ≡ p
          → saved_words v.number o ≡ saved_words v.number p → m ≡ n
      go none d none e h = elim (three m n) [ less l ↦ absurd (g m l d) | same z ↦ z | more l ↦ absurd (f n l e) ]
      go none d (some u) e h = cc
      go (some s) d none e h = cc
      go (some s) d (some u) e h =
          let z : s ≡ u =
          sym (loads_back t plan q a.tables a.read v.number m s d)
          ∙ ap state_in h
          ∙ loads_back t plan q a.tables a.read v.number n u e in
          states_distinct t plan q a.tables a.read m n u (d ∙ ap some z) e

  pub placed_once : (from m n : ℕ) (xs : List ServedTurn) → Placed v q from xs m → Placed v q from xs n → m ≡ n
  placed_once from m n [] p r = sym p ∙ r
  placed_once from m n (x ∷ xs) p r =
      let z = position_once p.0 r.0 p.1.0.going r.1.0.going (sym p.1.0.left ∙ r.1.0.left) in
      placed_once r.0 m n xs (subst (λ d. Placed v q d xs m) z p.1.1) r.1.1

  -- a history is as the uncut run in one way
  pub positions_once : (h : Phone) (j k : AsUncut v q h) → (j.upto ≡ k.upto) × (j.reached ≡ k.reached)
  positions_once h j k =
      let z = placed_once 0 j.upto k.upto h.taken j.taken k.taken in
      (z, placed_once k.upto j.reached k.reached h.waiting (subst (λ d. Placed v q d h.waiting j.reached) z j.waiting) k.waiting)
