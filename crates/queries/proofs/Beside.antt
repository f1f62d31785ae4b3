-- A row query makes the same turns, whether its rows are kept or left: only a kept buffer without room ends it sooner.
use Prim.Native.Nat.{ℕ, zero, suc, ◌+◌}
use native.Mathlib.Omega.{arith}
use mathlib.Core.Path.{◌≡◌, refl, subst, subst⁻¹}
use mathlib.Core.Logic.{◌⊎◌, inl, inr}
use mathlib.Core.Bool.{Bool, true, false}
use mathlib.Core.List.{List}
use lib.Dec.{leb}
use lib.ListN.{length}
use Rattle.plans.specs.Plans.{plan_of}
use Rattle.turns.specs.Surveys.{Survey}
use Rattle.turns.specs.declared.TurnEnding.{TurnEnding}
use Rattle.turns.specs.declared.TurnEnding.TheVariants as ending
use Rattle.turns.specs.Turns.{TurnInput, given_plan, turn_of}
use Rattle.queries.specs.declared.Keeping.TheVariants.{All, Merged}
use Rattle.queries.specs.declared.Went.{Went}
use Rattle.queries.specs.declared.Went.TheVariants.{On, Over, Stopped}
use Rattle.lists.specs.Gathering.{is_rows}
use Rattle.queries.specs.Stepping.{output_list, take_turn_of}
use Rattle.queries.specs.Rounds.{Lent, QueryStanding, standing_of, round_input, rounds, first_position}
use Rattle.queries.proofs.Rounds.{rounds_none, rounds_on, rounds_over, rounds_stopped}

-- the same state and output, and a kept buffer as it was first
abbrev leaving : List ℕ → Lent → Lent
leaving first l = record { state = l.state; output = l.output; kept = first }

-- beside a position with its rows kept, one with none kept: it goes on, is over or is stopped alike, unless 14 stopped the first
abbrev BesideAs : List ℕ → Went → Lent → QueryStanding → Type 0
BesideAs first (On saved used) l q = q ≡ record { went = On saved 0; held = leaving first l }
BesideAs first (Over words) l q = q ≡ record { went = Over 0; held = leaving first l }
BesideAs first (Stopped x) l q = (x ≡ 14) ⊎ (q ≡ record { went = Stopped x; held = leaving first l })

abbrev pub Beside : List ℕ → QueryStanding → QueryStanding → Type 0
Beside first p q = BesideAs first p.went p.held q

-- one turn more
module _ (i : TurnInput) (kept : List ℕ) (used : ℕ) (first : List ℕ) (h : is_rows (given_plan i).ending ≡ true) where
  abbrev Alike : Type 0
  Alike = Beside first (standing_of (take_turn_of All i kept used)) (standing_of (take_turn_of Merged i first 0))

  by_room : (x : TurnEnding) → (turn_of i).answer.ending ≡ x → (b : Bool) → leb (used + length (output_list (turn_of i))) (length kept) ≡ b → Alike
  unfolding take_turn_of
  by_room ending.Done e true f = rw (e, h, f) refl
  by_room ending.Spent e true f = rw (e, h, f) refl
  by_room ending.Full e true f = rw (e, h, f) refl
  by_room ending.Done e false f = rw (e, h, f) (inl refl)
  by_room ending.Spent e false f = rw (e, h, f) (inl refl)
  by_room ending.Full e false f = rw (e, h, f) (inl refl)
  by_room (ending.Refused y) e b f = rw e (inr refl)

  turn_beside : Alike
  turn_beside = by_room (turn_of i).answer.ending refl (leb (used + length (output_list (turn_of i))) (length kept)) refl

module _ (v : Survey) (plan : List ℕ) (quantum : ℕ) (h : is_rows (plan_of plan).ending ≡ true) (opened : ℕ) (lent : Lent) where
  abbrev kept_at : ℕ → QueryStanding
  kept_at n = rounds All v plan quantum n (first_position opened lent)

  abbrev left_at : ℕ → QueryStanding
  left_at n = rounds Merged v plan quantum n (first_position opened lent)

  abbrev first : List ℕ
  first = lent.kept

  later : (n : ℕ) (w : Went) (l : Lent) → kept_at n ≡ record { went = w; held = l } → BesideAs first w l (left_at n)
      → Beside first (kept_at (n + 1)) (left_at (n + 1))
  later n (On saved used) l e b =
      let p = rounds_on All v plan quantum (first_position opened lent) n saved used l e in
      let q = rounds_on Merged v plan quantum (first_position opened lent) n saved 0 (leaving first l) b in
      subst⁻¹ (λ x. Beside first x (left_at (n + 1))) p
      (subst⁻¹ (Beside first (standing_of (take_turn_of All (round_input v plan quantum saved l) l.kept used))) q
      (turn_beside (round_input v plan quantum saved l) l.kept used first h))
  later n (Over words) l e b =
      subst⁻¹ (λ x. Beside first x (left_at (n + 1))) (rounds_over All v plan quantum (first_position opened lent) n (n + 1) (omega arith) words l e)
      (rounds_over Merged v plan quantum (first_position opened lent) n (n + 1) (omega arith) 0 (leaving first l) b)
  later n (Stopped x) l e b =
      subst⁻¹ (λ y. Beside first y (left_at (n + 1))) (rounds_stopped All v plan quantum (first_position opened lent) n (n + 1) (omega arith) x l e)
      (elim b [
        | inl y ↦ inl y
        | inr y ↦ inr (rounds_stopped Merged v plan quantum (first_position opened lent) n (n + 1) (omega arith) x (leaving first l) y)
      ])

  pub rows_beside : (n : ℕ) → Beside first (kept_at n) (left_at n)
  rows_beside zero =
      subst⁻¹ (λ x. Beside first x (left_at 0)) (rounds_none All v plan quantum (first_position opened lent))
      (rounds_none Merged v plan quantum (first_position opened lent))
  rows_beside (suc n) =
      let d : n + 1 ≡ suc n = omega arith in
      subst (λ k. Beside first (kept_at k) (left_at k)) d (later n (kept_at n).went (kept_at n).held refl (rows_beside n))
