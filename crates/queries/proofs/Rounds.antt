-- Rounds of a play: none, one more, and a query that is over or stopped, which stays so; and a play from what its opening answers.
use Prim.Native.Nat.{ℕ, zero, suc, ◌+◌, ◌-◌, ◌≤◌}
use native.Mathlib.Omega.{arith}
use mathlib.Core.Path.{◌≡◌, refl, sym, ◌∙◌, ap, ap₂}
use mathlib.Core.Bool.{false}
use mathlib.Core.List.{List}
use Rattle.words.specs.declared.Written.{Written}
use Rattle.words.specs.declared.Written.TheVariants as written
use Rattle.sequences.specs.Sequences.{iterate}
use Rattle.sequences.proofs.Iterating.{iterate_add, iterate_fixed}
use Rattle.plans.specs.Plans.{plan_of}
use Rattle.turns.specs.Surveys.{Survey}
use Rattle.turns.specs.Opening.{open_of}
use Rattle.turns.specs.Turns.{TurnInput, given_plan}
use Rattle.queries.specs.declared.Keeping.{Keeping}
use Rattle.queries.specs.declared.Keeping.TheVariants.{All, Merged}
use Rattle.queries.specs.declared.Played.TheVariants.{Refused}
use Rattle.queries.specs.declared.Step.{Step}
use Rattle.queries.specs.declared.Went.{Went}
use Rattle.queries.specs.declared.Went.TheVariants.{On, Over, Stopped}
use Rattle.lists.specs.Gathering.{is_rows}
use Rattle.queries.specs.Stepping.{Stepped, take_turn_of, went_of}
use Rattle.queries.specs.Rounds.{Lent, QueryStanding, standing_of, round_input, round_as, round, rounds}
use Rattle.queries.specs.Rounds.{PlayResult, result_at, first_position, played_as, play_of}

-- a step's answer and buffers, as a position
pub advanced_by : (s : Step) (state out kept : List ℕ) (z : Stepped) → record { answer = s; state = state; output = out; kept = kept } ≡ z
    → (w : Went) → w ≡ went_of s → record { went = w; held = record { state = state; output = out; kept = kept } } ≡ standing_of z
advanced_by s state out kept z e w f =
    ap (λ v. record { went = v; held = record { state = state; output = out; kept = kept } }) f ∙ ap standing_of e

module _ (keep : Keeping) (v : Survey) (plan : List ℕ) (quantum : ℕ) (p : QueryStanding) where
  abbrev at : ℕ → QueryStanding
  at n = rounds keep v plan quantum n p

  pub rounds_none : at 0 ≡ p
  unfolding rounds iterate
  rounds_none = refl

  rounds_more : (n : ℕ) → at (n + 1) ≡ round keep v plan quantum (at n)
  unfolding rounds iterate
  rounds_more n = iterate_add (round keep v plan quantum) n 1 p

  -- a query that goes on makes one turn more
  module _ (n saved used : ℕ) (l : Lent) (e : at n ≡ record { went = On saved used; held = l }) where
    pub rounds_on : at (n + 1) ≡ standing_of (take_turn_of keep (round_input v plan quantum saved l) l.kept used)
    unfolding round
    rounds_on = rounds_more n ∙ ap (round keep v plan quantum) e

    -- by what it answers and leaves
    pub rounds_next : (w : Went) (m : Lent) → record { went = w; held = m }
        ≡ standing_of (take_turn_of keep (round_input v plan quantum saved l) l.kept used)
        → (v : Went) → w ≡ v → at (n + 1) ≡ record { went = v; held = m }
    rounds_next w m f v g = rounds_on ∙ sym f ∙ ap (λ u. record { went = u; held = m }) g

  -- all turns are made
  pub rounds_made : (n most : ℕ) → n ≡ most → (q : QueryStanding) → at n ≡ q → at most ≡ q
  rounds_made n most d q e = ap at (sym d) ∙ e

  -- one that makes no more turns stays as it is
  rounds_stay : (n most : ℕ) → n ≤ most → (q : QueryStanding) → at n ≡ q → round keep v plan quantum q ≡ q → at most ≡ q
  unfolding rounds
  rounds_stay n most l q e f =
      let d : most ≡ n + (most - n) = omega arith in
      ap at d
      ∙ iterate_add (round keep v plan quantum) n (most - n) p
      ∙ ap (iterate (round keep v plan quantum) (most - n)) e
      ∙ iterate_fixed (round keep v plan quantum) (most - n) q f

  pub rounds_over : (n most : ℕ) → n ≤ most → (words : ℕ) (l : Lent) → at n ≡ record { went = Over words; held = l }
      → at most ≡ record { went = Over words; held = l }
  unfolding round
  rounds_over n most f words l e = rounds_stay n most f (record { went = Over words; held = l }) e refl

  pub rounds_stopped : (n most : ℕ) → n ≤ most → (x : ℕ) (l : Lent) → at n ≡ record { went = Stopped x; held = l }
      → at most ≡ record { went = Stopped x; held = l }
  unfolding round
  rounds_stopped n most f x l e = rounds_stay n most f (record { went = Stopped x; held = l }) e refl

-- ---- a play, from what its opening answers and leaves
module _ (keep : Keeping) (v : Survey) (plan : List ℕ) (quantum most : ℕ) (lent : Lent) (w : Written) (state : List ℕ)
    (answer : w ≡ (open_of v plan lent.state).answer) (left : state ≡ (open_of v plan lent.state).buffers) where
  abbrev opened : Lent
  opened = record { state = state; output = lent.output; kept = lent.kept }

  played_as_lem : (x : Written) → w ≡ x → played_as keep v plan quantum most x opened ≡ play_of keep v plan quantum most lent
  unfolding play_of
  played_as_lem x e =
      ap₂ (λ z s. played_as keep v plan quantum most z (record { state = s; output = lent.output; kept = lent.kept })) (sym e ∙ answer) left

  pub play_refused : (x : ℕ) → w ≡ written.Refused x → record { answer = Refused x; held = opened } ≡ play_of keep v plan quantum most lent
  play_refused x e = played_as_lem (written.Refused x) e

  pub play_opened : (n : ℕ) → w ≡ written.Words n → (r : PlayResult) → r ≡ result_at (rounds keep v plan quantum most (first_position n opened))
      → r ≡ play_of keep v plan quantum most lent
  play_opened n e r f = f ∙ played_as_lem (written.Words n) e

-- ---- a query whose lists are merged is played alike, whichever lists are kept
same_turn : (i : TurnInput) (kept : List ℕ) (used : ℕ) → is_rows (given_plan i).ending ≡ false
    → take_turn_of All i kept used ≡ take_turn_of Merged i kept used
unfolding take_turn_of
same_turn i kept used h = rw h

iterate_same : (f g : QueryStanding → QueryStanding) → ((p : QueryStanding) → f p ≡ g p) → (n : ℕ) (p : QueryStanding)
    → iterate f n p ≡ iterate g n p
unfolding iterate
iterate_same f g h zero p = refl
iterate_same f g h (suc n) p = h (iterate f n p) ∙ ap g (iterate_same f g h n p)

module _ (v : Survey) (plan : List ℕ) (quantum : ℕ) (h : is_rows (plan_of plan).ending ≡ false) where
  round_as_lem : (w : Went) (l : Lent) → round_as All v plan quantum w l ≡ round_as Merged v plan quantum w l
  round_as_lem (On saved used) l = ap standing_of (same_turn (round_input v plan quantum saved l) l.kept used h)
  round_as_lem (Over words) l = refl
  round_as_lem (Stopped x) l = refl

  same_round : (p : QueryStanding) → round All v plan quantum p ≡ round Merged v plan quantum p
  unfolding round
  same_round p = round_as_lem p.went p.held

  pub same_rounds : (most : ℕ) (p : QueryStanding) → rounds All v plan quantum most p ≡ rounds Merged v plan quantum most p
  unfolding rounds
  same_rounds most p = iterate_same (round All v plan quantum) (round Merged v plan quantum) same_round most p
