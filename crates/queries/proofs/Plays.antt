-- The rounds of an opened query follow the uncut run, and so does a whole play.
use Prim.Native.Nat.{ℕ, zero, suc, ◌+◌}
use native.Mathlib.Omega.{arith}
use mathlib.Core.Path.{◌≡◌, refl, ◌∙◌, ap, subst, subst⁻¹}
use mathlib.Core.Logic.{◌↔◌}
use mathlib.Core.List.{List}
use lib.ListN.{length}
use Rattle.words.specs.declared.Written.{Written}
use Rattle.words.specs.declared.Written.TheVariants as written
use Rattle.tables.specs.Tables.{Tables}
use Rattle.turns.specs.Surveys.{Survey}
use Rattle.turns.specs.Opening.{open_of, Opens}
use Rattle.queries.specs.declared.Keeping.{Keeping}
use Rattle.queries.specs.declared.Played.{Played}
use Rattle.queries.specs.declared.Played.TheVariants as played
use Rattle.queries.specs.declared.Went.{Went}
use Rattle.queries.specs.declared.Went.TheVariants.{On, Over, Stopped}
use Rattle.queries.specs.Stepping.{take_turn_of}
use Rattle.queries.specs.Rounds.{Lent, QueryStanding, PlayResult, standing_of, round_input, rounds, play_answer, result_at, first_position, played_as}
use Rattle.queries.specs.Rounds.{after_opening, play_of}
use Rattle.queries.specs.Playing.{StandsAfter, Finishes, Stops, Leaves, Plays, PlayRefusals, Started}
use Rattle.queries.proofs.UnderWay.{start_at}
use Rattle.queries.proofs.Taking.{same_room}
use Rattle.queries.proofs.Rounds.{rounds_none, rounds_on, rounds_over, rounds_stopped}
use Rattle.queries.proofs.Leaving.{GoesAhead, Becomes, pauses}
use Rattle.queries.proofs.Becoming.{becomes}
use Rattle.queries.proofs.Starting.{start_accepts, start_keeps, start_goes, goes_stands, opens, started, not_opened_lem}

module _ (keep : Keeping) (v : Survey) (plan state : List ℕ) (saved : ℕ) (s : Started v plan state saved) (output kept : List ℕ) (quantum : ℕ) where
  abbrev t : Tables
  t = v.tables

  abbrev start : QueryStanding
  start = first_position saved (record { state = state; output = output; kept = kept })

  abbrev at : ℕ → QueryStanding
  at n = rounds keep v plan quantum n start

  abbrev room : ℕ
  room = length output

  -- ---- where `n` rounds lead
  abbrev pub Led : ℕ → Went → Lent → Type 0
  Led n (On left used) l =
      GoesAhead keep v plan (start_at state saved) kept quantum room n l.state left l.kept used × (length l.output ≡ room)
  Led n (Over words) l = Finishes keep t plan quantum n room kept l.kept words
  Led n (Stopped x) l = Stops keep t plan quantum n room kept l.kept x

  abbrev LedTo : ℕ → QueryStanding → Type 0
  LedTo n p = Led n p.went p.held

  by_went : (n : ℕ) (w : Went) (l : Lent) → Becomes keep v plan (start_at state saved) kept quantum (n + 1) room n l.state l.kept w
      → length l.output ≡ room → Led (n + 1) w l
  by_went n (On left used) l b e = (b, e)
  by_went n (Over words) l b e = b
  by_went n (Stopped x) l b e = b

  -- one turn more, with an output as long as the first one
  turned : (n left used : ℕ) (l : Lent) → Led n (On left used) l
      → LedTo (n + 1) (standing_of (take_turn_of keep (round_input v plan quantum left l) l.kept used))
  turned n left used l g =
      let first = start_at state saved in
      let p = standing_of (take_turn_of keep (round_input v plan quantum left l) l.kept used) in
      let going = subst⁻¹ (λ r. GoesAhead keep v plan first kept quantum r n l.state left l.kept used) g.1 g.0 in
      let b = becomes keep v plan (start_accepts v plan state saved s) first (start_keeps v plan state saved s) kept quantum (n + 1) n (omega arith)
      l.output l.state left l.kept used going in
      by_went n p.went p.held (subst (λ r. Becomes keep v plan first kept quantum (n + 1) r n p.held.state p.held.kept p.went) g.1 b)
      (same_room keep (round_input v plan quantum left l) l.kept used ∙ g.1)

  -- a query that is over or stopped within `n` turns is so within one more
  later : (n : ℕ) (w : Went) (l : Lent) → at n ≡ record { went = w; held = l } → Led n w l → LedTo (n + 1) (at (n + 1))
  later n (On left used) l e g = subst⁻¹ (LedTo (n + 1)) (rounds_on keep v plan quantum start n left used l e) (turned n left used l g)
  later n (Over words) l e f =
      subst⁻¹ (LedTo (n + 1)) (rounds_over keep v plan quantum start n (n + 1) (omega arith) words l e)
      (record {
        count = f.count;
        allowed = omega (arith, f.allowed);
        steps = f.steps;
        made = f.made;
        ends = f.ends;
        list = f.list;
      })
  later n (Stopped x) l e f =
      subst⁻¹ (LedTo (n + 1)) (rounds_stopped keep v plan quantum start n (n + 1) (omega arith) x l e)
      (record {
        count = f.count;
        allowed = omega (arith, f.allowed);
        steps = f.steps;
        made = f.made;
        cause = f.cause;
        at_first = f.at_first;
        words = f.words;
        list = f.list;
      })

  pub led : (n : ℕ) → Led n (at n).went (at n).held
  led zero =
      subst⁻¹ (LedTo 0) (rounds_none keep v plan quantum start) (start_goes v plan state saved s keep kept quantum room, refl)
  led (suc n) =
      let d : n + 1 ≡ suc n = omega arith in
      subst (λ k. LedTo k (at k)) d (later n (at n).went (at n).held refl (led n))

  -- a query that goes on stands where the uncut run does, and its output is as long as the first one
  pub stands_at : (n left used : ℕ) (l : Lent) → at n ≡ record { went = On left used; held = l }
      → StandsAfter v plan quantum room n l.state left × (length l.output ≡ room)
  stands_at n left used l e =
      let g : Led n (On left used) l = subst (LedTo n) e (led n) in
      (goes_stands v plan state saved s keep kept quantum room n l.state left l.kept used g.0, g.1)

  -- ---- what they leave
  by_end : (n : ℕ) (w : Went) (l : Lent) → Led n w l → Leaves keep v plan quantum n room kept l.state l.kept (play_answer w)
  by_end n (On left used) l g =
      pauses keep v plan (start_accepts v plan state saved s) (start_at state saved) (start_keeps v plan state saved s) kept n l.state left l.kept used
      g.0.under g.0.alive quantum room g.0.made
  by_end n (Over words) l f = f
  by_end n (Stopped x) l f = f

  leaves : (n : ℕ) → Leaves keep v plan quantum n room kept (at n).held.state (at n).held.kept (play_answer (at n).went)
  leaves n = by_end n (at n).went (at n).held (led n)

  pub leaves_by : (n : ℕ) (r : Played) (l : Lent) → record { answer = r; held = l } ≡ result_at (at n)
      → Leaves keep v plan quantum n room kept l.state l.kept r
  leaves_by n r l e = subst⁻¹ (λ (x : PlayResult). Leaves keep v plan quantum n room kept x.held.state x.held.kept x.answer) e (leaves n)

-- ---- a whole play
module _ (keep : Keeping) (v : Survey) (plan : List ℕ) (quantum most : ℕ) (lent : Lent) where
  abbrev PlaysTo : PlayResult → Type 0
  PlaysTo r = Plays keep v plan quantum most lent r.held r.answer

  by_answer : (w : Written) → w ≡ (open_of v plan lent.state).answer → PlaysTo (played_as keep v plan quantum most w (after_opening v plan lent))
  by_answer (written.Refused x) e = not_opened_lem v plan lent.state (written.Refused x) e _ lent.output lent.kept refl x refl
  by_answer (written.Words n) e =
      let o = opens v plan lent.state (written.Words n) e n refl in
      let s = started v plan lent.state (written.Words n) e _ refl n refl in
      let p = rounds keep v plan quantum most (first_position n (after_opening v plan lent)) in
      by_leaving o p.went p.held (leaves_by keep v plan _ n s lent.output lent.kept quantum most _ _ refl)
    where
      by_leaving : Opens v plan lent.state → (w : Went) (l : Lent)
          → Leaves keep v plan quantum most (length lent.output) lent.kept l.state l.kept (play_answer w)
          → Plays keep v plan quantum most lent l (play_answer w)
      by_leaving o (On left used) l f = (o, f)
      by_leaving o (Over words) l f = (o, f)
      by_leaving o (Stopped x) l f = (o, f)

  pub plays : Plays keep v plan quantum most lent (play_of keep v plan quantum most lent).held (play_of keep v plan quantum most lent).answer
  unfolding play_of
  plays = by_answer (open_of v plan lent.state).answer refl

  -- ---- what it refuses
  -- rounds are not refused
  no_refusal : (w : Went) (x : ℕ) → play_answer w ≡ played.Refused x → ⊥
  no_refusal (On left used) x e = let z : ◌≡◌ {A = ℕ} 0 1 = cc in omega arith
  no_refusal (Over words) x e = let z : ◌≡◌ {A = ℕ} 0 1 = cc in omega arith
  no_refusal (Stopped y) x e = let z : ◌≡◌ {A = ℕ} 0 1 = cc in omega arith

  refused_at : (w : Written) (x : ℕ) → (played_as keep v plan quantum most w (after_opening v plan lent)).answer ≡ played.Refused x
      → w ≡ written.Refused x
  refused_at (written.Words n) x e =
      absurd (no_refusal (rounds keep v plan quantum most (first_position n (after_opening v plan lent))).went x e)
  refused_at (written.Refused y) x e = let d : y ≡ x = cc in ap written.Refused d

  refused_as : (x : ℕ) → ((play_of keep v plan quantum most lent).answer ≡ played.Refused x) ↔ ((open_of v plan lent.state).answer ≡ written.Refused x)
  unfolding play_of
  refused_as x = (
    refused_at (open_of v plan lent.state).answer x,
    ap (λ w. (played_as keep v plan quantum most w (after_opening v plan lent)).answer),
  )

  pub play_refusals : PlayRefusals keep v plan quantum most lent
  play_refusals =
      record {
        number = refused_as;
        unchanged = λ x e. (subst (Plays keep v plan quantum most lent (play_of keep v plan quantum most lent).held) e plays).unchanged;
      }
