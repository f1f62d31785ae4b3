-- The start of a query: what a served opening leaves is under way, with no turn made and no list taken; and where it stands later.
use Prim.Native.Nat.{ℕ}
use native.Mathlib.Omega.{arith}
use mathlib.Core.Path.{◌≡◌, refl, sym, ◌∙◌, ap, ap₂, subst⁻¹}
use mathlib.Core.Bool.{Bool, true, false, cond}
use mathlib.Core.List.{List, []}
use lib.ListN.{length, take}
use borrow.Author.Tests.{ltb-true, leb-true}
use Rattle.words.specs.declared.Written.{Written}
use Rattle.words.specs.declared.Written.TheVariants as written
use Rattle.words.specs.Words.{low_numbers}
use Rattle.words.specs.Answers.{words_in}
use Rattle.sequences.specs.Sequences.{over}
use Rattle.sequences.proofs.Buffers.{length_over}
use Rattle.plans.specs.Plans.{plan_of}
use Rattle.steps.specs.Steps.{Run, after}
use Rattle.steps.specs.Saved.{saved_words, least_state_words}
use Rattle.steps.proofs.Runs.{after_none}
use Rattle.turns.specs.Surveys.{Survey}
use Rattle.turns.specs.Opening.{open_of, Opens}
use Rattle.turns.proofs.Opening.{open_refusals, open_passed}
use Rattle.turns.proofs.Follows.{starts_run}
use Rattle.cuts.specs.Histories.{steps_in, done_in, history, fresh}
use Rattle.cuts.specs.Accepting.{Accepted}
use Rattle.cuts.proofs.Accepting.{opening_accepts}
use Rattle.cuts.proofs.Keeping.{Kept}
use Rattle.cuts.proofs.AnyCut.{fresh_keeps}
use Rattle.cuts.proofs.AnyCut.{nothing_fits}
use Rattle.queries.specs.declared.Keeping.{Keeping}
use Rattle.queries.specs.Stepping.{keeps, kept_of}
use Rattle.queries.specs.Playing.{none_made, StandsAfter, OpeningRefused, Started}
use Rattle.queries.proofs.UnderWay.{start_at, UnderWay}
use Rattle.queries.proofs.Leaving.{stands, not_over, GoesAhead}

none_of : (b : Bool) → cond {A = List ℕ} b [] [] ≡ []
none_of true = refl
none_of false = refl

module _ (v : Survey) (plan state : List ℕ) (saved : ℕ) (s : Started v plan state saved) where
  pub start_accepts : Accepted v.tables plan
  start_accepts = opening_accepts v plan s.lent s.opens

  same_start : start_at state saved ≡ fresh (open_of v plan s.lent)
  same_start = ap₂ start_at s.left s.counted

  pub start_keeps : Kept v (plan_of plan) (start_at state saved)
  start_keeps = subst⁻¹ (Kept v (plan_of plan)) same_start (fresh_keeps v plan start_accepts s.lent s.opens)

  starts : (keep : Keeping) (kept : List ℕ) → UnderWay keep v plan (start_at state saved) kept 0 state saved kept 0
  unfolding history steps_in
  starts keep kept =
      let r = starts_run v plan s.lent s.opens in
      let l = leb-true least_state_words (length s.lent) (open_passed v plan s.lent 7 s.opens) in
      let n = length_over (saved_words v.number (after v.tables (plan_of plan) 0).state) s.lent (omega (arith, r.room, r.buffer.counted)) in
      record {
        few = ltb-true v.number low_numbers (open_passed v plan s.lent 22 s.opens);
        events = [];
        premises = tt;
        held = start_at state saved;
        reached = refl;
        taken = refl;
        turns = refl;
        unsent = tt;
        state_words_fact = refl;
        state_count =
            s.counted
            ∙ r.buffer.counted
            ∙ ap length (sym r.buffer.front)
            ∙ sym (ap₂ (λ n l. length (take n l)) s.counted s.left);
        state_room_fact = omega (arith, l, n, ap length r.buffer.whole, ap length s.left);
        fits = nothing_fits (plan_of plan).ending (after v.tables (plan_of plan) 0) (ap (λ (r : Run). r.delivered) (after_none v.tables (plan_of plan)));
        list = sym (ap (λ l. over l kept) (nothing keep));
        words = sym (ap length (nothing keep));
        room = omega arith;
      }
    where
      nothing : (d : Keeping) → kept_of d (plan_of plan).ending [] ≡ []
      nothing d = none_of (keeps d (plan_of plan).ending)

  start_alive : (keep : Keeping) (kept : List ℕ) → ¬ (saved ≡ 0)
  unfolding done_in starts
  start_alive keep kept = not_over keep v plan start_accepts (start_at state saved) start_keeps kept 0 state saved kept 0 (starts keep kept) refl

  pub start_goes : (keep : Keeping) (kept : List ℕ) (quantum room : ℕ)
      → GoesAhead keep v plan (start_at state saved) kept quantum room 0 state saved kept 0
  unfolding steps_in starts
  start_goes keep kept quantum room = record { under = starts keep kept; alive = start_alive keep kept; made = none_made }

  -- where it stands, of what it leads to
  pub goes_stands : (keep : Keeping) (before : List ℕ) (quantum room count : ℕ) (now : List ℕ) (left : ℕ) (kept : List ℕ) (used : ℕ)
      → GoesAhead keep v plan (start_at state saved) before quantum room count now left kept used → StandsAfter v plan quantum room count now left
  goes_stands keep before quantum room count now left kept used g =
      stands keep v plan start_accepts (start_at state saved) start_keeps before count now left kept used g.under g.alive quantum room g.made

-- ---- from the calls' answers
module _ (v : Survey) (plan lent : List ℕ) (r : Written) (answer : r ≡ (open_of v plan lent).answer) where
  pub opens : (n : ℕ) → r ≡ written.Words n → Opens v plan lent
  opens n e x f = let z : ◌≡◌ {A = ℕ} 0 1 = cc in omega arith

  pub started : (state : List ℕ) → state ≡ (open_of v plan lent).buffers → (n : ℕ) → r ≡ written.Words n → Started v plan state n
  started state left n e = record { lent = lent; opens = opens n e; left = left; counted = ap words_in (sym e ∙ answer) }

  pub not_opened_lem : (state output kept : List ℕ) → state ≡ (open_of v plan lent).buffers → (x : ℕ) → r ≡ written.Refused x
      → OpeningRefused v plan (record { state = lent; output = output; kept = kept }) (record { state = state; output = output; kept = kept }) x
  not_opened_lem state output kept left x e =
      let f = sym answer ∙ e in
      let same = left ∙ ((open_refusals v plan lent).unchanged x f).buffers in
      record { refused = f; unchanged = ap (λ l. record { state = l; output = output; kept = kept }) same }
