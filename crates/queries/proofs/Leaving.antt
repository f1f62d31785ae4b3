-- A query that goes on, and what that says of the uncut run: where it stands, what it keeps, and what it leaves when it is stopped.
use Prim.Native.Nat.{ℕ, ◌+◌, ◌<◌}
use mathlib.Core.Path.{◌≡◌, sym, ◌∙◌, ap, subst⁻¹}
use mathlib.Core.Bool.{true, false}
use mathlib.Core.List.{List}
use lib.ListN.{length}
use Rattle.sequences.specs.Sequences.{over}
use Rattle.sequences.proofs.Booleans.{absurd_true}
use Rattle.tables.specs.Tables.{Tables}
use Rattle.plans.specs.Plans.{Plan, plan_of}
use Rattle.steps.specs.Steps.{after}
use Rattle.steps.specs.Saved.{saved_words}
use Rattle.turns.specs.Surveys.{Survey}
use Rattle.cuts.specs.Histories.{Phone, served_in, steps_in, done_in}
use Rattle.cuts.specs.Uncut.{EndsAt}
use Rattle.cuts.specs.Unsent.{StepForStep}
use Rattle.cuts.specs.Accepting.{Accepted}
use Rattle.cuts.proofs.Keeping.{Kept}
use Rattle.queries.specs.declared.Keeping.{Keeping}
use Rattle.queries.specs.declared.Went.{Went}
use Rattle.queries.specs.declared.Went.TheVariants.{On, Over, Stopped}
use Rattle.queries.specs.Stepping.{kept_of}
use Rattle.queries.specs.Playing.{Holds, Turns, StandsAfter, Finishes, Pauses, Cause, Stops}
use Rattle.queries.proofs.UnderWay.{UnderWay}
use Rattle.queries.proofs.Refusing.{at_first}
use Rattle.queries.proofs.Advancing as advancing

-- a query that goes on: under way, its saved words those of a state, and its turns made as the uncut run has them
pub record GoesAhead (keep : Keeping) (v : Survey) (plan : List ℕ) (first : Phone) (before : List ℕ) (quantum room count : ℕ)
    (state : List ℕ) (saved : ℕ) (kept : List ℕ) (used : ℕ) : Type 0 where
  pub under : UnderWay keep v plan first before count state saved kept used
  pub alive : ¬ (saved ≡ 0)
  pub made : Turns v.tables plan quantum room count (steps_in under.held.taken)

-- what one more turn comes to, by how the query goes on
abbrev pub Becomes : Keeping → Survey → List ℕ → Phone → List ℕ → ℕ → ℕ → ℕ → ℕ → List ℕ → List ℕ → Went → Type 0
Becomes keep v plan first before quantum most room count now left (On s words) = GoesAhead keep v plan first before quantum room (count + 1) now s left words
Becomes keep v plan first before quantum most room count now left (Over words) = Finishes keep v.tables plan quantum most room before left words
Becomes keep v plan first before quantum most room count now left (Stopped y) = Stops keep v.tables plan quantum most room before left y

module _ (keep : Keeping) (v : Survey) (plan : List ℕ) (a : Accepted v.tables plan) (first : Phone)
    (k : Kept v (plan_of plan) first) (before : List ℕ) where
  abbrev t : Tables
  t = v.tables

  abbrev q : Plan
  q = plan_of plan

  abbrev part : List ℕ → List ℕ
  part = kept_of keep q.ending

  module _ (count : ℕ) (state : List ℕ) (saved : ℕ) (kept : List ℕ) (used : ℕ)
      (u : UnderWay keep v plan first before count state saved kept used) where
    abbrev h : Phone
    h = u.held

    -- ---- what a query under way says of the uncut run
    uncut : StepForStep v q h
    uncut = advancing.held_uncut keep v plan a first k before count state saved kept used u

    all_taken : served_in h ≡ h.taken
    all_taken = advancing.all_taken keep v plan a first k before count state saved kept used u

    pub holds : Holds keep t plan (steps_in h.taken) before kept used
    holds =
        record {
          fits = u.fits;
          whole = u.list ∙ ap (λ l. over (part l) before) uncut.list;
          counted = u.words ∙ ap (λ l. length (part l)) uncut.list;
          room = u.room;
        }

    pub ends : done_in (served_in h) ≡ true → EndsAt t q (steps_in h.taken)
    ends d = (uncut.finished d u.taken).0

    pub stands : ¬ (saved ≡ 0) → (quantum room : ℕ) → Turns t plan quantum room count (steps_in h.taken)
        → StandsAfter v plan quantum room count state saved
    stands f quantum room made =
        let n = steps_in h.taken in
        let s : h.saved ≡ saved_words v.number (after t q n).state =
        uncut.state ∙ ap (λ l. saved_words v.number (after t q (steps_in l)).state) all_taken in
        record {
          steps = n;
          made = made;
          going = λ e. f (u.state_count ∙ ap length (s ∙ ap (saved_words v.number) e));
          state_words_fact = u.state_words_fact ∙ s;
          state_count = u.state_count ∙ ap length s;
        }

    pub pauses : ¬ (saved ≡ 0) → (quantum room : ℕ) → Turns t plan quantum room count (steps_in h.taken)
        → Pauses keep v plan quantum count room before state kept saved used
    unfolding stands steps_in
    pauses f quantum room made = record { stands = stands f quantum room made; list = holds }

    pub stops : (quantum most room : ℕ) → count < most → Turns t plan quantum room count (steps_in h.taken)
        → (left : List ℕ) (y : ℕ) → Cause keep t plan quantum room before (steps_in h.taken) y → left ≡ kept
        → Stops keep t plan quantum most room before left y
    stops quantum most room fewer made left y c e =
        record {
          count = count;
          allowed = fewer;
          steps = steps_in h.taken;
          made = made;
          cause = c;
          at_first = at_first keep t plan quantum room before count (steps_in h.taken) y made c;
          words = used;
          list = subst⁻¹ (λ l. Holds keep t plan (steps_in h.taken) before l used) e holds;
        }

    -- where done was not answered, the saved words are a state's
    pub not_over : done_in (served_in h) ≡ false → ¬ (saved ≡ 0)
    not_over d e = absurd_true (uncut.done.1 (uncut.end.0 (advancing.no_elements h.saved (sym u.state_count ∙ e)))) d
