-- Earlier finished queries deliver as they did.
use Prim.Native.Nat.{ℕ}
use mathlib.Core.Path.{◌≡◌, refl, sym, ◌∙◌, ap}
use mathlib.Core.Bool.{true}
use mathlib.Core.List.{List, []}
use Rattle.sequences.proofs.Booleans.{absurd_true}
use Rattle.plans.specs.Plans.{Plan, plan_of}
use Rattle.tables.specs.Tables.{Tables}
use Rattle.steps.specs.Steps.{Run, after}
use Rattle.lists.specs.Closing.{closed, list_at}
use Rattle.turns.specs.Surveys.{Survey}
use Rattle.turns.specs.Turns.{is_over}
use Rattle.turns.specs.Opening.{open_of, Opens}
use Rattle.cuts.specs.Histories.{Event, history, fresh}
use Rattle.cuts.specs.Premises.{Premises}
use Rattle.cuts.specs.Accepting.{Accepted}
use Rattle.cuts.specs.Uncut.{AsUncut, run_list, run_fits, NotTaken, totals_pass, no_room}
use Rattle.cuts.proofs.Accepting.{opening_accepts, accepted_form}
use Rattle.cuts.proofs.AnyCut.{any_cut}
use Rattle.cuts.proofs.KeptFits.{refused_by_13_or_14}
use Rattle.former.specs.Runs.{former_after, FormerQuery}
use Rattle.former.specs.Lists.{former_gathered, former_fits}
use Rattle.former.specs.Finished.{former_run_list, NoneTooLarge, AsEarlier}
use Rattle.former.proofs.Runs.{run_as_before, rows_were}
use Rattle.former.proofs.Lists.{totals_as_before, gathered_as_before}

module _ (t : Tables) (plan : List ℕ) (a : Accepted t plan) (was : FormerQuery t (plan_of plan)) where
  abbrev q : Plan
  q = plan_of plan

  same_run : (n : ℕ) → former_after t q n ≡ after t q n
  same_run = run_as_before t q a.tables was

  run_fits_lem : (n : ℕ) → run_fits q.ending (after t q n) ≡ former_fits q.ending (former_after t q n).delivered
  run_fits_lem n =
      totals_as_before (after t q n).delivered (rows_were t q a.tables was n) q.ending (accepted_form t plan a).ending
      ∙ ap (λ (r : Run). former_fits q.ending r.delivered) (sym (same_run n))

  -- what refuses a merge where the sums fit
  pub room_alone : NoneTooLarge t q → (n room y : ℕ) → NotTaken t q n room y → y ≡ 14
  room_alone few n room y (totals_pass e) = absurd_true (run_fits_lem n ∙ few n) e
  room_alone few n room y (no_room e l) = refl

  pub list_as_before : (n : ℕ) → run_fits q.ending (after t q n) ≡ true → is_over (after t q n).state ≡ true
      → run_list q.ending (after t q n) ≡ former_run_list t q n
  list_as_before n fit over =
      ap (λ d. list_at q.ending [] d (after t q n).delivered) over
      ∙ ap (closed q.ending)
      (gathered_as_before (after t q n).delivered (rows_were t q a.tables was n) q.ending (accepted_form t plan a).ending fit
      ∙ ap (λ (r : Run). former_gathered q.ending r.delivered) (sym (same_run n)))

-- For every opening that is served and every list of events under demand 3's premises, over tables and a plan of the numbers that there were.
pub earlier_as_before : (v : Survey) (plan state : List ℕ) → Opens v plan state → (es : List Event)
    → Premises v plan (fresh (open_of v plan state)) es → FormerQuery v.tables (plan_of plan)
    → AsEarlier v plan (history v plan (fresh (open_of v plan state)) es)
earlier_as_before v plan state o es p was =
    let a = opening_accepts v plan state o in
    let t = v.tables in
    let h = history v plan (fresh (open_of v plan state)) es in
    let u : AsUncut v (plan_of plan) h = any_cut v plan state o es p in
    record {
      run = λ n. sym (same_run t plan a was n);
      merges = λ m few x rest waits behind y e.
          let c = refused_by_13_or_14 v plan state o m es p x rest waits behind y e in
          room_alone t plan a was few c.to _ y c.cause;
      finished = λ d w.
          let f = u.finished d w in
          let over = f.0.over in
          record {
            steps = u.upto;
            over = ap (λ (r : Run). r.state) (same_run t plan a was u.upto) ∙ over;
            not_before = λ n l e. f.0.not_before n l (sym (ap (λ (r : Run). r.state) (same_run t plan a was n)) ∙ e);
            is = f.1 ∙ list_as_before t plan a was u.upto u.fits (ap is_over over);
          };
    }
