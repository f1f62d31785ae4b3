-- A list that is joined or merged takes a history that is as the uncut run on to one that is so too.
use Prim.Native.Nat.{ℕ}
use native.Mathlib.Omega.{arith}
use mathlib.Core.Path.{◌≡◌, refl, sym, ◌∙◌, ap}
use mathlib.Core.Bool.{true}
use mathlib.Core.List.{List, [], ◌∷◌, ◌++◌}
use lib.Dec.{leb}
use lib.ListN.{length, take}
use lib.Seq.{take-append_seam}
use Rattle.words.specs.declared.Written.{Written}
use Rattle.words.specs.declared.Written.TheVariants.{Words, Refused}
use Rattle.words.specs.Answers.{words_in}
use Rattle.sequences.proofs.Booleans.{and_left, and_right}
use Rattle.tables.specs.Tables.{Tables}
use Rattle.plans.specs.Endings.{Ending, rows, top, group, registers}
use Rattle.plans.specs.Plans.{Plan, plan_of}
use Rattle.steps.specs.Steps.{after}
use Rattle.lists.specs.Gathering.{merged, taken_into, kept_right, list_right}
use Rattle.turns.specs.Surveys.{Survey}
use Rattle.calls.specs.Calls.{NotRefused}
use Rattle.merges.specs.Merging.{MergeInput, merge_schema, merge_of}
use Rattle.merges.proofs.Refusals.{merge_passed}
use Rattle.merges.proofs.Writes.{merge_writes}
use Rattle.cuts.specs.Histories.{ServedTurn, Phone, merge_input_of, after_taking, after_merge, after_merging, after_join, after_joining}
use Rattle.cuts.specs.Uncut.{run_fits}
use Rattle.cuts.specs.Accepting.{Accepted}
use Rattle.cuts.proofs.Accepting.{accepted_form}
use Rattle.cuts.proofs.Keeping.{Kept, next, taking_keeps}
use Rattle.cuts.proofs.MergeRefusals.{merged_taken, merge_fits}

module _ (v : Survey) (plan : List ℕ) (a : Accepted v.tables plan) (h : Phone) (k : Kept v (plan_of plan) h) where
  abbrev t : Tables
  t = v.tables

  abbrev q : Plan
  q = plan_of plan

  module _ (x : ServedTurn) (rest : List ServedTurn) (waits : h.waiting ≡ x ∷ rest) where
    abbrev to : ℕ
    to = (next v q h k x rest waits).0

    taken_keeps : (kept : List ℕ) → kept ≡ taken_into q.ending h.kept x.list → run_fits q.ending (after t q to) ≡ true
        → Kept v q (after_taking h x rest kept)
    taken_keeps = taking_keeps v q (accepted_form t plan a).ending h k x rest waits

    -- ---- merging
    module _ (behind : List ℕ) where
      abbrev i : MergeInput
      i = merge_input_of plan h behind x

      -- what a merge that is served writes
      served_merge : NotRefused merge_schema i → take (words_in (merge_of i).answer) (merge_of i).buffers ≡ taken_into q.ending h.kept x.list
      served_merge serve =
          let p = merge_passed i 12 serve in
          let kept : take i.given i.kept ≡ h.kept = take-append_seam h.kept behind in
          let right = and_left (kept_right q.ending (take i.given i.kept)) (list_right q.ending x.list)
          (and_right (leb i.given (length i.kept)) _ p) in
          (merge_writes i serve).buffer.front
          ∙ ap (λ l. merged q.ending l x.list) kept
          ∙ merged_taken q.ending h.kept x.list (ap (kept_right q.ending) (sym kept) ∙ right)

      -- the lists of a row query have no totals; any other that is taken passed 13
      taken_fits : (words : ℕ) → (merge_of i).answer ≡ Words words → (e : Ending) → q.ending ≡ e → run_fits q.ending (after t q to) ≡ true
      taken_fits words s (rows vs) p = rw p
      taken_fits words s (top n vs keys) p = rw p
      taken_fits words s (registers y) p = rw p
      taken_fits words s (group vs m) p = merge_fits v plan a h k (rw p tt) x rest waits behind words s

      pub merge_keeps : (w : Written) → (merge_of i).answer ≡ w → Kept v q (after_merge h x rest (merge_of i) w)
      merge_keeps (Refused y) e = k
      merge_keeps (Words n) e =
          let serve : NotRefused merge_schema i = λ y f. let z : ◌≡◌ {A = ℕ} 0 1 = cc in omega arith in
          taken_keeps (take n (merge_of i).buffers) (ap (λ d. take (words_in d) (merge_of i).buffers) (sym e) ∙ served_merge serve)
          (taken_fits n e q.ending refl)

    -- ---- joining
    pub join_keeps : (e : Ending) → q.ending ≡ e → Kept v q (after_join e h x rest)
    join_keeps (rows vs) f = taken_keeps (h.kept ++ x.list) (sym (ap (λ e. taken_into e h.kept x.list) f)) (rw f)
    join_keeps (top n vs keys) f = k
    join_keeps (group vs m) f = k
    join_keeps (registers y) f = k

  pub merging_keeps : (behind : List ℕ) (waiting : List ServedTurn) → h.waiting ≡ waiting → Kept v q (after_merging plan h behind waiting)
  merging_keeps behind [] e = k
  merging_keeps behind (x ∷ rest) e = merge_keeps x rest e behind (merge_of (merge_input_of plan h behind x)).answer refl

  pub joining_keeps : (waiting : List ServedTurn) → h.waiting ≡ waiting → Kept v q (after_joining plan h waiting)
  joining_keeps [] e = k
  joining_keeps (x ∷ rest) e = join_keeps x rest e q.ending refl
