-- Where no threshold was sent, and so always with rows, groups and registers, positions are steps added up, and any cut is as the uncut run step for
-- step.
use Prim.Native.Nat.{ℕ, ◌+◌}
use mathlib.Core.Path.{◌≡◌, sym, ◌∙◌, ap, subst}
use mathlib.Core.Logic.{◌↔◌}
use mathlib.Core.Bool.{true}
use mathlib.Core.List.{List, [], ◌∷◌, ◌++◌}
use lib.ListN.{length}
use Rattle.words.specs.declared.Written.TheVariants.{Refused}
use Rattle.plans.specs.Plans.{Plan, plan_of}
use Rattle.steps.specs.Steps.{after}
use Rattle.steps.specs.Saved.{saved_words}
use Rattle.turns.specs.Surveys.{Survey}
use Rattle.turns.specs.Opening.{open_of, Opens}
use Rattle.merges.specs.Merging.{merge_of}
use Rattle.cuts.specs.Histories.{Event, Phone, ServedTurn, served_in, steps_in, done_in, merge_input_of, history, fresh}
use Rattle.cuts.specs.Uncut.{EndsAt, AsUncut, Placed, MergesLists, NotTaken, NotTakenAt, run_list, run_fits, kept_after}
use Rattle.cuts.specs.Unsent.{Unsent, BestUnsent, StepForStep}
use Rattle.cuts.proofs.Placing.{unsent_left, unsent_right, placed_append, placed_within, steps_from_start}
use Rattle.cuts.proofs.AnyCut.{any_cut}
use Rattle.cuts.proofs.Sending.{none_sent_but_best, premises_hold}
use Rattle.cuts.proofs.KeptFits.{refused_by_13_or_14}

module _ (v : Survey) (q : Plan) (h : Phone) (u : Unsent (served_in h)) (k : AsUncut v q h) where
  all_placed : Placed v q 0 (served_in h) k.reached
  all_placed = placed_append v q 0 k.upto k.reached h.taken h.waiting k.taken k.waiting

  -- the positions are the steps of the turns
  pub reached_is : k.reached ≡ steps_in (served_in h)
  reached_is = steps_from_start v q k.reached (served_in h) u all_placed

  pub upto_is : k.upto ≡ steps_in h.taken
  upto_is = steps_from_start v q k.upto h.taken (unsent_left h.taken h.waiting u) k.taken

  pub step_for_step : StepForStep v q h
  step_for_step =
      record {
        state = k.state ∙ ap (λ n. saved_words v.number (after v.tables q n).state) reached_is;
        end = subst (λ n. (h.saved ≡ []) ↔ EndsAt v.tables q n) reached_is k.end;
        done = subst (λ n. (done_in (served_in h) ≡ true) ↔ EndsAt v.tables q n) reached_is k.done;
        quantum = placed_within v q 0 k.reached (served_in h) all_placed;
        list = k.list ∙ ap (kept_after v.tables q) upto_is;
        prefixes = k.prefixes;
        finished = λ d w. subst (λ n. EndsAt v.tables q n × (h.kept ≡ run_list q.ending (after v.tables q n))) upto_is (k.finished d w);
      }

  -- the totals of the lists taken are in their range
  pub steps_fit : run_fits q.ending (after v.tables q (steps_in h.taken)) ≡ true
  steps_fit = subst (λ n. run_fits q.ending (after v.tables q n) ≡ true) upto_is k.fits

-- and a list that is not taken is left for the uncut run's totals or list after as many steps as the turns took
pub not_taken : (v : Survey) (q : Plan) (h : Phone) (x : ServedTurn) (room y : ℕ) → Unsent h.taken → x.sent ≡ [] → NotTakenAt v q h x room y
    → NotTaken v.tables q (steps_in h.taken + x.steps) room y
not_taken v q h x room y u e n =
    let to : n.to ≡ steps_in h.taken + x.steps =
    sym (n.takes.as_far e) ∙ ap (λ d. d + x.steps) (steps_from_start v q n.upto h.taken u n.taken) in
    subst (λ d. NotTaken v.tables q d room y) to n.cause

-- For every opening that is served and every list of events, refused ones included: of a best-of query where no threshold was sent, of rows, groups and
-- registers always.
module _
    (v : Survey)
    (plan state : List ℕ)
    (opens : Opens v plan state)
    (es : List Event)
    (u : BestUnsent (plan_of plan).ending (served_in (history v plan (fresh (open_of v plan state)) es))) where
  abbrev h : Phone
  h = history v plan (fresh (open_of v plan state)) es

  uncut : AsUncut v (plan_of plan) h
  uncut = any_cut v plan state opens es (premises_hold v plan state es u)

  pub any_unsent_cut : StepForStep v (plan_of plan) h
  any_unsent_cut = step_for_step v (plan_of plan) h (none_sent_but_best v plan state es u) uncut

  -- the totals of the lists taken are in their range
  pub kept_fits : run_fits (plan_of plan).ending (after v.tables (plan_of plan) (steps_in h.taken)) ≡ true
  kept_fits = steps_fit v (plan_of plan) h (none_sent_but_best v plan state es u) uncut

  -- a merge is refused for the uncut run's totals or list after as many steps as the turns up to there took
  pub refused_after_steps : MergesLists (plan_of plan).ending → (x : ServedTurn) (rest : List ServedTurn)
      → h.waiting ≡ x ∷ rest → (behind : List ℕ) (y : ℕ)
      → (merge_of (merge_input_of plan h behind x)).answer ≡ Refused y
      → NotTaken v.tables (plan_of plan) (steps_in h.taken + x.steps)
      (length (h.kept ++ behind)) y
  refused_after_steps m x rest waits behind y e =
      let sent = none_sent_but_best v plan state es u in
      not_taken v (plan_of plan) h x (length (h.kept ++ behind)) y (unsent_left h.taken h.waiting sent)
      (unsent_right h.taken (x ∷ rest) (subst (λ l. Unsent (h.taken ++ l)) waits sent)).0
      (refused_by_13_or_14 v plan state opens m es (premises_hold v plan state es u) x rest waits behind y e)
