-- The lists of the uncut run only grow: with more rows, with more steps, and where it is over.
use Prim.Native.Nat.{ℕ, zero, suc, ◌+◌, ◌≤◌}
use native.Mathlib.Omega.{arith}
use mathlib.Core.Path.{◌≡◌, refl, ◌∙◌, ap}
use mathlib.Core.Option.{Option, none, some}
use mathlib.Core.List.{List, [], ◌∷◌, ◌++◌, append_assoc, append-nil}
use lib.ListN.{length, drop}
use lib.Seq.{drop-append-le}
use Rattle.words.specs.Bindings.{Bindings}
use Rattle.sequences.specs.Sequences.{all}
use Rattle.sequences.proofs.Booleans.{and_right}
use Rattle.tables.specs.Tables.{Tables}
use Rattle.plans.specs.Branches.{branch_right, binds}
use Rattle.plans.specs.Endings.{Ending, ending_right}
use Rattle.plans.specs.Plans.{Plan, plan_of}
use Rattle.steps.specs.Steps.{State, Run, after}
use Rattle.steps.proofs.Runs as runs
use Rattle.lists.specs.Gathering.{gathered, threshold_right}
use Rattle.lists.specs.Closing.{list_at}
use Rattle.lists.proofs.Closing.{at_longer}
use Rattle.turns.specs.Turns.{is_over}
use Rattle.list_endings.proofs.Growing.{ListGrows, grows}
use Rattle.cuts.specs.Accepting.{Accepted}
use Rattle.cuts.proofs.Accepting.{accepted_form}
use Rattle.cuts.proofs.Chains.{kept_some}
use Rattle.queries.specs.Playing.{list_after}

-- ---- more rows make no shorter list
pub longer_by : (e : Ending) → ListGrows e [] → (bs cs : List Bindings) → length (gathered e [] bs) ≤ length (gathered e [] (bs ++ cs))
longer_by e g bs [] = omega (arith, ap (λ l. length (gathered e [] l)) (append-nil bs))
longer_by e g bs (c ∷ cs) =
    omega (arith, g.longer bs c, longer_by e g (bs ++ (c ∷ [])) cs, ap (λ l. length (gathered e [] l)) (append_assoc bs (c ∷ []) cs))

-- the list of an accepted plan
pub list_grows : (t : Tables) (plan : List ℕ) → Accepted t plan → ListGrows (plan_of plan).ending []
unfolding threshold_right
list_grows t plan a =
    let q = plan_of plan in
    grows (binds q.branches) q.ending [] (accepted_form t plan a).ending
    (and_right (all branch_right q.branches) (ending_right (binds q.branches) q.ending) a.variables) refl

module _ (t : Tables) (plan : List ℕ) (a : Accepted t plan) where
  abbrev q : Plan
  q = plan_of plan

  -- more steps only add rows
  pub rows_later : (m n : ℕ) → (cs : List Bindings) × ((after t q (m + n)).delivered ≡ (after t q m).delivered ++ cs)
  rows_later = runs.rows_later t q

  -- the list of the rows from some number on, at a run
  abbrev from : ℕ → Run → List ℕ
  from k r = list_at q.ending [] (is_over r.state) (drop k r.delivered)

  -- more steps make no shorter list: a run that is over is as it was, and any other has more rows
  pub list_later : (k m n : ℕ) → k ≤ length (after t q m).delivered → length (from k (after t q m)) ≤ length (from k (after t q (m + n)))
  list_later k m n l = go (after t q m).state refl
    where
      go : (o : Option State) → (after t q m).state ≡ o → length (from k (after t q m)) ≤ length (from k (after t q (m + n)))
      go none e = omega (arith, ap (λ r. length (from k r)) (runs.done_stays t q m n e))
      go (some s) e =
          let rows = drop k (after t q m).delivered in
          let more = rows_later m n in
          let here = ap (λ o. length (list_at q.ending [] (is_over o) rows)) e in
          let new = ap (drop k) more.1 ∙ drop-append-le k (after t q m).delivered more.0 l in
          omega (
            arith,
            here,
            longer_by q.ending (list_grows t plan a) rows more.0,
            ap (λ l. length (gathered q.ending [] l)) new,
            at_longer q.ending [] (is_over (after t q (m + n)).state) (drop k (after t q (m + n)).delivered),
          )

  -- what is kept of them too
  pub no_shorter : (m n : ℕ) → length (list_after t plan m) ≤ length (list_after t plan (m + n))
  no_shorter zero n = omega arith
  no_shorter (suc m) n =
      let later = kept_some t q (accepted_form t plan a).ending (suc m + n) (omega arith) in
      omega (arith, list_later 0 (suc m) n (omega arith), ap length later)
