-- The turns of all tables of a region, as stints one behind the other: their lists are the region's, and what they came by are the rows of all runs.
use Prim.Native.Nat.{ℕ}
use native.Mathlib.Omega.{arith}
use mathlib.Core.Path.{◌≡◌, refl, sym, ◌∙◌, ap, ap₂, subst}
use mathlib.Core.Bool.{Bool, true, false, ◌||◌}
use mathlib.Core.List.{List, [], ◌∷◌, ◌++◌, map-append, append_assoc, append-nil}
use Rattle.sequences.specs.Sequences.{iterate}
use Rattle.sequences.proofs.Booleans.{absurd_true}
use Rattle.sequences.proofs.Each.{Each, each_append}
use Rattle.plans.specs.Endings.{Ending}
use Rattle.plans.specs.Plans.{Plan, plan_of}
use Rattle.steps.specs.Steps.{after}
use Rattle.lists.specs.Gathering.{rows_fit}
use Rattle.turns.specs.Surveys.{Survey}
use Rattle.turns.specs.Opening.{open_of, Opens}
use Rattle.turns.specs.Turns.{is_over}
use Rattle.cuts.specs.Histories.{ServedTurn, fresh}
use Rattle.cuts.specs.Premises.{lists_in}
use Rattle.cuts.proofs.Accepting.{opening_accepts}
use Rattle.cuts.proofs.NoThreshold.{ThresholdsPass, all_unsent}
use Rattle.cuts.proofs.Placing.{placed_most, steps_from_start}
use Rattle.cuts.proofs.Keeping.{is_none}
use Rattle.regions.specs.Regions.{RegionPart, phone_of, turns_of_part, region_lists, AllOpen, PremisesBeside, PremisesFrom, PartAt, PartsAt}
use Rattle.regions.specs.Regions.{runs_to, rows_of_runs, some_over}
use Rattle.regions.proofs.Stints.{Stint, stint_list, stint_lists, all_came, some_ended, AllSent, came_append, ended_append}
use Rattle.regions.proofs.Holding.{Stretched, HeldBeside, stretched_placed, history_held, fresh_held}

-- ---- one table
module _ (v : Survey) (q : Plan) where
  pub stints_of : (before : List (List ℕ)) (a b : ℕ) (xs : List ServedTurn) → Stretched before v q a xs b → List Stint
  stints_of before a b [] c = []
  stints_of before a b (x ∷ xs) c =
      record { sent = x.sent; ended = is_over (after v.tables q c.0).state; came = c.1.0.rows }
      ∷ stints_of (before ++ (x.list ∷ [])) c.0 b xs c.1.1.1

  stints_lists : (before : List (List ℕ)) (a b : ℕ) (xs : List ServedTurn) (c : Stretched before v q a xs b)
      → stint_lists q.ending (stints_of before a b xs c) ≡ lists_in xs
  unfolding stints_of
  stints_lists before a b [] c = refl
  stints_lists before a b (x ∷ xs) c =
      ap₂ ◌∷◌ (sym c.1.0.list) (stints_lists (before ++ (x.list ∷ [])) c.0 b xs c.1.1.1)

  stints_came : (before : List (List ℕ)) (a b : ℕ) (xs : List ServedTurn) (c : Stretched before v q a xs b)
      → (after v.tables q b).delivered ≡ (after v.tables q a).delivered ++ all_came (stints_of before a b xs c)
  unfolding stints_of all_came
  stints_came before a b [] c = ap (λ n. (after v.tables q n).delivered) (sym c) ∙ sym (append-nil (after v.tables q a).delivered)
  stints_came before a b (x ∷ xs) c =
      let next = before ++ (x.list ∷ []) in
      stints_came next c.0 b xs c.1.1.1
      ∙ ap (λ l. l ++ all_came (stints_of next c.0 b xs c.1.1.1)) c.1.0.more
      ∙ append_assoc (after v.tables q a).delivered c.1.0.rows (all_came (stints_of next c.0 b xs c.1.1.1))

  -- none goes on behind the one that ended the run
  stints_ended : (before : List (List ℕ)) (a b : ℕ) (xs : List ServedTurn) (c : Stretched before v q a xs b)
      → is_over (after v.tables q a).state ≡ false → some_ended (stints_of before a b xs c) ≡ is_over (after v.tables q b).state
  unfolding stints_of some_ended
  stints_ended before a b [] c going = sym (ap (λ n. is_over (after v.tables q n).state) (sym c) ∙ going)
  stints_ended before a b (x ∷ xs) c going =
      go (is_over (after v.tables q c.0).state) refl xs c.1.1.1 (stints_ended (before ++ (x.list ∷ [])) c.0 b xs c.1.1.1)
    where
      next : List (List ℕ)
      next = before ++ (x.list ∷ [])

      go : (o : Bool) → is_over (after v.tables q c.0).state ≡ o → (ys : List ServedTurn) (r : Stretched next v q c.0 ys b)
          → (is_over (after v.tables q c.0).state ≡ false → some_ended (stints_of next c.0 b ys r) ≡ is_over (after v.tables q b).state)
          → o || some_ended (stints_of next c.0 b ys r) ≡ is_over (after v.tables q b).state
      go true e [] r ih = sym (ap (λ n. is_over (after v.tables q n).state) (sym r) ∙ e)
      go true e (y ∷ ys) r ih = absurd_true e r.1.0.going
      go false e ys r ih = ih e

  stints_sent : (before : List (List ℕ)) (a b : ℕ) (xs : List ServedTurn) (c : Stretched before v q a xs b)
      → AllSent q.ending before (stints_of before a b xs c)
  unfolding stints_of
  stints_sent before a b [] c = tt
  stints_sent before a b (x ∷ xs) c = (
    c.1.1.0,
    subst (λ l. AllSent q.ending (before ++ (l ∷ [])) (stints_of (before ++ (x.list ∷ [])) c.0 b xs c.1.1.1)) c.1.0.list
        (stints_sent (before ++ (x.list ∷ [])) c.0 b xs c.1.1.1),
  )

  -- so few that their totals fit
  stints_fit : (before : List (List ℕ)) (a b : ℕ) (xs : List ServedTurn) (c : Stretched before v q a xs b)
      → Each (λ (s : Stint). rows_fit q.ending s.came ≡ true) (stints_of before a b xs c)
  unfolding stints_of
  stints_fit before a b [] c = tt
  stints_fit before a b (x ∷ xs) c = (c.1.0.fits, stints_fit (before ++ (x.list ∷ [])) c.0 b xs c.1.1.1)

  stints_pass : (before : List (List ℕ)) (a b : ℕ) (xs : List ServedTurn) → Stretched before v q a xs b → ThresholdsPass q.ending xs
  stints_pass before a b [] c = tt
  stints_pass before a b (x ∷ xs) c = (c.1.0.right, stints_pass (before ++ (x.list ∷ [])) c.0 b xs c.1.1.1)

sent_append : (e : Ending) (before : List (List ℕ)) (ss us : List Stint) → AllSent e before ss → AllSent e (before ++ stint_lists e ss) us
    → AllSent e before (ss ++ us)
sent_append e before [] us p r = subst (λ l. AllSent e l us) (append-nil before) r
sent_append e before (s ∷ ss) us p r = (
  p.0,
  sent_append e (before ++ (stint_list e s ∷ [])) ss us p.1
      (subst (λ l. AllSent e l us) (sym (append_assoc before (stint_list e s ∷ []) (stint_lists e ss))) r),
)

-- ---- a region, behind others
pub record Region (before : List (List ℕ)) (plan : List ℕ) (ps : List RegionPart) : Type 0 where
  pub positions : List ℕ
  pub placed : PartsAt plan ps positions
  pub stints : List Stint
  pub lists : stint_lists (plan_of plan).ending stints ≡ region_lists plan ps
  pub came : all_came stints ≡ rows_of_runs (runs_to (plan_of plan) ps positions)
  pub ended : some_ended stints ≡ some_over (runs_to (plan_of plan) ps positions)
  pub sent : AllSent (plan_of plan).ending before stints
  pub fit : Each (λ (s : Stint). rows_fit (plan_of plan).ending s.came ≡ true) stints

module _ (plan : List ℕ) where
  abbrev q : Plan
  q = plan_of plan

  module _ (before : List (List ℕ)) (p : RegionPart) (o : Opens p.survey plan p.state)
      (pr : PremisesBeside before p.survey plan (fresh (open_of p.survey plan p.state)) p.events) where
    held : HeldBeside before p.survey (plan_of plan) (phone_of plan p)
    held =
        let a = opening_accepts p.survey plan p.state o in
        history_held before p.survey plan a p.events (fresh (open_of p.survey plan p.state))
        (fresh_held before p.survey plan a p.state o) pr

    part_at : PartAt plan p held.reached
    part_at =
        let placed = stretched_placed p.survey q before 0 held.reached (turns_of_part plan p) held.chain in
        record {
          placed = placed;
          steps = omega (arith, placed_most p.survey q 0 held.reached (turns_of_part plan p) placed);
          as_many = λ u.
              sym (steps_from_start p.survey q held.reached (turns_of_part plan p)
              (all_unsent q.ending (turns_of_part plan p) (stints_pass p.survey q before 0 held.reached (turns_of_part plan p) held.chain) u) placed);
          done = (
            λ e. record { over = is_none _ (sym held.done ∙ e); not_before = held.alive },
            λ x. held.done ∙ ap is_over x.over,
          );
        }

    abbrev part_stints : List Stint
    part_stints = stints_of p.survey q before 0 held.reached (turns_of_part plan p) held.chain

    part_lists : stint_lists q.ending part_stints ≡ lists_in (turns_of_part plan p)
    part_lists = stints_lists p.survey q before 0 held.reached (turns_of_part plan p) held.chain

    part_came : all_came part_stints ≡ (after p.survey.tables q held.reached).delivered
    unfolding after iterate
    part_came = sym (stints_came p.survey q before 0 held.reached (turns_of_part plan p) held.chain)

    part_ended : some_ended part_stints ≡ is_over (after p.survey.tables q held.reached).state
    unfolding after iterate
    part_ended = stints_ended p.survey q before 0 held.reached (turns_of_part plan p) held.chain refl

  pub region : (before : List (List ℕ)) (ps : List RegionPart) → AllOpen plan ps → PremisesFrom before plan ps → Region before plan ps
  unfolding region_lists runs_to rows_of_runs some_over all_came some_ended
  region before [] o pr =
      record { positions = []; placed = tt; stints = []; lists = refl; came = refl; ended = refl; sent = tt; fit = tt }
  region before (p ∷ ps) o pr =
      let h = held before p o.0 pr.0 in
      let ss = part_stints before p o.0 pr.0 in
      let ls = part_lists before p o.0 pr.0 in
      let r = region (before ++ lists_in (turns_of_part plan p)) ps o.1 pr.1 in
      record {
        positions = h.reached ∷ r.positions;
        placed = (part_at before p o.0 pr.0, r.placed);
        stints = ss ++ r.stints;
        lists = map-append (stint_list q.ending) ss r.stints ∙ ap₂ ◌++◌ ls r.lists;
        came = came_append ss r.stints ∙ ap₂ ◌++◌ (part_came before p o.0 pr.0) r.came;
        ended = ended_append ss r.stints ∙ ap₂ ◌||◌ (part_ended before p o.0 pr.0) r.ended;
        sent =
            sent_append q.ending before ss r.stints
            (stints_sent p.survey q before 0 h.reached (turns_of_part plan p) h.chain)
            (subst (λ l. AllSent q.ending (before ++ l) r.stints) (sym ls) r.sent);
        fit =
            each_append (λ (s : Stint). rows_fit q.ending s.came ≡ true) ss r.stints
            (stints_fit p.survey q before 0 h.reached (turns_of_part plan p) h.chain) r.fit;
      }
