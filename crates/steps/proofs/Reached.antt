-- The start of a year leads to every position that tests 9 and 10 accept, and to the last one, from which the year's end is the next step.
use Prim.Native.Nat.{ℕ, zero, suc, ◌+◌, ◌-◌, ◌*◌, ◌≤◌, ◌<◌}
use native.Mathlib.Omega.{arith}
use mathlib.Core.Path.{◌≡◌, refl, ◌∙◌, subst}
use mathlib.Core.Bool.{true}
use mathlib.Core.Option.{some}
use mathlib.Core.List.{List, [], ◌∷◌}
use lib.ListN.{length}
use borrow.Author.Tests.{ltb-true, lt-ltb, le-ltb}
use Rattle.tables.specs.Tables.{Section}
use Rattle.tables.proofs.Ranges.{start_le_end}
use Rattle.plans.specs.Branches.{pattern_width}
use Rattle.plans.specs.Plans.{Plan, branch_at}
use Rattle.plans.proofs.Bounds.{PlanForm}
use Rattle.steps.specs.Levels.{has_level, under}
use Rattle.steps.specs.Machines as machine
use Rattle.steps.specs.Machines.{ends}
use Rattle.steps.specs.Positions.{Position, PositionStep, position_step, start_of, leave, upper_right}
use Rattle.steps.proofs.MachineStates as states
use Rattle.steps.proofs.Rules.{level_start, level_end, goes_deeper, Rule, skips, opens, gives, drops, starts, finishes, rule, step_opens, step_leaves}
use Rattle.steps.proofs.Right.{RightPosition, inner_of, level_above}

-- some number of steps leads from one position to another
abbrev pub Leads : Section → Plan → Position → Position → Type 0
Leads t q a b = machine.Leads (position_step t q) a b

module _ (t : Section) (q : Plan) where
  pub leads_here : (a : Position) → Leads t q a a
  leads_here = states.leads_here (position_step t q)

  pub leads_on : (a b c : Position) → Leads t q a b → Leads t q b c → Leads t q a c
  leads_on = states.leads_on (position_step t q)

  leads_step : (a b : Position) (x : PositionStep) → position_step t q a ≡ x → (machine.stepped [] x).state ≡ some b → Leads t q a b
  leads_step = states.leads_step (position_step t q)

  module _ (i : ℕ) where
    abbrev terms : List ℕ
    terms = (branch_at q i).terms

    abbrev at : List ℕ → ℕ → Position
    at upper place = record { branch = i; upper = upper; place = place }

    -- at the end of a level's range, the place above moves on
    leads_up : (place : ℕ) (upper : List ℕ)
        → Leads t q (at (place ∷ upper) (level_end t terms (place ∷ upper))) (at upper (place + 1))
    unfolding leave
    leads_up place upper = leads_step _ _ _ (step_leaves t q _ (omega arith)) refl

    -- places that each lead to the next
    climbs : (upper : List ℕ)
        → ((p : ℕ) → p < level_end t terms upper → Leads t q (at upper p) (at upper (p + 1)))
        → (a d : ℕ) → a + d ≤ level_end t terms upper → Leads t q (at upper a) (at upper (a + d))
    climbs upper next a zero h =
        subst (λ n. Leads t q (at upper a) (at upper n)) (let p : a ≡ a + 0 = omega arith in p) (leads_here (at upper a))
    climbs upper next a (suc d) h =
        leads_on (at upper a) (at upper (a + d)) (at upper (a + suc d)) (climbs upper next a d (omega arith))
        (subst (λ n. Leads t q (at upper (a + d)) (at upper n)) (let p : a + d + 1 ≡ a + suc d = omega arith in p)
        (next (a + d) (omega arith)))

    sweeps : (upper : List ℕ)
        → ((p : ℕ) → p < level_end t terms upper → Leads t q (at upper p) (at upper (p + 1)))
        → (p : ℕ) → level_start t terms upper ≤ p → p ≤ level_end t terms upper
        → Leads t q (at upper (level_start t terms upper)) (at upper p)
    sweeps upper next p a b =
        subst (λ n. Leads t q (at upper (level_start t terms upper)) (at upper n))
        (let x : level_start t terms upper + (p - level_start t terms upper) ≡ p = omega arith in x)
        (climbs upper next (level_start t terms upper) (p - level_start t terms upper) (omega arith))

    -- a place in its range leads to the next, if those of a level that it opens do
    leads_over : (upper : List ℕ) (p : ℕ) → p < level_end t terms upper
        → (goes_deeper q (at upper p) ≡ true → (n : ℕ) → n < level_end t terms (p ∷ upper)
        → Leads t q (at (p ∷ upper) n) (at (p ∷ upper) (n + 1)))
        → Leads t q (at upper p) (at upper (p + 1))
    leads_over upper p l deeper = go (rule t q (at upper p))
      where
        go : Rule t q (at upper p) → Leads t q (at upper p) (at upper (p + 1))
        go (skips m e) = leads_step _ _ _ e refl
        go (opens m x h e) =
            let a = level_start t terms (p ∷ upper) in
            let z = level_end t terms (p ∷ upper) in
            leads_on (at upper p) (at (p ∷ upper) a) (at upper (p + 1)) (leads_step _ _ _ e refl)
            (leads_on (at (p ∷ upper) a) (at (p ∷ upper) z) (at upper (p + 1))
            (sweeps (p ∷ upper) (deeper h) z (start_le_end t.tables (under t terms (p ∷ upper))) (omega arith)) (leads_up p upper))
        go (gives m e) = leads_step _ _ _ e refl
        go (drops place above m u e) = absurd (omega arith)
        go (starts m u h e) = absurd (omega arith)
        go (finishes m u h e) = absurd (omega arith)

    -- with at most r levels below
    leads_next : (r : ℕ) (upper : List ℕ) (p : ℕ) → length terms ≤ (suc (length upper) + r) * pattern_width
        → p < level_end t terms upper → Leads t q (at upper p) (at upper (p + 1))
    leads_next zero upper p few l =
        leads_over upper p l (λ h. absurd (omega (arith, ltb-true (suc (length upper) * pattern_width) (length terms) h)))
    leads_next (suc r) upper p few l = leads_over upper p l (λ h n. leads_next r (p ∷ upper) n (omega arith))

    -- a level's start leads to each place up to its end
    pub sweep : (upper : List ℕ) (p : ℕ) → level_start t terms upper ≤ p → p ≤ level_end t terms upper
        → Leads t q (at upper (level_start t terms upper)) (at upper p)
    sweep upper = sweeps upper (λ p. leads_next (length terms) upper p (omega arith))

    -- the branch's start leads to each level's start
    enter : (upper : List ℕ) → upper_right t terms upper ≡ true → has_level terms (length upper) ≡ true
        → Leads t q (start_of t q i) (at upper (level_start t terms upper))
    enter [] e h = leads_here (start_of t q i)
    enter (p ∷ upper) e h =
        let x = inner_of t terms p upper e in
        leads_on (start_of t q i) (at upper p) (at (p ∷ upper) (level_start t terms (p ∷ upper)))
        (leads_on (start_of t q i) (at upper (level_start t terms upper)) (at upper p)
        (enter upper x.above (level_above terms (length upper) h)) (sweep upper p x.start (omega (arith, x.end))))
        (leads_step _ _ _ (step_opens t q (at upper p) x.end x.passing h) refl)

    -- and to the end of its own range
    pub to_end : Leads t q (start_of t q i) (at [] (level_end t terms []))
    to_end = sweep [] (level_end t terms []) (start_le_end t.tables (under t terms [])) (omega arith)

    to_next_lem : suc i < length q.branches → Leads t q (start_of t q i) (start_of t q (suc i))
    unfolding leave
    to_next_lem h =
        leads_on (start_of t q i) (at [] (level_end t terms [])) (start_of t q (suc i)) to_end
        (leads_step _ _ _ (step_leaves t q _ (omega arith)) (rw (lt-ltb (suc i) (length q.branches) h)))

  -- the start leads to each branch's start
  pub to_branch : (i : ℕ) → i < length q.branches → Leads t q (start_of t q 0) (start_of t q i)
  to_branch zero h = leads_here (start_of t q 0)
  to_branch (suc i) h = leads_on (start_of t q 0) (start_of t q i) (start_of t q (suc i)) (to_branch i (omega arith)) (to_next_lem i h)

  -- and so to each right position
  pub reached : (s : Position) → RightPosition t q s → Leads t q (start_of t q 0) s
  reached s r =
      leads_on (start_of t q 0) (start_of t q s.branch) s (to_branch s.branch r.branch)
      (leads_on (start_of t q s.branch) (at s.branch s.upper (level_start t (terms s.branch) s.upper)) s
      (enter s.branch s.upper r.upper r.level) (sweep s.branch s.upper s.place r.start r.end))

  -- ---- the last position
  -- the end of the last branch's range
  pub last_position : Position
  last_position =
      record {
        branch = length q.branches - 1;
        upper = [];
        place = level_end t (branch_at q (length q.branches - 1)).terms [];
      }

  pub last_ends : PlanForm q → position_step t q last_position ≡ ends
  unfolding last_position leave
  last_ends form =
      step_leaves t q last_position (omega arith)
      ∙ rw (le-ltb (suc (length q.branches - 1)) (length q.branches) (omega (arith, form.least)))

  pub to_last : PlanForm q → Leads t q (start_of t q 0) last_position
  unfolding last_position
  to_last form =
      leads_on (start_of t q 0) (start_of t q (length q.branches - 1)) last_position
      (to_branch (length q.branches - 1) (omega (arith, form.least))) (to_end (length q.branches - 1))
