-- The uncut run as it was before numbers had a sign: the same steps, with the former truth of the conditions. Assumes nothing: these are definitions.
use Rattle.std.specs.Prelude.{ℕ, Bool, cond, map, get_or}
use Rattle.words.specs.Former.{Former}
use Rattle.words.specs.Bindings.{Bindings}
use Rattle.tables.specs.Tables.{Tables}
use Rattle.plans.specs.Conditions.{Condition, always}
use Rattle.plans.specs.Branches.{Branch}
use Rattle.plans.specs.Plans.{Plan, branch_at}
use Rattle.steps.specs.Machines as machines
use Rattle.steps.specs.Machines.{moves, delivers, ends}
use Rattle.steps.specs.Steps.{State, Step, Run, start, step}
use Rattle.former.specs.Truths.{formerly_keeps, FormerTerms}

-- a plan whose conditions keep every row
abbrev pub unconditioned : Branch → Branch
unconditioned br = record { terms = br.terms; condition = always }

abbrev pub keeping_all : Plan → Plan
keeping_all q = record { years = q.years; branches = map unconditioned q.branches; ending = q.ending }

-- a step whose row is delivered only if a test keeps it: the place moves on in either case
abbrev pub sifted : {S R : Type 0} → (R → Bool) → machines.Step S R → machines.Step S R
sifted keeps (moves s) = moves s
sifted keeps (delivers b s) = cond (keeps b) (delivers b s) (moves s)
sifted keeps ends = ends

-- a step with another truth of conditions: that of the plan that keeps every row, whose row the branch's condition keeps by that truth
abbrev pub step_by : (Bindings → Condition → Bool) → Tables → Plan → State → Step
step_by keeps t q s = sifted (λ b. keeps b (branch_at q s.position.branch).condition) (step t (keeping_all q) s)

-- the run after n steps, or after all of them where it has fewer
unfoldable pub former_after : Tables → Plan → ℕ → Run
former_after t q n = machines.run_from (step_by formerly_keeps t q) (start t q) n

-- no number that is stored, and none that is written in a condition, is 2^29 or more
pub record FormerQuery (t : Tables) (q : Plan) : Type 0 where
  pub stored : (i : ℕ) → Former (get_or t.rows i 0)
  pub written : (i : ℕ) → FormerTerms (branch_at q i).condition
