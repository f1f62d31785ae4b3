-- From words to the tree: what stands where in the words of a plan that was read.
use Prim.Native.Nat.{ℕ, ◌+◌, ◌-◌, ◌≤◌, ◌<◌}
use native.Mathlib.Omega.{arith}
use mathlib.Core.Path.{◌≡◌, refl, sym, ◌∙◌, ap}
use mathlib.Core.Bool.{true, ◌&&◌, not}
use mathlib.Core.Option.{Option, none, some}
use mathlib.Core.List.{List}
use lib.Dec.{eqb, leb}
use lib.ListN.{length, get_or, take, drop}
use lib.Seq.{drop-drop}
use borrow.Author.Tests.{leb-true, eqb-false, not-true}
use Rattle.sequences.proofs.Booleans.{and_left, and_right}
use Rattle.words.proofs.Testing.{none_some, some_injective}
use Rattle.sequences.proofs.Walking.{rest_of, first_none}
use Rattle.plans.specs.Years.{years_in, year_words, from_head, head_of, body_of}
use Rattle.plans.specs.Conditions.{Read}
use Rattle.plans.specs.Branches.{Branch, read_branch, read_branches}
use Rattle.plans.specs.Endings.{ending_form, ending_at}
use Rattle.plans.specs.Plans.{Plan, most_plan_words, branch_count, with_ending, read_plan, has_form, plan_or, plan_of, branch_at}
use Rattle.plans.specs.Reading.{is_read, words_read, Gives, branches_in, branch_start}
use Rattle.plans.proofs.Given.{cond_some}
use Rattle.plans.proofs.BranchList.{some_read, branch_at_lem, branches_length, branches_fit}

-- the words of a plan: at most 256, the year's where there is one, a head, its branches one after the other, and its ending to the last word
pub record PlanRead (ws : List ℕ) (q : Plan) : Type 0 where
  pub short : length ws ≤ most_plan_words
  pub years : q.years ≡ years_in ws
  pub some_branch : length q.branches ≡ 0 → ⊥
  pub head : branch_count (head_of ws) ≡ length q.branches
  pub read : is_read (read_branches (length q.branches) (body_of ws)) ≡ true
  pub branch : (i : ℕ) → i < length q.branches → Gives (read_branch (drop (branch_start i ws) ws)) (branch_at q i)
  pub form : ending_form (drop (branch_start (length q.branches) ws) ws) ≡ true
  pub ending : ending_at (drop (branch_start (length q.branches) ws) ws) ≡ q.ending

-- from the start of a branch on, in the body and in the whole
from_start : (ws : List ℕ) (i : ℕ) → drop (words_read (read_branches i (body_of ws))) (body_of ws) ≡ drop (branch_start i ws) ws
from_start ws i =
    let m = words_read (read_branches i (body_of ws)) in drop-drop m 1 (from_head ws) ∙ drop-drop (1 + m) (year_words ws) ws

module _ (ws : List ℕ) (q : Plan) (short : length ws ≤ most_plan_words) (n : ℕ) (en : n ≡ branch_count (head_of ws)) (hn : n ≡ 0 → ⊥)
  where
    with_branches : (r : Read (List Branch)) → read_branches n (body_of ws) ≡ r → with_ending (years_in ws) (body_of ws) r ≡ some q → PlanRead ws q
    with_branches none er e = absurd (none_some e)
    with_branches (some x) er e =
        let c = cond_some (ending_form (drop x.1 (body_of ws))) _ q e in
        let p = some_injective c.1 in
        let read : is_read (read_branches n (body_of ws)) ≡ true = rw er in
        let list : branches_in n (body_of ws) ≡ q.branches = rw er (ap (λ (z : Plan). z.branches) p) in
        let len : length q.branches ≡ n = ap length (sym list) ∙ branches_length n (body_of ws) read in
        let start : drop x.1 (body_of ws) ≡ drop (branch_start n ws) ws = ap (λ (k : ℕ). drop k (body_of ws)) (sym (ap words_read er))
        ∙ from_start ws n in
        record {
          short = short;
          years = sym (ap (λ (z : Plan). z.years) p);
          some_branch = λ z. hn (sym len ∙ z);
          head = sym en ∙ sym len;
          read = rw len read;
          branch = λ i l. rw (← from_start ws i, ← list) (branch_at_lem n i (body_of ws) read (omega arith));
          form = rw (len, ← start) c.0;
          ending = rw (len, ← start) (ap (λ (z : Plan). z.ending) p);
        }

pub plan_read : (ws : List ℕ) (q : Plan) → read_plan ws ≡ some q → PlanRead ws q
unfolding read_plan
plan_read ws q e =
    let n = branch_count (head_of ws) in
    let c = cond_some (leb (length ws) most_plan_words && not (eqb n 0)) _ q e in
    let short = leb-true (length ws) most_plan_words (and_left (leb (length ws) most_plan_words) (not (eqb n 0)) c.0) in
    let hn = eqb-false n 0 (not-true (eqb n 0) (and_right (leb (length ws) most_plan_words) (not (eqb n 0)) c.0)) in
    with_branches ws q short n refl hn (read_branches n (body_of ws)) refl c.1

-- ---- the plan of words that have the form
has_plan : (o : Option Plan) → has_form o ≡ true → o ≡ some (plan_or o)
has_plan none h = cc
has_plan (some q) h = refl

-- no words, no head
pub some_words : (ws : List ℕ) (n : ℕ) → n ≡ branch_count (get_or ws 0 0) → (n ≡ 0 → ⊥) → length ws ≡ 0 → ⊥
some_words ws n en hn e = hn (en ∙ rw (first_none ws e))

module _ (ws : List ℕ) (h : has_form (read_plan ws) ≡ true) where
  pub plan_in_lem : PlanRead ws (plan_of ws)
  plan_in_lem = plan_read ws (plan_of ws) (has_plan (read_plan ws) h)

  pub plan_words_fact : length (from_head ws) ≡ 0 → ⊥
  plan_words_fact = some_words (from_head ws) (length (plan_of ws).branches) (sym plan_in_lem.head) plan_in_lem.some_branch

  -- the body, and the part from a branch on, as it is lent
  module _ (i : ℕ) (l : i ≤ length (plan_of ws).branches) (body : List ℕ) (eb : body ≡ body_of ws) where
    pub body_read : is_read (read_branches i body) ≡ true
    body_read = rw eb (some_read (length (plan_of ws).branches) i (body_of ws) plan_in_lem.read l)

    module _ (at : ℕ) (ea : at ≡ words_read (read_branches i body)) where
      pub part_room : at ≤ length body
      part_room = rw ea (branches_fit i body body_read)

      pub part_from : take (length body - at) (drop at body) ≡ drop (branch_start i ws) ws
      part_from = rest_of body at ∙ rw (ea, eb) (from_start ws i)
