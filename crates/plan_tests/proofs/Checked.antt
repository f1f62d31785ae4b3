-- The answer of the check of a plan: the number of the first of tests 5, 6 and 23 that fails, by what was read so far.
use Prim.Native.Nat.{ℕ, ◌-◌, ◌≤◌, ◌<◌}
use mathlib.Core.Path.{◌≡◌, refl, sym, ◌∙◌, ap}
use mathlib.Core.Bool.{Bool, true, false, cond, ◌&&◌, and-false}
use mathlib.Core.Option as maybe
use mathlib.Core.Option.{none, some}
use mathlib.Core.List.{List, [], ◌∷◌}
use lib.Dec.{leb}
use lib.ListN.{length, take, drop}
use borrow.Author.Tests.{ne_eqb, le-leb, lt-leb}
use Rattle.std.specs.Prelude.{Option, None, Some}
use Rattle.std.proofs.lemmas.Option.{none-some}
use Rattle.sequences.specs.Sequences.{all}
use Rattle.words.specs.Tests.{first_failing, number_of}
use Rattle.words.proofs.Testing.{passes_all, test_passed}
use Rattle.words.proofs.Numbering.{one_fails, none_fails}
use Rattle.sequences.proofs.Walking.{rest_of}
use Rattle.plan_tests.specs.declared.Part.{Part}
use Rattle.plans.specs.declared.Years.{Years}
use Rattle.plans.specs.Years.{years_in, from_head, head_of, year_allowed}
use Rattle.plans.specs.Conditions.{Read}
use Rattle.plans.specs.Branches.{Branch, read_branches, branch_right, binds}
use Rattle.plans.specs.Endings.{ending_form, ending_at, ending_right}
use Rattle.plans.specs.Plans.{Plan, most_plan_words, branch_count, with_ending, read_plan, variables_right, has_form, plan_or, plan_of, plan_tests}
use Rattle.plans.specs.Reading.{is_read, read_or, branches_in}
use Rattle.plan_tests.specs.Testing.{part_of, plan_number}
use Rattle.plan_tests.proofs.Parts.{part_read, branches_words}

-- ---- the number of the first test that fails
first_of : (form right year : Bool)
    → number_of (first_failing ((5, form) ∷ (6, right) ∷ (23, year) ∷ [])) ≡ cond form (cond right (cond year 0 23) 6) 5
unfolding first_failing
first_of true true true = refl
first_of true true false = refl
first_of true false year = refl
first_of false right year = refl

number_of_lem : (o : maybe.Option Plan)
    → cond (has_form o) (cond (variables_right (plan_or o)) (cond (year_allowed (plan_or o).years) 0 23) 6) 5 ≡ plan_number o
number_of_lem none = refl
number_of_lem (some q) = refl

check_number : (ws : List ℕ) → number_of (first_failing (plan_tests ws)) ≡ plan_number (read_plan ws)
check_number ws =
    first_of (has_form (read_plan ws)) (variables_right (plan_or (read_plan ws))) (year_allowed (plan_or (read_plan ws)).years)
    ∙ number_of_lem (read_plan ws)

module _ (ws : List ℕ) where
  pub check_passes : number_of (first_failing (plan_tests ws)) ≡ 0 → first_failing (plan_tests ws) ≡ none
  unfolding all
  check_passes e = none_fails (plan_tests ws) refl e

  pub check_refuses : (n : ℕ) → n ≡ number_of (first_failing (plan_tests ws)) → (n ≡ 0 → ⊥) → first_failing (plan_tests ws) ≡ some n
  check_refuses n e h = one_fails (first_failing (plan_tests ws)) n e h

  -- what the callers of the accessors have of an accepted plan
  pub accepted : first_failing (plan_tests ws) ≡ none → (has_form (read_plan ws) ≡ true) × (variables_right (plan_of ws) ≡ true)
  accepted e = let p = passes_all (plan_tests ws) e in (test_passed 5 (plan_tests ws) p, test_passed 6 (plan_tests ws) p)

-- ---- the steps of the check
module _ (ws : List ℕ) where
  pub check_long : most_plan_words < length ws → number_of (first_failing (plan_tests ws)) ≡ 5
  unfolding read_plan
  check_long h = check_number ws ∙ rw (lt-leb (length ws) most_plan_words h)

  module _ (n : ℕ) (en : n ≡ branch_count (head_of ws)) where
    pub check_headless : n ≡ 0 → number_of (first_failing (plan_tests ws)) ≡ 5
    unfolding read_plan
    check_headless e = check_number ws ∙ rw (← en, e, and-false (leb (length ws) most_plan_words))

    -- the part from the head on, and the body, as they are lent
    pub check_with : (n ≡ 0 → ⊥) → length ws ≤ most_plan_words → (years : Years) → years ≡ years_in ws
        → (part : List ℕ) → part ≡ from_head ws → (body : List ℕ) → body ≡ take (length part - 1) (drop 1 part)
        → number_of (first_failing (plan_tests ws)) ≡ plan_number (with_ending years body (read_branches n body))
    unfolding read_plan
    check_with hn h years ey part ep body eb =
        check_number ws ∙ rw (← en, ne_eqb n 0 hn, le-leb (length ws) most_plan_words h, eb, rest_of, ep, ey)

-- ---- the body, by what is answered of its branches
broken : (years : Years) (body : List ℕ) (r : Read (List Branch)) → part_of (all branch_right) r ≡ None
    → plan_number (with_ending years body r) ≡ 5
broken years body none e = refl
broken years body (some x) e = cc

answer : (t : Bool) (q : Plan)
    → plan_number (cond t (some q) none) ≡ cond t (cond (variables_right q) (cond (year_allowed q.years) 0 23) 6) 5
answer true q = refl
answer false q = refl

answer_words : Option Part → ℕ
answer_words None = 0
answer_words (Some a) = a.words

answer_right : Option Part → Bool
answer_right None = false
answer_right (Some a) = a.right

whole : (years : Years) (body : List ℕ) (r : Read (List Branch)) (a : Part) → part_of (all branch_right) r ≡ Some a
    → plan_number (with_ending years body r)
    ≡ cond (ending_form (drop a.words body))
    (cond (a.right && ending_right (binds (read_or [] r)) (ending_at (drop a.words body))) (cond (year_allowed years) 0 23) 6) 5
unfolding answer_words answer_right
whole years body none a e = absurd (none-some a e)
whole years body (some x) a e =
    let em : x.1 ≡ a.words = ap answer_words e in
    let ea : all branch_right x.0 ≡ a.right = ap answer_right e in
    answer (ending_form (drop x.1 body)) (record { years = years; branches = x.0; ending = ending_at (drop x.1 body) }) ∙ rw (em, ea)

guarded : (form a b : Bool) (n : ℕ) → ◌≡◌ {A = ℕ} (cond form (cond (a && b) n 6) 5) (cond form (cond (a && (form && b)) n 6) 5)
guarded true a b n = refl
guarded false a b n = refl

module _ (years : Years) (n : ℕ) (body : List ℕ) (l : Option Part) (el : l ≡ part_of (all branch_right) (read_branches n body)) where
  pub body_broken : l ≡ None → plan_number (with_ending years body (read_branches n body)) ≡ 5
  body_broken e = broken years body (read_branches n body) (sym el ∙ e)

  module _ (a : Part) (e : l ≡ Some a) where
    pub body_read : is_read (read_branches n body) ≡ true
    body_read = part_read (all branch_right) (read_branches n body) a (sym el ∙ e)

    pub body_words : a.words ≤ length body
    body_words = branches_words n body a (sym el ∙ e)

    -- the ending, as it is lent: its form, whether the variables of a plan with that form are right, and its years
    pub body_whole : (last : List ℕ) → last ≡ take (length body - a.words) (drop a.words body) → (form right year : Bool) → form ≡ ending_form last
        → right ≡ (a.right && (ending_form last && ending_right (binds (branches_in n body)) (ending_at last))) → year ≡ year_allowed years
        → plan_number (with_ending years body (read_branches n body)) ≡ number_of (first_failing ((5, form) ∷ (6, right) ∷ (23, year) ∷ []))
    body_whole last ee form right year ef er ey =
        rw (ef, er, ey, ee, rest_of)
        (whole years body (read_branches n body) a (sym el ∙ e)
        ∙ guarded (ending_form (drop a.words body)) a.right _ (cond (year_allowed years) 0 23)
        ∙ sym (first_of (ending_form (drop a.words body))
        (a.right && (ending_form (drop a.words body) && ending_right (binds (branches_in n body)) (ending_at (drop a.words body))))
        (year_allowed years)))
