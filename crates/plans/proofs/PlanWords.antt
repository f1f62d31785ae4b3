-- Which words are accepted as a plan, both ways: a plan is read from its words and from no others, and tests 5, 6 and 23 pass exactly where the rules say so.
use Prim.Native.Nat.{ℕ, ◌≤◌}
use native.Mathlib.Omega.{arith}
use mathlib.Core.Path.{◌≡◌, refl, sym, ◌∙◌, ap, subst}
use mathlib.Core.Logic.{◌↔◌}
use mathlib.Core.Bool.{Bool, true, false, cond, ◌&&◌, not}
use mathlib.Core.Option.{none, some}
use mathlib.Core.List.{List, [], ◌∷◌, ◌++◌, map, flatten}
use lib.Dec.{eqb, leb}
use lib.ListN.{length, get_or, drop}
use lib.Seq.{drop-append_seam}
use borrow.Author.Tests.{leb-true, le-leb, eqb-true, eqb-false, eq-eqb, ne_eqb, not-true}
use Rattle.words.specs.Words.{kind, low, word, year_kind, head_kind, year_word, most_year}
use Rattle.words.specs.Tests.{AllPass}
use Rattle.sequences.proofs.Booleans.{and_left, and_right, and_both}
use Rattle.words.proofs.Testing.{none_some, some_injective}
use Rattle.plans.specs.declared.Years.{Years}
use Rattle.plans.specs.declared.Years.TheVariants.{Latest, Every, Named}
use Rattle.plans.specs.Years.{years_in, year_words, from_head, head_of, body_of, year_allowed}
use Rattle.plans.specs.Conditions.{Read}
use Rattle.plans.specs.Branches.{Branch, read_branches}
use Rattle.plans.specs.Endings.{ending_form}
use Rattle.plans.specs.Plans.{Plan, most_branches, most_plan_words, branch_count, with_ending, read_plan, variables_right, has_form, plan_or, plan_of}
use Rattle.plans.specs.Plans.{plan_tests}
use Rattle.plans.specs.Grammar.{branch_words, years_words, YearNumbered, PlanWords, YearKnown, PlanAccepted}
use Rattle.plans.proofs.Bounds.{cond_some, was_read}
use Rattle.plans.proofs.ConditionWords.{behind_part}
use Rattle.plans.proofs.BranchWords.{count_word_lem, word_count, read_branches_lem, branches_back}
use Rattle.plans.proofs.EndingWords.{read_ending, ending_back}
use Rattle.plans.proofs.VariableRules.{variables_when}

-- ---- the words before the head
years_written : (ws : List ℕ) → (ws ≡ years_words (years_in ws) ++ from_head ws) × YearNumbered (years_in ws)
unfolding years_in year_words
years_written [] = (refl, tt)
years_written (w ∷ us) = go (eqb (kind w) year_kind) refl (eqb (low w) 0) refl
  where
    go : (a : Bool) → eqb (kind w) year_kind ≡ a → (b : Bool) → eqb (low w) 0 ≡ b
        → (w ∷ us ≡ years_words (cond a (cond b Every (Named (low w))) Latest) ++ drop (cond a 1 0) (w ∷ us))
        × YearNumbered (cond a (cond b Every (Named (low w))) Latest)
    go false p b q = (refl, tt)
    go true p true q =
        let is : w ≡ year_word 0 = omega (arith, eqb-true (kind w) year_kind p, eqb-true (low w) 0 q) in (ap (λ v. v ∷ us) is, tt)
    go true p false q =
        let k = eqb-true (kind w) year_kind p in
        let n = eqb-false (low w) 0 q in
        let is : w ≡ year_word (low w) = omega arith in
        (ap (λ v. v ∷ us) is, (omega arith, omega arith))

-- years before a word that is no year's
module _ (w : ℕ) (us : List ℕ) (other : kind w ≡ year_kind → ⊥) where
  years_back : (years : Years) → YearNumbered years
      → (years_in (years_words years ++ (w ∷ us)) ≡ years) × (from_head (years_words years ++ (w ∷ us)) ≡ w ∷ us)
  unfolding years_in year_words
  years_back Latest h = let e = ne_eqb (kind w) year_kind other in (rw e, ap (λ b. drop (cond b 1 0) (w ∷ us)) e)
  years_back Every h = (refl, refl)
  years_back (Named n) h =
      let l = h.1 in
      let k : kind (year_word n) ≡ year_kind = omega arith in
      let e = eq-eqb (kind (year_word n)) year_kind k in
      let is : low (year_word n) ≡ n = omega arith in
      let z : eqb n 0 ≡ false = ne_eqb n 0 (λ z. omega (arith, h.0)) in
      (rw (e, is, z), ap (λ b. drop (cond b 1 0) (year_word n ∷ w ∷ us)) e)

-- ---- the head
head_written : (us : List ℕ) → (branch_count (get_or us 0 0) ≡ 0 → ⊥)
    → (us ≡ word head_kind (branch_count (get_or us 0 0)) ∷ drop 1 us) × (branch_count (get_or us 0 0) ≤ most_branches)
head_written [] h = absurd (h refl)
head_written (w ∷ us) h = let c = count_word_lem head_kind most_branches w h in (ap (λ v. v ∷ us) c.0, c.1)

-- ---- a plan that was read is written so
module _ (ws : List ℕ) (q : Plan) (short : length ws ≤ most_plan_words) (some_branch : branch_count (head_of ws) ≡ 0 → ⊥) where
  with_branches : (r : Read (List Branch)) → read_branches (branch_count (head_of ws)) (body_of ws) ≡ r
      → with_ending (years_in ws) (body_of ws) r ≡ some q → PlanWords q ws
  with_branches none er e = absurd (none_some e)
  with_branches (some x) er e =
      let c = cond_some (ending_form (drop x.1 (body_of ws))) _ q e in
      let b = read_branches_lem (branch_count (head_of ws)) (body_of ws) x er in
      let h = head_written (from_head ws) some_branch in
      let y = years_written ws in
      let rest = behind_part (flatten (map branch_words x.0)) x.1 (body_of ws) b.begins in
      subst (λ (p : Plan). PlanWords p ws) (some_injective c.1)
      (record {
        ending = drop x.1 (body_of ws);
        words = y.0
            ∙ ap (λ us. years_words (years_in ws) ++ us)
            (h.0
            ∙ (λ i. word head_kind (sym b.many i) ∷ (b.begins.words ∙ ap (λ us. flatten (map branch_words x.0) ++ us) (sym rest)) i));
        short = short;
        numbered = y.1;
        least = omega (arith, b.many);
        most = omega (arith, b.many, h.1);
        branches = b.each;
        ends = read_ending (drop x.1 (body_of ws)) c.0;
      })

plan_written : (ws : List ℕ) (q : Plan) → read_plan ws ≡ some q → PlanWords q ws
unfolding read_plan
plan_written ws q e =
    let n = branch_count (head_of ws) in
    let c = cond_some (leb (length ws) most_plan_words && not (eqb n 0)) _ q e in
    with_branches ws q (leb-true (length ws) most_plan_words (and_left (leb (length ws) most_plan_words) (not (eqb n 0)) c.0))
    (eqb-false n 0 (not-true (eqb n 0) (and_right (leb (length ws) most_plan_words) (not (eqb n 0)) c.0))) (read_branches n (body_of ws)) refl c.1

-- ---- a plan that is written is read
module _ (ws : List ℕ) (q : Plan) (p : PlanWords q ws) where
  abbrev head : ℕ
  head = word head_kind (length q.branches)

  abbrev body : List ℕ
  body = flatten (map branch_words q.branches) ++ p.ending

  head_kind_lem : kind head ≡ year_kind → ⊥
  head_kind_lem e = let m = p.most in omega arith

  front : (years_in ws ≡ q.years) × (from_head ws ≡ head ∷ body)
  front = rw p.words (years_back head body head_kind_lem q.years p.numbered)

  count_is : branch_count (head_of ws) ≡ length q.branches
  count_is =
      ap (λ us. branch_count (get_or us 0 0)) front.1 ∙ word_count head_kind most_branches (length q.branches) p.most (omega arith)

  body_is : body_of ws ≡ body
  body_is = ap (drop 1) front.1

  ended : with_ending q.years body (some (q.branches, length (flatten (map branch_words q.branches)))) ≡ some q
  ended =
      let e = ending_back q.ending p.ending p.ends in
      rw (drop-append_seam (flatten (map branch_words q.branches)) p.ending, e.0)
      (ap some (λ i. record { years = q.years; branches = q.branches; ending = e.1 i }))

  plan_back : read_plan ws ≡ some q
  unfolding read_plan
  plan_back =
      let l = p.least in
      let some_branch : not (eqb (branch_count (head_of ws)) 0) ≡ true =
      ap (λ n. not (eqb n 0)) count_is ∙ ap not (ne_eqb (length q.branches) 0 (λ e. omega arith)) in
      let passed = and_both (leb (length ws) most_plan_words) _ (le-leb (length ws) most_plan_words p.short) some_branch in
      ap (λ b. cond b (with_ending (years_in ws) (body_of ws) (read_branches (branch_count (head_of ws)) (body_of ws))) none) passed
      ∙ (λ i. with_ending (front.0 i) (body_is i) (read_branches (count_is i) (body_is i)))
      ∙ ap (with_ending q.years body) (branches_back q.branches p.branches p.ending) ∙ ended

-- ---- test 5: which plan words are read as
pub read_when : (ws : List ℕ) (q : Plan) → (read_plan ws ≡ some q) ↔ PlanWords q ws
read_when ws q = (plan_written ws q, plan_back ws q)

-- ---- test 23
pub year_when : (years : Years) → (year_allowed years ≡ true) ↔ YearKnown years
year_when Latest = (λ e. tt, λ h. refl)
year_when Every = (λ e. tt, λ h. refl)
year_when (Named n) = (leb-true n most_year, le-leb n most_year)

-- ---- all three
pub plan_accepted : (ws : List ℕ) → AllPass (plan_tests ws) ↔ PlanAccepted ws
plan_accepted ws = (
  λ h. record {
    plan = plan_of ws;
    words = (read_when ws (plan_of ws)).0 (was_read (read_plan ws) h.0);
    variables = (variables_when (plan_of ws)).0 h.1.0;
    year = (year_when (plan_of ws).years).0 h.1.1.0;
  },
  λ a. let e = (read_when ws a.plan).1 a.words in
      let is : plan_of ws ≡ a.plan = ap plan_or e in (
        ap has_form e,
        (
          ap variables_right is ∙ (variables_when a.plan).1 a.variables,
          (ap (λ (q : Plan). year_allowed q.years) is ∙ (year_when a.plan.years).1 a.year, tt),
        ),
      ),
)
