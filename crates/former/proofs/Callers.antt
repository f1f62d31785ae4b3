-- Whoever writes 64 for a k of 0 has the plan, and so the list, of before.
use Prim.Native.Nat.{ℕ, zero, suc, ◌+◌, ◌≤◌}
use native.Mathlib.Omega.{arith}
use mathlib.Core.Path.{◌≡◌, refl, sym, ◌∙◌, ap, subst, subst⁻¹}
use mathlib.Core.Bool.{true, cond, ◌&&◌, not}
use mathlib.Core.Option.{Option, none, some}
use mathlib.Core.List.{List, [], ◌∷◌, ◌++◌}
use lib.Dec.{eqb, leb}
use lib.ListN.{length, drop, get_or, length-append, length-drop}
use lib.Seq.{drop-append-le, drop_at}
use borrow.Author.Tests.{le-leb}
use Rattle.words.specs.Words.{kind, low, word, top_kind}
use Rattle.words.proofs.Testing.{none_some, some_injective}
use Rattle.plans.specs.declared.EndingKind.TheVariants.{Top}
use Rattle.plans.specs.declared.Years.{Years}
use Rattle.plans.specs.Conditions.{Read}
use Rattle.plans.specs.Years.{years_in, year_words, head_of, body_of}
use Rattle.plans.specs.Branches.{Branch, read_branches}
use Rattle.plans.specs.Endings.{most_best, ending_kind_of, form_as, ending_form, ending_as, ending_at}
use Rattle.plans.specs.Plans.{Plan, most_plan_words, branch_count, with_ending, read_plan, has_form, plan_or, plan_of}
use Rattle.plans.specs.Reading.{words_read}
use Rattle.plans.specs.Former.{written}
use Rattle.plans.proofs.Bounds.{cond_some, was_read}
use Rattle.plans.proofs.Readers.{branches_local}
use Rattle.plans.proofs.Former.{ending_as_before}
use Rattle.turns.specs.Opening.{open_of}
use Rattle.cuts.specs.Histories.{history, fresh}
use Rattle.cuts.specs.Uncut.{AsUncut}
use Rattle.cuts.proofs.AnyCut.{any_cut}
use Rattle.former.specs.Runs.{FormerQuery}
use Rattle.former.specs.Finished.{FormerList}
use Rattle.former.specs.Callers.{ending_place, former_ending_as, former_ending_at, former_plan_of, asking, UncutList, ListAsBefore}
use Rattle.former.proofs.Finished.{earlier_as_before}

-- ---- the first word of a best-of ending
written_most : (k : ℕ) → k ≤ most_best → written k ≤ most_best
written_most zero h = omega arith
written_most (suc k) h = h

module _ (k : ℕ) (few : k ≤ most_best) where
  k_of : (kind (word top_kind k) ≡ top_kind) × (low (word top_kind k) ≡ k)
  k_of = (omega arith, omega arith)

  begins_top : ending_kind_of (word top_kind k) ≡ Top
  unfolding ending_kind_of
  begins_top =
      rw (k_of.0, k_of.1) (rw (le-leb k most_best few))

-- ---- the words before the ending
module _ (front us vs : List ℕ) (some-front : 1 ≤ length front) where
  same_year_words : year_words (front ++ us) ≡ year_words (front ++ vs)
  unfolding year_words
  same_year_words = go front some-front
    where
      go : (fs : List ℕ) → 1 ≤ length fs → year_words (fs ++ us) ≡ year_words (fs ++ vs)
      go [] h = absurd (omega arith)
      go (f ∷ fs) h = refl

  same_years : years_in (front ++ us) ≡ years_in (front ++ vs)
  unfolding years_in
  same_years = go front some-front
    where
      go : (fs : List ℕ) → 1 ≤ length fs → years_in (fs ++ us) ≡ years_in (fs ++ vs)
      go [] h = absurd (omega arith)
      go (f ∷ fs) h = refl

  same_head : (y : ℕ) → y + 1 ≤ length front → get_or (drop y (front ++ us)) 0 0 ≡ get_or (drop y (front ++ vs)) 0 0
  same_head y h =
      ap (λ l. get_or l 0 0) (drop-append-le y front us (omega arith))
      ∙ go (drop y front) (omega (arith, length-drop y front))
      ∙ sym (ap (λ l. get_or l 0 0) (drop-append-le y front vs (omega arith)))
    where
      go : (fs : List ℕ) → 1 ≤ length fs → get_or (fs ++ us) 0 0 ≡ get_or (fs ++ vs) 0 0
      go [] l = absurd (omega arith)
      go (f ∷ fs) l = refl

-- the words behind the head
body_behind : (front us : List ℕ) (y : ℕ) → y + 1 ≤ length front → drop 1 (drop y (front ++ us)) ≡ drop 1 (drop y front) ++ us
body_behind front us y h =
    ap (drop 1) (drop-append-le y front us (omega arith)) ∙ drop-append-le 1 (drop y front) us (omega (arith, length-drop y front))

-- ---- reading
-- a plan by the parts of its words
abbrev by_parts : ℕ → ℕ → Years → List ℕ → Option Plan
by_parts long head years body =
    cond (leb long most_plan_words && not (eqb (branch_count head) 0)) (with_ending years body (read_branches (branch_count head) body)) none

by_parts_lem : (ws : List ℕ) → read_plan ws ≡ by_parts (length ws) (head_of ws) (years_in ws) (body_of ws)
unfolding read_plan
by_parts_lem ws = refl

parts_read : (long head : ℕ) (years : Years) (body : List ℕ) (x : List Branch × ℕ) → leb long most_plan_words && not (eqb (branch_count head) 0) ≡ true
    → read_branches (branch_count head) body ≡ some x → ending_form (drop x.1 body) ≡ true
    → by_parts long head years body ≡ some (record { years = years; branches = x.0; ending = ending_at (drop x.1 body) })
parts_read long head years body x p r f = rw (p, r, f)

module _ (front rest : List ℕ) (k : ℕ) (few : k ≤ most_best) where
  abbrev then : List ℕ
  then = asking front k rest

  abbrev now : List ℕ
  now = asking front (written k) rest

  -- the ending now is the ending then
  now_forms : ending_form (word top_kind k ∷ rest) ≡ true → ending_form (word top_kind (written k) ∷ rest) ≡ true
  unfolding form_as
  now_forms e =
      ap (λ l. form_as l (word top_kind (written k) ∷ rest)) (begins_top (written k) (written_most k few))
      ∙ sym (ap (λ l. form_as l (word top_kind k ∷ rest)) (begins_top k few)) ∙ e

  now_ends : ending_at (word top_kind (written k) ∷ rest) ≡ former_ending_at (word top_kind k ∷ rest)
  now_ends =
      ap (λ l. ending_as l (word top_kind (written k) ∷ rest)) (begins_top (written k) (written_most k few))
      ∙ ending_as_before (word top_kind k) (word top_kind (written k)) rest
      ((k_of (written k) (written_most k few)).1 ∙ ap written (sym (k_of k few).1))
      ∙ sym (ap (λ l. former_ending_as l (word top_kind k ∷ rest)) (begins_top k few))

  module _ (q : Plan) (read : read_plan then ≡ some q) (place : ending_place then ≡ length front) where
    abbrev y : ℕ
    y = year_words then

    abbrev n : ℕ
    n = branch_count (head_of then)

    whole : (leb (length then) most_plan_words && not (eqb n 0) ≡ true) × (with_ending (years_in then) (body_of then) (read_branches n (body_of then)) ≡ some q)
    whole = cond_some (leb (length then) most_plan_words && not (eqb n 0)) _ q (sym (by_parts_lem then) ∙ read)

    abbrev body : List ℕ
    body = drop 1 (drop y front)

    module _ (x : List Branch × ℕ) (e : read_branches n (body_of then) ≡ some x) where
      long : y + (1 + x.1) ≡ length front
      long = ap (λ r. y + (1 + words_read r)) (sym e) ∙ place

      size : length body ≡ x.1
      size = omega (arith, long, length-drop 1 (drop y front), length-drop y front)

      behind : (us : List ℕ) → drop 1 (drop y (front ++ us)) ≡ body ++ us
      behind us = body_behind front us y (omega (arith, long))

      form : (ending_form (word top_kind k ∷ rest) ≡ true) × (q.years ≡ years_in then) × (q.branches ≡ x.0)
      form =
          let f = cond_some (ending_form (drop x.1 (body_of then))) _ q (ap (with_ending (years_in then) (body_of then)) (sym e) ∙ whole.1) in
          let tail : drop x.1 (body_of then) ≡ word top_kind k ∷ rest =
          ap (drop x.1) (behind (word top_kind k ∷ rest)) ∙ drop_at body (word top_kind k ∷ rest) x.1 size in
          let same = some_injective f.1 in (
            ap ending_form (sym tail) ∙ f.0,
            sym (ap (λ (o : Plan). o.years) same),
            sym (ap (λ (o : Plan). o.branches) same),
          )

      parts_now : read_plan now ≡ by_parts (length then) (head_of then) (years_in then) (body ++ (word top_kind (written k) ∷ rest))
      parts_now =
          let some-front : 1 ≤ length front = omega (arith, long) in
          let u = word top_kind (written k) ∷ rest in
          let w = word top_kind k ∷ rest in
          let years = same_year_words front u w some-front in
          let a : length now ≡ length then = length-append front u ∙ sym (length-append front w) in
          let b : head_of now ≡ head_of then = ap (λ m. get_or (drop m now) 0 0) years ∙ same_head front u w some-front y (omega (arith, long)) in
          let c : years_in now ≡ years_in then = same_years front u w some-front in
          let d : body_of now ≡ body ++ u = ap (λ m. drop 1 (drop m now)) years ∙ behind u in
          by_parts_lem now ∙ (λ i. by_parts (a i) (b i) (c i) (d i))

      reads : read_plan now ≡ some (former_plan_of then)
      reads =
          let u = word top_kind (written k) ∷ rest in
          let tail : drop x.1 (body ++ u) ≡ u = drop_at body u x.1 size in
          let read-then : plan_of then ≡ q = ap plan_or read in
          let end : drop (ending_place then) then ≡ word top_kind k ∷ rest = drop_at front (word top_kind k ∷ rest) (ending_place then) (sym place) in
          let years : years_in then ≡ (plan_of then).years = sym form.1 ∙ sym (ap (λ (o : Plan). o.years) read-then) in
          let branches : x.0 ≡ (plan_of then).branches = sym form.2 ∙ sym (ap (λ (o : Plan). o.branches) read-then) in
          let ending : ending_at (drop x.1 (body ++ u)) ≡ former_ending_at (drop (ending_place then) then) =
          ap ending_at tail ∙ now_ends ∙ sym (ap former_ending_at end) in
          parts_now
          ∙ parts_read (length then) (head_of then) (years_in then) (body ++ u) x whole.0
          (branches_local n body (word top_kind k ∷ rest) u x (ap (read_branches n) (sym (behind (word top_kind k ∷ rest))) ∙ e) (omega (arith, size)))
          (ap ending_form tail ∙ now_forms form.0)
          ∙ (λ i. some (record { years = years i; branches = branches i; ending = ending i }))

    pub now_reads : read_plan now ≡ some (former_plan_of then)
    now_reads = go (read_branches n (body_of then)) refl
      where
        go : (r : Read (List Branch)) → read_branches n (body_of then) ≡ r → read_plan now ≡ some (former_plan_of then)
        go none e = absurd (none_some (ap (with_ending (years_in then) (body_of then)) (sym e) ∙ whole.1))
        go (some x) e = reads x e

  -- the plan now is the one that the former words stood for
  pub plan_as_before : has_form (read_plan then) ≡ true → ending_place then ≡ length front → plan_of now ≡ former_plan_of then
  plan_as_before form place = ap plan_or (now_reads (plan_of then) (was_read (read_plan then) form) place)

-- For every caller's plan that had the form, whose words up to its best-of ending are `front`.
pub callers_as_before : (front : List ℕ) (k : ℕ) (rest : List ℕ) → k ≤ most_best → has_form (read_plan (asking front k rest)) ≡ true
    → ending_place (asking front k rest) ≡ length front → ListAsBefore front k rest
callers_as_before front k rest few form place v state o es p =
    let plan = asking front (written k) rest in
    let h = history v plan (fresh (open_of v plan state)) es in
    let same = plan_as_before front rest k few form place in
    let u : AsUncut v (plan_of plan) h = any_cut v plan state o es p in
    record {
      plan = same;
      finished = λ d w.
          let f = u.finished d w in
          subst (λ q. UncutList v.tables q h.kept) same (record { steps = u.upto; ends = f.0; is = f.1 });
      earlier = λ was d w.
          subst (λ q. FormerList v.tables q h.kept) same
          ((earlier_as_before v plan state o es p (subst⁻¹ (FormerQuery v.tables) same was)).finished d w);
    }
