-- What a plan that was read satisfies: how many branches, patterns, variables and keys it has.
use Prim.Native.Nat.{ℕ, zero, suc, ◌+◌, ◌*◌, ◌≤◌, ◌<◌}
use native.Mathlib.Omega.{arith}
use mathlib.Core.Path.{◌≡◌, refl, sym, ◌∙◌, ap, subst}
use mathlib.Core.Bool.{Bool, true, false, cond, ◌&&◌, not}
use mathlib.Core.Option.{Option, none, some}
use mathlib.Core.List.{List, [], ◌∷◌}
use lib.Dec.{eqb, leb, ltb}
use lib.ListN.{length, take, drop, get_or, length-take, length-drop}
use lib.Seq.{get_or-drop}
use borrow.Author.Tests.{leb-true, ltb-false, eqb-true, eqb-false, not-true}
use Rattle.words.specs.Words.{kind, low, is_variable, head_kind, branch_kind, rows_kind, top_kind, group_kind, registers_kind}
use Rattle.sequences.proofs.Booleans.{and_left, and_right, absurd_true}
use Rattle.words.proofs.Testing.{none_some, some_injective}
use Rattle.sequences.proofs.Elements.{all_take, all_at_lem}
use Rattle.plans.specs.declared.EndingKind.{EndingKind}
use Rattle.plans.specs.declared.EndingKind.TheVariants.{Rows, Top, Group, Registers, Invalid}
use Rattle.plans.specs.declared.Years.{Years}
use Rattle.plans.specs.Years.{years_in, head_of, body_of}
use Rattle.plans.specs.Conditions.{Condition, Read, next, read_condition, nodes, most_depth, most_nodes}
use Rattle.plans.specs.Branches.{Branch, pattern_width, most_patterns, pattern_count, with_condition, read_branch, read_branches, nth_branch}
use Rattle.plans.specs.Endings.{most_row_variables, most_best, default_best, most_keys, most_group_variables}
use Rattle.plans.specs.Endings.{best_count, row_width, row_variables, after_rows, rows_form, keys_form, ending_kind_of, form_as, ending_form, ending_as}
use Rattle.plans.specs.Endings.{ending_at}
pub use Rattle.plans.specs.Forms.{BranchForm, RowForm, TopForm, GroupForm, EndingForm}
use Rattle.plans.specs.Plans.{Plan, most_branches, most_plan_words, branch_count, with_ending, read_plan, has_form, plan_or, branch_at}

-- ---- what was read where a reader's answer is there
pub cond_some {ℓ} : {A : Type ℓ} (b : Bool) (x : Option A) (a : A) → cond b x none ≡ some a → (b ≡ true) × (x ≡ some a)
cond_some true x a e = (refl, e)
cond_some false x a e = absurd (none_some e)

pub cond_none {ℓ} : {A : Type ℓ} (b : Bool) (x : Option A) (a : A) → cond b none x ≡ some a → (b ≡ false) × (x ≡ some a)
cond_none true x a e = absurd (none_some e)
cond_none false x a e = (refl, e)

pub next_some {ℓ κ} : {A : Type ℓ} {B : Type κ} (x : Option A) (f : A → Option B) (b : B) → next x f ≡ some b
    → (a : A) × (x ≡ some a) × (f a ≡ some b)
next_some none f b e = absurd (none_some e)
next_some (some a) f b e = (a, refl, e)

-- a count that a word names is at most its bound
named_at_most : (a b : Bool) (n m : ℕ) → b ≡ leb n m → cond a (cond b n 0) 0 ≤ m
named_at_most false b n m e = omega arith
named_at_most true false n m e = omega arith
named_at_most true true n m e = leb-true n m (sym e)

-- ---- branches
with_condition_lem : (n : ℕ) (ws : List ℕ) (c : Read Condition) (x : Branch × ℕ) → with_condition n ws c ≡ some x
    → x.0.terms ≡ take (pattern_width * n) (drop 1 ws)
with_condition_lem n ws none x e = absurd (none_some e)
with_condition_lem n ws (some c) x e =
    ap (λ (y : Branch × ℕ). y.0.terms) (sym (some_injective (cond_some (leb (nodes c.0) most_nodes) _ x e).1))

branch_form : (ws : List ℕ) (x : Branch × ℕ) → read_branch ws ≡ some x → BranchForm x.0
unfolding read_branch
branch_form ws x e =
    let n = pattern_count (get_or ws 0 0) in
    let a = cond_none (eqb n 0) _ x e in
    let b = cond_none (ltb (length ws) (1 + pattern_width * n)) _ x a.1 in
    let w = with_condition_lem n ws (read_condition most_depth (drop (1 + pattern_width * n) ws)) x b.1 in
    let l = ltb-false (length ws) (1 + pattern_width * n) b.0 in
    let m = length-take (pattern_width * n) (drop 1 ws) in
    let d = length-drop 1 ws in
    record {
      patterns = n;
      width = ap length w ∙ omega arith;
      least = omega (arith, eqb-false n 0 a.0);
      most = named_at_most (eqb (kind (get_or ws 0 0)) branch_kind) _ (low (get_or ws 0 0)) most_patterns refl;
    }

abbrev AllForm : List Branch → Type 0
AllForm [] = Unit {0}
AllForm (b ∷ bs) = BranchForm b × AllForm bs

branches_form : (n : ℕ) (ws : List ℕ) (x : List Branch × ℕ) → read_branches n ws ≡ some x
    → (length x.0 ≡ n) × AllForm x.0
unfolding read_branches
branches_form zero ws x e = subst (λ (y : List Branch × ℕ). (length y.0 ≡ 0) × AllForm y.0) (some_injective e) (refl, tt)
branches_form (suc n) ws x e =
    let b = next_some (read_branch ws) _ x e in
    let bs = next_some (read_branches n (drop b.0.1 ws)) _ x b.2 in
    let ih = branches_form n (drop b.0.1 ws) bs.0 bs.1 in
    subst (λ (y : List Branch × ℕ). (length y.0 ≡ suc n) × AllForm y.0) (some_injective bs.2)
    (ap suc ih.0, (branch_form ws b.0 b.1, ih.1))

form_at : (bs : List Branch) (i : ℕ) → AllForm bs → i < length bs → BranchForm (nth_branch bs i)
form_at [] i h l = absurd (omega arith)
form_at (b ∷ bs) zero h l = h.0
form_at (b ∷ bs) (suc i) h l = form_at bs i h.1 (omega arith)

-- ---- endings
row_form : (ws : List ℕ) → rows_form ws ≡ true → RowForm (row_variables ws)
unfolding rows_form
row_form ws e =
    let n = row_width (get_or ws 0 0) in
    let f = and_right (not (eqb n 0)) _ e in
    let l = leb-true (1 + n) (length ws) (and_left (leb (1 + n) (length ws)) _ f) in
    let m = length-take n (drop 1 ws) in
    let d = length-drop 1 ws in
    let w = eqb-false n 0 (not-true (eqb n 0) (and_left (not (eqb n 0)) _ e)) in
    let b : n ≤ most_row_variables = named_at_most (eqb (kind (get_or ws 0 0)) rows_kind) _ (low (get_or ws 0 0)) most_row_variables refl in
    record { least = omega arith; most = omega arith; variables = and_right (leb (1 + n) (length ws)) _ f }

-- the k of a best-of ending, and the group variables' count, are at most their bounds
last_bound : (a b c d e f g : Bool) (l : EndingKind)
    → cond a Rows (cond b (cond c Top Invalid) (cond d (cond e Group Invalid) (cond f (cond g Registers Invalid) Invalid))) ≡ l
    → (l ≡ Top → c ≡ true) × (l ≡ Group → e ≡ true)
last_bound true b c d e f g l p = (λ q. cc, λ q. cc)
last_bound false true true d e f g l p = (λ q. refl, λ q. cc)
last_bound false true false d e f g l p = (λ q. cc, λ q. cc)
last_bound false false c true true f g l p = (λ q. cc, λ q. refl)
last_bound false false c true false f g l p = (λ q. cc, λ q. cc)
last_bound false false c false e true true l p = (λ q. cc, λ q. cc)
last_bound false false c false e true false l p = (λ q. cc, λ q. cc)
last_bound false false c false e false g l p = (λ q. cc, λ q. cc)

best_count_lem : (k : ℕ) → k ≤ most_best → (1 ≤ best_count k) × (best_count k ≤ most_best)
best_count_lem k h = go (eqb k 0) refl
  where
    go : (b : Bool) → eqb k 0 ≡ b → (1 ≤ cond b default_best k) × (cond b default_best k ≤ most_best)
    go true e = (omega arith, omega arith)
    go false e = (omega (arith, eqb-false k 0 e), h)

form_as_lem : (l : EndingKind) (ws : List ℕ) → (l ≡ Top → low (get_or ws 0 0) ≤ most_best)
    → (l ≡ Group → low (get_or ws 0 0) ≤ most_group_variables) → form_as l ws ≡ true → EndingForm (ending_as l ws)
unfolding form_as ending_as keys_form
form_as_lem Rows ws t g e = row_form ws (and_left (rows_form ws) _ e)
form_as_lem Top ws t g e =
    let keys = after_rows (drop 1 ws) in
    let f = and_right (rows_form (drop 1 ws)) _ e in
    let h = and_right (not (eqb (length keys) 0)) _ f in
    let w = eqb-false (length keys) 0 (not-true (eqb (length keys) 0) (and_left (not (eqb (length keys) 0)) _ f)) in
    record {
      row = row_form (drop 1 ws) (and_left (rows_form (drop 1 ws)) _ e);
      least = (best_count_lem (low (get_or ws 0 0)) (t refl)).0;
      most = (best_count_lem (low (get_or ws 0 0)) (t refl)).1;
      some_key = omega arith;
      few_keys = leb-true (length keys) most_keys (and_left (leb (length keys) most_keys) _ h);
      are_keys = and_right (leb (length keys) most_keys) _ h;
    }
form_as_lem Group ws t g e =
    let n = low (get_or ws 0 0) in
    let l = eqb-true (length ws) (2 + n) (and_left (eqb (length ws) (2 + n)) _ e) in
    let v = and_right (eqb (length ws) (2 + n)) _ e in
    let m = length-take n (drop 1 ws) in
    let d = length-drop 1 ws in
    let h = g refl in
    record {
      most = omega arith;
      variables = all_take is_variable n (drop 1 ws) v;
      measure = subst (λ w. is_variable w ≡ true) (get_or-drop 1 ws n 0) (all_at_lem is_variable (drop 1 ws) n 0 v (omega arith));
    }
form_as_lem Registers ws t g e =
    let l = eqb-true (length ws) 2 (and_left (eqb (length ws) 2) _ e) in
    let v = and_right (eqb (length ws) 2) _ e in
    let d = length-drop 1 ws in
    subst (λ w. is_variable w ≡ true) (get_or-drop 1 ws 0 0) (all_at_lem is_variable (drop 1 ws) 0 0 v (omega arith))
form_as_lem Invalid ws t g e = absurd_true refl (sym e)

pub ending_form_lem : (ws : List ℕ) → ending_form ws ≡ true → EndingForm (ending_at ws)
unfolding ending_kind_of
ending_form_lem ws e =
    let w = get_or ws 0 0 in
    let b = last_bound (eqb (kind w) rows_kind) (eqb (kind w) top_kind) (leb (low w) most_best) (eqb (kind w) group_kind) (leb (low w) most_group_variables)
    (eqb (kind w) registers_kind) (eqb (low w) 0) (ending_kind_of w) refl in
    form_as_lem (ending_kind_of w) ws (λ p. leb-true (low w) most_best (b.0 p)) (λ p. leb-true (low w) most_group_variables (b.1 p)) e

-- ---- the plan
-- what test 5 says of a plan
pub record PlanForm (q : Plan) : Type 0 where
  pub least : 1 ≤ length q.branches
  pub most : length q.branches ≤ most_branches
  pub branch : (i : ℕ) → i < length q.branches → BranchForm (branch_at q i)
  pub ending : EndingForm q.ending

with_ending_lem : (years : Years) (ws : List ℕ) (x : Read (List Branch)) (q : Plan) → with_ending years ws x ≡ some q
    → (y : List Branch × ℕ) × (x ≡ some y) × (q.branches ≡ y.0) × EndingForm q.ending
with_ending_lem years ws none q e = absurd (none_some e)
with_ending_lem years ws (some y) q e =
    let c = cond_some (ending_form (drop y.1 ws)) _ q e in
    let p = some_injective c.1 in (
      y,
      refl,
      sym (ap (λ (z : Plan). z.branches) p),
      subst (λ (z : Plan). EndingForm z.ending) p (ending_form_lem (drop y.1 ws) c.0),
    )

pub plan_form : (ws : List ℕ) (q : Plan) → read_plan ws ≡ some q → PlanForm q
unfolding read_plan
plan_form ws q e =
    let n = branch_count (head_of ws) in
    let c = cond_some (leb (length ws) most_plan_words && not (eqb n 0)) _ q e in
    let w = with_ending_lem (years_in ws) (body_of ws) (read_branches n (body_of ws)) q c.1 in
    let f = branches_form n (body_of ws) w.0 w.1 in
    let z = eqb-false n 0 (not-true (eqb n 0) (and_right (leb (length ws) most_plan_words) _ c.0)) in
    let m : n ≤ most_branches = named_at_most (eqb (kind (head_of ws)) head_kind) _ (low (head_of ws)) most_branches refl in
    let l : length q.branches ≡ n = ap length w.2 ∙ f.0 in
    record {
      least = omega arith;
      most = omega arith;
      branch = λ i h. form_at q.branches i (subst AllForm (sym w.2) f.1) h;
      ending = w.3;
    }

-- test 5: a plan that has the form is read
pub was_read : (o : Option Plan) → has_form o ≡ true → o ≡ some (plan_or o)
was_read none e = absurd_true refl (sym e)
was_read (some q) e = refl
