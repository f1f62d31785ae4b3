-- A turn of the count of two lists of groups merged: what is counted and what the rest comes to make up the whole.
use Prim.Native.Nat.{ℕ, zero, suc, ◌+◌, ◌*◌, ◌-◌, ◌/◌, ◌%◌, ◌≤◌, ◌<◌}
use native.Mathlib.Omega.{arith}
use native.Mathlib.Nat.{suc-mul, div-add-mod', mul-div_cancel}
use mathlib.Core.Path.{◌≡◌, refl, sym, ◌∙◌, ap, ap₂}
use mathlib.Core.Bool.{true, false, cond}
use mathlib.Core.List.{List}
use lib.ListN.{length}
use Rattle.std.specs.declared.cmp.Ordering.{Ordering}
use Rattle.std.specs.declared.cmp.Ordering.TheVariants.{Less, Equal, Greater}
use Rattle.std.specs.Prelude.{Option, Some, None}
use Rattle.lists.specs.Groups.{totals_width}
use Rattle.list_group_merges.specs.MergingBackwards.{walked, record_at, pick_at, sides, join_fits, more_by, count_walk, union_of}
use Rattle.list_group_merges.proofs.BackWalks.{step_by, walk_end}
use Rattle.list_group_merges.proofs.WalkSteps.{mul_small, old_left, new_left, WalkStepped, stepped, walk_steps}

more_none : (u : Option ℕ) → u ≡ more_by 0 u
more_none (Some n) = ap Some (omega arith)
more_none None = refl

more_more : (k : ℕ) (u : Option ℕ) → more_by k (more_by 1 u) ≡ more_by (k + 1) u
more_more k (Some n) = ap Some (omega arith)
more_more k None = refl

-- the words of whole records
pub whole_words : (n w : ℕ) → n % w ≡ 0 → n ≡ n / w * w
whole_words n w h = let d = div-add-mod' n w in omega arith

-- the last records of i and j, where their totals fit if they are joined
abbrev pub UnionFits : ℕ → List ℕ → ℕ → List ℕ → ℕ → Ordering → Type 0
UnionFits g a x b y s =
    s ≡ Equal → join_fits g (record_at g a (x - (g + totals_width))) (record_at g b (y - (g + totals_width))) ≡ true

pub record UnionCounted (g : ℕ) (a b : List ℕ) (whole : Option ℕ) (most x y n : ℕ) : Type 0 where
  pub i : ℕ
  pub j : ℕ
  pub x_is : x ≡ i * (g + totals_width)
  pub y_is : y ≡ j * (g + totals_width)
  pub x_in : x ≤ length a
  pub y_in : y ≤ length b
  pub small : 8 * n + x + y ≤ most
  pub rest : whole ≡ more_by n (union_of g a b i j)

pub counted_start : (g : ℕ) (a b : List ℕ) (used : ℕ) → used ≤ length a → used % (g + totals_width) ≡ 0
    → length b % (g + totals_width) ≡ 0
    → UnionCounted g a b (union_of g a b (used / (g + totals_width)) (length b / (g + totals_width))) (used + length b) used (length b) 0
counted_start g a b used u h k =
    record {
      i = used / (g + totals_width);
      j = length b / (g + totals_width);
      x_is = whole_words used (g + totals_width) h;
      y_is = whole_words (length b) (g + totals_width) k;
      x_in = u;
      y_in = omega arith;
      small = omega arith;
      rest = more_none (union_of g a b (used / (g + totals_width)) (length b / (g + totals_width)));
    }

module _ {g : ℕ} {a b : List ℕ} {whole : Option ℕ} {most x y n : ℕ} (c : UnionCounted g a b whole most x y n) where
  -- the first kept record begins at word 0
  pub counted_first : x < g + totals_width → x ≡ 0
  counted_first h = mul_small c.i (g + totals_width) x c.x_is h

  pub counted_end : y ≡ 0 → whole ≡ Some (n + x / (g + totals_width))
  unfolding union_of
  counted_end e =
      let none : c.j ≡ 0 = go c.j c.y_is in
      let d : x / (g + totals_width) ≡ c.i = ap (λ k. k / (g + totals_width)) c.x_is ∙ mul-div_cancel c.i (omega arith) in
      c.rest
      ∙ ap (λ j. more_by n (walked (sides g a b) (count_walk g a b) c.i j)) none
      ∙ ap (more_by n) (walk_end (sides g a b) (count_walk g a b) c.i)
      ∙ ap Some (omega arith)
    where
      go : (j : ℕ) → y ≡ j * (g + totals_width) → j ≡ 0
      go zero h = refl
      go (suc j) h = absurd (let s = suc-mul j (g + totals_width) in omega arith)

  module _ (h : 0 < y) (s : Ordering) (e : pick_at g a x b y ≡ s) where
    step : WalkStepped g x y c.i c.j s
    step = stepped g a b x y c.i c.j c.x_is c.y_is h s e

    pub counted_new : g + totals_width ≤ y
    counted_new = step.y_there

    pub counted_old : (s ≡ Less → ⊥) → g + totals_width ≤ x
    counted_old = step.x_there

    steps : whole ≡ more_by n (step_by (count_walk g a b) s step.p step.q (union_of g a b step.p step.q))
    unfolding union_of
    steps = c.rest ∙ ap (more_by n) (walk_steps g a b x y (count_walk g a b) c.i c.j c.x_is c.y_is s e step)

  -- one record more
  pub counted_next : (h : 0 < y) (s : Ordering) → pick_at g a x b y ≡ s → UnionFits g a x b y s
      → UnionCounted g a b whole most (old_left g s x) (new_left g s y) (n + 1)
  counted_next h Less e f =
      let t = step h Less e in
      let m = c.small in
      let k = t.y_there in
      let l = c.y_in in
      record {
        i = t.p;
        j = t.q;
        x_is = t.x_left;
        y_is = t.y_left;
        x_in = c.x_in;
        y_in = omega arith;
        small = omega arith;
        rest = steps h Less e ∙ more_more n (union_of g a b t.p t.q);
      }
  counted_next h Greater e f =
      let t = step h Greater e in
      let m = c.small in
      let k = t.x_there (λ z. let d : ◌≡◌ {A = ℕ} 0 1 = cc in omega arith) in
      let l = c.x_in in
      record {
        i = t.p;
        j = t.q;
        x_is = t.x_left;
        y_is = t.y_left;
        x_in = omega arith;
        y_in = c.y_in;
        small = omega arith;
        rest = steps h Greater e ∙ more_more n (union_of g a b t.p t.q);
      }
  counted_next h Equal e f =
      let t = step h Equal e in
      let m = c.small in
      let k = t.x_there (λ z. let d : ◌≡◌ {A = ℕ} 0 1 = cc in omega arith) in
      let k' = t.y_there in
      let l = c.x_in in
      let l' = c.y_in in
      let u = union_of g a b t.p t.q in
      let fit : join_fits g (record_at g a (t.p * (g + totals_width))) (record_at g b (t.q * (g + totals_width))) ≡ true =
      ap₂ (λ p q. join_fits g (record_at g a p) (record_at g b q)) (sym t.x_left) (sym t.y_left) ∙ f refl in
      record {
        i = t.p;
        j = t.q;
        x_is = t.x_left;
        y_is = t.y_left;
        x_in = omega arith;
        y_in = omega arith;
        small = omega arith;
        rest = steps h Equal e ∙ ap (λ z. more_by n (cond z (more_by 1 u) None)) fit ∙ more_more n u;
      }

  -- a total that does not fit
  pub counted_over : (h : 0 < y) → pick_at g a x b y ≡ Equal
      → join_fits g (record_at g a (x - (g + totals_width))) (record_at g b (y - (g + totals_width))) ≡ false → whole ≡ None
  counted_over h e f =
      let t = step h Equal e in
      let u = union_of g a b t.p t.q in
      let over : join_fits g (record_at g a (t.p * (g + totals_width))) (record_at g b (t.q * (g + totals_width))) ≡ false =
      ap₂ (λ p q. join_fits g (record_at g a p) (record_at g b q)) (sym t.x_left) (sym t.y_left) ∙ f in
      steps h Equal e ∙ ap (λ z. more_by n (cond z (more_by 1 u) None)) over
