-- A turn of the merge from the back: the words that are done and the untouched ones behind them make up the merged list, the
-- records that are left are as they were, and there is room for them.
use Prim.Native.Nat.{ℕ, zero, suc, ◌+◌, ◌*◌, ◌-◌, ◌/◌, ◌%◌, ◌≤◌, ◌<◌}
use native.Mathlib.Omega.{arith}
use native.Mathlib.Nat.{suc-mul, mul-le-mul_right}
use mathlib.Core.Path.{◌≡◌, refl, sym, ◌∙◌, ap, ap₂}
use mathlib.Core.Bool.{Bool, true, false, cond}
use mathlib.Core.List.{List, ◌++◌, append_assoc}
use lib.ListN.{length, take, drop, length-append, length-drop, take-append-drop}
use lib.Seq.{take-append-le, take-take, drop_at, length-take-le}
use Rattle.std.specs.declared.cmp.Ordering.{Ordering}
use Rattle.std.specs.declared.cmp.Ordering.TheVariants.{Less, Equal, Greater}
use Rattle.std.specs.Prelude.{Option, Some, None}
use Rattle.lists.specs.Groups.{totals_width}
use Rattle.list_group_merges.specs.MergingBackwards.{by_side, walked, walked_in, record_at, pick_at, sides, join_fits, more_by}
use Rattle.list_group_merges.specs.MergingBackwards.{count_walk, word_walk, merged_records, union_of}
use Rattle.list_group_merges.specs.MergingGroups.{last_record, CanPut}
use Rattle.list_group_merges.proofs.BackWalks.{walk_end}
use Rattle.list_group_merges.proofs.WalkSteps.{mul_small, old_left, new_left, WalkStepped, stepped, walk_steps}
use Rattle.list_group_merges.proofs.Unions.{whole_words}
use Rattle.list_group_merges.proofs.LastRecords.{pick_kept, last_wide, last_kept, last_merged, part_kept}

-- ---- the count of a list that fits
more_records : (u : Option ℕ) (k : ℕ) → more_by 1 u ≡ Some k → (u ≡ Some (k - 1)) × (0 < k)
more_records (Some n) k e = let h : n + 1 ≡ k = cc in (ap Some (omega arith), omega arith)
more_records None k e = let z : ◌≡◌ {A = ℕ} 0 1 = cc in absurd (omega arith)

cond_records : (t : Bool) (u : Option ℕ) (k : ℕ) → cond t u None ≡ Some k → (t ≡ true) × (u ≡ Some k)
cond_records true u k e = (refl, e)
cond_records false u k e = let z : ◌≡◌ {A = ℕ} 0 1 = cc in absurd (omega arith)

-- one record less, and the totals of two that are joined fit
step_records : (s : Ordering) (t : Bool) (u : Option ℕ) (k : ℕ) → by_side s (more_by 1 u) (cond t (more_by 1 u) None) (more_by 1 u) ≡ Some k
    → (u ≡ Some (k - 1)) × (0 < k) × (s ≡ Equal → t ≡ true)
step_records Less t u k e = let r = more_records u k e in (r.0, r.1, λ p. let z : ◌≡◌ {A = ℕ} 0 1 = cc in absurd (omega arith))
step_records Equal t u k e = let c = cond_records t (more_by 1 u) k e in let r = more_records u k c.1 in (r.0, r.1, λ p. c.0)
step_records Greater t u k e = let r = more_records u k e in (r.0, r.1, λ p. let z : ◌≡◌ {A = ℕ} 0 1 = cc in absurd (omega arith))

-- the merged list has room for each of both
enough : (g : ℕ) (a b : List ℕ) (i j k : ℕ) → union_of g a b i j ≡ Some k → (i ≤ k) × (j ≤ k)
unfolding union_of walked walked_in
enough g a b i zero k e =
    let h : i ≡ k = (let r = sym (walk_end (sides g a b) (count_walk g a b) i) ∙ e in let z : i ≡ k = cc in z) in
    (omega arith, omega arith)
enough g a b zero (suc j) k e =
    let m = more_records (union_of g a b zero j) k e in
    let r = enough g a b zero j (k - 1) m.0 in
    (omega arith, omega arith)
enough g a b (suc i) (suc j) k e = go (sides g a b (suc i) (suc j)) refl (λ n. enough g a b (suc i) j n) (λ n. enough g a b i (suc j) n)
    (λ n. enough g a b i j n)
  where
    go : (s : Ordering) → sides g a b (suc i) (suc j) ≡ s
        → ((n : ℕ) → union_of g a b (suc i) j ≡ Some n → (suc i ≤ n) × (j ≤ n))
        → ((n : ℕ) → union_of g a b i (suc j) ≡ Some n → (i ≤ n) × (suc j ≤ n))
        → ((n : ℕ) → union_of g a b i j ≡ Some n → (i ≤ n) × (j ≤ n))
        → (suc i ≤ k) × (suc j ≤ k)
    go Less s p q r =
        let m = more_records (union_of g a b (suc i) j) k (sym (rw s) ∙ e) in
        let z = p (k - 1) m.0 in
        (omega arith, omega arith)
    go Greater s p q r =
        let m = more_records (union_of g a b i (suc j)) k (sym (rw s) ∙ e) in
        let z = q (k - 1) m.0 in
        (omega arith, omega arith)
    go Equal s p q r =
        let t = cond_records (join_fits g (record_at g a (i * (g + totals_width))) (record_at g b (j * (g + totals_width)))) (more_by 1 (union_of g a b i j))
        k (sym (rw s) ∙ e) in
        let m = more_records (union_of g a b i j) k t.1 in
        let z = r (k - 1) m.0 in
        (omega arith, omega arith)

-- a record put at `t`, just below the words from `to` on
put_below : (buf a whole rest rec new : List ℕ) (t w to x : ℕ) → t + w ≡ to → to ≤ length buf → length rec ≡ w → x ≤ t
    → take x buf ≡ take x a → whole ≡ (rest ++ rec) ++ drop to buf → new ≡ take t buf ++ (rec ++ drop to buf)
    → (length new ≡ length buf) × (take x new ≡ take x a) × (whole ≡ rest ++ drop t new)
put_below buf a whole rest rec new t w to x e l r h k o n =
    let size : length (take t buf) ≡ t = length-take-le t buf (omega arith) in
    let low : x ≤ length (take t buf) = omega arith in (
      ap length n ∙ simp (length-append, length-drop, size, r) (omega arith),
      ap (take x) n ∙ take-append-le x (take t buf) (rec ++ drop to buf) low ∙ take-take x t buf h ∙ k,
      o ∙ append_assoc rest rec (drop to buf) ∙ ap (λ z. rest ++ z) (sym (ap (drop t) n ∙ drop_at (take t buf) (rec ++ drop to buf) t size)),
    )

-- ---- what the merge keeps
pub record HalfMerged (g : ℕ) (a b whole buf : List ℕ) (x y to : ℕ) : Type 0 where
  pub i : ℕ
  pub j : ℕ
  pub k : ℕ
  pub x_is : x ≡ i * (g + totals_width)
  pub y_is : y ≡ j * (g + totals_width)
  pub to_is : to ≡ k * (g + totals_width)
  pub y_in : y ≤ length b
  pub to_in : to ≤ length a
  pub size : length buf ≡ length a
  pub union : union_of g a b i j ≡ Some k
  pub kept : take x buf ≡ take x a
  pub done : whole ≡ merged_records g a b i j ++ drop to buf

pub half_start : (g : ℕ) (a b : List ℕ) (used words : ℕ) → used % (g + totals_width) ≡ 0 → length b % (g + totals_width) ≡ 0
    → words % (g + totals_width) ≡ 0 → words ≤ length a
    → union_of g a b (used / (g + totals_width)) (length b / (g + totals_width)) ≡ Some (words / (g + totals_width))
    → HalfMerged g a b (merged_records g a b (used / (g + totals_width)) (length b / (g + totals_width)) ++ drop words a) a used (length b) words
half_start g a b used words hu hb hw l e =
    record {
      i = used / (g + totals_width);
      j = length b / (g + totals_width);
      k = words / (g + totals_width);
      x_is = whole_words used (g + totals_width) hu;
      y_is = whole_words (length b) (g + totals_width) hb;
      to_is = whole_words words (g + totals_width) hw;
      y_in = omega arith;
      to_in = l;
      size = refl;
      union = e;
      kept = refl;
      done = refl;
    }

module _ {g : ℕ} {a b whole buf : List ℕ} {x y to : ℕ} (h : HalfMerged g a b whole buf x y to) where
  -- the records that are left end no later than those that are done begin
  pub half_below : x ≤ to
  half_below =
      let e = enough g a b h.i h.j h.k h.union in
      let m = mul-le-mul_right {m = h.i} {n = h.k} (g + totals_width) e.0 in
      let p = h.x_is in
      let q = h.to_is in
      omega arith

  pub half_first : x < g + totals_width → x ≡ 0
  half_first l = mul_small h.i (g + totals_width) x h.x_is l

  -- nothing of the second list is left
  pub half_end : y ≡ 0 → buf ≡ whole
  unfolding merged_records union_of
  half_end e =
      let none : h.j ≡ 0 = go h.j h.y_is in
      let r = sym (walk_end (sides g a b) (count_walk g a b) h.i) ∙ ap (walked (sides g a b) (count_walk g a b) h.i) (sym none) ∙ h.union in
      let same : h.i ≡ h.k = cc in
      let xt : x ≡ to = h.x_is ∙ ap (λ n. n * (g + totals_width)) same ∙ sym h.to_is in
      let words : merged_records g a b h.i h.j ≡ take to buf =
      ap (walked (sides g a b) (word_walk g a b) h.i) none ∙ walk_end (sides g a b) (word_walk g a b) h.i
      ∙ ap (λ n. take n a) (sym h.x_is) ∙ sym h.kept ∙ ap (λ n. take n buf) xt in
      sym (h.done ∙ ap (λ l. l ++ drop to buf) words ∙ take-append-drop to buf)
    where
      go : (j : ℕ) → y ≡ j * (g + totals_width) → j ≡ 0
      go zero p = refl
      go (suc j) p = absurd (let s = suc-mul j (g + totals_width) in omega arith)

  module _ (l : 0 < y) (s : Ordering) (e : pick_at g buf x b y ≡ s) where
    picked : pick_at g a x b y ≡ s
    picked = sym (pick_kept g buf a b h.i x y h.x_is h.kept) ∙ e

    step : WalkStepped g x y h.i h.j s
    step = stepped g a b x y h.i h.j h.x_is h.y_is l s picked

    abbrev fit : Bool
    fit = join_fits g (record_at g a (step.p * (g + totals_width))) (record_at g b (step.q * (g + totals_width)))

    counted : (union_of g a b step.p step.q ≡ Some (h.k - 1)) × (0 < h.k) × (s ≡ Equal → fit ≡ true)
    unfolding union_of
    counted =
        step_records s fit (union_of g a b step.p step.q) h.k
        (sym (walk_steps g a b x y (count_walk g a b) h.i h.j h.x_is h.y_is s picked step) ∙ h.union)

    pub half_new : g + totals_width ≤ y
    half_new = step.y_there

    pub half_old : (s ≡ Less → ⊥) → g + totals_width ≤ x
    half_old = step.x_there

    -- the place of the last record
    to_left : to - (g + totals_width) ≡ (h.k - 1) * (g + totals_width)
    to_left = go h.k h.to_is counted.1
      where
        go : (k : ℕ) → to ≡ k * (g + totals_width) → 0 < k → to - (g + totals_width) ≡ (k - 1) * (g + totals_width)
        go zero p q = absurd (omega arith)
        go (suc k) p q =
            let m = suc-mul k (g + totals_width) in
            (let z : to - (g + totals_width) ≡ k * (g + totals_width) = omega arith in z)
            ∙ ap (λ n. n * (g + totals_width)) (let z : k ≡ suc k - 1 = omega arith in z)

    pub half_room : g + totals_width ≤ to
    half_room = go h.k h.to_is counted.1
      where
        go : (k : ℕ) → to ≡ k * (g + totals_width) → 0 < k → g + totals_width ≤ to
        go zero p q = absurd (omega arith)
        go (suc k) p q = let m = suc-mul k (g + totals_width) in omega arith

    -- the words that are left of the first list stay below it
    left_below : old_left g s x ≤ to - (g + totals_width)
    left_below =
        let r = enough g a b step.p step.q (h.k - 1) counted.0 in
        let m = mul-le-mul_right {m = step.p} {n = h.k - 1} (g + totals_width) r.0 in
        let p = step.x_left in
        let q = to_left in
        omega arith

    left_less : old_left g s x ≤ x
    left_less = go s
      where
        go : (s : Ordering) → old_left g s x ≤ x
        go Less = omega arith
        go Equal = omega arith
        go Greater = omega arith

    new_less : new_left g s y ≤ y
    new_less = go s
      where
        go : (s : Ordering) → new_left g s y ≤ y
        go Less = omega arith
        go Equal = omega arith
        go Greater = omega arith

    pub half_puts : CanPut g buf x b y (to - (g + totals_width)) s
    half_puts =
        let r = half_room in
        let below = half_below in
        let i = h.to_in in
        let z = h.size in
        record {
          new_there = step.y_there;
          new_inside = h.y_in;
          room = omega arith;
          old_there = step.x_there;
          old_below = λ n. omega arith;
          fits =
              λ p.
              let big = step.x_there (λ q. let c : ◌≡◌ {A = ℕ} 0 1 = cc in omega arith) in
              ap₂ (λ r t. join_fits g r t)
              (part_kept buf a x (x - (g + totals_width)) (g + totals_width) h.kept (omega arith)
              ∙ ap (record_at g a) (sym (ap (λ s. old_left g s x) p) ∙ step.x_left))
              (ap (record_at g b) (sym (ap (λ s. new_left g s y) p) ∙ step.y_left))
              ∙ counted.2 p;
        }

    pub half_next : (new : List ℕ)
        → new ≡ take (to - (g + totals_width)) buf ++ (last_record g buf x b y s ++ drop (to - (g + totals_width) + (g + totals_width)) buf)
        → HalfMerged g a b whole new (old_left g s x) (new_left g s y) (to - (g + totals_width))
    half_next new n =
        let r = half_room in
        let below = half_below in
        let i = h.to_in in
        let z = h.size in
        let less = left_less in
        let fewer = new_less in
        let in' = h.y_in in
        let back : to - (g + totals_width) + (g + totals_width) ≡ to = omega arith in
        let rec = last_record g a x b y s in
        let wide : length rec ≡ g + totals_width = last_wide g a b x y s step.y_there h.y_in step.x_there (omega arith) in
        let same : take (old_left g s x) buf ≡ take (old_left g s x) a = part_kept buf a x 0 (old_left g s x) h.kept (omega arith) in
        let made : whole ≡ (merged_records g a b step.p step.q ++ rec) ++ drop to buf =
        h.done ∙ ap (λ l. l ++ drop to buf) (last_merged g a b x y h.i h.j h.x_is h.y_is s picked step) in
        let now : new ≡ take (to - (g + totals_width)) buf ++ (rec ++ drop to buf) =
        n ∙ ap₂ (λ k l. take (to - (g + totals_width)) buf ++ (k ++ drop l buf)) (last_kept g a b x y buf s step.x_there h.kept) back in
        let q = put_below buf a whole (merged_records g a b step.p step.q) rec new (to - (g + totals_width)) (g + totals_width) to (old_left g s x)
        back (omega arith) wide left_below same made now in
        record {
          i = step.p;
          j = step.q;
          k = h.k - 1;
          x_is = step.x_left;
          y_is = step.y_left;
          to_is = to_left;
          y_in = omega arith;
          to_in = omega arith;
          size = q.0 ∙ h.size;
          union = counted.0;
          kept = q.1;
          done = q.2;
        }
