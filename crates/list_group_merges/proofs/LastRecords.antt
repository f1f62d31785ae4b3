-- The last record of two lists: its width, that it is read alike from buffers with the same first words, and that the merged
-- list ends with it.
use Prim.Native.Nat.{ℕ, zero, suc, ◌+◌, ◌*◌, ◌-◌, ◌≤◌}
use native.Mathlib.Omega.{arith}
use native.Mathlib.Nat.{suc-mul}
use mathlib.Core.Path.{◌≡◌, refl, sym, ◌∙◌, ap, ap₂}
use mathlib.Core.Bool.{cond}
use mathlib.Core.List.{List, [], ◌∷◌, ◌++◌}
use lib.Dec.{eqb}
use lib.ListN.{length, take, drop, length-append, length-drop}
use lib.Seq.{take-take, length-take-le}
use Rattle.std.specs.declared.cmp.Ordering.{Ordering}
use Rattle.std.specs.declared.cmp.Ordering.TheVariants.{Less, Equal, Greater}
use Rattle.lists.specs.Groups.{totals_width}
use Rattle.list_group_totals.specs.GroupTotals.{totals_in, totals_words, totals_both}
use Rattle.list_groups.specs.Keys.{keys_first}
use Rattle.lists.specs.Sides.{side_by}
use Rattle.list_group_merges.specs.MergingBackwards.{record_at, pick_at, join_words, word_walk, merged_records}
use Rattle.list_group_merges.specs.MergingGroups.{last_record}
use Rattle.list_group_merges.proofs.WalkSteps.{pick_none, WalkStepped, walk_steps}

-- ---- a part within the words that two buffers share
part_of_lem : (p : List ℕ) (x f c : ℕ) → f + c ≤ x → take c (drop f p) ≡ take c (drop f (take x p))
part_of_lem p x zero c h = sym (take-take c x p (omega arith))
part_of_lem p zero (suc f) c h = absurd (omega (arith, h))
part_of_lem [] (suc x) (suc f) c h = refl
part_of_lem (z ∷ p) (suc x) (suc f) c h = part_of_lem p x f c (omega arith)

pub part_kept : (p q : List ℕ) (x f c : ℕ) → take x p ≡ take x q → f + c ≤ x → take c (drop f p) ≡ take c (drop f q)
part_kept p q x f c e h = part_of_lem p x f c h ∙ ap (λ l. take c (drop f l)) e ∙ sym (part_of_lem q x f c h)

-- which record is the last
pub pick_kept : (g : ℕ) (p q b : List ℕ) (i x y : ℕ) → x ≡ i * (g + totals_width) → take x p ≡ take x q
    → pick_at g p x b y ≡ pick_at g q x b y
unfolding pick_at
pick_kept g p q b zero x y e k = pick_none g p x b y (omega arith) ∙ sym (pick_none g q x b y (omega arith))
pick_kept g p q b (suc i) x y e k =
    let s = suc-mul i (g + totals_width) in
    ap (λ r. cond (eqb x 0) Less (side_by keys_first r (take g (drop (y - (g + totals_width)) b))))
    (part_kept p q x (x - (g + totals_width)) g k (omega arith))

-- ---- records
record_wide : (g : ℕ) (ws : List ℕ) (x : ℕ) → g + totals_width ≤ x → x ≤ length ws → length (record_at g ws (x - (g + totals_width)))
    ≡ g + totals_width
record_wide g ws x h l = let d = length-drop (x - (g + totals_width)) ws in length-take-le (g + totals_width) (drop (x - (g + totals_width)) ws) (omega arith)

join_wide : (g : ℕ) (r s : List ℕ) → length r ≡ g + totals_width → length (join_words g r s) ≡ g + totals_width
unfolding join_words
join_wide g r s e =
    length-append (take g r) (totals_words (totals_both (totals_in (drop g r)) (totals_in (drop g s))))
    ∙ ap (λ n. n + totals_width) (length-take-le g r (omega arith))

module _ (g : ℕ) (a b : List ℕ) (x y : ℕ) where
  pub last_wide : (s : Ordering) → g + totals_width ≤ y → y ≤ length b → ((s ≡ Less → ⊥) → g + totals_width ≤ x) → x ≤ length a
      → length (last_record g a x b y s) ≡ g + totals_width
  last_wide Less hy ly hx lx = record_wide g b y hy ly
  last_wide Equal hy ly hx lx =
      join_wide g (record_at g a (x - (g + totals_width))) (record_at g b (y - (g + totals_width)))
      (record_wide g a x (hx (λ e. let z : ◌≡◌ {A = ℕ} 0 1 = cc in omega arith)) lx)
  last_wide Greater hy ly hx lx = record_wide g a x (hx (λ e. let z : ◌≡◌ {A = ℕ} 0 1 = cc in omega arith)) lx

  pub last_kept : (p : List ℕ) (s : Ordering) → ((s ≡ Less → ⊥) → g + totals_width ≤ x) → take x p ≡ take x a
      → last_record g p x b y s ≡ last_record g a x b y s
  last_kept p Less h e = refl
  last_kept p Equal h e =
      let l = h (λ e. let z : ◌≡◌ {A = ℕ} 0 1 = cc in omega arith) in
      ap (λ r. join_words g r (record_at g b (y - (g + totals_width)))) (part_kept p a x (x - (g + totals_width)) (g + totals_width) e (omega arith))
  last_kept p Greater h e =
      let l = h (λ e. let z : ◌≡◌ {A = ℕ} 0 1 = cc in omega arith) in
      part_kept p a x (x - (g + totals_width)) (g + totals_width) e (omega arith)

  -- the merged list ends with it
  pub last_merged : (i j : ℕ) → x ≡ i * (g + totals_width) → y ≡ j * (g + totals_width) → (s : Ordering) → pick_at g a x b y ≡ s
      → (t : WalkStepped g x y i j s) → merged_records g a b i j ≡ merged_records g a b t.p t.q ++ last_record g a x b y s
  unfolding merged_records
  last_merged i j hx hy Less e t =
      walk_steps g a b x y (word_walk g a b) i j hx hy Less e t
      ∙ ap (λ l. merged_records g a b t.p t.q ++ record_at g b l) (sym t.y_left)
  last_merged i j hx hy Equal e t =
      walk_steps g a b x y (word_walk g a b) i j hx hy Equal e t
      ∙ ap₂ (λ k l. merged_records g a b t.p t.q ++ join_words g (record_at g a k) (record_at g b l)) (sym t.x_left) (sym t.y_left)
  last_merged i j hx hy Greater e t =
      walk_steps g a b x y (word_walk g a b) i j hx hy Greater e t
      ∙ ap (λ l. merged_records g a b t.p t.q ++ record_at g a l) (sym t.x_left)
