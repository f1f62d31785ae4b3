-- A record put in a buffer: moved up, or moved up with another of its group added, or copied from the other list; and the
-- parts of records as they are lent.
use Prim.Native.Nat.{ℕ, ◌+◌, ◌-◌, ◌≤◌}
use native.Mathlib.Omega.{arith}
use mathlib.Core.Path.{◌≡◌, sym, ◌∙◌, ap, ap₂}
use mathlib.Core.Bool.{true}
use mathlib.Core.List.{List, [], ◌++◌, append-nil, append_assoc}
use lib.Dec.{ltb}
use lib.IntN.{◌+ℤ◌}
use lib.ListN.{length, take, drop, length-drop, take-append-drop}
use lib.Seq.{take_all, take-length, drop-drop, length-take-le, paste}
use Rattle.std.specs.declared.cmp.Ordering.{Ordering}
use Rattle.std.specs.declared.cmp.Ordering.TheVariants.{Less, Equal, Greater}
use Rattle.list_group_totals.specs.declared.Totals.{Totals}
use Rattle.lists.specs.Groups.{totals_width}
use Rattle.lists.specs.Sums.{long_values, sum_fits, sum_in}
use Rattle.list_group_totals.specs.GroupTotals.{totals_in, totals_words, totals_both, counts_fit, both_fit}
use Rattle.list_groups.specs.Keys.{keys_first}
use Rattle.lists.specs.Moves.{shifted}
use Rattle.lists.specs.Sides.{side_by}
use Rattle.list_group_merges.specs.MergingBackwards.{record_at, pick_at, join_words, join_fits}
use Rattle.list_group_merges.specs.MergingGroups.{last_record, CanPut}
use Rattle.list_group_totals.proofs.FlatGroups.{before_them, are_they, after_them, regroup}
use Rattle.list_group_totals.proofs.TotalsWords.{part_rest, both_counts}
use Rattle.list_groups.proofs.PutAnswers.{lent_eight}
use Rattle.list_group_merges.proofs.WalkSteps.{pick_some}

-- ---- parts as they are lent
-- the keys of the last records
pub pick_lent : (g : ℕ) (a : List ℕ) (x : ℕ) (b : List ℕ) (y : ℕ) → (x ≡ 0 → ⊥)
    → side_by keys_first (take (x - (g + totals_width) + g - (x - (g + totals_width))) (drop (x - (g + totals_width)) a))
    (take (y - (g + totals_width) + g - (y - (g + totals_width))) (drop (y - (g + totals_width)) b))
    ≡ pick_at g a x b y
pick_lent g a x b y n =
    ap₂ (λ p q. side_by keys_first (take p (drop (x - (g + totals_width)) a)) (take q (drop (y - (g + totals_width)) b)))
    (let z : x - (g + totals_width) + g - (x - (g + totals_width)) ≡ g = omega arith in z)
    (let z : y - (g + totals_width) + g - (y - (g + totals_width)) ≡ g = omega arith in z)
    ∙ sym (pick_some g a x b y n)

-- the totals of a record
totals_of_lem : (g : ℕ) (a : List ℕ) (x : ℕ) → x + (g + totals_width) ≤ length a → drop g (record_at g a x) ≡ take totals_width (drop (x + g) a)
totals_of_lem g a x h =
    let d = length-drop x a in part_rest g totals_width (drop x a) (omega arith) ∙ ap (take totals_width) (drop-drop g x a)

pub fits_lent : (g : ℕ) (a : List ℕ) (x : ℕ) (b : List ℕ) (y : ℕ) → x + (g + totals_width) ≤ length a → y + (g + totals_width) ≤ length b
    → (s t : Totals) → s ≡ totals_in (take (x + g + totals_width - (x + g)) (drop (x + g) a))
    → t ≡ totals_in (take (y + g + totals_width - (y + g)) (drop (y + g) b)) → both_fit s t ≡ join_fits g (record_at g a x) (record_at g b y)
unfolding join_fits
fits_lent g a x b y h k s t p q =
    ap₂ both_fit
    (p ∙ ap (λ n. totals_in (take n (drop (x + g) a))) (lent_eight (x + g)) ∙ ap totals_in (sym (totals_of_lem g a x h)))
    (q ∙ ap (λ n. totals_in (take n (drop (y + g) b))) (lent_eight (y + g)) ∙ ap totals_in (sym (totals_of_lem g b y k)))

-- ---- moved up
pub moved_up_lem : (a : List ℕ) (from to w : ℕ) → from ≤ to → shifted a from (from + w) (to - from) ≡ take to a
    ++ (take w (drop from a) ++ drop (to + w) a)
moved_up_lem a from to w h =
    let p : from + (to - from) ≡ to = omega arith in
    let q : from + w - from ≡ w = omega arith in
    let r : from + w + (to - from) ≡ to + w = omega arith in
    rw (p, q, r)

-- ---- moved up and added to
module _ (g : ℕ) (a : List ℕ) (from to : ℕ) (more : List ℕ) (h : from ≤ to) (l : to + (g + totals_width) ≤ length a)
    (m : length more ≡ g + totals_width) (up : List ℕ)
    (e : up ≡ take to a ++ (record_at g a from ++ drop (to + (g + totals_width)) a))
    (t : Totals) (et : t ≡ totals_in (take (length more - g) (drop g more))) where
  abbrev r : List ℕ
  r = record_at g a from

  abbrev rest : List ℕ
  rest = drop (to + (g + totals_width)) a

  r_wide : length r ≡ g + totals_width
  r_wide = let d = length-drop from a in length-take-le (g + totals_width) (drop from a) (omega arith)

  up_is : up ≡ (take to a ++ ((take g r ++ drop g r) ++ rest)) ++ []
  up_is = e ∙ ap (λ z. take to a ++ (z ++ rest)) (sym (take-append-drop g r)) ∙ sym (append-nil (take to a ++ ((take g r ++ drop g r) ++ rest)))

  to_size : length (take to a) ≡ to
  to_size = length-take-le to a (omega arith)

  g_size : length (take g r) ≡ g
  g_size = let w = r_wide in length-take-le g r (omega arith)

  t_size : length (drop g r) ≡ totals_width
  t_size = let w = r_wide in length-drop g r ∙ omega arith

  more_is : t ≡ totals_in (drop g more)
  more_is = et ∙ ap totals_in (take_all (length more - g) (drop g more) (let d = length-drop g more in omega arith))

  their : take (to + g + totals_width - (to + g)) (drop (to + g) up) ≡ drop g r
  their =
      ap (λ n. take n (drop (to + g) up)) (lent_eight (to + g) ∙ sym t_size)
      ∙ are_they (take to a) (take g r) (drop g r) rest [] up to g to_size g_size up_is

  pub both_size : length (take (to + g + totals_width - (to + g)) (drop (to + g) up)) ≡ totals_width
  both_size = ap length their ∙ t_size

  pub both_fit_lem : join_fits g r more ≡ true → counts_fit (totals_in (take (to + g + totals_width - (to + g)) (drop (to + g) up))) t ≡ true
  unfolding join_fits
  both_fit_lem f =
      let a = totals_in (drop g r) in
      let b = totals_in (drop g more) in
      ap₂ counts_fit (ap totals_in their) more_is
      ∙ both_counts (ltb (a.rows + b.rows) long_values) (ltb (a.numbers + b.numbers) long_values) (sum_fits (sum_in a.sum +ℤ sum_in b.sum)) f

  pub both_put : (part : List ℕ) → part ≡ totals_words (totals_both (totals_in (take (to + g + totals_width - (to + g)) (drop (to + g) up))) t)
      → take (to + g) up ++ (part ++ drop (to + g + totals_width - (to + g)) (drop (to + g) up))
      ≡ take to a ++ (join_words g r more ++ drop (to + (g + totals_width)) a)
  unfolding join_words
  both_put part p =
      let W = totals_words (totals_both (totals_in (drop g r)) (totals_in (drop g more))) in
      ap₂ ◌++◌ (before_them (take to a) (take g r) (drop g r) rest [] up to g to_size g_size up_is)
      (ap₂ ◌++◌ (p ∙ ap₂ (λ s u. totals_words (totals_both (totals_in s) u)) their more_is)
      (ap (λ n. drop n (drop (to + g) up)) (lent_eight (to + g) ∙ sym t_size)
      ∙ after_them (take to a) (take g r) (drop g r) rest [] up to g to_size g_size up_is))
      ∙ regroup (take to a) (take g r) W rest []
      ∙ append-nil (take to a ++ ((take g r ++ W) ++ rest))

-- ---- the last record of both lists, by the side
module _ (g : ℕ) (a : List ℕ) (x : ℕ) (b : List ℕ) (y to : ℕ) (s : Ordering) (l : CanPut g a x b y to s) where
  abbrev w : ℕ
  w = g + totals_width

  -- the other list's record, as it is lent
  new_part : take (y - (y - w)) (drop (y - w) b) ≡ record_at g b (y - w)
  new_part = let h = l.new_there in ap (λ n. take n (drop (y - w) b)) (let z : y - (y - w) ≡ w = omega arith in z)

  pub new_size : length (take (y - (y - w)) (drop (y - w) b)) ≡ w
  new_size =
      let h = l.new_there in
      let k = l.new_inside in
      let d = length-drop (y - w) b in
      ap length new_part ∙ length-take-le w (drop (y - w) b) (omega arith)

  pub new_put : s ≡ Less → (after : List ℕ)
      → after ≡ paste a to (take (y - (y - w)) (drop (y - w) b)) (length (take (y - (y - w)) (drop (y - w) b)))
      → after ≡ take to a ++ (last_record g a x b y s ++ drop (to + w) a)
  new_put e after p =
      let r = take (y - (y - w)) (drop (y - w) b) in
      p
      ∙ ap (λ q. (take to a ++ q) ++ drop (to + length r) a) (take-length r)
      ∙ append_assoc (take to a) r (drop (to + length r) a)
      ∙ ap₂ (λ q n. take to a ++ (q ++ drop (to + n) a)) new_part new_size
      ∙ ap (λ z. take to a ++ (last_record g a x b y z ++ drop (to + w) a)) (sym e)

  pub old_put : s ≡ Greater → (after : List ℕ) → after ≡ take to a ++ (take w (drop (x - w) a) ++ drop (to + w) a)
      → after ≡ take to a ++ (last_record g a x b y s ++ drop (to + w) a)
  old_put e after p = p ∙ ap (λ z. take to a ++ (last_record g a x b y z ++ drop (to + w) a)) (sym e)

  pub joined_put : s ≡ Equal → (after : List ℕ)
      → after ≡ take to a ++ (join_words g (record_at g a (x - w)) (take (y - (y - w)) (drop (y - w) b)) ++ drop (to + w) a)
      → after ≡ take to a ++ (last_record g a x b y s ++ drop (to + w) a)
  joined_put e after p =
      p
      ∙ ap (λ q. take to a ++ (join_words g (record_at g a (x - w)) q ++ drop (to + w) a)) new_part
      ∙ ap (λ z. take to a ++ (last_record g a x b y z ++ drop (to + w) a)) (sym e)

  pub joined_fits : s ≡ Equal → join_fits g (record_at g a (x - w)) (take (y - (y - w)) (drop (y - w) b)) ≡ true
  joined_fits e = ap (join_fits g (record_at g a (x - w))) new_part ∙ l.fits e

  -- where the kept record is
  pub same_old : s ≡ Equal → (w ≤ x) × (x - w ≤ to)
  same_old e =
      let n : s ≡ Less → ⊥ = λ q. (let z : ◌≡◌ {A = ℕ} 0 1 = cc in omega arith) in
      let p = l.old_there n in
      let q = l.old_below n in
      (p, omega arith)

  pub after_old : s ≡ Greater → (w ≤ x) × (x - w ≤ to)
  after_old e =
      let n : s ≡ Less → ⊥ = λ q. (let z : ◌≡◌ {A = ℕ} 0 1 = cc in omega arith) in
      let p = l.old_there n in
      let q = l.old_below n in
      (p, omega arith)
