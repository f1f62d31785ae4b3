-- Test 12 of one record: the record of a row passes it, and two records that pass it pass it together. Of the records that count no rows
-- one passes it.
use Prim.Native.Nat.{ℕ, zero, suc, ◌≤◌}
use native.Mathlib.Omega.{arith}
use mathlib.Core.Path.{◌≡◌, refl, ◌∙◌, ap, ap₂}
use mathlib.Core.Bool.{Bool, true, false, cond, ◌&&◌}
use mathlib.Core.List.{List, [], ◌∷◌}
use lib.Dec.{eqb, leb}
use lib.ListN.{length}
use lib.IntN.{pos, ◌+ℤ◌}
use borrow.Author.Tests.{eqb-true, eqb-false, ne_eqb, leb-true, leb-false, le-leb}
use Rattle.words.specs.Words.{is_number, value_rank, unbound, is_value}
use Rattle.sequences.specs.Sequences.{all}
use Rattle.sequences.proofs.Booleans.{and_left, and_right}
use Rattle.lists.specs.Groups.{Group, of_value, of_nothing, lesser, greater, together}
use Rattle.lists.specs.Sums.{is_zero, sum_bits, sum_in}
use Rattle.lists.specs.Gathering.{extremes_right, least_rows, group_right}
use Rattle.lists.proofs.Sums.{zero_is, in_bits}
use Rattle.lists.proofs.GroupWords.{wrapped}
use Rattle.lists.proofs.Extremes.{lesser_unbound, greater_unbound, unbound_lesser, unbound_greater, lesser_numbers, greater_numbers}

-- what the test says of a sum and of the least and the greatest number, beside the number of numbers
pub data Extremes (g : Group) : Type 0 where
  none : g.numbers ≡ 0 → g.sum ≡ pos 0 → g.least ≡ unbound → g.greatest ≡ unbound → Extremes g
  some : 1 ≤ g.numbers → is_number g.least ≡ true → is_number g.greatest ≡ true
      → value_rank g.least ≤ value_rank g.greatest → Extremes g

pub right_extremes : (g : Group) → extremes_right g ≡ true → Extremes g
right_extremes g e = go (eqb g.numbers 0) refl e
  where
    go : (b : Bool) → eqb g.numbers 0 ≡ b
        → cond b (is_zero g.sum && (eqb g.least unbound && eqb g.greatest unbound))
        (is_number g.least && (is_number g.greatest && leb (value_rank g.least) (value_rank g.greatest))) ≡ true
        → Extremes g
    go true p h =
        let a = is_zero g.sum in
        let b = eqb g.least unbound in
        let c = eqb g.greatest unbound in
        let k = and_right a (b && c) h in
        none (eqb-true g.numbers 0 p) (zero_is g.sum (and_left a (b && c) h))
        (eqb-true g.least unbound (and_left b c k)) (eqb-true g.greatest unbound (and_right b c k))
    go false p h =
        let a = is_number g.least in
        let b = is_number g.greatest in
        let c = leb (value_rank g.least) (value_rank g.greatest) in
        let k = and_right a (b && c) h in
        let z = eqb-false g.numbers 0 p in
        some (omega arith) (and_left a (b && c) h) (and_left b c k)
        (leb-true (value_rank g.least) (value_rank g.greatest) (and_right b c k))

pub extremes_right_lem : (g : Group) → Extremes g → extremes_right g ≡ true
extremes_right_lem g (none p q r s) = rw (p, q, r, s)
extremes_right_lem g (some p q r s) =
    rw (ne_eqb g.numbers 0 (λ e. omega arith), le-leb (value_rank g.least) (value_rank g.greatest) s, q, r)

-- ---- of one row
pub extremes_value : (keys : List ℕ) (x : ℕ) → Extremes (of_value keys x)
extremes_value keys x = go (is_number x) refl
  where
    go : (b : Bool) → is_number x ≡ b → Extremes (of_value keys x)
    go true p = some (rw p (omega arith)) (rw p p) (rw p p) (omega arith)
    go false p = none (rw p) (rw p) (rw p) (rw p)

-- ---- of two together
-- the lesser of two numbers is a number and not above either; the greater likewise
module _ (a b : ℕ) (p : is_number a ≡ true) (q : is_number b ≡ true) where
  pub lesser_is : (is_number (lesser a b) ≡ true) × (value_rank (lesser a b) ≤ value_rank a) × (value_rank (lesser a b) ≤ value_rank b)
  lesser_is = rw (lesser_numbers a b p q) (go (leb (value_rank a) (value_rank b)) refl)
    where
      go : (x : Bool) → leb (value_rank a) (value_rank b) ≡ x
          → (is_number (cond x a b) ≡ true) × (value_rank (cond x a b) ≤ value_rank a) × (value_rank (cond x a b) ≤ value_rank b)
      go true e = let l = leb-true (value_rank a) (value_rank b) e in (p, omega arith, l)
      go false e = let l = leb-false (value_rank a) (value_rank b) e in (q, omega arith, omega arith)

  pub greater_is : (is_number (greater a b) ≡ true) × (value_rank a ≤ value_rank (greater a b)) × (value_rank b ≤ value_rank (greater a b))
  greater_is = rw (greater_numbers a b p q) (go (leb (value_rank a) (value_rank b)) refl)
    where
      go : (x : Bool) → leb (value_rank a) (value_rank b) ≡ x
          → (is_number (cond x b a) ≡ true) × (value_rank a ≤ value_rank (cond x b a)) × (value_rank b ≤ value_rank (cond x b a))
      go true e = let l = leb-true (value_rank a) (value_rank b) e in (q, l, omega arith)
      go false e = let l = leb-false (value_rank a) (value_rank b) e in (p, omega arith, omega arith)

pub extremes_together : (g h : Group) → Extremes g → Extremes h → Extremes (together g h)
extremes_together g h (none p q r s) (none p' q' r' s') =
    none (omega arith) (ap₂ ◌+ℤ◌ q q') (rw (r, r') (lesser_unbound unbound)) (rw (s, s') (greater_unbound unbound))
extremes_together g h (none p q r s) (some p' q' r' s') =
    let a : lesser g.least h.least ≡ h.least = rw r (lesser_unbound h.least) in
    let b : greater g.greatest h.greatest ≡ h.greatest = rw s (greater_unbound h.greatest) in
    some (omega arith) (rw a q') (rw b r') (rw (a, b) s')
extremes_together g h (some p q r s) (none p' q' r' s') =
    let a : lesser g.least h.least ≡ g.least = rw r' (unbound_lesser g.least q) in
    let b : greater g.greatest h.greatest ≡ g.greatest = rw s' (unbound_greater g.greatest r) in
    some (omega arith) (rw a q) (rw b r) (rw (a, b) s)
extremes_together g h (some p q r s) (some p' q' r' s') =
    let a = lesser_is g.least h.least q q' in
    let b = greater_is g.greatest h.greatest r r' in
    some (omega arith) a.0 b.0 (omega arith)

-- ---- the whole test
pub record RightGroups (g : Group) : Type 0 where
  pub keys : all is_value g.keys ≡ true
  pub rows : least_rows (length g.keys) ≤ g.rows
  pub numbers : g.numbers ≤ g.rows
  pub extremes : Extremes g

pub right_is : (g : Group) → group_right g ≡ true → RightGroups g
unfolding group_right
right_is g e =
    let a = all is_value g.keys in
    let b = leb (least_rows (length g.keys)) g.rows in
    let c = leb g.numbers g.rows in
    let d = extremes_right g in
    let h = and_right a (b && (c && d)) e in
    let k = and_right b (c && d) h in
    record {
      keys = and_left a (b && (c && d)) e;
      rows = leb-true (least_rows (length g.keys)) g.rows (and_left b (c && d) h);
      numbers = leb-true g.numbers g.rows (and_left c d k);
      extremes = right_extremes g (and_right c d k);
    }

pub is_right : (g : Group) → RightGroups g → group_right g ≡ true
unfolding group_right
is_right g r =
    rw (r.keys, le-leb (least_rows (length g.keys)) g.rows r.rows, le-leb g.numbers g.rows r.numbers)
    (extremes_right_lem g r.extremes)

-- no record has to count more than one row
least_one : (n : ℕ) → least_rows n ≤ 1
least_one zero = omega arith
least_one (suc n) = omega arith

-- the record of a row whose keys are values
pub right_value : (keys : List ℕ) (x : ℕ) → all is_value keys ≡ true → group_right (of_value keys x) ≡ true
right_value keys x e =
    is_right (of_value keys x)
    (record { keys = e; rows = least_one (length keys); numbers = go (is_number x); extremes = extremes_value keys x })
  where
    go : (b : Bool) → cond {A = ℕ} b 1 0 ≤ 1
    go true = omega arith
    go false = omega arith

pub right_together : (g h : Group) → group_right g ≡ true → group_right h ≡ true → group_right (together g h) ≡ true
right_together g h p q =
    let r = right_is g p in
    let s = right_is h q in
    is_right (together g h)
    (record {
      keys = r.keys;
      rows = (let a = r.rows in omega arith);
      numbers = (let a = r.numbers in let b = s.numbers in omega arith);
      extremes = extremes_together g h r.extremes s.extremes;
    })

-- with the sum that its bits stand for
extremes_wrapped : (g : Group) → Extremes g → Extremes (wrapped g)
extremes_wrapped g (none p q r s) = none p (ap (λ z. sum_in (sum_bits z)) q ∙ in_bits (pos 0) refl) r s
extremes_wrapped g (some p q r s) = some p q r s

pub right_wrapped : (g : Group) → group_right g ≡ true → group_right (wrapped g) ≡ true
right_wrapped g p =
    let r = right_is g p in
    is_right (wrapped g)
    (record { keys = r.keys; rows = r.rows; numbers = r.numbers; extremes = extremes_wrapped g r.extremes })

-- ---- of no rows
pub right_nothing : group_right of_nothing ≡ true
unfolding all
right_nothing =
    is_right of_nothing (record { keys = refl; rows = omega arith; numbers = omega arith; extremes = none refl refl refl refl })

-- and no other record of no rows passes: it has no keys, no numbers, the sum 0, and neither least nor greatest
pub nothing_only : (g : Group) → group_right g ≡ true → g.rows ≡ 0 → g ≡ of_nothing
nothing_only g e z =
    let r = right_is g e in
    let least : least_rows (length g.keys) ≤ 0 = omega (arith, r.rows) in
    let few : g.numbers ≤ 0 = omega (arith, r.numbers) in
    go g.keys refl least few r.extremes
  where
    go : (ks : List ℕ) → g.keys ≡ ks → least_rows (length g.keys) ≤ 0 → g.numbers ≤ 0 → Extremes g → g ≡ of_nothing
    go (k ∷ ks) p l f x = let h : least_rows (length (k ∷ ks)) ≤ 0 = rw p at l in absurd (omega arith)
    go [] p l f (some a b c d) = absurd (omega arith)
    go [] p l f (none a b c d) = λ i. record { keys = p i; rows = z i; numbers = a i; sum = b i; least = c i; greatest = d i }
