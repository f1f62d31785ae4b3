-- How large the totals of groups get: added up over all groups rows and numbers are those of the rows, so none is above their number; and a sum
-- is no further from zero than as many times the furthest number as there are numbers.
use Prim.Native.Nat.{ℕ, suc, ◌+◌, ◌*◌, ◌-◌, ◌≤◌}
use native.Mathlib.Omega.{arith}
use native.Mathlib.Decide.{dec_lt}
use native.Mathlib.Nat.{suc-mul}
use mathlib.Core.Path.{◌≡◌, refl, ◌∙◌, ap, ap₂}
use mathlib.Core.Bool.{Bool, true, false, cond}
use mathlib.Core.List.{List, [], ◌∷◌, map}
use lib.ListN.{length}
use lib.IntN.{ℤ, pos, sub_ℕ, ◌+ℤ◌}
use borrow.Author.Tests.{lt-ltb}
use Rattle.words.specs.Words.{is_number, half_values, term_value, number_value}
use Rattle.words.specs.Bindings.{Bindings, value_of}
use Rattle.sequences.specs.Sequences.{all}
use Rattle.lists.specs.Groups.{Group, of_value, of_row, together, keys_before, add_by, add_all_by, add_groups, groups_of}
use Rattle.lists.specs.Gathering.{group_fits}
use Rattle.lists.specs.Sums.{long_values, half_longs, sum_fits}
use Rattle.words.proofs.Signed.{below, above, sub_same, sub_add, pos_sub, signed_low, signed_high}
use Rattle.sequences.proofs.Each.{Each, each_all, each_map}
use Rattle.sequences.proofs.EachMore.{each_weaken, each_both}
use Rattle.lists.proofs.AddingKeeps.{each_add_all}

-- a total of all groups
abbrev sum_up : (Group → ℕ) → List Group → ℕ
sum_up f [] = 0
sum_up f (g ∷ gs) = f g + sum_up f gs

-- one that joining adds up
module _ (f : Group → ℕ) (adds : (g h : Group) → f (together g h) ≡ f g + f h) where
  sum_add : (x : Group) (gs : List Group) → sum_up f (add_by keys_before together x gs) ≡ sum_up f gs + f x
  unfolding add_by
  sum_add x [] = omega arith
  sum_add x (g ∷ gs) = go (keys_before x g) (keys_before g x) (sum_add x gs)
    where
      go : (b c : Bool) → sum_up f (add_by keys_before together x gs) ≡ sum_up f gs + f x
          → sum_up f (cond b (x ∷ g ∷ gs) (cond c (g ∷ add_by keys_before together x gs) (together g x ∷ gs))) ≡ f g + sum_up f gs + f x
      go true c ih = omega arith
      go false true ih = omega arith
      go false false ih = let a = adds g x in omega arith

  sum_add_all : (gs hs : List Group) → sum_up f (add_groups gs hs) ≡ sum_up f gs + sum_up f hs
  unfolding add_all_by
  sum_add_all gs [] = omega arith
  sum_add_all gs (h ∷ hs) =
      let a = sum_add_all (add_by keys_before together h gs) hs in
      let b = sum_add h gs in
      omega arith

  each_below : (gs : List Group) → Each (λ g. f g ≤ sum_up f gs) gs
  each_below [] = tt
  each_below (g ∷ gs) = (omega arith, each_weaken (λ h l. omega arith) gs (each_below gs))

  module _ (vs : List ℕ) (m : ℕ) (most : ℕ) (row : (b : Bindings) → f (of_row vs m b) ≤ most) where
    rows_below : (bs : List Bindings) → sum_up f (map (of_row vs m) bs) ≤ length bs * most
    rows_below [] = omega arith
    rows_below (b ∷ bs) =
        let r = row b in
        let i = rows_below bs in
        let s = suc-mul (length bs) most in
        omega arith

    -- so much for each row
    groups_below : (bs : List Bindings) → Each (λ g. f g ≤ length bs * most) (groups_of vs m bs)
    groups_below bs =
        let a = sum_add_all [] (map (of_row vs m) bs) in
        let r = rows_below bs in
        each_weaken (λ g l. omega arith) (groups_of vs m bs) (each_below (groups_of vs m bs))

-- ---- sums
-- the sum of `numbers` numbers is the difference of two naturals, neither further from zero than they can bring it
pub record Within (numbers : ℕ) (sum : ℤ) : Type 0 where
  pub up : ℕ
  pub down : ℕ
  pub is : sum ≡ sub_ℕ up down
  pub most : up ≤ numbers * 0x1FFF_FFFF
  pub least : down ≤ numbers * 0x2000_0000

within_both : (m n : ℕ) (u v : ℤ) → Within m u → Within n v → Within (m + n) (u +ℤ v)
within_both m n u v a b =
    record {
      up = a.up + b.up;
      down = a.down + b.down;
      is = ap₂ ◌+ℤ◌ a.is b.is ∙ sub_add a.up a.down b.up b.down;
      most = omega (arith, a.most, b.most);
      least = omega (arith, a.least, b.least);
    }

within_one : (x : ℕ) → Within 1 (number_value x)
within_one x =
    elim (dec_lt (term_value x) half_values) [
      | yes h ↦ record { up = term_value x; down = 0; is = signed_low half_values (term_value x) h; most = omega arith; least = omega arith }
      | no h ↦
          record {
            up = 0;
            down = half_values + half_values - term_value x;
            is =
                signed_high half_values (term_value x) (omega arith)
                ∙ sub_same (term_value x) (half_values + half_values) 0 (half_values + half_values - term_value x) (omega arith);
            most = omega arith;
            least = omega arith;
          }
    ]

within_value : (keys : List ℕ) (x : ℕ) → Within (of_value keys x).numbers (of_value keys x).sum
within_value keys x = go (is_number x)
  where
    go : (b : Bool) → Within (cond b 1 0) (cond b (number_value x) (pos 0))
    go true = within_one x
    go false = record { up = 0; down = 0; is = pos_sub 0; most = omega arith; least = omega arith }

groups_within : (vs : List ℕ) (m : ℕ) (bs : List Bindings) → Each (λ (g : Group). Within g.numbers g.sum) (groups_of vs m bs)
groups_within vs m bs =
    each_add_all (λ (g : Group). Within g.numbers g.sum) keys_before together
    (λ g h p q. within_both g.numbers h.numbers g.sum h.sum p q) [] (map (of_row vs m) bs) tt
    (each_map (λ (g : Group). Within g.numbers g.sum) (of_row vs m) (λ b. within_value (of_row vs m b).keys (value_of b m)) bs)

-- ---- the totals of that many rows fit
-- numbers of 30 bits whose sum is sure to fit
abbrev pub most_rows : ℕ
most_rows = 0x4_0000_0000

within_fits : (n : ℕ) (z : ℤ) → n ≤ most_rows → Within n z → sum_fits z ≡ true
within_fits n z h w =
    elim (dec_lt w.up w.down) [
      | yes l ↦
          ap sum_fits (w.is ∙ below w.up w.down l)
          ∙ lt-ltb (w.down - suc w.up) half_longs (omega (arith, w.least))
      | no l ↦
          ap sum_fits (w.is ∙ above w.up w.down (omega arith))
          ∙ lt-ltb (w.up - w.down) half_longs (omega (arith, w.most))
    ]

one_number_lem : (x : ℕ) → cond {A = ℕ} (is_number x) 1 0 ≤ 1
one_number_lem x = go (is_number x)
  where
    go : (b : Bool) → cond {A = ℕ} b 1 0 ≤ 1
    go true = omega arith
    go false = omega arith

pub groups_fit : (vs : List ℕ) (m : ℕ) (bs : List Bindings) → length bs ≤ most_rows → all group_fits (groups_of vs m bs) ≡ true
groups_fit vs m bs h =
    let n = length bs in
    let rs = groups_below (λ g. g.rows) (λ g k. refl) vs m 1 (λ b. omega arith) bs in
    let ns = groups_below (λ g. g.numbers) (λ g k. refl) vs m 1 (λ b. one_number_lem (value_of b m)) bs in
    each_all group_fits (groups_of vs m bs)
    (each_both {Q = λ g. Within g.numbers g.sum} (λ g p s.
    rw (
      lt-ltb g.rows long_values (omega (arith, p.0)),
      lt-ltb g.numbers long_values (omega (arith, p.1)),
      within_fits g.numbers g.sum (omega (arith, p.1)) s,
    ))
    (groups_of vs m bs)
    (each_both {R = λ g. (g.rows ≤ n * 1) × (g.numbers ≤ n * 1)} (λ g p q. (p, q)) (groups_of vs m bs) rs ns) (groups_within vs m bs))
