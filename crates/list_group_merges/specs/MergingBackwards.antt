-- Two lists of records merged from the back: which record is the last of both, and what a walk from the back makes of them.
-- Assumes nothing: these are definitions.
use Rattle.std.specs.Prelude.{ℕ, zero, suc, ◌+◌, ◌*◌, ◌-◌, Bool, cond, Option, Some, None, List, ◌++◌, eqb, take, drop}
use Rattle.std.specs.declared.cmp.Ordering.{Ordering}
use Rattle.std.specs.declared.cmp.Ordering.TheVariants.{Less, Equal, Greater}
use Rattle.lists.specs.Groups.{totals_width}
use Rattle.list_group_totals.specs.GroupTotals.{totals_in, totals_words, totals_both, both_fit}
use Rattle.list_groups.specs.Keys.{keys_first}
use Rattle.lists.specs.Sides.{side_by}

abbrev pub by_side {ℓ} : {R : Type ℓ} → Ordering → R → R → R → R
by_side Less x y z = x
by_side Equal x y z = y
by_side Greater x y z = z

-- ---- the walk
-- what it makes of the first i records of the first list alone; with one more record of the second, of the first, of both
pub record BackWalk (R : Type 0) : Type 0 where
  pub ends : ℕ → R
  pub new : ℕ → R → R
  pub old : ℕ → R → R
  pub both : ℕ → ℕ → R → R

unfoldable pub walked_in : {R : Type 0} → (ℕ → Ordering) → BackWalk R → (ℕ → R) → ℕ → ℕ → R
walked_in side v rest i zero = v.ends (suc i)
walked_in side v rest i (suc j) =
    by_side (side (suc j)) (v.new j (walked_in side v rest i j)) (v.both i j (rest j)) (v.old i (rest (suc j)))

-- over i records of the first list and j of the second, where side i j says where the last of those i stands against the
-- last of those j
unfoldable pub walked : {R : Type 0} → (ℕ → ℕ → Ordering) → BackWalk R → ℕ → ℕ → R
walked side v zero zero = v.ends zero
walked side v zero (suc j) = v.new j (walked side v zero j)
walked side v (suc i) j = walked_in (side (suc i)) v (walked side v i) i j

-- ---- group records as words, with g keys each
abbrev pub record_at : ℕ → List ℕ → ℕ → List ℕ
record_at g ws x = take (g + totals_width) (drop x ws)

-- the record of `a` that ends at `x` against the one of `b` that ends at `y`; before it, where `a` has none left
unfoldable pub pick_at : ℕ → List ℕ → ℕ → List ℕ → ℕ → Ordering
pick_at g a x b y =
    cond (eqb x 0) Less (side_by keys_first (take g (drop (x - (g + totals_width)) a)) (take g (drop (y - (g + totals_width)) b)))

abbrev pub sides : ℕ → List ℕ → List ℕ → ℕ → ℕ → Ordering
sides g a b i j = pick_at g a (i * (g + totals_width)) b (j * (g + totals_width))

-- two records of one group: the words of both together, and that their totals fit
unfoldable pub join_words : ℕ → List ℕ → List ℕ → List ℕ
join_words g r s = take g r ++ totals_words (totals_both (totals_in (drop g r)) (totals_in (drop g s)))

unfoldable pub join_fits : ℕ → List ℕ → List ℕ → Bool
join_fits g r s = both_fit (totals_in (drop g r)) (totals_in (drop g s))

-- the words of the merged list
abbrev pub word_walk : ℕ → List ℕ → List ℕ → BackWalk (List ℕ)
word_walk g a b =
    record {
      ends = λ i. take (i * (g + totals_width)) a;
      new = λ q r. r ++ record_at g b (q * (g + totals_width));
      old = λ p r. r ++ record_at g a (p * (g + totals_width));
      both = λ p q r. r ++ join_words g (record_at g a (p * (g + totals_width))) (record_at g b (q * (g + totals_width)));
    }

unfoldable pub merged_records : ℕ → List ℕ → List ℕ → ℕ → ℕ → List ℕ
merged_records g a b i j = walked (sides g a b) (word_walk g a b) i j

-- the number of its records, or that a total overflows
abbrev pub more_by : ℕ → Option ℕ → Option ℕ
more_by k (Some n) = Some (n + k)
more_by k None = None

abbrev pub count_walk : ℕ → List ℕ → List ℕ → BackWalk (Option ℕ)
count_walk g a b =
    record {
      ends = λ i. Some i;
      new = λ q r. more_by 1 r;
      old = λ p r. more_by 1 r;
      both = λ p q r.
          cond (join_fits g (record_at g a (p * (g + totals_width))) (record_at g b (q * (g + totals_width)))) (more_by 1 r) None;
    }

unfoldable pub union_of : ℕ → List ℕ → List ℕ → ℕ → ℕ → Option ℕ
union_of g a b i j = walked (sides g a b) (count_walk g a b) i j
