-- Records whose sums are read from their bits: where the sums fit they are the records themselves, and added up they have the same words in any
-- case, for bits are added modulo 2^64.
use native.Mathlib.Omega.{arith}
use mathlib.Core.Path.{◌≡◌, refl, sym, ◌∙◌, ap, ap₂}
use mathlib.Core.Bool.{true}
use mathlib.Core.List.{List, [], ◌∷◌, map}
use lib.Dec.{ltb}
use lib.IntN.{ℤ}
use Rattle.sequences.specs.Sequences.{all}
use Rattle.sequences.proofs.Booleans.{and_right}
use Rattle.sequences.proofs.Each.{Each, all_each}
use Rattle.sequences.proofs.EachMore.{each_weaken}
use Rattle.lists.specs.Sums.{long_values, sum_fits, sum_bits, sum_in}
use Rattle.lists.specs.Groups.{Group, together, keys_before, add_all_by, add_by, add_groups, group_words}
use Rattle.lists.specs.Gathering.{group_fits}
use Rattle.lists.proofs.Sums.{bits_below_lem, bits_add, bits_in, bits_both, in_bits}
use Rattle.lists.proofs.AddingKeeps.{add_map, add_all_map}
use Rattle.lists.proofs.GroupWords.{wrapped}

-- ---- where the sums fit
pub wrapped_fits : (g : Group) → sum_fits g.sum ≡ true → wrapped g ≡ g
wrapped_fits g f =
    let s = in_bits g.sum f in
    λ i. record { keys = g.keys; rows = g.rows; numbers = g.numbers; sum = s i; least = g.least; greatest = g.greatest }

pub fits_sum : (g : Group) → group_fits g ≡ true → sum_fits g.sum ≡ true
fits_sum g f =
    and_right (ltb g.numbers long_values) (sum_fits g.sum) (and_right (ltb g.rows long_values) _ f)

all_wrapped : (gs : List Group) → Each (λ (g : Group). sum_fits g.sum ≡ true) gs → map wrapped gs ≡ gs
all_wrapped [] f = refl
all_wrapped (g ∷ gs) f = ap₂ ◌∷◌ (wrapped_fits g f.0) (all_wrapped gs f.1)

pub wrapped_all : (gs : List Group) → all group_fits gs ≡ true → map wrapped gs ≡ gs
wrapped_all gs f = all_wrapped gs (each_weaken fits_sum gs (all_each group_fits gs f))

-- ---- the words are the same
same_bits : (b : ℤ) → sum_bits (sum_in (sum_bits b)) ≡ sum_bits b
same_bits b = bits_in (sum_bits b) ∙ (let l = bits_below_lem b in omega arith)

wrapped_words : (g : Group) → group_words (wrapped g) ≡ group_words g
unfolding group_words
wrapped_words g = rw (same_bits g.sum)

map_words : (gs : List Group) → map group_words (map wrapped gs) ≡ map group_words gs
map_words [] = refl
map_words (g ∷ gs) = ap₂ ◌∷◌ (wrapped_words g) (map_words gs)

-- ---- added up
wrapped_together : Group → Group → Group
wrapped_together g h = wrapped (together g h)

wrapped_twice : (g : Group) → wrapped (wrapped g) ≡ wrapped g
wrapped_twice g =
    let s = ap sum_in (same_bits g.sum) in
    λ i. record { keys = g.keys; rows = g.rows; numbers = g.numbers; sum = s i; least = g.least; greatest = g.greatest }

pub all_wrapped_twice : (gs : List Group) → map wrapped (map wrapped gs) ≡ map wrapped gs
all_wrapped_twice [] = refl
all_wrapped_twice (g ∷ gs) = ap₂ ◌∷◌ (wrapped_twice g) (all_wrapped_twice gs)

wrapped_joins : (g h : Group) → wrapped (together g h) ≡ wrapped_together (wrapped g) (wrapped h)
unfolding wrapped_together
wrapped_joins g h =
    let s = ap sum_in (bits_add g.sum h.sum ∙ sym (bits_both (sum_bits g.sum) (sum_bits h.sum))) in
    let t = together g h in
    λ i. record { keys = t.keys; rows = t.rows; numbers = t.numbers; sum = s i; least = t.least; greatest = t.greatest }

pub before_same : (g h : Group) → keys_before (wrapped g) (wrapped h) ≡ keys_before g h
unfolding keys_before
before_same g h = refl

all_joins : (gs hs : List Group) → map wrapped (add_groups gs hs) ≡ add_all_by keys_before wrapped_together (map wrapped gs) (map wrapped hs)
all_joins = add_all_map wrapped keys_before keys_before before_same together wrapped_together wrapped_joins

pub words_added : (gs hs : List Group) → map group_words (add_groups (map wrapped gs) (map wrapped hs)) ≡ map group_words (add_groups gs hs)
words_added gs hs =
    sym (map_words (add_groups (map wrapped gs) (map wrapped hs)))
    ∙ ap (map group_words)
    (all_joins (map wrapped gs) (map wrapped hs)
    ∙ ap₂ (add_all_by keys_before wrapped_together) (all_wrapped_twice gs) (all_wrapped_twice hs)
    ∙ sym (all_joins gs hs))
    ∙ map_words (add_groups gs hs)

-- with one record more, which need not be read from words
pub words_added_one : (x : Group) (gs : List Group)
    → map group_words (add_by keys_before together x (map wrapped gs)) ≡ map group_words (add_by keys_before together x gs)
words_added_one x gs =
    sym (map_words (add_by keys_before together x (map wrapped gs)))
    ∙ ap (map group_words)
    (one_joins x (map wrapped gs) ∙ ap (add_by keys_before wrapped_together (wrapped x)) (all_wrapped_twice gs) ∙ sym (one_joins x gs))
    ∙ map_words (add_by keys_before together x gs)
  where
    one_joins : (y : Group) (hs : List Group) →
        map wrapped (add_by keys_before together y hs) ≡ add_by keys_before wrapped_together (wrapped y) (map wrapped hs)
    one_joins = add_map wrapped keys_before keys_before before_same together wrapped_together wrapped_joins
