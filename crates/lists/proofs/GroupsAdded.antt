-- Records with one number of keys are ordered by their keys and joined associatively, so they add up part by part.
use Prim.Native.Nat.{ℕ, ◌+◌}
use native.Mathlib.Omega.{arith}
use mathlib.Core.Path.{◌≡◌, refl, sym, ◌∙◌, ap, ap₂}
use mathlib.Core.Bool.{Bool, true}
use mathlib.Core.List.{List, [], ◌∷◌, ◌++◌, map}
use lib.ListN.{length, length-map}
use lib.IntN.{+ℤ_assoc}
use Rattle.words.specs.Words.{key_rank}
use Rattle.sequences.specs.Sequences.{neighbours}
use Rattle.sequences.proofs.Orders.{lex_ordered}
use Rattle.lists.specs.Groups.{Group, together, keys_before, add_all_by, add_groups}
use Rattle.sequences.proofs.Ascending.{Ascending, neighbours_ascending}
use Rattle.lists.proofs.Adding.{Joins, ascending_add_all, add_twice, add_all_append}
use Rattle.lists.proofs.AddingKeeps.{each_add_all, ascending_map, ascending_unmap, neighbours_map, add_all_map}
use Rattle.lists.proofs.Keys.{ranks}
use Rattle.lists.proofs.GroupWords.{HaveKeys}
use Rattle.lists.proofs.Extremes.{lesser_assoc, greater_assoc}

pub together_assoc : (a b c : Group) → together (together a b) c ≡ together a (together b c)
together_assoc a b c =
    let p : a.rows + b.rows + c.rows ≡ a.rows + (b.rows + c.rows) = omega arith in
    let q : a.numbers + b.numbers + c.numbers ≡ a.numbers + (b.numbers + c.numbers) = omega arith in
    let r = +ℤ_assoc a.sum b.sum c.sum in
    let l = lesser_assoc a.least b.least c.least in
    let g = greater_assoc a.greatest b.greatest c.greatest in
    λ i. record { keys = a.keys; rows = p i; numbers = q i; sum = r i; least = l i; greatest = g i }

-- ---- records with n keys
abbrev pub Keyed : ℕ → Type 0
Keyed n = (g : Group) × (length g.keys ≡ n)

module _ (n : ℕ) where
  abbrev pub keyed_before : Keyed n → Keyed n → Bool
  keyed_before x y = keys_before x.0 y.0

  abbrev pub keyed_together : Keyed n → Keyed n → Keyed n
  keyed_together x y = (together x.0 y.0, x.1)

  pub keyed_joins : Joins keyed_before keyed_together
  unfolding keys_before together_assoc
  keyed_joins =
      record {
        ordered = lex_ordered (λ (x : Keyed n). ranks x.0.keys) n (λ x. length-map x.0.keys key_rank ∙ x.1);
        left = λ a b c. refl;
        right = λ a b c. refl;
        assoc = λ a b c i. (together_assoc a.0 b.0 c.0 i, a.1);
      }

  -- a list of such records, with and without the proofs that they are
  abbrev pub keyed : (gs : List Group) → HaveKeys n gs → List (Keyed n)
  keyed [] h = []
  keyed (g ∷ gs) h = (g, h.0) ∷ keyed gs h.1

  abbrev pub plain : List (Keyed n) → List Group
  plain xs = map (λ x. x.0) xs

  pub plain_keyed : (gs : List Group) (h : HaveKeys n gs) → plain (keyed gs h) ≡ gs
  plain_keyed [] h = refl
  plain_keyed (g ∷ gs) h = ap (λ l. g ∷ l) (plain_keyed gs h.1)

  pub plain_add_all : (xs ys : List (Keyed n))
      → plain (add_all_by keyed_before keyed_together xs ys) ≡ add_groups (plain xs) (plain ys)
  plain_add_all = add_all_map (λ x. x.0) keyed_before keys_before (λ x y. refl) keyed_together together (λ x y. refl)

  -- records each before the next are strictly ascending
  pub neighbours_keyed : (gs : List Group) → HaveKeys n gs → neighbours keys_before gs ≡ true → Ascending keys_before gs
  neighbours_keyed gs h e =
      let xs = keyed gs h in
      let p : neighbours keys_before (plain xs) ≡ true = rw (plain_keyed gs h) e in
      rw (← plain_keyed gs h)
      (ascending_map (λ x. x.0) keyed_before keys_before (λ x y. refl) xs
      (neighbours_ascending keyed_joins.ordered xs
      (sym (neighbours_map (λ x. x.0) keyed_before keys_before (λ x y. refl) xs) ∙ p)))

  -- ---- what holds of any lists of them
  pub have_add_all : (gs hs : List Group) → HaveKeys n gs → HaveKeys n hs → HaveKeys n (add_groups gs hs)
  have_add_all = each_add_all (λ (g : Group). length g.keys ≡ n) keys_before together (λ x y p q. p)

  -- sums are strictly ascending by keys
  pub groups_ascending : (gs hs : List Group) → HaveKeys n gs → HaveKeys n hs → Ascending keys_before gs
      → Ascending keys_before (add_groups gs hs)
  groups_ascending gs hs p q a =
      let xs = keyed gs p in
      let ys = keyed hs q in
      let asc : Ascending keyed_before xs =
      ascending_unmap (λ x. x.0) keyed_before keys_before (λ x y. refl) xs (rw (plain_keyed gs p) a) in
      rw (← plain_keyed gs p, ← plain_keyed hs q, ← plain_add_all xs ys)
      (ascending_map (λ x. x.0) keyed_before keys_before (λ x y. refl) (add_all_by keyed_before keyed_together xs ys)
      (ascending_add_all keyed_joins xs ys asc))

  -- adding what was added up equals adding its records one by one
  pub groups_twice : (gs hs : List Group) → HaveKeys n gs → HaveKeys n hs
      → add_groups gs (add_groups [] hs) ≡ add_groups gs hs
  groups_twice gs hs p q =
      let xs = keyed gs p in
      let ys = keyed hs q in
      ap₂ (λ a b. add_groups a (add_groups [] b)) (sym (plain_keyed gs p)) (sym (plain_keyed hs q))
      ∙ ap (add_groups (plain xs)) (sym (plain_add_all [] ys))
      ∙ sym (plain_add_all xs (add_all_by keyed_before keyed_together [] ys))
      ∙ ap plain (add_twice keyed_joins xs ys)
      ∙ plain_add_all xs ys
      ∙ ap₂ add_groups (plain_keyed gs p) (plain_keyed hs q)

  -- the sum of two parts is the sum of their sums
  pub groups_parts : (gs hs : List Group) → HaveKeys n gs → HaveKeys n hs
      → add_groups [] (gs ++ hs) ≡ add_groups (add_groups [] gs) (add_groups [] hs)
  groups_parts gs hs p q =
      add_all_append keys_before together [] gs hs ∙ sym (groups_twice (add_groups [] gs) hs (have_add_all [] gs tt p) q)
