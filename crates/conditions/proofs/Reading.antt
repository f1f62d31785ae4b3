-- Reading a condition: what its first word begins, and that it takes no more words than there are.
use Prim.Native.Nat.{ℕ, zero, suc, ◌+◌, ◌-◌, ◌≤◌, ◌<◌}
use native.Mathlib.Omega.{arith}
use native.Mathlib.Numerals.{sub-one}
use mathlib.Core.Path.{◌≡◌, refl, ◌∙◌}
use mathlib.Core.Bool.{Bool, true, false, cond}
use mathlib.Core.Option.{none, some}
use mathlib.Core.List.{List, [], ◌∷◌}
use lib.ListN.{length, get_or, take, drop, length-drop}
use lib.Seq.{take_all}
use lib.Dec.{eqb}
use Rattle.words.specs.Words.{kind, and_kind}
use Rattle.plans.specs.declared.Node.{Node}
use Rattle.plans.specs.declared.Node.TheVariants.{Always, Pair, Negated, Compared, Wrong}
use Rattle.plans.specs.Conditions.{Condition, both, either, negated, Read, next, pair_of, node_of, read_node, read_condition}
use Rattle.plans.proofs.Trees.{at_node}
use Rattle.conditions.specs.Evaluated.{comparisons_in}

-- a part to the end of a list
pub rest_of : (l : List ℕ) (a : ℕ) → take (length l - a) (drop a l) ≡ drop a l
rest_of l a = take_all (length l - a) (drop a l) (simp length-drop (omega arith))

-- ---- the first word begins a node, and the depth that is left allows one
pub record Begins (d : ℕ) (ws : List ℕ) (n : Node) : Type 0 where
  pub deep : d ≡ 0 → ⊥
  pub there : length ws ≡ 0 → ⊥
  pub node : n ≡ node_of (get_or ws 0 0)

pub begun : {d : ℕ} {ws : List ℕ} {n : Node} → Begins d ws n → (k : Node) → n ≡ k
    → read_condition d ws ≡ read_node k (read_condition (d - 1)) (get_or ws 0 0) (drop 1 ws)
begun {d} {ws} h k e = at_node d ws h.deep h.there ∙ rw (← h.node, e)

-- ---- a condition takes at least one word, and no more than there are; it has no more comparisons than words
abbrev pub Fits : Read Condition → ℕ → Type 0
Fits none len = Unit {0}
Fits (some x) len = (0 < x.1) × (x.1 ≤ len) × (comparisons_in x.0 ≤ x.1)

pair_comparisons : (t : Bool) (x y : Condition) → comparisons_in (cond t (both x y) (either x y)) ≡ comparisons_in x + comparisons_in y
unfolding comparisons_in
pair_comparisons true x y = refl
pair_comparisons false x y = refl

module _ (g : List ℕ → Read Condition) (hg : (l : List ℕ) → Fits (g l) (length l)) (w : ℕ) where
  negated_fits : (x : Read Condition) (len : ℕ) → Fits x len → Fits (next x (λ x. some (negated x.0, 1 + x.1))) (suc len)
  unfolding comparisons_in
  negated_fits none len h = tt
  negated_fits (some x) len h = (omega arith, omega arith, omega arith)

  second_fits : (x : Condition) (m len : ℕ) (y : Read Condition) → m ≤ len → comparisons_in x ≤ m → Fits y (len - m)
      → Fits (next y (λ y. some (pair_of w x y.0, 1 + m + y.1))) (suc len)
  second_fits x m len none h i k = tt
  second_fits x m len (some y) h i k =
      let c = pair_comparisons (eqb (kind w) and_kind) x y.0 in (omega arith, omega arith, omega arith)

  pair_fits : (ws : List ℕ) (x : Read Condition) → Fits x (length ws)
      → Fits (next x (λ x. next (g (drop x.1 ws)) (λ y. some (pair_of w x.0 y.0, 1 + x.1 + y.1)))) (suc (length ws))
  pair_fits ws none h = tt
  pair_fits ws (some x) h =
      second_fits x.0 x.1 (length ws) (g (drop x.1 ws)) h.1 h.2 (rw length-drop at (hg (drop x.1 ws)))

  node_fits : (n : Node) (ws : List ℕ) → Fits (read_node n g w ws) (suc (length ws))
  unfolding read_node comparisons_in
  node_fits Always ws = (omega arith, omega arith, omega arith)
  node_fits Pair ws = pair_fits ws (g ws) (hg ws)
  node_fits Negated ws = negated_fits (g ws) (length ws) (hg ws)
  node_fits Compared [] = tt
  node_fits Compared (l ∷ []) = tt
  node_fits Compared (l ∷ r ∷ ws) = (omega arith, omega arith, omega arith)
  node_fits Wrong ws = tt

pub fits : (d : ℕ) (ws : List ℕ) → Fits (read_condition d ws) (length ws)
unfolding read_condition
fits zero ws = tt
fits (suc d) [] = tt
fits (suc d) (w ∷ ws) = node_fits (read_condition d) (fits d) w (node_of w) ws

-- ---- what is read under some depth is read under one more
abbrev pub Within : Read Condition → Read Condition → Type 0
Within none y = Unit {0}
Within (some x) y = y ≡ some x

module _ (g h : List ℕ → Read Condition) (k : (l : List ℕ) → Within (g l) (h l)) (w : ℕ) where
  negated_within : (x y : Read Condition) → Within x y
      → Within (next x (λ x. some (negated x.0, 1 + x.1))) (next y (λ x. some (negated x.0, 1 + x.1)))
  negated_within none y e = tt
  negated_within (some x) y e = rw e

  second_within : (a : Condition) (m : ℕ) (x y : Read Condition) → Within x y
      → Within (next x (λ y. some (pair_of w a y.0, 1 + m + y.1))) (next y (λ y. some (pair_of w a y.0, 1 + m + y.1)))
  second_within a m none y e = tt
  second_within a m (some x) y e = rw e

  pair_within : (ws : List ℕ) (x y : Read Condition) → Within x y
      → Within (next x (λ x. next (g (drop x.1 ws)) (λ y. some (pair_of w x.0 y.0, 1 + x.1 + y.1))))
      (next y (λ x. next (h (drop x.1 ws)) (λ y. some (pair_of w x.0 y.0, 1 + x.1 + y.1))))
  pair_within ws none y e = tt
  pair_within ws (some x) y e = rw e (second_within x.0 x.1 (g (drop x.1 ws)) (h (drop x.1 ws)) (k (drop x.1 ws)))

  node_within : (n : Node) (ws : List ℕ) → Within (read_node n g w ws) (read_node n h w ws)
  unfolding read_node
  node_within Always ws = refl
  node_within Pair ws = pair_within ws (g ws) (h ws) (k ws)
  node_within Negated ws = negated_within (g ws) (h ws) (k ws)
  node_within Compared [] = tt
  node_within Compared (l ∷ []) = tt
  node_within Compared (l ∷ r ∷ ws) = refl
  node_within Wrong ws = tt

deeper : (d : ℕ) (ws : List ℕ) → Within (read_condition d ws) (read_condition (suc d) ws)
unfolding read_condition
deeper zero ws = tt
deeper (suc d) [] = tt
deeper (suc d) (w ∷ ws) = node_within (read_condition d) (read_condition (suc d)) (deeper d) w (node_of w) ws

pub within : (d : ℕ) (ws : List ℕ) → Within (read_condition (d - 1) ws) (read_condition d ws)
unfolding read_condition
within zero ws = tt
within (suc d) ws = rw sub-one (deeper d ws)
