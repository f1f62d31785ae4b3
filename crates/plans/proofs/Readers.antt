-- What the readers of a plan's parts read depends on the words that they read alone, whatever stands behind them.
use Prim.Native.Nat.{ℕ, zero, suc, ◌+◌, ◌*◌, ◌≤◌}
use native.Mathlib.Omega.{arith}
use mathlib.Core.Path.{◌≡◌, refl, sym, ◌∙◌, ap}
use mathlib.Core.Bool.{false}
use mathlib.Core.Option.{none, some}
use mathlib.Core.List.{List, [], ◌∷◌, ◌++◌}
use lib.Dec.{eqb, leb, ltb}
use lib.ListN.{length, take, drop, get_or, length-append, length-drop}
use lib.Seq.{take-append-le, drop-append-le}
use borrow.Author.Tests.{le-ltb}
use Rattle.words.proofs.Testing.{none_some, some_injective}
use Rattle.plans.specs.declared.Node.{Node}
use Rattle.plans.specs.declared.Node.TheVariants.{Always, Pair, Negated, Compared, Wrong}
use Rattle.plans.specs.Conditions.{Condition, always, both, either, negated, compared, Read, nodes, most_depth, most_nodes}
use Rattle.plans.specs.Conditions.{node_of, read_node, read_condition}
use Rattle.plans.specs.Branches.{Branch, pattern_width, pattern_count, with_condition, read_patterns, read_branch, read_branches}
use Rattle.plans.proofs.Bounds.{cond_none, cond_some, next_some}
use Rattle.plans.proofs.Trees.{Fits, fits}

abbrev pub Local : {A : Type 0} → (List ℕ → Read A) → Type 0
Local {A} r = (xs ys zs : List ℕ) (x : A × ℕ) → r (xs ++ ys) ≡ some x → x.1 ≤ length xs → r (xs ++ zs) ≡ some x

-- behind what was read
later : {A : Type 0} (r : List ℕ → Read A) → Local r → (n : ℕ) (xs ys zs : List ℕ) (x : A × ℕ) → r (drop n (xs ++ ys)) ≡ some x
    → n + x.1 ≤ length xs → r (drop n (xs ++ zs)) ≡ some x
later r local n xs ys zs x e l =
    ap r (drop-append-le n xs zs (omega arith))
    ∙ local (drop n xs) ys zs x (sym (ap r (drop-append-le n xs ys (omega arith))) ∙ e) (omega (arith, length-drop n xs))

-- ---- conditions
some_node : (c : Condition) → 1 ≤ nodes c
unfolding nodes
some_node always = omega arith
some_node (both a b) = omega arith
some_node (either a b) = omega arith
some_node (negated a) = omega arith
some_node (compared o l r) = omega arith

some_words : (d : ℕ) (ws : List ℕ) (x : Condition × ℕ) → read_condition d ws ≡ some x → 1 ≤ x.1
some_words d ws x e = let f : Fits (some x) (length ws) = rw e at (fits d ws) in omega (arith, f.1, some_node x.0)

node_local : (k : Node) (inner : List ℕ → Read Condition) → Local inner → (w : ℕ) (xs ys zs : List ℕ) (x : Condition × ℕ)
    → read_node k inner w (xs ++ ys) ≡ some x → x.1 ≤ suc (length xs) → read_node k inner w (xs ++ zs) ≡ some x
unfolding read_node
node_local Always inner local w xs ys zs x e l = e
node_local Pair inner local w xs ys zs x e l =
    let a = next_some (inner (xs ++ ys)) _ x e in
    let b = next_some (inner (drop a.0.1 (xs ++ ys))) _ x a.2 in
    let n : 1 + a.0.1 + b.0.1 ≡ x.1 = ap (λ (y : Condition × ℕ). y.1) (some_injective b.2) in
    rw (local xs ys zs a.0 a.1 (omega arith)) (rw (later inner local a.0.1 xs ys zs b.0 b.1 (omega arith)) b.2)
node_local Negated inner local w xs ys zs x e l =
    let a = next_some (inner (xs ++ ys)) _ x e in
    let n : 1 + a.0.1 ≡ x.1 = ap (λ (y : Condition × ℕ). y.1) (some_injective a.2) in
    rw (local xs ys zs a.0 a.1 (omega arith)) a.2
node_local Compared inner local w [] ys zs x e l = absurd (short ys e)
  where
    short : (us : List ℕ) → read_node Compared inner w us ≡ some x → ⊥
    short [] h = none_some h
    short (u ∷ []) h = none_some h
    short (u ∷ v ∷ us) h = let n : 3 ≡ x.1 = ap (λ (y : Condition × ℕ). y.1) (some_injective h) in omega arith
node_local Compared inner local w (u ∷ []) ys zs x e l = absurd (short ys e)
  where
    short : (us : List ℕ) → read_node Compared inner w (u ∷ us) ≡ some x → ⊥
    short [] h = none_some h
    short (v ∷ us) h = let n : 3 ≡ x.1 = ap (λ (y : Condition × ℕ). y.1) (some_injective h) in omega arith
node_local Compared inner local w (u ∷ v ∷ xs) ys zs x e l = e
node_local Wrong inner local w xs ys zs x e l = e

pub condition_local : (d : ℕ) → Local (read_condition d)
unfolding read_condition
condition_local zero xs ys zs x e l = absurd (none_some e)
condition_local (suc d) [] ys zs x e l = absurd (let n = some_words (suc d) ys x e in omega arith)
condition_local (suc d) (w ∷ xs) ys zs x e l = node_local (node_of w) (read_condition d) (condition_local d) w xs ys zs x e l

-- ---- branches
terms_same : (n : ℕ) (xs ys zs : List ℕ) → 1 + n ≤ length xs → take n (drop 1 (xs ++ zs)) ≡ take n (drop 1 (xs ++ ys))
terms_same n xs ys zs l =
    let rest = length-drop 1 xs in
    ap (take n) (drop-append-le 1 xs zs (omega arith)) ∙ take-append-le n (drop 1 xs) zs (omega arith)
    ∙ sym (ap (take n) (drop-append-le 1 xs ys (omega arith)) ∙ take-append-le n (drop 1 xs) ys (omega arith))

patterns_local : (n : ℕ) → Local (read_patterns n)
patterns_local n xs ys zs x e l =
    let at = 1 + pattern_width * n in
    let a = cond_none (eqb n 0) _ x e in
    let b = cond_none (ltb (length (xs ++ ys)) at) _ x a.1 in
    go (read_condition most_depth (drop at (xs ++ ys))) refl a.0 b.1
  where
    go : (r : Read Condition) → read_condition most_depth (drop (1 + pattern_width * n) (xs ++ ys)) ≡ r → eqb n 0 ≡ false
        → with_condition n (xs ++ ys) r ≡ some x → read_patterns n (xs ++ zs) ≡ some x
    go none p z h = absurd (none_some h)
    go (some c) p z h =
        let at = 1 + pattern_width * n in
        let f = cond_some (leb (nodes c.0) most_nodes) _ x h in
        let m : 1 + pattern_width * n + c.1 ≡ x.1 = ap (λ (y : Branch × ℕ). y.1) (some_injective f.1) in
        let r = later (read_condition most_depth) (condition_local most_depth) at xs ys zs c p (omega arith) in
        let long : ltb (length (xs ++ zs)) at ≡ false = le-ltb (length (xs ++ zs)) at (omega (arith, length-append xs zs)) in
        let same = terms_same (pattern_width * n) xs ys zs (omega arith) in
        rw (z, long, r, f.0)
        (ap (λ terms. some (record { terms = terms; condition = c.0 }, 1 + pattern_width * n + c.1)) same ∙ f.1)

branch_local : Local read_branch
unfolding read_branch
branch_local [] ys zs x e l = absurd (none_words ys e)
  where
    none_words : (us : List ℕ) → read_patterns (pattern_count (get_or us 0 0)) us ≡ some x → ⊥
    none_words us h =
        let n = pattern_count (get_or us 0 0) in
        let a = cond_none (eqb n 0) _ x h in
        let b = cond_none (ltb (length us) (1 + pattern_width * n)) _ x a.1 in
        go n us (read_condition most_depth (drop (1 + pattern_width * n) us)) b.1
      where
        go : (n : ℕ) (us : List ℕ) (r : Read Condition) → with_condition n us r ≡ some x → ⊥
        go n us none p = none_some p
        go n us (some c) p =
            let m : 1 + pattern_width * n + c.1 ≡ x.1 =
            ap (λ (y : Branch × ℕ). y.1) (some_injective (cond_some (leb (nodes c.0) most_nodes) _ x p).1) in
            omega arith
branch_local (w ∷ xs) ys zs x e l = patterns_local (pattern_count w) (w ∷ xs) ys zs x e l

pub branches_local : (n : ℕ) → Local (read_branches n)
unfolding read_branches
branches_local zero xs ys zs x e l = e
branches_local (suc n) xs ys zs x e l =
    let a = next_some (read_branch (xs ++ ys)) _ x e in
    let b = next_some (read_branches n (drop a.0.1 (xs ++ ys))) _ x a.2 in
    let m : a.0.1 + b.0.1 ≡ x.1 = ap (λ (y : List Branch × ℕ). y.1) (some_injective b.2) in
    rw (branch_local xs ys zs a.0 a.1 (omega arith))
    (rw (later (read_branches n) (branches_local n) a.0.1 xs ys zs b.0 b.1 (omega arith)) b.2)
