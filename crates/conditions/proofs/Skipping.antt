-- Reading the short side first changes no value, and what is read and what is skipped are all comparisons of the tree.
use Prim.Native.Nat.{ℕ, ◌+◌}
use native.Mathlib.Omega.{arith}
use mathlib.Core.Path.{◌≡◌, refl, ◌∙◌, ap, ap₂}
use mathlib.Core.Bool.{Bool, true, false, cond, ◌&&◌}
use Rattle.words.specs.Bindings.{Bindings}
use Rattle.plans.specs.Conditions.{Condition, always, both, either, negated, compared}
use Rattle.conditions.specs.declared.Truth.{Truth}
use Rattle.conditions.specs.declared.Truth.TheVariants.{True, False, Error}
use Rattle.conditions.specs.declared.Evaluated.{Evaluated}
use Rattle.conditions.specs.Truth.{conjunction, disjunction, negation, truth_of}
use Rattle.conditions.specs.Evaluated.{is_lone, is_false, pair_read, right_first, evaluated, comparisons_in, skipped_in}

-- an "and" read from the right is the "and" of the tables
first_truth : (x y : Evaluated) → (right_first x y).truth ≡ conjunction x.truth y.truth
first_truth x y = go x.truth y.truth x.reads y.reads
  where
    go : (a c : Truth) (m n : ℕ) → (right_first (record { truth = a; reads = m }) (record { truth = c; reads = n })).truth ≡ conjunction a c
    go True True m n = refl
    go True False m n = refl
    go True Error m n = refl
    go False True m n = refl
    go False False m n = refl
    go False Error m n = refl
    go Error True m n = refl
    go Error False m n = refl
    go Error Error m n = refl

-- the outcome is what it was
pub evaluated_truth : (b : Bindings) (c : Condition) → (evaluated b c).truth ≡ truth_of b c
unfolding evaluated truth_of
evaluated_truth b always = refl
evaluated_truth b (both x y) = go (ap₂ conjunction (evaluated_truth b x) (evaluated_truth b y)) (is_lone y)
  where
    go : conjunction (evaluated b x).truth (evaluated b y).truth ≡ conjunction (truth_of b x) (truth_of b y) → (l : Bool)
        → (cond l (right_first (evaluated b x) (evaluated b y)) (pair_read conjunction (evaluated b x) (evaluated b y))).truth
        ≡ conjunction (truth_of b x) (truth_of b y)
    go join true = first_truth (evaluated b x) (evaluated b y) ∙ join
    go join false = join
evaluated_truth b (either x y) = ap₂ disjunction (evaluated_truth b x) (evaluated_truth b y)
evaluated_truth b (negated x) = ap negation (evaluated_truth b x)
evaluated_truth b (compared o l r) = refl

-- all of the tree's comparisons but those skipped
pub reads_and_skips : (b : Bindings) (c : Condition) → (evaluated b c).reads + skipped_in b c ≡ comparisons_in c
unfolding evaluated skipped_in comparisons_in
reads_and_skips b always = refl
reads_and_skips b (both x y) = go (reads_and_skips b x) y (reads_and_skips b y) (is_lone y) refl (truth_of b y) refl
  where
    go : (evaluated b x).reads + skipped_in b x ≡ comparisons_in x → (z : Condition) → (evaluated b z).reads + skipped_in b z ≡ comparisons_in z
        → (l : Bool) → is_lone z ≡ l → (c : Truth) → truth_of b z ≡ c
        → (cond (is_lone z) (right_first (evaluated b x) (evaluated b z)) (pair_read conjunction (evaluated b x) (evaluated b z))).reads
        + cond (is_lone z && is_false (truth_of b z)) (comparisons_in x) (skipped_in b x + skipped_in b z)
        ≡ comparisons_in x + comparisons_in z
    go h z i false p c q = rw p (omega arith)
    go h z i true p True q = rw (p, evaluated_truth b z, q) (omega arith)
    go h z i true p Error q = rw (p, evaluated_truth b z, q) (omega arith)
    go h (compared o l r) i true p False q = rw (evaluated_truth b (compared o l r), q) (omega arith)
    go h always i true p False q = absurd (let w : ◌≡◌ {A = ℕ} 0 1 = cc in omega arith)
    go h (both u v) i true p False q = absurd (let w : ◌≡◌ {A = ℕ} 0 1 = cc in omega arith)
    go h (either u v) i true p False q = absurd (let w : ◌≡◌ {A = ℕ} 0 1 = cc in omega arith)
    go h (negated u) i true p False q = absurd (let w : ◌≡◌ {A = ℕ} 0 1 = cc in omega arith)
reads_and_skips b (either x y) = omega (arith, reads_and_skips b x, reads_and_skips b y)
reads_and_skips b (negated x) = reads_and_skips b x
reads_and_skips b (compared o l r) = refl
