-- What stands where in the words of a branch that was read.
use Prim.Native.Nat.{ℕ, ◌+◌, ◌-◌, ◌*◌, ◌≤◌}
use native.Mathlib.Omega.{arith}
use mathlib.Core.Path.{◌≡◌, refl, sym, ◌∙◌, ap}
use mathlib.Core.Bool.{Bool, true, false, cond}
use mathlib.Core.Option.{none, some}
use mathlib.Core.List.{List}
use lib.Dec.{eqb, leb, ltb}
use lib.ListN.{length, get_or, take, drop, length-drop}
use borrow.Author.Tests.{eq-eqb, leb-true, ltb-false}
use Rattle.words.specs.Words.{kind, low, branch_kind}
use Rattle.sequences.proofs.Booleans.{absurd_true}
use Rattle.sequences.proofs.Walking.{rest_of}
use Rattle.words.proofs.Testing.{none_some, some_injective}
use Rattle.plans.specs.Conditions.{Condition, Read, read_condition, nodes, most_depth, most_nodes}
use Rattle.plans.specs.Branches.{Branch, pattern_width, pattern_count, most_patterns, with_condition, read_branch, no_branch}
use Rattle.plans.specs.Reading.{is_read, words_read, Gives, branch_in}
use Rattle.plans.proofs.Given.{gives, cond_some, cond_none}
use Rattle.plans.proofs.Trees.{Fits, fits}

-- where the condition of the branch at the start of some words starts
abbrev pub condition_start : List ℕ → ℕ
condition_start ws = 1 + pattern_width * pattern_count (get_or ws 0 0)

-- the words start with a branch, which takes `used` of them
pub record BranchRead (ws : List ℕ) (b : Branch) (used : ℕ) : Type 0 where
  pub room : condition_start ws ≤ length ws
  pub terms : b.terms ≡ take (pattern_width * pattern_count (get_or ws 0 0)) (drop 1 ws)
  pub condition : Gives (read_condition most_depth (drop (condition_start ws) ws)) b.condition
  pub words : used ≡ condition_start ws + words_read (read_condition most_depth (drop (condition_start ws) ws))
  pub fit : used ≤ length ws

with_read : (n : ℕ) (ws : List ℕ) (r : Read Condition) (x : Branch × ℕ) → Fits r (length ws - (1 + pattern_width * n))
    → with_condition n ws r ≡ some x
    → (x.0.terms ≡ take (pattern_width * n) (drop 1 ws)) × Gives r x.0.condition
    × (x.1 ≡ 1 + pattern_width * n + words_read r) × (words_read r ≤ length ws - (1 + pattern_width * n))
with_read n ws none x h e = absurd (none_some e)
with_read n ws (some c) x h e =
    let p = some_injective (cond_some (leb (nodes c.0) most_nodes) _ x e).1 in (
      sym (ap (λ (y : Branch × ℕ). y.0.terms) p),
      ap (λ (y : Branch × ℕ). some (y.0.condition, c.1)) p,
      sym (ap (λ (y : Branch × ℕ). y.1) p),
      h.0,
    )

pub branch_read : (ws : List ℕ) (x : Branch × ℕ) → read_branch ws ≡ some x → BranchRead ws x.0 x.1
unfolding read_branch
branch_read ws x e =
    let n = pattern_count (get_or ws 0 0) in
    let at = condition_start ws in
    let a = cond_none (eqb n 0) _ x e in
    let b = cond_none (ltb (length ws) at) _ x a.1 in
    let room : at ≤ length ws = ltb-false (length ws) at b.0 in
    let w = with_read n ws (read_condition most_depth (drop at ws)) x (rw length-drop at (fits most_depth (drop at ws))) b.1 in
    record { room = room; terms = w.0; condition = w.1; words = w.2; fit = omega (arith, w.2, w.3) }

pub branch_in_lem : (ws : List ℕ) → is_read (read_branch ws) ≡ true → BranchRead ws (branch_in ws) (words_read (read_branch ws))
branch_in_lem ws h = branch_read ws (branch_in ws, words_read (read_branch ws)) (gives no_branch (read_branch ws) h)

-- ---- its first word
count_low : (k l : Bool) (n : ℕ) → eqb (cond k (cond l n 0) 0) 0 ≡ false → (cond k (cond l n 0) 0 ≡ n) × (l ≡ true)
count_low true true n e = (refl, refl)
count_low true false n e = absurd_true (eq-eqb 0 0 refl) e
count_low false l n e = absurd_true (eq-eqb 0 0 refl) e

-- the word names as many patterns as it has in its low bits, and not too many
pub patterns_low : (ws : List ℕ) → is_read (read_branch ws) ≡ true
    → (low (get_or ws 0 0) ≡ pattern_count (get_or ws 0 0)) × (low (get_or ws 0 0) ≤ most_patterns)
unfolding read_branch
patterns_low ws h =
    let w = get_or ws 0 0 in
    let a = cond_none (eqb (pattern_count w) 0) _ _ (gives no_branch (read_branch ws) h) in
    let c = count_low (eqb (kind w) branch_kind) (leb (low w) most_patterns) (low w) a.0 in
    (sym c.0, leb-true (low w) most_patterns c.1)

-- ---- the parts of a branch, as they are lent
-- the terms of n patterns, as they are lent
abbrev pub lent_terms : ℕ → List ℕ → List ℕ
lent_terms n ws = take (1 + pattern_width * n - 1) (drop 1 ws)

pub lent_terms_lem : (n : ℕ) (ws : List ℕ) → lent_terms n ws ≡ take (pattern_width * n) (drop 1 ws)
lent_terms_lem n ws = let e : 1 + pattern_width * n - 1 ≡ pattern_width * n = omega arith in rw e

-- the words from its condition on
abbrev pub lent_condition : ℕ → List ℕ → List ℕ
lent_condition n ws = take (length ws - (1 + pattern_width * n)) (drop (1 + pattern_width * n) ws)

module _ (ws : List ℕ) (h : is_read (read_branch ws) ≡ true) (n : ℕ) (en : n ≡ pattern_count (get_or ws 0 0)) where
  pub branch_room : 1 + pattern_width * n ≤ length ws
  branch_room = rw en (branch_in_lem ws h).room

  pub terms_in : lent_terms n ws ≡ (branch_in ws).terms
  terms_in = lent_terms_lem n ws ∙ rw en (sym (branch_in_lem ws h).terms)

  condition_from : lent_condition n ws ≡ drop (condition_start ws) ws
  condition_from = rest_of ws (1 + pattern_width * n) ∙ rw en

  pub condition_in_lem : Gives (read_condition most_depth (lent_condition n ws)) (branch_in ws).condition
  condition_in_lem = rw condition_from (branch_in_lem ws h).condition

  pub words_in_lem : words_read (read_branch ws) ≡ 1 + pattern_width * n + words_read (read_condition most_depth (lent_condition n ws))
  words_in_lem = rw (condition_from, en) (branch_in_lem ws h).words
