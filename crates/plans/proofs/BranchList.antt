-- Branches that were read one after the other: the first and the rest, and where each starts.
use Prim.Native.Nat.{ℕ, zero, suc, ◌+◌, ◌-◌, ◌≤◌, ◌<◌}
use native.Mathlib.Omega.{arith}
use native.Mathlib.Numerals.{sub-one}
use mathlib.Core.Path.{◌≡◌, refl, sym, ◌∙◌, ap}
use mathlib.Core.Bool.{true, ◌&&◌}
use mathlib.Core.Option.{none, some}
use mathlib.Core.List.{List, [], ◌∷◌}
use lib.ListN.{length, drop, length-drop}
use lib.Seq.{drop-drop}
use Rattle.sequences.proofs.Booleans.{and_left, and_right}
use Rattle.plans.specs.Conditions.{Read, next}
use Rattle.plans.specs.Branches.{Branch, read_branch, read_branches, no_branch, nth_branch}
use Rattle.plans.specs.Reading.{is_read, words_read, read_or, Gives, branch_in, branches_in}
use Rattle.plans.proofs.Given.{gives}
use Rattle.plans.proofs.BranchRead.{branch_in_lem}

-- ---- a branch before others
abbrev with_rest : Branch × ℕ → Read (List Branch) → Read (List Branch)
with_rest x r = next r (λ y. some (x.0 ∷ y.0, x.1 + y.1))

rest_reads : (x : Branch × ℕ) (r : Read (List Branch)) → is_read (with_rest x r) ≡ is_read r
rest_reads x none = refl
rest_reads x (some y) = refl

rest_gives : (x : Branch × ℕ) (r : Read (List Branch)) → is_read r ≡ true
    → with_rest x r ≡ some (x.0 ∷ read_or [] r, x.1 + words_read r)
rest_gives x none h = let z : ◌≡◌ {A = ℕ} 0 1 = cc in absurd (omega arith)
rest_gives x (some y) h = refl

module _ (ws : List ℕ) (g : List ℕ → Read (List Branch)) where
  both_read : (r : Read Branch)
      → is_read (next r (λ x. with_rest x (g (drop x.1 ws)))) ≡ (is_read r && is_read (g (drop (words_read r) ws)))
  both_read none = refl
  both_read (some x) = rest_reads x (g (drop x.1 ws))

  both_given : (r : Read Branch) → is_read r ≡ true → is_read (g (drop (words_read r) ws)) ≡ true
      → next r (λ x. with_rest x (g (drop x.1 ws)))
      ≡ some (read_or no_branch r ∷ read_or [] (g (drop (words_read r) ws)), words_read r + words_read (g (drop (words_read r) ws)))
  both_given none h k = let z : ◌≡◌ {A = ℕ} 0 1 = cc in absurd (omega arith)
  both_given (some x) h k = rest_gives x (g (drop x.1 ws)) k

-- ---- the first of n branches, and m more
-- the words after the first branch
abbrev pub after_first : List ℕ → List ℕ
after_first ws = drop (words_read (read_branch ws)) ws

pub record FirstRead (n m : ℕ) (ws : List ℕ) : Type 0 where
  pub first : is_read (read_branch ws) ≡ true
  pub rest : is_read (read_branches m (after_first ws)) ≡ true
  pub words : words_read (read_branches n ws) ≡ words_read (read_branch ws) + words_read (read_branches m (after_first ws))
  pub list : branches_in n ws ≡ branch_in ws ∷ branches_in m (after_first ws)

module _ (n : ℕ) (ws : List ℕ) where
  joined : is_read (read_branch ws) ≡ true → is_read (read_branches n (after_first ws)) ≡ true
      → read_branches (suc n) ws
      ≡ some (branch_in ws ∷ branches_in n (after_first ws), words_read (read_branch ws) + words_read (read_branches n (after_first ws)))
  unfolding read_branches
  joined h k = both_given ws (read_branches n) (read_branch ws) h k

  next_read : is_read (read_branches (suc n) ws) ≡ true → FirstRead (suc n) n ws
  unfolding read_branches
  next_read h =
      let e = sym (both_read ws (read_branches n) (read_branch ws)) ∙ h in
      let f = and_left (is_read (read_branch ws)) (is_read (read_branches n (after_first ws))) e in
      let r = and_right (is_read (read_branch ws)) (is_read (read_branches n (after_first ws))) e in
      record { first = f; rest = r; words = ap words_read (joined f r); list = ap (read_or []) (joined f r) }

pub first_read : (n : ℕ) (ws : List ℕ) → (n ≡ 0 → ⊥) → is_read (read_branches n ws) ≡ true → FirstRead n (n - 1) ws
first_read zero ws hn h = absurd (hn refl)
first_read (suc n) ws hn h = rw sub-one (next_read n ws h)

-- ---- where each branch starts
none_read : (ws : List ℕ) → read_branches 0 ws ≡ some ([], 0)
unfolding read_branches
none_read ws = refl

-- of branches that were read, any number of the first are read
pub some_read : (n i : ℕ) (ws : List ℕ) → is_read (read_branches n ws) ≡ true → i ≤ n → is_read (read_branches i ws) ≡ true
some_read n zero ws h l = ap is_read (none_read ws)
some_read zero (suc i) ws h l = absurd (omega arith)
some_read (suc n) (suc i) ws h l =
    let s = next_read n ws h in
    ap is_read (joined i ws s.first (some_read n i (after_first ws) s.rest (omega arith)))

-- the branch with a number is read after the branches before it
pub branch_at_lem : (n i : ℕ) (ws : List ℕ) → is_read (read_branches n ws) ≡ true → i < n
    → Gives (read_branch (drop (words_read (read_branches i ws)) ws)) (nth_branch (branches_in n ws) i)
branch_at_lem zero i ws h l = absurd (omega arith)
branch_at_lem (suc n) zero ws h l =
    let s = next_read n ws h in rw (s.list, none_read ws) (gives no_branch (read_branch ws) s.first)
branch_at_lem (suc n) (suc i) ws h l =
    let s = next_read n ws h in
    let k = words_read (read_branch ws) in
    let m = words_read (read_branches i (after_first ws)) in
    let r = some_read n i (after_first ws) s.rest (omega arith) in
    let w : words_read (read_branches (suc i) ws) ≡ k + m = ap words_read (joined i ws s.first r) in
    rw (s.list, w, ← drop-drop m k ws) (branch_at_lem n i (after_first ws) s.rest (omega arith))

-- there are as many as were to be read, and they take no more words than there are
pub branches_length : (n : ℕ) (ws : List ℕ) → is_read (read_branches n ws) ≡ true → length (branches_in n ws) ≡ n
branches_length zero ws h = ap (λ (y : Read (List Branch)). length (read_or [] y)) (none_read ws)
branches_length (suc n) ws h =
    let s = next_read n ws h in ap length s.list ∙ ap suc (branches_length n (after_first ws) s.rest)

pub branches_fit : (n : ℕ) (ws : List ℕ) → is_read (read_branches n ws) ≡ true → words_read (read_branches n ws) ≤ length ws
branches_fit zero ws h = omega (arith, ap words_read (none_read ws))
branches_fit (suc n) ws h =
    let s = next_read n ws h in
    omega (
      arith,
      s.words,
      branches_fit n (after_first ws) s.rest,
      (branch_in_lem ws s.first).fit,
      length-drop (words_read (read_branch ws)) ws,
    )
