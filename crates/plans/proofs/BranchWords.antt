-- A branch is read from its words, and from no others; so are branches that stand one behind the other.
use Prim.Native.Nat.{ℕ, zero, suc, ◌+◌, ◌*◌, ◌/◌, ◌≤◌, ◌<◌}
use native.Mathlib.Omega.{arith}
use mathlib.Core.Path.{◌≡◌, refl, sym, ◌∙◌, ap, ap₂, subst}
use mathlib.Core.Bool.{Bool, true, false, cond}
use mathlib.Core.Option.{none, some}
use mathlib.Core.List.{List, [], ◌∷◌, ◌++◌, append_assoc, map, flatten}
use lib.Dec.{eqb, leb, ltb}
use lib.ListN.{length, take, drop, length-append, take-append-drop}
use lib.Seq.{drop-drop, length-take-le, take-append_seam, drop-append_seam}
use borrow.Author.Tests.{leb-true, le-leb, ltb-false, le-ltb, eqb-true, eqb-false, eq-eqb, ne_eqb}
use Rattle.words.specs.Words.{kind, low, low_numbers, word, branch_kind}
use Rattle.words.proofs.Testing.{none_some, some_injective}
use Rattle.plans.specs.Conditions.{Condition, Read, read_condition, nodes, most_depth, most_nodes}
use Rattle.plans.specs.Branches.{Branch, pattern_width, most_patterns, pattern_count, with_condition, read_patterns, read_branch, read_branches, nth_branch}
use Rattle.plans.specs.Reading.{count_in}
use Rattle.plans.specs.Grammar.{condition_words, branch_words, BranchAllowed}
use Rattle.plans.proofs.Bounds.{cond_some, cond_none, next_some}
use Rattle.plans.proofs.ConditionWords.{BeginsWith, begins_both, read_condition_lem, condition_back}

-- ---- a word that names a count, and the count of such a word
pub count_word_lem : (k most w : ℕ) → (count_in k most w ≡ 0 → ⊥) → (w ≡ word k (count_in k most w)) × (count_in k most w ≤ most)
count_word_lem k most w h = go (eqb (kind w) k) refl (leb (low w) most) refl h
  where
    go : (a : Bool) → eqb (kind w) k ≡ a → (b : Bool) → leb (low w) most ≡ b → (cond a (cond b (low w) 0) 0 ≡ 0 → ⊥)
        → (w ≡ word k (cond a (cond b (low w) 0) 0)) × (cond a (cond b (low w) 0) 0 ≤ most)
    go true p true q f = (omega (arith, eqb-true (kind w) k p), leb-true (low w) most q)
    go true p false q f = absurd (f refl)
    go false p b q f = absurd (f refl)

pub word_count : (k most n : ℕ) → n ≤ most → most < low_numbers → count_in k most (word k n) ≡ n
word_count k most n l m =
    let e : kind (word k n) ≡ k = omega arith in
    let f : low (word k n) ≡ n = omega arith in
    rw (eq-eqb (kind (word k n)) k e, f, le-leb n most l)

-- ---- a branch that was read
abbrev WrittenBranch : List ℕ → Branch × ℕ → Type 0
WrittenBranch ws x = BeginsWith (branch_words x.0) x.1 ws × BranchAllowed x.0

module _ (n w : ℕ) (us : List ℕ) (is : w ≡ word branch_kind n) (least : 1 ≤ n) (most : n ≤ most_patterns)
    (room : 1 + pattern_width * n ≤ length (w ∷ us)) where
  with_words : (c : Read Condition) → read_condition most_depth (drop (1 + pattern_width * n) (w ∷ us)) ≡ c → (x : Branch × ℕ)
      → with_condition n (w ∷ us) c ≡ some x → WrittenBranch (w ∷ us) x
  with_words none ec x e = absurd (none_some e)
  with_words (some c) ec x e =
      let g = cond_some (leb (nodes c.0) most_nodes) _ x e in
      let terms = take (pattern_width * n) us in
      let r = read_condition_lem most_depth (drop (1 + pattern_width * n) (w ∷ us)) c ec in
      let len : length terms ≡ pattern_width * n = length-take-le (pattern_width * n) us (omega arith) in
      let first : w ≡ word branch_kind (length terms / pattern_width) = omega arith in
      let behind : us ≡ (terms ++ condition_words c.0) ++ r.0.rest =
      sym (take-append-drop (pattern_width * n) us)
      ∙ ap (λ (vs : List ℕ). terms ++ vs) (drop-drop (pattern_width * n) 1 (w ∷ us) ∙ r.0.words)
      ∙ sym (append_assoc terms (condition_words c.0) r.0.rest) in
      subst (WrittenBranch (w ∷ us)) (some_injective g.1) (
        record {
          rest = r.0.rest;
          words = ap₂ ◌∷◌ first behind;
          count = omega (arith, r.0.count, length-append terms (condition_words c.0));
        },
        record {
          patterns = record { patterns = n; width = len; least = least; most = most };
          deep = r.1;
          few = leb-true (nodes c.0) most_nodes g.0;
        },
      )

pub read_branch_lem : (ws : List ℕ) (x : Branch × ℕ) → read_branch ws ≡ some x → BeginsWith (branch_words x.0) x.1 ws × BranchAllowed x.0
unfolding read_branch
read_branch_lem [] x e = absurd (none_some e)
read_branch_lem (w ∷ us) x e =
    let n = pattern_count w in
    let a = cond_none (eqb n 0) _ x e in
    let b = cond_none (ltb (length (w ∷ us)) (1 + pattern_width * n)) _ x a.1 in
    let some_pattern = eqb-false n 0 a.0 in
    let c = count_word_lem branch_kind most_patterns w some_pattern in
    with_words n w us c.0 (omega arith) c.1 (ltb-false (length (w ∷ us)) (1 + pattern_width * n) b.0)
    (read_condition most_depth (drop (1 + pattern_width * n) (w ∷ us))) refl x b.1

-- ---- a branch that is written
module _ (b : Branch) (f : BranchAllowed b) (rest : List ℕ) (w : ℕ) where
  abbrev n : ℕ
  n = f.patterns.patterns

  abbrev words : List ℕ
  words = condition_words b.condition

  abbrev ws : List ℕ
  ws = w ∷ ((b.terms ++ words) ++ rest)

  abbrev wide : length b.terms ≡ pattern_width * n
  wide = f.patterns.width

  regrouped : (b.terms ++ words) ++ rest ≡ b.terms ++ (words ++ rest)
  regrouped = append_assoc b.terms words rest

  condition_at : drop (1 + pattern_width * n) ws ≡ words ++ rest
  condition_at =
      sym (drop-drop (pattern_width * n) 1 ws) ∙ rw (regrouped, ← wide) (drop-append_seam b.terms (words ++ rest))

  terms_at : take (pattern_width * n) (drop 1 ws) ≡ b.terms
  terms_at = rw (regrouped, ← wide) (take-append_seam b.terms (words ++ rest))

  read_so : read_patterns n ws ≡ with_condition n ws (some (b.condition, length words))
  read_so =
      let l = f.patterns.least in
      let room : 1 + pattern_width * n ≤ length ws = omega (arith, wide, ap length regrouped, length-append b.terms (words ++ rest)) in
      rw (
        ne_eqb n 0 (λ e. omega arith),
        le-ltb (length ws) (1 + pattern_width * n) room,
        condition_at,
        condition_back most_depth b.condition f.deep rest,
      )

  patterns_back : read_patterns n ws ≡ some (b, suc (length (b.terms ++ words)))
  patterns_back =
      let count : 1 + pattern_width * n + length words ≡ suc (length (b.terms ++ words)) = omega (arith, wide, length-append b.terms words) in
      let made : (record { terms = take (pattern_width * n) (drop 1 ws); condition = b.condition }) ≡ b =
      λ i. record { terms = terms_at i; condition = b.condition } in
      read_so ∙ rw (le-leb (nodes b.condition) most_nodes f.few) (ap some (ap₂ (λ (x : Branch) (m : ℕ). (x, m)) made count))

pub branch_back : (b : Branch) → BranchAllowed b → (rest : List ℕ) → read_branch (branch_words b ++ rest) ≡ some (b, length (branch_words b))
unfolding read_branch
branch_back b f rest =
    let n = f.patterns.patterns in
    let w = word branch_kind (length b.terms / pattern_width) in
    let same : length b.terms / pattern_width ≡ n = omega (arith, f.patterns.width) in
    let named : pattern_count w ≡ n = ap (λ m. pattern_count (word branch_kind m)) same
    ∙ word_count branch_kind most_patterns n f.patterns.most (omega arith) in
    ap (λ m. read_patterns m (branch_words b ++ rest)) named ∙ patterns_back b f rest w

-- ---- branches, one behind the other
abbrev EachAllowed : List Branch → Type 0
EachAllowed bs = (i : ℕ) → i < length bs → BranchAllowed (nth_branch bs i)

one_more_fact : (b : Branch) (bs : List Branch) → BranchAllowed b → EachAllowed bs → EachAllowed (b ∷ bs)
one_more_fact b bs f g zero l = f
one_more_fact b bs f g (suc i) l = g i (omega arith)

pub record WrittenBranches (n : ℕ) (ws : List ℕ) (x : List Branch × ℕ) : Type 0 where
  pub begins : BeginsWith (flatten (map branch_words x.0)) x.1 ws
  pub each : (i : ℕ) → i < length x.0 → BranchAllowed (nth_branch x.0 i)
  pub many : length x.0 ≡ n

pub read_branches_lem : (n : ℕ) (ws : List ℕ) (x : List Branch × ℕ) → read_branches n ws ≡ some x → WrittenBranches n ws x
unfolding read_branches flatten
read_branches_lem zero ws x e =
    subst (WrittenBranches 0 ws) (some_injective e)
    (record { begins = record { rest = ws; words = refl; count = refl }; each = λ i l. absurd (omega arith); many = refl })
read_branches_lem (suc n) ws x e =
    let a = next_some (read_branch ws) _ x e in
    let b = next_some (read_branches n (drop a.0.1 ws)) _ x a.2 in
    let f = read_branch_lem ws a.0 a.1 in
    let g = read_branches_lem n (drop a.0.1 ws) b.0 b.1 in
    subst (WrittenBranches (suc n) ws) (some_injective b.2)
    (record {
      begins = begins_both (branch_words a.0.0) (flatten (map branch_words b.0.0)) a.0.1 b.0.1 ws f.0 g.begins;
      each = one_more_fact a.0.0 b.0.0 f.1 g.each;
      many = ap suc g.many;
    })

pub branches_back : (bs : List Branch) → ((i : ℕ) → i < length bs → BranchAllowed (nth_branch bs i)) → (rest : List ℕ)
    → read_branches (length bs) (flatten (map branch_words bs) ++ rest) ≡ some (bs, length (flatten (map branch_words bs)))
unfolding read_branches flatten
branches_back [] h rest = refl
branches_back (b ∷ bs) h rest =
    let first = branch_words b in
    let others = flatten (map branch_words bs) in
    let count : length first + length others ≡ length (first ++ others) = sym (length-append first others) in
    let one = branch_back b (h 0 (omega arith)) (others ++ rest) in
    let more = branches_back bs (λ i l. h (suc i) (omega arith)) rest in
    rw (append_assoc first others rest, one, drop-append_seam first (others ++ rest), more, count)
