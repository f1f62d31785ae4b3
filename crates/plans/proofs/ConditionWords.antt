-- A condition is read from its words, and from no others.
use Prim.Native.Nat.{ℕ, zero, suc, ◌+◌, ◌≤◌}
use native.Mathlib.Omega.{arith}
use mathlib.Core.Path.{◌≡◌, refl, sym, ◌∙◌, ap, ap₂, subst}
use mathlib.Core.Bool.{Bool, true, false, cond}
use mathlib.Core.Option.{some}
use mathlib.Core.List.{List, [], ◌∷◌, ◌++◌, append_assoc}
use lib.Dec.{eqb, leb}
use lib.ListN.{length, drop, length-append}
use lib.Seq.{drop-append_seam}
use borrow.Author.Tests.{leb-true, le-leb, eqb-true, eq-eqb}
use Rattle.words.specs.Words.{kind, low, word, true_kind, and_kind, or_kind, not_kind, comparison_kind, last_operator}
use Rattle.words.proofs.Testing.{none_some, some_injective}
use Rattle.plans.specs.declared.Node.{Node}
use Rattle.plans.specs.declared.Node.TheVariants.{Always, Pair, Negated, Compared, Wrong}
use Rattle.plans.specs.Conditions.{Condition, always, both, either, negated, compared, Read, node_of, pair_of, read_node, read_condition}
use Rattle.plans.specs.Grammar.{condition_words, ConditionForm}
use Rattle.plans.proofs.Bounds.{next_some}

-- `ws` begin with `part`, which are `n` words
pub record BeginsWith (part : List ℕ) (n : ℕ) (ws : List ℕ) : Type 0 where
  pub rest : List ℕ
  pub words : ws ≡ part ++ rest
  pub count : n ≡ length part

-- what stands behind them
pub behind_part : (part : List ℕ) (n : ℕ) (ws : List ℕ) (b : BeginsWith part n ws) → drop n ws ≡ b.rest
behind_part part n ws b = rw (b.words, b.count) (drop-append_seam part b.rest)

-- some, and others behind them
pub begins_both : (part other : List ℕ) (n m : ℕ) (ws : List ℕ) → BeginsWith part n ws → BeginsWith other m (drop n ws)
    → BeginsWith (part ++ other) (n + m) ws
begins_both part other n m ws b d =
    record {
      rest = d.rest;
      words = b.words ∙ ap (λ us. part ++ us) (sym (behind_part part n ws b) ∙ d.words) ∙ sym (append_assoc part other d.rest);
      count = omega (arith, b.count, d.count, length-append part other);
    }

-- ---- the word of a node
data FirstWord (w : ℕ) : Node → Type 0 where
  is_true_fact : w ≡ word true_kind 0 → FirstWord w Always
  is_and : w ≡ word and_kind 0 → FirstWord w Pair
  is_or : w ≡ word or_kind 0 → FirstWord w Pair
  is_not : w ≡ word not_kind 0 → FirstWord w Negated
  is_comparison : low w ≤ last_operator → w ≡ word comparison_kind (low w) → FirstWord w Compared
  is_none : FirstWord w Wrong

first_word : (w : ℕ) → FirstWord w (node_of w)
unfolding node_of
first_word w =
    go (eqb (kind w) comparison_kind) refl (leb (low w) last_operator) refl (eqb (low w) 0) refl (eqb (kind w) true_kind) refl (eqb (kind w) and_kind) refl
    (eqb (kind w) or_kind) refl (eqb (kind w) not_kind) refl
  where
    go : (a : Bool) → eqb (kind w) comparison_kind ≡ a → (b : Bool) → leb (low w) last_operator ≡ b → (c : Bool) → eqb (low w) 0 ≡ c
        → (x : Bool) → eqb (kind w) true_kind ≡ x → (y : Bool) → eqb (kind w) and_kind ≡ y → (z : Bool) → eqb (kind w) or_kind ≡ z
        → (v : Bool) → eqb (kind w) not_kind ≡ v
        → FirstWord w (cond a (cond b Compared Wrong) (cond c (cond x Always (cond y Pair (cond z Pair (cond v Negated Wrong)))) Wrong))
    go true p true q c r x s y t z u v m = is_comparison (leb-true (low w) last_operator q) (omega (arith, eqb-true (kind w) comparison_kind p))
    go true p false q c r x s y t z u v m = is_none
    go false p b q false r x s y t z u v m = is_none
    go false p b q true r true s y t z u v m = is_true_fact (omega (arith, eqb-true (low w) 0 r, eqb-true (kind w) true_kind s))
    go false p b q true r false s true t z u v m = is_and (omega (arith, eqb-true (low w) 0 r, eqb-true (kind w) and_kind t))
    go false p b q true r false s false t true u v m = is_or (omega (arith, eqb-true (low w) 0 r, eqb-true (kind w) or_kind u))
    go false p b q true r false s false t false u true m = is_not (omega (arith, eqb-true (low w) 0 r, eqb-true (kind w) not_kind m))
    go false p b q true r false s false t false u false m = is_none

-- ---- what was read is written so
abbrev WrittenCondition : ℕ → List ℕ → Condition × ℕ → Type 0
WrittenCondition depth ws x = BeginsWith (condition_words x.0) x.1 ws × ConditionForm depth x.0

module _ (depth : ℕ) (inner : List ℕ → Read Condition)
    (reads : (us : List ℕ) (x : Condition × ℕ) → inner us ≡ some x → WrittenCondition depth us x) (w : ℕ) (ws : List ℕ) where
  -- a word before some
  one_before : (v : ℕ) (part : List ℕ) (n m : ℕ) → m ≡ 1 + n → w ≡ v → BeginsWith part n ws → BeginsWith (v ∷ part) m (w ∷ ws)
  one_before v part n m h e b = record { rest = b.rest; words = ap₂ ◌∷◌ e b.words; count = omega (arith, b.count) }

  pair_written : (c : Condition × ℕ → Condition × ℕ → Condition) → ((a b : Condition × ℕ) → pair_of w a.0 b.0 ≡ c a b)
      → (v : ℕ) → w ≡ v → ((a b : Condition × ℕ) → condition_words (c a b) ≡ v ∷ (condition_words a.0 ++ condition_words b.0))
      → ((a b : Condition × ℕ) → ConditionForm depth a.0 → ConditionForm depth b.0 → ConditionForm (suc depth) (c a b))
      → (x : Condition × ℕ) → read_node Pair inner w ws ≡ some x → WrittenCondition (suc depth) (w ∷ ws) x
  unfolding read_node
  pair_written c pair v is spelled formed x e =
      let a = next_some (inner ws) _ x e in
      let b = next_some (inner (drop a.0.1 ws)) _ x a.2 in
      subst (WrittenCondition (suc depth) (w ∷ ws)) (some_injective b.2)
      (rw (pair a.0 b.0) (
        rw (spelled a.0 b.0)
            (one_before v _ (a.0.1 + b.0.1) (1 + a.0.1 + b.0.1) (omega arith) is
            (begins_both _ _ a.0.1 b.0.1 ws (reads ws a.0 a.1).0 (reads (drop a.0.1 ws) b.0 b.1).0)),
        formed a.0 b.0 (reads ws a.0 a.1).1 (reads (drop a.0.1 ws) b.0 b.1).1,
      ))

  node_written : (k : Node) → FirstWord w k → (x : Condition × ℕ) → read_node k inner w ws ≡ some x → WrittenCondition (suc depth) (w ∷ ws) x
  unfolding read_node condition_words
  node_written k (is_true_fact p) x e =
      subst (WrittenCondition (suc depth) (w ∷ ws)) (some_injective e) (record { rest = ws; words = ap (λ v. v ∷ ws) p; count = refl }, tt)
  node_written k (is_and p) x e = pair_written (λ a b. both a.0 b.0) (λ a b. rw p) (word and_kind 0) p (λ a b. refl) (λ a b f g. (f, g)) x e
  node_written k (is_or p) x e = pair_written (λ a b. either a.0 b.0) (λ a b. rw p) (word or_kind 0) p (λ a b. refl) (λ a b f g. (f, g)) x e
  node_written k (is_not p) x e =
      let a = next_some (inner ws) _ x e in
      let h = reads ws a.0 a.1 in
      subst (WrittenCondition (suc depth) (w ∷ ws)) (some_injective a.2) (one_before (word not_kind 0) _ _ _ refl p h.0, h.1)
  node_written k (is_comparison l p) x e = go ws e
    where
      go : (us : List ℕ) → read_node Compared inner w us ≡ some x → WrittenCondition (suc depth) (w ∷ us) x
      go [] f = absurd (none_some f)
      go (s ∷ []) f = absurd (none_some f)
      go (s ∷ t ∷ us) f =
          subst (WrittenCondition (suc depth) (w ∷ s ∷ t ∷ us)) (some_injective f)
          (record { rest = us; words = ap (λ v. v ∷ s ∷ t ∷ us) p; count = refl }, l)
  node_written k is_none x e = absurd (none_some e)

pub read_condition_lem : (depth : ℕ) (ws : List ℕ) (x : Condition × ℕ) → read_condition depth ws ≡ some x
    → BeginsWith (condition_words x.0) x.1 ws × ConditionForm depth x.0
unfolding read_condition
read_condition_lem zero ws x e = absurd (none_some e)
read_condition_lem (suc depth) [] x e = absurd (none_some e)
read_condition_lem (suc depth) (w ∷ ws) x e =
    node_written depth (read_condition depth) (read_condition_lem depth) w ws (node_of w) (first_word w) x e

-- ---- what is written so is read
comparison_node : (o : ℕ) → o ≤ last_operator → (node_of (word comparison_kind o) ≡ Compared) × (low (word comparison_kind o) ≡ o)
unfolding node_of
comparison_node o h =
    let w = word comparison_kind o in
    let k : kind w ≡ comparison_kind = omega arith in
    let l : low w ≡ o = omega arith in
    (rw (eq-eqb (kind w) comparison_kind k, le-leb (low w) last_operator (omega arith)), l)

pair_back : (inner : List ℕ → Read Condition) (w : ℕ) (a b : Condition) (us vs rest : List ℕ) → inner (us ++ (vs ++ rest)) ≡ some (a, length us)
    → inner (vs ++ rest) ≡ some (b, length vs) → read_node Pair inner w ((us ++ vs) ++ rest) ≡ some (pair_of w a b, suc (length (us ++ vs)))
unfolding read_node
pair_back inner w a b us vs rest ea eb =
    let n : 1 + length us + length vs ≡ suc (length (us ++ vs)) = omega (arith, length-append us vs) in
    rw (append_assoc us vs rest, ea, drop-append_seam us (vs ++ rest), eb, n)

pub condition_back : (depth : ℕ) (c : Condition) → ConditionForm depth c → (rest : List ℕ)
    → read_condition depth (condition_words c ++ rest) ≡ some (c, length (condition_words c))
unfolding read_condition condition_words node_of read_node
condition_back zero c f rest = absurd f
condition_back (suc depth) always f rest = refl
condition_back (suc depth) (both a b) f rest =
    pair_back (read_condition depth) (word and_kind 0) a b (condition_words a) (condition_words b) rest
    (condition_back depth a f.0 (condition_words b ++ rest)) (condition_back depth b f.1 rest)
condition_back (suc depth) (either a b) f rest =
    pair_back (read_condition depth) (word or_kind 0) a b (condition_words a) (condition_words b) rest
    (condition_back depth a f.0 (condition_words b ++ rest)) (condition_back depth b f.1 rest)
condition_back (suc depth) (negated a) f rest =
    let n : 1 + length (condition_words a) ≡ suc (length (condition_words a)) = omega arith in rw (condition_back depth a f rest, n)
condition_back (suc depth) (compared o l r) f rest = let n = comparison_node o f in rw (n.0, n.1)
