-- A condition evaluated from the conditions in it, as words are read: one law for each way through the evaluation.
use Prim.Native.Nat.{ℕ, zero, suc, ◌+◌, ◌-◌, ◌≤◌, ◌<◌}
use native.Mathlib.Omega.{arith}
use mathlib.Core.Path.{◌≡◌, refl, sym, ◌∙◌, ap}
use mathlib.Core.Bool.{Bool, true, false, cond, ◌&&◌}
use mathlib.Core.Option.{none, some}
use mathlib.Core.List.{List, [], ◌∷◌}
use lib.ListN.{length, get_or, take, drop, length-drop}
use lib.Seq.{drop-drop, get_or-drop}
use lib.Dec.{eqb, leb}
use Rattle.words.specs.Words.{kind, low, true_kind, and_kind, or_kind, not_kind, comparison_kind, last_operator}
use Rattle.words.specs.Bindings.{Bindings}
use Rattle.sequences.proofs.Booleans.{absurd_true}
use Rattle.plans.specs.declared.Node.{Node}
use Rattle.plans.specs.declared.Node.TheVariants.{Always, Pair, Negated, Compared, Wrong}
use Rattle.plans.specs.Conditions.{Condition, always, both, either, negated, Read, next, pair_of, node_of, read_node, read_condition, most_depth}
use Rattle.plans.specs.Reading.{is_read, words_read, read_or, Gives}
use Rattle.conditions.specs.declared.Truth.TheVariants.{True}
use Rattle.conditions.specs.declared.Evaluated.{Evaluated}
use Rattle.conditions.specs.Truth.{conjunction, disjunction, is_true, truth_of, keeps_row}
use Rattle.conditions.specs.Evaluated.{is_lone, is_false, negated_read, pair_read, right_first, evaluated}
use Rattle.conditions.specs.Values.{Readable, condition_in, comparison_read, joined_by, Few, is_short, settles}
use Rattle.conditions.proofs.Reading.{rest_of, Begins, begun, Fits, fits, Within, within}
use Rattle.conditions.proofs.Logic.{and_commutes}
use Rattle.conditions.proofs.Skipping.{evaluated_truth, reads_and_skips}

-- ---- a row is kept where the truth is true
pub keeps_true : (b : Bindings) (c : Condition) {x : Evaluated} → x ≡ evaluated b c → is_true x.truth ≡ keeps_row b c
keeps_true b c e = rw (e, evaluated_truth b c)

pub always_kept : (b : Bindings) (c : Condition) → c ≡ always → keeps_row b c ≡ true
unfolding truth_of
always_kept b c e = rw e

-- ---- the condition that a reader gives is the one that the words start with
pub condition_given : (ws : List ℕ) (c : Condition) → Gives (read_condition most_depth ws) c → condition_in ws ≡ c
condition_given ws c e = rw e

pub readable_given : (ws : List ℕ) (c : Condition) → Gives (read_condition most_depth ws) c → Readable ws
readable_given ws c e = rw e

-- ---- comparisons can be added up
few_read : (b : Bindings) (x : Read Condition) (len : ℕ) → Fits x len → len < 0x2000_0000_0000_0000 → Few (evaluated b (read_or always x))
unfolding evaluated
few_read b none len h i = omega arith
few_read b (some x) len h i = omega (arith, reads_and_skips b x.0)

pub few_from : (b : Bindings) (i : ℕ) (ws : List ℕ) {v : Evaluated} → v ≡ evaluated b (condition_in (drop i ws))
    → length ws < 0x2000_0000_0000_0000 → Few v
few_from b i ws e h =
    let l = drop i ws in rw e (few_read b (read_condition most_depth l) (length l) (fits most_depth l) (omega (arith, length-drop i ws)))

-- ---- a lone comparison is known by its word
abbrev lonely : Node → Bool
lonely Always = false
lonely Pair = false
lonely Negated = false
lonely Compared = true
lonely Wrong = false

abbrev node_by : Bool → Bool → Bool → Bool → Bool → Bool → Bool → Node
node_by t l z a c d e = cond t (cond l Compared Wrong) (cond z (cond a Always (cond c Pair (cond d Pair (cond e Negated Wrong)))) Wrong)

node_by_lem : (t l z a c d e : Bool) → (node_by t l z a c d e ≡ Wrong → ⊥) → lonely (node_by t l z a c d e) ≡ t
node_by_lem true true z a c d e n = refl
node_by_lem true false z a c d e n = absurd (n refl)
node_by_lem false l false a c d e n = refl
node_by_lem false l true true c d e n = refl
node_by_lem false l true false true d e n = refl
node_by_lem false l true false false true e n = refl
node_by_lem false l true false false false true n = refl
node_by_lem false l true false false false false n = refl

node_lone : (w : ℕ) → (node_of w ≡ Wrong → ⊥) → lonely (node_of w) ≡ eqb (kind w) comparison_kind
unfolding node_of
node_lone w n =
    node_by_lem (eqb (kind w) comparison_kind) (leb (low w) last_operator) (eqb (low w) 0) (eqb (kind w) true_kind) (eqb (kind w) and_kind)
    (eqb (kind w) or_kind) (eqb (kind w) not_kind) n

module _ (g : List ℕ → Read Condition) (w : ℕ) where
  lone_under : (x : Read Condition) → is_lone (read_or always (next x (λ x. some (negated x.0, 1 + x.1)))) ≡ false
  lone_under none = refl
  lone_under (some x) = refl

  lone_pair : (t : Bool) (x y : Condition) → is_lone (cond t (both x y) (either x y)) ≡ false
  lone_pair true x y = refl
  lone_pair false x y = refl

  lone_second : (x : Condition) (m : ℕ) (y : Read Condition)
      → is_lone (read_or always (next y (λ y. some (pair_of w x y.0, 1 + m + y.1)))) ≡ false
  lone_second x m none = refl
  lone_second x m (some y) = lone_pair (eqb (kind w) and_kind) x y.0

  lone_two : (ws : List ℕ) (x : Read Condition)
      → is_lone (read_or always (next x (λ x. next (g (drop x.1 ws)) (λ y. some (pair_of w x.0 y.0, 1 + x.1 + y.1))))) ≡ false
  lone_two ws none = refl
  lone_two ws (some x) = lone_second x.0 x.1 (g (drop x.1 ws))

  lone_node : (n : Node) (ws : List ℕ) → is_read (read_node n g w ws) ≡ true → is_lone (read_or always (read_node n g w ws)) ≡ lonely n
  unfolding read_node
  lone_node Always ws e = refl
  lone_node Pair ws e = lone_two ws (g ws)
  lone_node Negated ws e = lone_under (g ws)
  lone_node Compared [] e = absurd_true e refl
  lone_node Compared (l ∷ []) e = absurd_true e refl
  lone_node Compared (l ∷ r ∷ ws) e = refl
  lone_node Wrong ws e = refl

  node_right : (ws : List ℕ) → is_read (read_node (node_of w) g w ws) ≡ true → node_of w ≡ Wrong → ⊥
  unfolding read_node
  node_right ws r e = absurd_true r (rw e)

lone_kind : (d : ℕ) (ws : List ℕ) → is_read (read_condition d ws) ≡ true
    → is_lone (read_or always (read_condition d ws)) ≡ eqb (kind (get_or ws 0 0)) comparison_kind
unfolding read_condition
lone_kind zero ws r = absurd_true r refl
lone_kind (suc d) [] r = absurd_true r refl
lone_kind (suc d) (w ∷ ws) r = lone_node (read_condition d) w (node_of w) ws r ∙ node_lone w (node_right (read_condition d) w ws r)

-- ---- a comparison, from its three words
compared_there : (g : List ℕ → Read Condition) (ws : List ℕ) → (length ws ≡ 0 → ⊥)
    → is_read (read_node Compared g (get_or ws 0 0) (drop 1 ws)) ≡ true → 3 ≤ length ws
unfolding read_node
compared_there g [] n e = absurd (n refl)
compared_there g (w ∷ []) n e = absurd_true e refl
compared_there g (w ∷ a ∷ []) n e = absurd_true e refl
compared_there g (w ∷ a ∷ c ∷ ws) n e = omega arith

compared_read : (b : Bindings) (g : List ℕ → Read Condition) (ws : List ℕ) → 3 ≤ length ws
    → evaluated b (read_or always (read_node Compared g (get_or ws 0 0) (drop 1 ws))) ≡ comparison_read b ws
unfolding read_node evaluated
compared_read b g [] n = absurd (omega arith)
compared_read b g (w ∷ []) n = absurd (omega arith)
compared_read b g (w ∷ a ∷ []) n = absurd (omega arith)
compared_read b g (w ∷ a ∷ c ∷ ws) n = refl

-- ---- operands: read under one node less, and so under as many
operand_under : (x y : Read Condition) → Within x y → is_read (next x (λ x. some (negated x.0, 1 + x.1))) ≡ true
    → (is_read y ≡ true) × (read_or always (next x (λ x. some (negated x.0, 1 + x.1))) ≡ negated (read_or always y))
operand_under none y v e = absurd_true e refl
operand_under (some x) y v e = (rw v, rw v)

module _ (w : ℕ) where
  -- both operands are read, and make the pair
  abbrev Two : Read Condition → Read Condition → Condition → Type 0
  Two y z c = (is_read y ≡ true) × (is_read z ≡ true) × (c ≡ pair_of w (read_or always y) (read_or always z))

  second_operand : (x : Condition) (m : ℕ) (u z : Read Condition) → Within u z
      → is_read (next u (λ y. some (pair_of w x y.0, 1 + m + y.1))) ≡ true
      → Two (some (x, m)) z (read_or always (next u (λ y. some (pair_of w x y.0, 1 + m + y.1))))
  second_operand x m none z v e = absurd_true e refl
  second_operand x m (some u) z v e = (refl, rw v, rw v)

  both_operands : (g f : ℕ → Read Condition) → ((m : ℕ) → Within (g m) (f m)) → (x y : Read Condition) → Within x y
      → is_read (next x (λ x. next (g x.1) (λ y. some (pair_of w x.0 y.0, 1 + x.1 + y.1)))) ≡ true
      → Two y (f (words_read y)) (read_or always (next x (λ x. next (g x.1) (λ y. some (pair_of w x.0 y.0, 1 + x.1 + y.1)))))
  both_operands g f k none y v e = absurd_true e refl
  both_operands g f k (some x) y v e = rw v (second_operand x.0 x.1 (g x.1) (f x.1) (k x.1) e)

-- ---- a pair from its operands, in the order in which they are read
module _ (b : Bindings) (x y : Condition) where
  both_lone : is_lone y ≡ true → evaluated b (both x y) ≡ right_first (evaluated b x) (evaluated b y)
  unfolding evaluated
  both_lone e = rw e

  both_long : is_lone y ≡ false → evaluated b (both x y) ≡ pair_read conjunction (evaluated b x) (evaluated b y)
  unfolding evaluated
  both_long e = rw e

  either_read : evaluated b (either x y) ≡ pair_read disjunction (evaluated b x) (evaluated b y)
  unfolding evaluated
  either_read = refl

  -- t for "and", l for a right operand that is a lone comparison: both together, it is read first
  pair_settled : (t l : Bool) → is_lone y ≡ l → (early : Evaluated) → early ≡ evaluated b (cond (t && l) y x) → settles (t && l) early ≡ true
      → early ≡ evaluated b (cond t (both x y) (either x y))
  pair_settled true true p early q e = let f : is_false (evaluated b y).truth ≡ true = rw q at e in rw (q, both_lone p, f)
  pair_settled true false p early q e = absurd_true e refl
  pair_settled false l p early q e = absurd_true e refl

  pair_joined : (t l : Bool) → is_lone y ≡ l → (early : Evaluated) → early ≡ evaluated b (cond (t && l) y x) → settles (t && l) early ≡ false
      → (late : Evaluated) → late ≡ evaluated b (cond (t && l) x y)
      → pair_read (λ a c. cond t (conjunction a c) (disjunction a c)) early late ≡ evaluated b (cond t (both x y) (either x y))
  pair_joined true true p early q e late z =
      let f : is_false (evaluated b y).truth ≡ false = rw q at e in
      let r : (evaluated b x).reads + (evaluated b y).reads ≡ (evaluated b y).reads + (evaluated b x).reads = omega arith in
      rw (q, z, both_lone p, f, and_commutes (evaluated b x).truth (evaluated b y).truth, r)
  pair_joined true false p early q e late z = rw (q, z, both_long p)
  pair_joined false l p early q e late z = rw (q, z, either_read)

read_there : (x : Read Condition) (len : ℕ) → Fits x len → is_read x ≡ true → (0 < words_read x) × (words_read x ≤ len)
read_there none len h e = absurd_true e refl
read_there (some x) len h e = (h.0, h.1)

-- ---- the code, at a node that some words from a place on begin with
pub begins_at : (ws : List ℕ) (at : ℕ) {k : Node} → at < length ws → k ≡ node_of (get_or ws at 0) → Begins most_depth (drop at ws) k
begins_at ws at h e =
    let z : at + 0 ≡ at = omega arith in
    record {
      deep = λ i. absurd (omega arith);
      there = λ i. absurd (omega (arith, length-drop at ws));
      node = e ∙ ap (λ i. node_of (get_or ws i 0)) (sym z) ∙ ap node_of (sym (get_or-drop at ws 0 0));
    }

-- where a condition starts there are words
pub starts_inside : (ws : List ℕ) (at : ℕ) → Readable (drop at ws) → at < length ws
starts_inside ws at r =
    let m = read_there (read_condition most_depth (drop at ws)) (length (drop at ws)) (fits most_depth (drop at ws)) r in
    omega (arith, m.0, m.1, length-drop at ws)

module _ (ws : List ℕ) (at : ℕ) {d : ℕ} {k : Node} (h : Begins d (drop at ws) k) (r : is_read (read_condition d (drop at ws)) ≡ true) where
  -- what is read from a place on
  abbrev from : ℕ → Read Condition
  from i = read_condition d (drop i ws)

  pub never_wrong : k ≡ Wrong → ⊥
  unfolding read_node
  never_wrong e = absurd_true r (rw (begun h Wrong e))

  pub is_always : k ≡ Always → read_or always (from at) ≡ always
  unfolding read_node
  is_always e = rw (begun h Always e)

  pub is_true_fact : (b : Bindings) → k ≡ Always → record { truth = True; reads = 0 } ≡ evaluated b (read_or always (from at))
  unfolding evaluated
  is_true_fact b e = rw (is_always e)

  pub compared_room : k ≡ Compared → at + 3 ≤ length ws
  compared_room e =
      omega (arith, compared_there (read_condition (d - 1)) (drop at ws) h.there (rw (begun h Compared e) at r), length-drop at ws)

  pub is_compared : (b : Bindings) → k ≡ Compared → evaluated b (read_or always (from at)) ≡ comparison_read b (take (length ws - at) (drop at ws))
  is_compared b e =
      rw (begun h Compared e, rest_of)
      (compared_read b (read_condition (d - 1)) (drop at ws) (compared_there (read_condition (d - 1)) (drop at ws) h.there (rw (begun h Compared e) at r)))

  -- what is under "not"
  under : k ≡ Negated → (is_read (from (at + 1)) ≡ true) × (read_or always (from at) ≡ negated (read_or always (from (at + 1))))
  unfolding read_node
  under e =
      rw (begun h Negated e, ← drop-drop 1 at ws) (
      operand_under (read_condition (d - 1) (drop 1 (drop at ws))) (read_condition d (drop 1 (drop at ws))) (within d (drop 1 (drop at ws)))
      (rw (begun h Negated e) at r)
      )

  pub under_read : k ≡ Negated → is_read (from (at + 1)) ≡ true
  under_read e = (under e).0

  pub is_negated : (b : Bindings) → k ≡ Negated → {v : Evaluated} → v ≡ evaluated b (read_or always (from (at + 1)))
      → negated_read v ≡ evaluated b (read_or always (from at))
  unfolding evaluated
  is_negated b e ev = rw (ev, (under e).1)

  -- a pair's operands, the right one behind the words of the left one
  module _ (e : k ≡ Pair) {right : ℕ} (er : right ≡ at + 1 + words_read (from (at + 1))) where
    abbrev rest : List ℕ
    rest = drop 1 (drop at ws)

    operands : Two (get_or (drop at ws) 0 0) (read_condition d rest) (read_condition d (drop (words_read (read_condition d rest)) rest))
        (read_or always (from at))
    unfolding read_node
    operands =
        rw (begun h Pair e) (
        both_operands (get_or (drop at ws) 0 0) (λ m. read_condition (d - 1) (drop m rest)) (λ m. read_condition d (drop m rest)) (λ m. within d (drop m rest))
        (read_condition (d - 1) rest) (read_condition d rest) (within d rest) (rw (begun h Pair e) at r)
        )

    left_rest : rest ≡ drop (at + 1) ws
    left_rest = drop-drop 1 at ws

    right_rest : drop right ws ≡ drop (words_read (read_condition d rest)) rest
    right_rest =
        ap (λ i. drop i ws) er
        ∙ sym (drop-drop (words_read (from (at + 1))) (at + 1) ws)
        ∙ ap (λ l. drop (words_read (read_condition d l)) l) (sym left_rest)

    pub left_read : is_read (from (at + 1)) ≡ true
    left_read = ap (λ l. is_read (read_condition d l)) (sym left_rest) ∙ operands.0

    right_read : is_read (from right) ≡ true
    right_read = ap (λ l. is_read (read_condition d l)) right_rest ∙ operands.1

    is_pair : read_or always (from at) ≡ pair_of (get_or ws at 0) (read_or always (from (at + 1))) (read_or always (from right))
    is_pair =
        let z : at + 0 ≡ at = omega arith in
        let w = get_or (drop at ws) 0 0 in
        operands.2
        ∙ ap (λ l. pair_of w (read_or always (read_condition d l))
        (read_or always (read_condition d (drop (words_read (read_condition d rest)) rest)))) left_rest
        ∙ ap (λ l. pair_of w (read_or always (from (at + 1))) (read_or always (read_condition d l))) (sym right_rest)
        ∙ ap (λ a. pair_of a (read_or always (from (at + 1))) (read_or always (from right))) (get_or-drop at ws 0 0 ∙ ap (λ i. get_or ws i 0) z)

    pub right_inside : (at + 1 < right) × (right < length ws)
    right_inside =
        let m = read_there (from (at + 1)) (length (drop (at + 1) ws)) (fits d (drop (at + 1) ws)) left_read in
        let n = read_there (from right) (length (drop right ws)) (fits d (drop right ws)) right_read in
        (omega (arith, m.0, er), omega (arith, n.0, n.1, length-drop right ws))

    right_lone : is_lone (read_or always (from right)) ≡ eqb (kind (get_or ws right 0)) comparison_kind
    right_lone =
        let z : right + 0 ≡ right = omega arith in
        lone_kind d (drop right ws) right_read
        ∙ ap (λ a. eqb (kind a) comparison_kind) (get_or-drop right ws 0 0 ∙ ap (λ i. get_or ws i 0) z)

    -- the operand that is read first, and the one after it
    module _ {short : Bool} (es : short ≡ is_short (get_or ws at 0) (get_or ws right 0)) {first last : ℕ} (ef : first ≡ cond short right (at + 1))
        (el : last ≡ cond short (at + 1) right) where
      pub first_inside : (at < first) × (first < length ws) × (is_read (from first) ≡ true)
      first_inside = go short ef
        where
          go : (t : Bool) → first ≡ cond t right (at + 1) → (at < first) × (first < length ws) × (is_read (from first) ≡ true)
          go true q = (omega (arith, right_inside.0), omega (arith, right_inside.1), rw q right_read)
          go false q = (omega arith, omega (arith, right_inside.0, right_inside.1), rw q left_read)

      pub last_inside : (at < last) × (last < length ws) × (is_read (from last) ≡ true)
      last_inside = go short el
        where
          go : (t : Bool) → last ≡ cond t (at + 1) right → (at < last) × (last < length ws) × (is_read (from last) ≡ true)
          go true q = (omega arith, omega (arith, right_inside.0, right_inside.1), rw q left_read)
          go false q = (omega (arith, right_inside.0), omega (arith, right_inside.1), rw q right_read)

      module _ (b : Bindings) {early : Evaluated} (ee : early ≡ evaluated b (read_or always (from first))) where
        abbrev x : Condition
        x = read_or always (from (at + 1))

        abbrev y : Condition
        y = read_or always (from right)

        chosen : (t : Bool) (i j l : ℕ) → l ≡ cond t i j → read_or always (from l) ≡ cond t (read_or always (from i)) (read_or always (from j))
        chosen true i j l q = rw q
        chosen false i j l q = rw q

        pub settled : settles short early ≡ true → early ≡ evaluated b (read_or always (from at))
        settled s =
            rw is_pair (
            pair_settled b x y (eqb (kind (get_or ws at 0)) and_kind) (eqb (kind (get_or ws right 0)) comparison_kind) right_lone early
            (ee ∙ ap (evaluated b) (chosen short right (at + 1) first ef) ∙ rw es) (rw es at s)
            )

        pub joins : settles short early ≡ false → {late : Evaluated} → late ≡ evaluated b (read_or always (from last))
            → pair_read (joined_by (get_or ws at 0)) early late ≡ evaluated b (read_or always (from at))
        joins s {late} eg =
            rw is_pair (
            pair_joined b x y (eqb (kind (get_or ws at 0)) and_kind) (eqb (kind (get_or ws right 0)) comparison_kind) right_lone early
            (ee ∙ ap (evaluated b) (chosen short right (at + 1) first ef) ∙ rw es) (rw es at s) late
            (eg ∙ ap (evaluated b) (chosen short (at + 1) right last el) ∙ rw es)
            )
