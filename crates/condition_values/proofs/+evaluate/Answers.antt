-- `evaluate` meets its contract: the words get fewer with each call, and each way through is a law of Evaluating.
use Prim.Native.Nat.{ℕ, ◌+◌, ◌-◌, ◌<◌}
use native.Mathlib.Omega.{arith}
use mathlib.Core.Path.{◌≡◌, refl, sym, ◌∙◌, ap}
use mathlib.Core.List.{List}
use lib.ListN.{length, get_or, take, drop}
use Rattle.words.specs.Bindings.{Bindings}
use Rattle.sequences.proofs.Walking.{rest_of, rest_length}
use Rattle.plans.specs.declared.Node.{Node}
use Rattle.plans.specs.declared.Node.TheVariants.{Pair}
use Rattle.plans.specs.Conditions.{node_of, read_condition, most_depth}
use Rattle.plans.specs.Reading.{words_read}
use Rattle.conditions.proofs.Reading.{Begins}
use Rattle.conditions.specs.declared.Evaluated.{Evaluated}
use Rattle.conditions.specs.Evaluated.{evaluated}
use Rattle.conditions.specs.Values.{Readable, condition_in, comparison_read, lefts_of, Few}
use Rattle.conditions.proofs.Places.{lefts_length, lefts_part, left_here}
use Rattle.conditions.proofs.Evaluating.{
  begins_at,
  starts_inside,
  few_from,
  never_wrong,
  is_true_fact,
  compared_room,
  is_compared,
  under_read,
  is_negated,
  left_read,
  right_inside,
  first_inside,
  last_inside,
  settled,
  joins,
}
use Rattle.condition_values.proofs.+evaluate.Goals as goal

-- a part to the end, as it is lent: its value
part_value : (b : Bindings) (ws : List ℕ) (i : ℕ) {v : Evaluated} → v ≡ evaluated b (condition_in (take (length ws - i) (drop i ws)))
    → v ≡ evaluated b (condition_in (drop i ws))
part_value b ws i e = e ∙ ap (λ (l : List ℕ). evaluated b (condition_in l)) (rest_of ws i)

-- the number of a value's reads fits, as no slice has as many words
few : (b : Bindings) (ws : List ℕ) (i : ℕ) {v : Evaluated} → v ≡ evaluated b (condition_in (take (length ws - i) (drop i ws)))
    → length ws < 0x2000_0000_0000_0000 → Few v
few b ws i e h = few_from b i ws (part_value b ws i e) h

-- the words `p` may be evaluated, with their left operands' words in `lefts`
module _ (p lefts : List ℕ) (r : Readable p) (e : lefts ≡ lefts_of p) where
  inside : 0 < length p
  inside = starts_inside p 0 r

  both_inside : 0 < length lefts
  both_inside = omega (arith, inside, lefts_length p e)

  here : {k : Node} → k ≡ node_of (get_or p 0 0) → Begins most_depth p k
  here n = begins_at p 0 inside n

  -- a part to the end, as it is lent, is shorter and may be evaluated
  operand : (t : ℕ) → length p ≡ t → (i : ℕ) → 0 < i → let part = take (length p - i) (drop i p) in
      Readable (drop i p) → (length part < t) × (Readable part × (take (length lefts - i) (drop i lefts) ≡ lefts_of part))
  operand t m i h q = (omega (arith, m, inside, rest_length p i), (rw rest_of q, lefts_part p lefts i e))

  -- it is a pair, and where its right operand stands is known
  module _ (b : Begins most_depth p Pair) {n : ℕ} (w : n ≡ get_or lefts 0 0) where
    right_is : 1 + n ≡ 1 + words_read (read_condition most_depth (drop 1 p))
    right_is = ap (λ m. 1 + m) (w ∙ left_here p 0 b e)

    right_fits : 1 + n < length p
    right_fits = (right_inside p 0 b r refl right_is).1

    right_room : 1 + n < length lefts
    right_room = omega (arith, right_fits, lefts_length p e)

    left_operand : Readable (drop 1 p)
    left_operand = left_read p 0 b r refl right_is

pub bounds-p-0 : goal.bounds-p-0
bounds-p-0 t c = inside c.args.p.now c.args.lefts.now c.requires.readable c.requires.lefts_value

pub compared-requires : goal.compared-requires
compared-requires t c =
    let p = c.args.p.now in
    let n = here p c.args.lefts.now c.requires.readable c.requires.lefts_value c.node_of.ensures in
    omega (arith, compared_room p 0 n c.requires.readable c.in-Compared.is)

pub slice_bounds-evaluate-count : goal.slice_bounds-evaluate-count
slice_bounds-evaluate-count t c = omega (arith, inside c.args.p.now c.args.lefts.now c.requires.readable c.requires.lefts_value)

pub slice_bounds-evaluate-start : goal.slice_bounds-evaluate-start
slice_bounds-evaluate-start t c = omega (arith, inside c.args.p.now c.args.lefts.now c.requires.readable c.requires.lefts_value)

pub slice_bounds-evaluate-count-in-Negated : goal.slice_bounds-evaluate-count-in-Negated
slice_bounds-evaluate-count-in-Negated t c = omega (arith, both_inside c.args.p.now c.args.lefts.now c.requires.readable c.requires.lefts_value)

pub slice_bounds-evaluate-start-in-Negated : goal.slice_bounds-evaluate-start-in-Negated
slice_bounds-evaluate-start-in-Negated t c = omega (arith, both_inside c.args.p.now c.args.lefts.now c.requires.readable c.requires.lefts_value)

pub evaluate-requires : goal.evaluate-requires
evaluate-requires t c =
    let p = c.args.p.now in
    let r = c.requires.readable in
    let n = here p c.args.lefts.now r c.requires.lefts_value c.node_of.ensures in
    operand p c.args.lefts.now r c.requires.lefts_value t c.decreases 1 (omega arith) (under_read p 0 n r c.in-Negated.is)

pub bounds-lefts-0 : goal.bounds-lefts-0
bounds-lefts-0 t c = omega (arith, both_inside c.args.p.now c.args.lefts.now c.requires.readable c.requires.lefts_value)

pub bounds-p-right : goal.bounds-p-right
bounds-p-right t c =
    let p = c.args.p.now in
    let ls = c.args.lefts.now in
    let r = c.requires.readable in
    let e = c.requires.lefts_value in
    let h = here p ls r e (sym c.in-Pair.is ∙ c.node_of.ensures) in
    omega (arith, right_fits p ls r e h c.wide-right.ensures)

pub slice_bounds-evaluate-count-then-is_short-2 : goal.slice_bounds-evaluate-count-then-is_short-2
slice_bounds-evaluate-count-then-is_short-2 t c =
    let p = c.args.p.now in
    let ls = c.args.lefts.now in
    let r = c.requires.readable in
    let e = c.requires.lefts_value in
    let h = here p ls r e (sym c.in-Pair.is ∙ c.node_of.ensures) in
    omega (arith, right_room p ls r e h c.wide-right.ensures)

pub slice_bounds-evaluate-start-then-is_short-2 : goal.slice_bounds-evaluate-start-then-is_short-2
slice_bounds-evaluate-start-then-is_short-2 t c =
    let p = c.args.p.now in
    let ls = c.args.lefts.now in
    let r = c.requires.readable in
    let e = c.requires.lefts_value in
    let h = here p ls r e (sym c.in-Pair.is ∙ c.node_of.ensures) in
    omega (arith, right_room p ls r e h c.wide-right.ensures)

pub evaluate-lone-requires : goal.evaluate-lone-requires
evaluate-lone-requires t c =
    let p = c.args.p.now in
    let ls = c.args.lefts.now in
    let r = c.requires.readable in
    let e = c.requires.lefts_value in
    let h = here p ls r e (sym c.in-Pair.is ∙ c.node_of.ensures) in
    operand p ls r e t c.decreases (1 + c.wide-right.result) (omega arith)
    (first_inside p 0 h r refl (right_is p ls r e h c.wide-right.ensures) (sym c.if-is_short.true ∙ c.is_short.ensures) refl refl).2

pub returns-then-is_false : goal.returns-then-is_false
returns-then-is_false t c =
    let p = c.args.p.now in
    let ls = c.args.lefts.now in
    let r = c.requires.readable in
    let e = c.requires.lefts_value in
    let h = here p ls r e (sym c.in-Pair.is ∙ c.node_of.ensures) in
    let b = c.args.bound.now in
    settled p 0 h r refl (right_is p ls r e h c.wide-right.ensures) (sym c.if-is_short.true ∙ c.is_short.ensures) refl refl b
    (part_value b p (1 + c.wide-right.result) c.evaluate-lone.ensures) (sym c.is_false.ensures ∙ c.if-is_false.true)

pub slice_bounds-evaluate-count-then-is_short-4 : goal.slice_bounds-evaluate-count-then-is_short-4
slice_bounds-evaluate-count-then-is_short-4 t c = omega (arith, both_inside c.args.p.now c.args.lefts.now c.requires.readable c.requires.lefts_value)

pub slice_bounds-evaluate-start-then-is_short-4 : goal.slice_bounds-evaluate-start-then-is_short-4
slice_bounds-evaluate-start-then-is_short-4 t c = omega (arith, both_inside c.args.p.now c.args.lefts.now c.requires.readable c.requires.lefts_value)

pub evaluate-requires-then-is_short : goal.evaluate-requires-then-is_short
evaluate-requires-then-is_short t c =
    let p = c.args.p.now in
    let ls = c.args.lefts.now in
    let r = c.requires.readable in
    let e = c.requires.lefts_value in
    let h = here p ls r e (sym c.in-Pair.is ∙ c.node_of.ensures) in
    operand p ls r e t c.decreases 1 (omega arith) (left_operand p ls r e h c.wide-right.ensures)

pub joined-requires : goal.joined-requires
joined-requires t c =
    let p = c.args.p.now in
    let b = c.args.bound.now in
    let bounded : length p < 0x2000_0000_0000_0000 = omega arith in
    (few b p (1 + c.wide-right.result) c.evaluate-lone.ensures bounded, few b p 1 c.evaluate-then-is_short.ensures bounded)

pub returns-then-is_short : goal.returns-then-is_short
returns-then-is_short t c =
    let p = c.args.p.now in
    let ls = c.args.lefts.now in
    let r = c.requires.readable in
    let e = c.requires.lefts_value in
    let h = here p ls r e (sym c.in-Pair.is ∙ c.node_of.ensures) in
    let b = c.args.bound.now in
    c.joined.ensures
    ∙ joins p 0 h r refl (right_is p ls r e h c.wide-right.ensures) (sym c.if-is_short.true ∙ c.is_short.ensures) refl refl b
    (part_value b p (1 + c.wide-right.result) c.evaluate-lone.ensures)
    (sym c.is_false.ensures ∙ c.if-is_false.false) (part_value b p 1 c.evaluate-then-is_short.ensures)

pub slice_bounds-evaluate-count-in-Pair : goal.slice_bounds-evaluate-count-in-Pair
slice_bounds-evaluate-count-in-Pair t c = omega (arith, inside c.args.p.now c.args.lefts.now c.requires.readable c.requires.lefts_value)

pub slice_bounds-evaluate-start-in-Pair : goal.slice_bounds-evaluate-start-in-Pair
slice_bounds-evaluate-start-in-Pair t c = omega (arith, inside c.args.p.now c.args.lefts.now c.requires.readable c.requires.lefts_value)

pub slice_bounds-evaluate-count-in-Pair-2 : goal.slice_bounds-evaluate-count-in-Pair-2
slice_bounds-evaluate-count-in-Pair-2 t c = omega (arith, both_inside c.args.p.now c.args.lefts.now c.requires.readable c.requires.lefts_value)

pub slice_bounds-evaluate-start-in-Pair-2 : goal.slice_bounds-evaluate-start-in-Pair-2
slice_bounds-evaluate-start-in-Pair-2 t c = omega (arith, both_inside c.args.p.now c.args.lefts.now c.requires.readable c.requires.lefts_value)

pub evaluate-first-requires : goal.evaluate-first-requires
evaluate-first-requires t c =
    let p = c.args.p.now in
    let ls = c.args.lefts.now in
    let r = c.requires.readable in
    let e = c.requires.lefts_value in
    let h = here p ls r e (sym c.in-Pair.is ∙ c.node_of.ensures) in
    operand p ls r e t c.decreases 1 (omega arith) (left_operand p ls r e h c.wide-right.ensures)

pub slice_bounds-evaluate-count-in-Pair-3 : goal.slice_bounds-evaluate-count-in-Pair-3
slice_bounds-evaluate-count-in-Pair-3 t c =
    let p = c.args.p.now in
    let ls = c.args.lefts.now in
    let r = c.requires.readable in
    let e = c.requires.lefts_value in
    let h = here p ls r e (sym c.in-Pair.is ∙ c.node_of.ensures) in
    omega (arith, right_fits p ls r e h c.wide-right.ensures)

pub slice_bounds-evaluate-start-in-Pair-3 : goal.slice_bounds-evaluate-start-in-Pair-3
slice_bounds-evaluate-start-in-Pair-3 t c =
    let p = c.args.p.now in
    let ls = c.args.lefts.now in
    let r = c.requires.readable in
    let e = c.requires.lefts_value in
    let h = here p ls r e (sym c.in-Pair.is ∙ c.node_of.ensures) in
    omega (arith, right_fits p ls r e h c.wide-right.ensures)

pub slice_bounds-evaluate-count-in-Pair-4 : goal.slice_bounds-evaluate-count-in-Pair-4
slice_bounds-evaluate-count-in-Pair-4 t c =
    let p = c.args.p.now in
    let ls = c.args.lefts.now in
    let r = c.requires.readable in
    let e = c.requires.lefts_value in
    let h = here p ls r e (sym c.in-Pair.is ∙ c.node_of.ensures) in
    omega (arith, right_room p ls r e h c.wide-right.ensures)

pub slice_bounds-evaluate-start-in-Pair-4 : goal.slice_bounds-evaluate-start-in-Pair-4
slice_bounds-evaluate-start-in-Pair-4 t c =
    let p = c.args.p.now in
    let ls = c.args.lefts.now in
    let r = c.requires.readable in
    let e = c.requires.lefts_value in
    let h = here p ls r e (sym c.in-Pair.is ∙ c.node_of.ensures) in
    omega (arith, right_room p ls r e h c.wide-right.ensures)

pub evaluate-requires-in-Pair : goal.evaluate-requires-in-Pair
evaluate-requires-in-Pair t c =
    let p = c.args.p.now in
    let ls = c.args.lefts.now in
    let r = c.requires.readable in
    let e = c.requires.lefts_value in
    let h = here p ls r e (sym c.in-Pair.is ∙ c.node_of.ensures) in
    operand p ls r e t c.decreases (1 + c.wide-right.result) (omega arith)
    (last_inside p 0 h r refl (right_is p ls r e h c.wide-right.ensures) (sym c.if-is_short.false ∙ c.is_short.ensures) refl refl).2

pub joined-requires-in-Pair : goal.joined-requires-in-Pair
joined-requires-in-Pair t c =
    let p = c.args.p.now in
    let b = c.args.bound.now in
    let bounded : length p < 0x2000_0000_0000_0000 = omega arith in
    (few b p 1 c.evaluate-first.ensures bounded, few b p (1 + c.wide-right.result) c.evaluate-in-Pair.ensures bounded)

pub returns-in-Wrong : goal.returns-in-Wrong
returns-in-Wrong t c =
    let p = c.args.p.now in
    let r = c.requires.readable in
    let n = here p c.args.lefts.now r c.requires.lefts_value c.node_of.ensures in
    absurd (never_wrong p 0 n r c.in-Wrong.is)

pub returns-in-Always : goal.returns-in-Always
returns-in-Always t c =
    let p = c.args.p.now in
    let r = c.requires.readable in
    let n = here p c.args.lefts.now r c.requires.lefts_value c.node_of.ensures in
    is_true_fact p 0 n r c.args.bound.now c.in-Always.is

pub returns-in-Compared : goal.returns-in-Compared
returns-in-Compared t c =
    let p = c.args.p.now in
    let r = c.requires.readable in
    let n = here p c.args.lefts.now r c.requires.lefts_value c.node_of.ensures in
    let b = c.args.bound.now in
    c.compared.ensures ∙ ap (comparison_read b) (sym (rest_of p 0)) ∙ sym (is_compared p 0 n r b c.in-Compared.is)

pub returns-in-Negated : goal.returns-in-Negated
returns-in-Negated t c =
    let p = c.args.p.now in
    let r = c.requires.readable in
    let n = here p c.args.lefts.now r c.requires.lefts_value c.node_of.ensures in
    let b = c.args.bound.now in
    c.negated.ensures ∙ is_negated p 0 n r b c.in-Negated.is (part_value b p 1 c.evaluate.ensures)

pub returns-else-is_short : goal.returns-else-is_short
returns-else-is_short t c =
    let p = c.args.p.now in
    let ls = c.args.lefts.now in
    let r = c.requires.readable in
    let e = c.requires.lefts_value in
    let h = here p ls r e (sym c.in-Pair.is ∙ c.node_of.ensures) in
    let b = c.args.bound.now in
    c.joined-in-Pair.ensures
    ∙ joins p 0 h r refl (right_is p ls r e h c.wide-right.ensures) (sym c.if-is_short.false ∙ c.is_short.ensures) refl refl b
    (part_value b p 1 c.evaluate-first.ensures) refl (part_value b p (1 + c.wide-right.result) c.evaluate-in-Pair.ensures)
