-- `put_fields` meets its contract: with what is left of the fields behind, the line is as it should be.
use Prim.Native.Nat.{◌+◌, ◌≤◌, ◌<◌}
use native.Mathlib.Omega.{arith}
use mathlib.Core.List.{[]}
use mathlib.Core.Path.{◌≡◌, refl, sym, ap, ◌∙◌}
use lib.ListN.{length, drop}
use Rattle.print_texts.proofs.Fields.{field_room, fields_end, field_next, field_placed}
use Rattle.print_texts.specs.Texts.{fields}
use Rattle.print_terms.specs.Fields.{field_as}
use Rattle.print_texts.specs.Placing.{placed}
use Rattle.print_texts.proofs.Placements.{placed_none}
use Rattle.print_terms.proofs.put_fields.Goals as goal

pub loop-word-init : goal.loop-word-init
loop-word-init c = (omega arith, refl, refl, refl)

pub put_field-next-requires : goal.put_field-next-requires
put_field-next-requires c =
    let a = c.args in
    let room = field_room (field_as a.shown) a.words.now c.loop-word.word-index (omega arith) in
    omega (arith, c.loop-word.invariant.1, c.loop-word.invariant.2, c.requires)

pub loop-word-preserved : goal.loop-word-preserved
loop-word-preserved c =
    let a = c.args in
    let i = c.loop-word.word-index in
    let inv = c.loop-word.invariant in
    let h : i < length a.words.now = omega arith in
    let room : c.loop-word.next + length (fields (field_as a.shown) (drop i a.words.now)) ≤ length c.loop-word.line = omega
    (arith, inv.1, inv.2, c.requires) in
    let x = c.put_field-next.ensures in (
      omega arith,
      omega arith,
      field_next (field_as a.shown) a.words.now i c.loop-word.next c.put_field-next.result c.loop-word.line c.put_field-next.new.line h room x ∙ inv.2,
      field_placed (field_as a.shown) a.words.now i c.loop-word.next c.put_field-next.result c.loop-word.line c.put_field-next.new.line h room x ∙ inv.3,
    )

pub shape_of-line : goal.shape_of-line
shape_of-line c = c.loop-word.invariant.1

pub returns : goal.returns
returns c =
    let a = c.args in
    let e : fields (field_as a.shown) (drop c.loop-word.word-index a.words.now)
    ≡ [] = fields_end (field_as a.shown) a.words.now c.loop-word.word-index (omega arith) in
    let n = ap length e in (
      omega (arith, c.loop-word.invariant.2),
      sym (placed_none c.loop-word.next c.loop-word.line)
          ∙ ap (λ t. placed t c.loop-word.next c.loop-word.line) (sym e)
          ∙ c.loop-word.invariant.3,
    )
