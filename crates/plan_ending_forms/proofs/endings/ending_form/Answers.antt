-- `ending_form` meets its contract: each arm is the form of what the first word begins.
use Prim.Native.Nat.{ℕ, ◌-◌}
use mathlib.Core.Path.{◌≡◌, sym, ap, ◌∙◌}
use native.Mathlib.Omega.{arith}
use mathlib.Core.List.{List}
use lib.ListN.{length, get_or, take, drop}
use borrow.Author.Tests.{eq-eqb, ne_eqb}
use Rattle.plans.specs.Endings.{ending_kind_of}
use Rattle.plans.proofs.EndingForms.{form_invalid, form_rows, form_top, form_group, form_registers, rows_room, rows_after, some_word}
use Rattle.plan_ending_forms.proofs.endings.ending_form.Goals as goal
use Rattle.plan_ending_forms.proofs.endings.ending_form.Goals.{After-ending_kind_of}

-- the kind is read: the ending's words, and that it is their first word's
abbrev words : After-ending_kind_of → List ℕ
words k = k.args.p.now

kind_is : (k : After-ending_kind_of) → k.ending_kind_of.result ≡ ending_kind_of (get_or (words k) 0 0)
kind_is k = k.ending_kind_of.ensures ∙ ap ending_kind_of k.first.ensures

pub returns-then-rows_form : goal.returns-then-rows_form
returns-then-rows_form c =
    let p = words (goal.at.returns-then-rows_form c).After-ending_kind_of in
    rw (
      form_rows p c.ending_kind_of.result (kind_is (goal.at.returns-then-rows_form c).After-ending_kind_of) c.in-Rows.is,
      ← c.rows_form.ensures,
      c.if-rows_form.true,
      ← c.row_width.ensures.0,
    )

pub slice_bounds-rest-count : goal.slice_bounds-rest-count
slice_bounds-rest-count c =
    let p = words (goal.at.slice_bounds-rest-count c).After-ending_kind_of in
    omega (
      arith,
      some_word p c.ending_kind_of.result (kind_is (goal.at.slice_bounds-rest-count c).After-ending_kind_of)
          (λ e. let z : ◌≡◌ {A = ℕ} 0 1 = cc c.in-Top.is in omega arith),
    )

pub slice_bounds-rest-start : goal.slice_bounds-rest-start
slice_bounds-rest-start c =
    let p = words (goal.at.slice_bounds-rest-start c).After-ending_kind_of in
    omega (
      arith,
      some_word p c.ending_kind_of.result (kind_is (goal.at.slice_bounds-rest-start c).After-ending_kind_of)
          (λ e. let z : ◌≡◌ {A = ℕ} 0 1 = cc c.in-Top.is in omega arith),
    )

pub slice_bounds-keys_form-count : goal.slice_bounds-keys_form-count
slice_bounds-keys_form-count c =
    let p = words (goal.at.slice_bounds-keys_form-count c).After-ending_kind_of in
    omega (
      arith,
      rows_room (take (length p - 1) (drop 1 p)) c.row_width-at.result c.row_width-at.ensures.0
          (sym c.rows_form-in-Top.ensures ∙ c.if-rows_form-2.true),
    )

pub slice_bounds-keys_form-start : goal.slice_bounds-keys_form-start
slice_bounds-keys_form-start c =
    let p = words (goal.at.slice_bounds-keys_form-start c).After-ending_kind_of in
    omega (
      arith,
      rows_room (take (length p - 1) (drop 1 p)) c.row_width-at.result c.row_width-at.ensures.0
          (sym c.rows_form-in-Top.ensures ∙ c.if-rows_form-2.true),
    )

pub returns-then-rows_form-2 : goal.returns-then-rows_form-2
returns-then-rows_form-2 c =
    let p = words (goal.at.returns-then-rows_form-2 c).After-ending_kind_of in
    rw (
      form_top p c.ending_kind_of.result (kind_is (goal.at.returns-then-rows_form-2 c).After-ending_kind_of) c.in-Top.is,
      ← c.rows_form-in-Top.ensures,
      c.if-rows_form-2.true,
      ← rows_after (take (length p - 1) (drop 1 p)) c.row_width-at.result c.row_width-at.ensures.0,
    ) c.keys_form.ensures

pub returns-then-p-wide : goal.returns-then-p-wide
returns-then-p-wide c =
    let p = words (goal.at.returns-then-p-wide c).After-ending_kind_of in
    rw (
      form_group p c.ending_kind_of.result (kind_is (goal.at.returns-then-p-wide c).After-ending_kind_of) c.in-Group.is,
      ← c.first-in-Group.ensures,
      ← c.low.ensures,
      ← c.wide.ensures,
      eq-eqb _ _ c.if-p-wide.true,
    ) c.all_variables.ensures

pub returns-then-p-eq-REGISTERS_WORDS : goal.returns-then-p-eq-REGISTERS_WORDS
returns-then-p-eq-REGISTERS_WORDS c =
    let p = words (goal.at.returns-then-p-eq-REGISTERS_WORDS c).After-ending_kind_of in
    rw (
      form_registers p c.ending_kind_of.result (kind_is (goal.at.returns-then-p-eq-REGISTERS_WORDS c).After-ending_kind_of) c.in-Registers.is,
      eq-eqb _ _ c.if-p-eq-REGISTERS_WORDS.true,
    ) c.all_variables-then-p-eq-REGISTERS_WORDS.ensures

pub returns-else-rows_form : goal.returns-else-rows_form
returns-else-rows_form c =
    let p = words (goal.at.returns-else-rows_form c).After-ending_kind_of in
    rw (
      form_rows p c.ending_kind_of.result (kind_is (goal.at.returns-else-rows_form c).After-ending_kind_of) c.in-Rows.is,
      ← c.rows_form.ensures,
      c.if-rows_form.false,
    )

pub returns-else-rows_form-2 : goal.returns-else-rows_form-2
returns-else-rows_form-2 c =
    let p = words (goal.at.returns-else-rows_form-2 c).After-ending_kind_of in
    rw (
      form_top p c.ending_kind_of.result (kind_is (goal.at.returns-else-rows_form-2 c).After-ending_kind_of) c.in-Top.is,
      ← c.rows_form-in-Top.ensures,
      c.if-rows_form-2.false,
    )

pub returns-else-p-wide : goal.returns-else-p-wide
returns-else-p-wide c =
    let p = words (goal.at.returns-else-p-wide c).After-ending_kind_of in
    rw (
      form_group p c.ending_kind_of.result (kind_is (goal.at.returns-else-p-wide c).After-ending_kind_of) c.in-Group.is,
      ← c.first-in-Group.ensures,
      ← c.low.ensures,
      ← c.wide.ensures,
      ne_eqb _ _ c.if-p-wide.false,
    )

pub returns-else-p-eq-REGISTERS_WORDS : goal.returns-else-p-eq-REGISTERS_WORDS
returns-else-p-eq-REGISTERS_WORDS c =
    let p = words (goal.at.returns-else-p-eq-REGISTERS_WORDS c).After-ending_kind_of in
    rw (
      form_registers p c.ending_kind_of.result (kind_is (goal.at.returns-else-p-eq-REGISTERS_WORDS c).After-ending_kind_of) c.in-Registers.is,
      ne_eqb _ _ c.if-p-eq-REGISTERS_WORDS.false,
    )

pub returns-in-Invalid : goal.returns-in-Invalid
returns-in-Invalid c = sym (form_invalid (words (goal.at.returns-in-Invalid c).After-ending_kind_of) c.ending_kind_of.result
    (kind_is (goal.at.returns-in-Invalid c).After-ending_kind_of) c.in-Invalid.is)
