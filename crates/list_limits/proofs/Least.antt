-- The words that an output has at least, by the ending; and what is answered of a plan, by its tests.
use Prim.Native.Nat.{ℕ, ◌+◌, ◌*◌, ◌≤◌}
use native.Mathlib.Omega.{arith}
use native.Mathlib.Nat.{mul-le-mul}
use mathlib.Core.Path.{◌≡◌, refl, sym, ◌∙◌, ap}
use mathlib.Core.Bool.{Bool, true, false, cond}
use mathlib.Core.List.{List}
use lib.Dec.{eqb, leb}
use lib.ListN.{length, drop, get_or, length-take}
use borrow.Author.Tests.{leb-true}
use Rattle.words.specs.declared.Written.TheVariants.{Words, Refused}
use Rattle.words.specs.Words.{low_numbers, kind, low, rows_kind}
use Rattle.words.specs.Tests.{first_failing, number_of}
use Rattle.calls.specs.Calls.{result_of_call}
use Rattle.calls.proofs.Refusals.{by_number_lem, by_none}
use Rattle.plans.specs.declared.EndingKind.{EndingKind}
use Rattle.plans.specs.declared.EndingKind.TheVariants.{Rows, Top, Group, Registers, Invalid}
use Rattle.plans.specs.Endings.{Ending, most_row_variables, default_best, best_count, row_width, ending_kind_of, ending_as, ending_at}
use Rattle.plans.specs.Plans.{plan_of, plan_tests}
use Rattle.plans.specs.Reading.{ending_kind_in, variables_in, best_in}
use Rattle.registers.specs.Registers.{register_count}
use Rattle.lists.specs.Groups.{totals_width}
use Rattle.lists.specs.Gathering.{least_output}
use Rattle.list_limits.specs.PlanOutputs.{output_as, plan_output, output_schema}
use Rattle.plans.proofs.EndingRead.{is_rows_lem, is_top, is_group, is_registers}
use Rattle.plan_tests.proofs.Checked.{check_passes, check_refuses}
use Rattle.list_limits.proofs.Refusals.{output_is_right}

-- ---- the words that an output has at least
module _ (e : Ending) (vs : List ℕ) (ev : vs ≡ variables_in e) where
  pub least_rows_lem : ending_kind_in e ≡ Rows → length vs ≡ least_output e
  least_rows_lem h = rw (is_rows_lem e h, ev)

  pub least_top : ending_kind_in e ≡ Top → (k : ℕ) → k ≡ best_in e → k * length vs ≡ least_output e
  least_top h k ek = rw (is_top e h, ek, ev)

  pub least_group : ending_kind_in e ≡ Group → length vs + totals_width ≡ least_output e
  least_group h = rw (is_group e h, ev)

pub least_registers : (e : Ending) → ending_kind_in e ≡ Registers → register_count ≡ least_output e
least_registers e h = sym (ap least_output (is_registers e h))

-- at most 16 variables, and a k that a word holds, so the product is small
row_few : (w : ℕ) → row_width w ≤ most_row_variables
row_few w = go (eqb (kind w) rows_kind) (leb (low w) most_row_variables) refl
  where
    go : (a b : Bool) → leb (low w) most_row_variables ≡ b → cond a (cond b (low w) 0) 0 ≤ most_row_variables
    go false b e = omega arith
    go true false e = omega arith
    go true true e = leb-true (low w) most_row_variables e

best_few : (w : ℕ) → best_count (low w) ≤ low_numbers
best_few w = go (eqb (low w) 0)
  where
    go : (b : Bool) → cond b default_best (low w) ≤ low_numbers
    go true = omega arith
    go false = omega arith

top_small : (l : EndingKind) (ws : List ℕ) → ending_kind_in (ending_as l ws) ≡ Top
    → (best_in (ending_as l ws) ≤ low_numbers) × (length (variables_in (ending_as l ws)) ≤ most_row_variables)
unfolding ending_as
top_small Rows ws h = absurd (let z : ◌≡◌ {A = ℕ} 0 1 = cc in omega arith)
top_small Top ws h =
    let l = length-take (row_width (get_or (drop 1 ws) 0 0)) (drop 1 (drop 1 ws)) in
    (best_few (get_or ws 0 0), omega (arith, row_few (get_or (drop 1 ws) 0 0)))
top_small Group ws h = absurd (let z : ◌≡◌ {A = ℕ} 0 1 = cc in omega arith)
top_small Registers ws h = absurd (let z : ◌≡◌ {A = ℕ} 0 1 = cc in omega arith)
top_small Invalid ws h = absurd (let z : ◌≡◌ {A = ℕ} 0 1 = cc in omega arith)

pub top_fits : (ws vs : List ℕ) (k : ℕ) → vs ≡ variables_in (ending_at ws) → k ≡ best_in (ending_at ws) → ending_kind_in (ending_at ws) ≡ Top
    → k * length vs ≤ low_numbers * most_row_variables
top_fits ws vs k ev ek h =
    let s = top_small (ending_kind_of (get_or ws 0 0)) ws h in
    let a : k ≤ low_numbers = rw ek s.0 in
    let b : length vs ≤ most_row_variables = rw ev s.1 in
    mul-le-mul a b

-- ---- what is answered of a plan
module _ (plan : List ℕ) (n : ℕ) (e : n ≡ number_of (first_failing (plan_tests plan))) where
  pub output_refused : (n ≡ 0 → ⊥) → Refused n ≡ plan_output plan
  unfolding plan_output
  output_refused h = sym (ap (output_as plan) (check_refuses plan n e h))

  pub output_asked : n ≡ 0 → (w : ℕ) (x : Ending) → w ≡ least_output x → x ≡ (plan_of plan).ending → Words w ≡ plan_output plan
  unfolding plan_output
  output_asked z w x ew ex = rw (ew, ex) (sym (ap (output_as plan) (check_passes plan (sym e ∙ z))))

  -- the same as a call
  pub call_refused : (n ≡ 0 → ⊥) → record { answer = Refused n; buffers = tt } ≡ result_of_call output_schema plan
  call_refused h = sym (by_number_lem output_schema output_is_right plan n (check_refuses plan n e h))

  pub call_asked : n ≡ 0 → (w : ℕ) (x : Ending) → w ≡ least_output x → x ≡ (plan_of plan).ending
      → record { answer = Words w; buffers = tt } ≡ result_of_call output_schema plan
  call_asked z w x ew ex = rw (ew, ex) (sym (by_none output_schema output_is_right plan (check_passes plan (sym e ∙ z))))
