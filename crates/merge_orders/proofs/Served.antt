-- A merge that is served, of a way: what it gives, and what it asked of both lists.
use Prim.Native.Nat.{ℕ}
use native.Mathlib.Omega.{arith}
use mathlib.Core.Path.{◌≡◌, refl, sym, ◌∙◌, ap}
use mathlib.Core.Bool.{true}
use mathlib.Core.Option.{some}
use mathlib.Core.List.{List}
use lib.Dec.{leb}
use lib.ListN.{length, take}
use lib.Seq.{take-append_seam}
use Rattle.words.specs.declared.Written.{Written}
use Rattle.words.specs.declared.Written.TheVariants.{Words, Refused}
use Rattle.words.specs.Answers.{words_in}
use Rattle.sequences.proofs.Booleans.{and_left, and_right}
use Rattle.words.proofs.Testing.{none_some, some_injective}
use Rattle.plans.specs.Plans.{plan_of}
use Rattle.lists.specs.Gathering.{merged, list_right, kept_right, totals_fit}
use Rattle.calls.specs.Calls.{NotRefused}
use Rattle.merges.specs.Merging.{MergeInput, merge_schema, merge_of}
use Rattle.merges.proofs.Refusals.{merge_passed}
use Rattle.merges.proofs.Writes.{merge_writes}
use Rattle.merge_orders.specs.Ways.{input_of, written_in, merged_by}

-- what a served merge gives: the merged list
pub merged_given : (plan kept behind list a : List ℕ) → merged_by plan kept behind list ≡ some a → a ≡ merged (plan_of plan).ending kept list
merged_given plan kept behind list a e = go (merge_of i).answer refl e
  where
    i : MergeInput
    i = input_of plan kept behind list

    go : (w : Written) → (merge_of (input_of plan kept behind list)).answer ≡ w → written_in (merge_of (input_of plan kept behind list)) w ≡ some a
        → a ≡ merged (plan_of plan).ending kept list
    go (Refused x) f h = absurd (none_some h)
    go (Words n) f h =
        let j = input_of plan kept behind list in
        let serve : NotRefused merge_schema j = λ y g. let z : ◌≡◌ {A = ℕ} 0 1 = cc in omega arith in
        sym (some_injective h)
        ∙ ap (λ w. take (words_in w) (merge_of j).buffers) (sym f)
        ∙ (merge_writes j serve).buffer.front
        ∙ ap (λ l. merged (plan_of plan).ending l list) (take-append_seam kept behind)

-- both lists of a served merge pass test 12, and the totals test 13
pub served_passes : (plan kept behind list a : List ℕ) → merged_by plan kept behind list ≡ some a
    → (kept_right (plan_of plan).ending kept ≡ true) × (list_right (plan_of plan).ending list ≡ true)
    × (totals_fit (plan_of plan).ending kept list ≡ true)
served_passes plan kept behind list a e = go (merge_of (input_of plan kept behind list)).answer refl e
  where
    go : (w : Written) → (merge_of (input_of plan kept behind list)).answer ≡ w → written_in (merge_of (input_of plan kept behind list)) w ≡ some a
        → (kept_right (plan_of plan).ending kept ≡ true) × (list_right (plan_of plan).ending list ≡ true)
        × (totals_fit (plan_of plan).ending kept list ≡ true)
    go (Refused x) f h = absurd (none_some h)
    go (Words n) f h =
        let j = input_of plan kept behind list in
        let serve : NotRefused merge_schema j = λ y g. let z : ◌≡◌ {A = ℕ} 0 1 = cc in omega arith in
        let front = take-append_seam kept behind in
        let t = and_right (leb j.given (length j.kept)) _ (merge_passed j 12 serve) in (
          ap (kept_right (plan_of plan).ending) (sym front)
              ∙ and_left (kept_right (plan_of plan).ending (take j.given j.kept)) (list_right (plan_of plan).ending list) t,
          and_right (kept_right (plan_of plan).ending (take j.given j.kept)) (list_right (plan_of plan).ending list) t,
          ap (λ l. totals_fit (plan_of plan).ending l list) (sym front) ∙ merge_passed j 13 serve,
        )
