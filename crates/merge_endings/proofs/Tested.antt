-- A merge by its tests as the code makes them: those of the plan, both lists, the totals, the room.
use Prim.Native.Nat.{ℕ, ◌≤◌, ◌<◌}
use native.Mathlib.Omega.{arith}
use mathlib.Core.Path.{◌≡◌, refl, sym, ◌∙◌, ap}
use mathlib.Core.Bool.{Bool, true, false, cond, ◌&&◌, not}
use mathlib.Core.Option.{Option, none, some}
use mathlib.Core.List.{List, [], ◌∷◌}
use lib.Dec.{eqb, leb}
use lib.ListN.{length}
use borrow.Author.Tests.{eqb-true, le-leb, lt-leb, not-true, not-false}
use Rattle.words.specs.declared.Written.TheVariants.{Words, Refused}
use Rattle.sequences.specs.Sequences.{all, over}
use Rattle.words.specs.Tests.{first_failing}
use Rattle.words.proofs.Testing.{or_else, first_append}
use Rattle.sequences.proofs.Booleans.{and_left, and_right}
use Rattle.plans.specs.Endings.{Ending, rows, top, group, registers}
use Rattle.plans.specs.Plans.{plan_tests}
use Rattle.registers.specs.Registers.{register_count, registers_in, greater_of, is_rank, are_registers, kept_registers}
use Rattle.list_registers.proofs.Merged.{merged_sixteen}
use Rattle.std.specs.Prelude.{Result, Ok, Err}
use Rattle.list_group_merges.specs.declared.MergeFault.{MergeFault}
use Rattle.list_group_merges.specs.declared.MergeFault.TheVariants.{Overflow, NoRoom}
use Rattle.lists.specs.Gathering.{kept_right, list_right, totals_fit, merged}
use Rattle.list_group_merges.specs.MergingGroups as groups
use Rattle.lists.specs.Putting.{Listed}
use Rattle.calls.specs.Calls.{result_by_number, result_of_call}
use Rattle.calls.specs.Words.{WordsResult, written_over}
use Rattle.calls.proofs.Refusals.{by_number_lem}
use Rattle.merges.specs.Merging.{MergeInput, given_kept, given_ending, list_tests, merge_tests, merge_schema, merge_of}
use Rattle.merges.proofs.Refusals.{merge_is_right}
use Rattle.merge_lists.specs.Answering.{AcceptedPlan, both_right, written_of}

-- a test that the code makes: it goes on, or refuses
pub goes_on_fact : (b : Bool) {t : Bool} → t ≡ b → not t ≡ false → b ≡ true
goes_on_fact b {t} e n = sym e ∙ not-false t n

pub refuses : (b : Bool) {t : Bool} → t ≡ b → not t ≡ true → b ≡ false
refuses b {t} e n = sym e ∙ not-true t n

-- the tests of the plan come first
plan_first : (i : MergeInput) {o : Option ℕ} → first_failing (plan_tests i.plan) ≡ o
    → first_failing (merge_tests i) ≡ or_else o (first_failing (list_tests i))
plan_first i h = first_append (plan_tests i.plan) (list_tests i) ∙ ap (λ o. or_else o (first_failing (list_tests i))) h

-- ---- of a plan that is refused
abbrev refused : MergeInput → ℕ → WordsResult
refused i n = record { answer = Refused n; buffers = i.kept }

pub plan_refused : (i : MergeInput) (n : ℕ) → first_failing (plan_tests i.plan) ≡ some n → refused i n ≡ merge_of i
plan_refused i n h = sym (by_number_lem merge_schema merge_is_right i n (plan_first i h))

-- ---- of an accepted plan: tests 12 to 14, for its ending
abbrev by_totals : MergeInput → Ending → WordsResult
by_totals i e =
    cond (totals_fit e (given_kept i) i.list)
    (cond (leb (length (merged e (given_kept i) i.list)) (length i.kept))
    (written_over (merged e (given_kept i) i.list) i.kept)
    (refused i 14))
    (refused i 13)

abbrev by_ending : MergeInput → Ending → WordsResult
by_ending i e =
    cond (leb i.given (length i.kept) && both_right e (given_kept i) i.list) (by_totals i e) (refused i 12)

in_order_lem : (i : MergeInput) (a b c : Bool)
    → result_by_number merge_schema i (first_failing ((12, a) ∷ (13, b) ∷ (14, c) ∷ []))
    ≡ cond a (cond b (cond c (result_by_number merge_schema i none) (refused i 14)) (refused i 13)) (refused i 12)
unfolding first_failing
in_order_lem i true true true = refl
in_order_lem i true true false = refl
in_order_lem i true false c = refl
in_order_lem i false b c = refl

by_tests : (i : MergeInput) → first_failing (plan_tests i.plan) ≡ none → merge_of i ≡ by_ending i (given_ending i)
unfolding result_of_call
by_tests i h = ap (result_by_number merge_schema i) (plan_first i h) ∙ in_order_lem i _ _ _

-- 12, of each list
pub each_right : (e : Ending) (kept list : List ℕ) → both_right e kept list ≡ true → (kept_right e kept ≡ true) × (list_right e list ≡ true)
each_right e kept list h = (and_left (kept_right e kept) (list_right e list) h, and_right (kept_right e kept) (list_right e list) h)

-- two lists of registers, the kept one perhaps empty, have 16 merged
module _ (v : ℕ) (kept list : List ℕ) (h : both_right (registers v) kept list ≡ true) where
  pub kept_right_lem : kept_registers kept ≡ true
  kept_right_lem = (each_right (registers v) kept list h).0

  list_right_lem : are_registers list ≡ true
  unfolding list_right
  list_right_lem = (each_right (registers v) kept list h).1

  pub list_sixteen : length list ≡ register_count
  list_sixteen = eqb-true (length list) register_count (and_left (eqb (length list) register_count) (all is_rank list) list_right_lem)

  registers_both : length (greater_of (registers_in kept) list) ≡ register_count
  registers_both = merged_sixteen kept list kept_right_lem list_sixteen

-- what a merge of groups answers and leaves, by the totals and the room
groups_answer : (fit room : Bool) (n : ℕ) (after kept : List ℕ)
    → ◌≡◌ {A = WordsResult}
    (record {
      answer = written_of (cond fit (cond room (Ok n) (Err NoRoom)) (Err Overflow));
      buffers = cond fit (cond room after kept) kept;
    })
    (cond fit (cond room (record { answer = Words n; buffers = after }) (record { answer = Refused 14; buffers = kept }))
    (record { answer = Refused 13; buffers = kept }))
groups_answer true true n after kept = refl
groups_answer true false n after kept = refl
groups_answer false room n after kept = refl

module _ (i : MergeInput) where
  module _ {e : Ending} (a : AcceptedPlan i.plan e) where
    by_ending_lem : merge_of i ≡ by_ending i e
    by_ending_lem = by_tests i a.passes ∙ ap (by_ending i) a.ending

    -- 12
    pub given_long : length i.kept < i.given → refused i 12 ≡ merge_of i
    given_long h = sym (by_ending_lem ∙ rw (lt-leb i.given (length i.kept) h))

    module _ (fit : i.given ≤ length i.kept) where
      pub lists_wrong : both_right e (given_kept i) i.list ≡ false → refused i 12 ≡ merge_of i
      lists_wrong h = sym (by_ending_lem ∙ rw (le-leb i.given (length i.kept) fit, h))

      by_totals_lem : both_right e (given_kept i) i.list ≡ true → merge_of i ≡ by_totals i e
      by_totals_lem h = by_ending_lem ∙ rw (le-leb i.given (length i.kept) fit, h)

  -- no list is one of rows
  pub rows_wrong : {vs : List ℕ} → AcceptedPlan i.plan (rows vs) → i.given ≤ length i.kept → refused i 12 ≡ merge_of i
  unfolding list_right
  rows_wrong a fit = lists_wrong a fit refl

  -- best rows have no totals: 14, and then they are merged
  module _ {k : ℕ} {vs keys : List ℕ} (a : AcceptedPlan i.plan (top k vs keys)) (fit : i.given ≤ length i.kept)
      (right : both_right (top k vs keys) (given_kept i) i.list ≡ true) where
    abbrev best : List ℕ
    best = merged (top k vs keys) (given_kept i) i.list

    by_room : merge_of i ≡ cond (leb (length best) (length i.kept)) (written_over best i.kept) (refused i 14)
    unfolding totals_fit
    by_room = by_totals_lem a fit right

    pub top_no_room : leb (length best) (length i.kept) ≡ false → refused i 14 ≡ merge_of i
    top_no_room h = sym (by_room ∙ rw h)

    pub top_merged : leb (length best) (length i.kept) ≡ true → {after : List ℕ} {n : ℕ} → Listed best i.kept after n
        → record { answer = Words n; buffers = after } ≡ merge_of i
    top_merged h l = rw (l.0, l.1) (sym (by_room ∙ rw h))

  -- registers have no totals either: 14, and then they are merged
  module _ {v : ℕ} (a : AcceptedPlan i.plan (registers v)) (fit : i.given ≤ length i.kept)
      (right : both_right (registers v) (given_kept i) i.list ≡ true) where
    abbrev greatest : List ℕ
    greatest = greater_of (registers_in (given_kept i)) i.list

    greatest_length : length greatest ≡ register_count
    greatest_length = registers_both v (given_kept i) i.list right

    registers_room : merge_of i ≡ cond (leb (length greatest) (length i.kept)) (written_over greatest i.kept) (refused i 14)
    unfolding totals_fit merged
    registers_room = by_totals_lem a fit right

    pub registers_no_room : length i.kept < register_count → refused i 14 ≡ merge_of i
    registers_no_room h =
        sym (registers_room ∙ rw (lt-leb (length greatest) (length i.kept) (omega (arith, greatest_length))))

    pub registers_merged : register_count ≤ length i.kept → {after : List ℕ} {n : ℕ} → Listed greatest i.kept after n
        → record { answer = Words n; buffers = after } ≡ merge_of i
    registers_merged h l =
        rw (l.0, l.1) (sym (registers_room ∙ rw (le-leb (length greatest) (length i.kept) (omega (arith, greatest_length)))))

  -- groups: 13, 14, and then they are merged
  module _ {vs : List ℕ} {m : ℕ} (a : AcceptedPlan i.plan (group vs m)) (fit : i.given ≤ length i.kept)
      (right : both_right (group vs m) (given_kept i) i.list ≡ true) where
    abbrev fits : Bool
    fits = totals_fit (group vs m) (given_kept i) i.list

    abbrev added : List ℕ
    added = merged (group vs m) (given_kept i) i.list

    pub groups_merged : {after : List ℕ} {r : Result ℕ MergeFault} → r ≡ groups.groups_merged_as fits added i.kept
        → after ≡ groups.merged_over fits added i.kept
        → record { answer = written_of r; buffers = after } ≡ merge_of i
    groups_merged er ea =
        rw (er, ea)
        (groups_answer fits (leb (length added) (length i.kept)) (length added) (over added i.kept) i.kept
        ∙ sym (by_totals_lem a fit right))
