-- A merge of best-of lists, groups or registers, where what is kept is the uncut run's and its totals fit, is refused only for the uncut run's
-- totals up to the end of the turn or for its list's room, by 13 or 14.
use Prim.Native.Nat.{ℕ}
use native.Mathlib.Omega.{arith}
use mathlib.Core.Path.{◌≡◌, refl, sym, ◌∙◌, ap, subst}
use mathlib.Core.Logic.{◌⊎◌, inl, inr}
use mathlib.Core.Bool.{Bool, true, false, cond, ◌&&◌}
use mathlib.Core.Option.{none, some}
use mathlib.Core.List.{List, [], ◌∷◌, ◌++◌}
use lib.Dec.{leb}
use lib.ListN.{length, take, length-append}
use lib.Seq.{take-append_seam}
use borrow.Author.Tests.{le-leb, leb-false}
use Rattle.words.specs.declared.Written.TheVariants.{Words, Refused}
use Rattle.words.specs.Words.{is_value}
use Rattle.words.specs.Bindings.{Bindings}
use Rattle.sequences.specs.Sequences.{all}
use Rattle.words.specs.Tests.{first_failing}
use Rattle.sequences.proofs.Booleans.{absurd_true, and_both}
use Rattle.words.proofs.Testing.{none_some, some_injective, fails_first}
use Rattle.tables.specs.Tables.{Tables}
use Rattle.plans.specs.Endings.{Ending, rows, top, group, registers}
use Rattle.plans.specs.Years.{year_allowed}
use Rattle.plans.specs.Plans.{Plan, plan_of, has_form, read_plan, variables_right}
use Rattle.steps.specs.Steps.{after}
use Rattle.lists.specs.Gathering.{gathered, merged, taken_into, kept_right, list_right, totals_fit, rows_fit}
use Rattle.sequences.proofs.EachMore.{each_right}
use Rattle.lists.proofs.Values.{AllValues}
use Rattle.lists.specs.Closing.{list_at}
use Rattle.lists.proofs.Gatherings.{Valid, valid_kept}
use Rattle.lists.proofs.OneRow.{none_right, none_totals}
use Rattle.lists.proofs.Closing.{at_valid, at_fit}
use Rattle.turns.specs.Surveys.{Survey}
use Rattle.turns.specs.Turns.{is_over}
use Rattle.calls.specs.Calls.{NotRefused}
use Rattle.merges.specs.Merging.{MergeInput, merge_tests, merged_words, merge_schema, merge_of}
use Rattle.merges.proofs.Refusals.{merge_passed, merge_refusals}
use Rattle.cuts.specs.Histories.{Phone, ServedTurn, merge_input_of}
use Rattle.cuts.specs.Uncut.{kept_after, run_fits, MergesLists, NotTaken, totals_pass, no_room}
use Rattle.cuts.specs.Accepting.{Accepted}
use Rattle.cuts.proofs.Accepting.{accepted_form, accepted_gathering, accepted_values}
use Rattle.cuts.proofs.Chains.{TurnStretch, Piece, kept_going, piece_adds}
use Rattle.cuts.proofs.Keeping.{Kept, next}

valid_right : (e : Ending) → MergesLists e → (list : List ℕ) → Valid e list → list_right e list ≡ true
valid_right (rows vs) m list v = absurd m
valid_right (top k vs keys) m list v = v
valid_right (group vs g) m list v = v
valid_right (registers x) m list v = v

-- and may be kept
valid_kept_right : (e : Ending) → MergesLists e → (list : List ℕ) → Valid e list → kept_right e list ≡ true
valid_kept_right (rows vs) m list v = absurd m
valid_kept_right (top k vs keys) m list v = v
valid_kept_right (group vs g) m list v = v
valid_kept_right (registers x) m list v = valid_kept (registers x) list v

-- where the other tests pass, 13 fails, or 14 and not 13
last_two : (a b z c d e : Bool) (y : ℕ) → a ≡ true → b ≡ true → z ≡ true → c ≡ true
    → cond a (cond b (cond z (cond c (cond d (cond e none (some 14)) (some 13)) (some 12)) (some 23)) (some 6)) (some 5) ≡ some y
    → ((y ≡ 13) × (d ≡ false)) ⊎ ((y ≡ 14) × (d ≡ true) × (e ≡ false))
last_two true true true true true true y p q o r h = absurd (none_some h)
last_two true true true true true false y p q o r h = inr (sym (some_injective h), refl, refl)
last_two true true true true false e y p q o r h = inl (sym (some_injective h), refl)
last_two true true true false d e y p q o r h = absurd_true r refl
last_two true true false c d e y p q o r h = absurd_true o refl
last_two true false z c d e y p q o r h = absurd_true q refl
last_two false b z c d e y p q o r h = absurd_true p refl

-- a list that test 12 passes is merged by taking it
pub merged_taken : (e : Ending) (kept list : List ℕ) → kept_right e kept ≡ true → merged e kept list ≡ taken_into e kept list
unfolding list_right
merged_taken (rows vs) kept list r = absurd_true refl (sym r)
merged_taken (top k vs keys) kept list r = refl
merged_taken (group vs m) kept list r = refl
merged_taken (registers x) kept list r = refl

-- the list of a turn that takes the run from a position to another passes test 12
pub piece_right : (v : Survey) (plan : List ℕ) → Accepted v.tables plan → MergesLists (plan_of plan).ending
    → (from to : ℕ) (x : ServedTurn) → TurnStretch v (plan_of plan) from to x → list_right (plan_of plan).ending x.list ≡ true
piece_right v plan a m from to x piece =
    let t = v.tables in
    let q = plan_of plan in
    ap (list_right q.ending) piece.list
    ∙ valid_right q.ending m _
    (at_valid q.ending (accepted_form t plan a).ending x.sent (is_over (after t q to).state) piece.rows
    (each_right (λ (b : Bindings). all is_value b ≡ true) (after t q from).delivered piece.rows
    (subst AllValues piece.more (accepted_values t plan a to))))

module _ (v : Survey) (plan : List ℕ) (a : Accepted v.tables plan) (h : Phone) (k : Kept v (plan_of plan) h) where
  abbrev t : Tables
  t = v.tables

  abbrev q : Plan
  q = plan_of plan

  module _ (m : MergesLists q.ending) (x : ServedTurn) (rest : List ServedTurn) (waits : h.waiting ≡ x ∷ rest) (behind : List ℕ) where
    abbrev i : MergeInput
    i = merge_input_of plan h behind x

    abbrev n : ℕ
    n = k.upto

    -- where that turn ends
    abbrev to : ℕ
    to = (next v q h k x rest waits).0

    piece : Piece v q n to x
    piece = (next v q h k x rest waits).1.0

    -- the run goes on where the turn began: what is kept is the list of its rows up to there, and no list yet is as the list of no rows
    kept_is : {A : Type 0} (f : List ℕ → A) → f [] ≡ f (gathered q.ending [] [])
        → f h.kept ≡ f (gathered q.ending [] (after t q n).delivered)
    kept_is f e = ap f k.list ∙ kept_going t q (accepted_form t plan a).ending f e n piece.stretch.going

    kept_right_lem : kept_right q.ending h.kept ≡ true
    kept_right_lem =
        kept_is (kept_right q.ending) (none_right q.ending)
        ∙ valid_kept_right q.ending m _ ((accepted_gathering t plan a).valid [] (after t q n).delivered (accepted_values t plan a n))

    -- the turn is at the run's end, or not
    abbrev over : Bool
    over = is_over (after t q to).state

    list_right_lem : list_right q.ending x.list ≡ true
    list_right_lem = piece_right v plan a m n to x piece.stretch

    -- the totals and the words of the result are the uncut run's up to the end of that turn
    totals_are : totals_fit q.ending h.kept x.list ≡ run_fits q.ending (after t q to)
    totals_are =
        ap (totals_fit q.ending h.kept) piece.stretch.list
        ∙ kept_is (λ l. totals_fit q.ending l (list_at q.ending x.sent over piece.stretch.rows)) (none_totals q.ending _)
        ∙ at_fit q.ending x.sent over (after t q n).delivered piece.stretch.rows k.fits piece.stretch.fits
        ∙ ap (rows_fit q.ending) (sym piece.stretch.more)

    words_are : merged q.ending h.kept x.list ≡ kept_after t q to
    words_are =
        merged_taken q.ending h.kept x.list kept_right_lem
        ∙ ap (λ l. taken_into q.ending l x.list) k.list
        ∙ piece_adds v q (accepted_form t plan a).ending n to x piece

    given_kept_lem : take i.given i.kept ≡ h.kept
    given_kept_lem = take-append_seam h.kept behind

    lists_right_lem : leb i.given (length i.kept) && (kept_right q.ending (take i.given i.kept) && list_right q.ending x.list) ≡ true
    lists_right_lem =
        and_both (leb i.given (length i.kept)) _
        (le-leb (length h.kept) (length (h.kept ++ behind)) (omega (arith, length-append h.kept behind)))
        (and_both (kept_right q.ending (take i.given i.kept)) (list_right q.ending x.list)
        (ap (kept_right q.ending) given_kept_lem ∙ kept_right_lem) list_right_lem)

    pub merge_refused : (y : ℕ) → (merge_of i).answer ≡ Refused y → NotTaken t q to (length (h.kept ++ behind)) y
    unfolding first_failing
    merge_refused y e =
        let fits : totals_fit q.ending (take i.given i.kept) x.list ≡ run_fits q.ending (after t q to) =
        ap (λ l. totals_fit q.ending l x.list) given_kept_lem ∙ totals_are in
        let long = ap length (ap (λ l. merged q.ending l x.list) given_kept_lem ∙ words_are) in
        elim (last_two (has_form (read_plan plan)) (variables_right q) (year_allowed q.years)
        (leb i.given (length i.kept) && (kept_right q.ending (take i.given i.kept) && list_right q.ending x.list))
        (totals_fit q.ending (take i.given i.kept) x.list) (leb (length (merged_words i)) (length i.kept)) y
        (ap has_form a.read) a.variables a.years lists_right_lem (fails_first y (merge_tests i) (((merge_refusals i).refused y).0 e))) [
          | inl g ↦ subst (NotTaken t q to (length (h.kept ++ behind))) (sym g.0) (totals_pass (sym fits ∙ g.1))
          | inr g ↦ subst (NotTaken t q to (length (h.kept ++ behind))) (sym g.0)
              (no_room (sym fits ∙ g.1) (omega (arith, long, leb-false (length (merged_words i)) (length i.kept) g.2)))
        ]

    -- and of one that is served the totals of the uncut run up to there fit
    pub merge_fits : (words : ℕ) → (merge_of i).answer ≡ Words words → run_fits q.ending (after t q to) ≡ true
    merge_fits words e =
        let serve : NotRefused merge_schema i = λ y f. let z : ◌≡◌ {A = ℕ} 0 1 = cc in omega arith in
        sym totals_are ∙ ap (λ l. totals_fit q.ending l x.list) (sym given_kept_lem) ∙ merge_passed i 13 serve
