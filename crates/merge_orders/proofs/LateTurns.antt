-- The lists of a history's served turns, merged in any order and grouping, make the uncut run's list.
use Prim.Native.Nat.{ℕ, ◌<◌}
use mathlib.Core.Path.{◌≡◌, refl, sym, ◌∙◌, ap, subst, subst⁻¹}
use mathlib.Core.Bool.{Bool, true, false}
use mathlib.Core.List.{List, [], ◌∷◌, map, foldl}
use lib.ListN.{length}
use Rattle.words.specs.Bindings.{Bindings}
use Rattle.sequences.specs.Sequences.{iterate, all}
use Rattle.sequences.proofs.Booleans.{absurd_true, and_both}
use Rattle.sequences.proofs.Each.{Each}
use Rattle.tables.specs.Tables.{Tables}
use Rattle.plans.specs.Endings.{Ending, rows, top, group, registers}
use Rattle.plans.specs.Plans.{Plan, plan_of, has_form}
use Rattle.plans.proofs.Bounds.{EndingForm}
use Rattle.steps.specs.Steps.{after}
use Rattle.registers.specs.Registers.{register_count}
use Rattle.lists.specs.Rows.{project, row_before}
use Rattle.lists.specs.Gathering.{is_rows, gathered, taken_into, list_right}
use Rattle.lists.specs.Closing.{list_at}
use Rattle.lists.specs.Thresholds.{merged_all}
use Rattle.lists.proofs.FullLists.{lists_of, rows_in}
use Rattle.lists.proofs.Closing.{top_at, registers_at}
use Rattle.lists.proofs.RegisterLists.{length_registers}
use Rattle.turns.specs.Surveys.{Survey}
use Rattle.turns.specs.Turns.{is_over}
use Rattle.turns.specs.Opening.{open_of, Opens}
use Rattle.cuts.specs.Histories.{Event, Phone, ServedTurn, served_in, history, fresh}
use Rattle.cuts.specs.Premises.{Premises, lists_in}
use Rattle.cuts.specs.Uncut.{EndsAt, MergesLists, kept_after}
use Rattle.cuts.specs.Accepting.{Accepted}
use Rattle.cuts.proofs.Accepting.{opening_accepts, accepted_form}
use Rattle.cuts.proofs.Chains.{Chain, piece_adds, kept_some, chain_placed, chain_steps, sent_rows, sent_lists, sent_rows_lem}
use Rattle.cuts.proofs.MergeRefusals.{piece_right}
use Rattle.cuts.proofs.Keeping.{Kept, end_later, whole}
use Rattle.cuts.proofs.AnyCut.{history_keeps, fresh_keeps}
use Rattle.cuts.proofs.Keeping.{is_none}
use Rattle.merge_orders.specs.Apart.{Apart}
use Rattle.merge_orders.specs.Ways.{Way, turns_along, is_merge, EachOnce}
use Rattle.merge_orders.proofs.ApartParts.{apart_lists}
use Rattle.merge_orders.proofs.ApartSome.{apart_merged}
use Rattle.merge_orders.proofs.AnyOrder.{any_order}
use Rattle.merge_orders.proofs.Refused.{ways_refused}
use Rattle.merge_orders.proofs.Once.{top_once, top_grouped, group_once, register_once}
use Rattle.merge_orders.specs.LateTurns.{GivesUncut, LateAsUncut}

-- the lists of a chain, taken in order, make what the run keeps
chain_taken : (v : Survey) (q : Plan) → EndingForm q.ending → (from end : ℕ) (xs : List ServedTurn) → Chain v q from xs end
    → foldl (taken_into q.ending) (kept_after v.tables q from) (lists_in xs) ≡ kept_after v.tables q end
chain_taken v q form from end [] c = ap (kept_after v.tables q) c
chain_taken v q form from end (x ∷ xs) c =
    ap (λ l. foldl (taken_into q.ending) l (lists_in xs)) (piece_adds v q form from c.0 x c.1.0)
    ∙ chain_taken v q form c.0 end xs c.1.1

-- each list of registers has them all
all_there : (v : Survey) (q : Plan) (u : ℕ) → q.ending ≡ registers u → (from end : ℕ) (xs : List ServedTurn) → Chain v q from xs end
    → Each (λ l. length l ≡ register_count) (lists_in xs)
all_there v q u e from end [] c = tt
all_there v q u e from end (x ∷ xs) c =
    let p = c.1.0.stretch in
    let d = is_over (after v.tables q c.0).state in (
      ap length (p.list ∙ ap (λ y. list_at y x.sent d p.rows) e ∙ registers_at u x.sent d p.rows)
          ∙ length_registers u x.sent p.rows,
      all_there v q u e c.0 end xs c.1.1,
    )

-- each list of a query whose lists are merged passes test 12
merges_lists : (e : Ending) → is_rows e ≡ false → MergesLists e
merges_lists (rows vs) h = absurd_true refl h
merges_lists (top k vs keys) h = tt
merges_lists (group vs m) h = tt
merges_lists (registers u) h = tt

all_right : (v : Survey) (plan : List ℕ) → Accepted v.tables plan → is_rows (plan_of plan).ending ≡ false
    → (from end : ℕ) (xs : List ServedTurn) → Chain v (plan_of plan) from xs end → all (list_right (plan_of plan).ending) (lists_in xs) ≡ true
unfolding all
all_right v plan a m from end [] c = refl
all_right v plan a m from end (x ∷ xs) c =
    and_both (list_right (plan_of plan).ending x.list) _
    (piece_right v plan a (merges_lists (plan_of plan).ending m) from c.0 x c.1.0.stretch) (all_right v plan a m c.0 end xs c.1.1)

module _ (v : Survey) (plan : List ℕ) (a : Accepted v.tables plan) (h : Phone) (k : Kept v (plan_of plan) h) where
  abbrev t : Tables
  t = v.tables

  abbrev q : Plan
  q = plan_of plan

  abbrev n : ℕ
  n = k.reached

  abbrev form : EndingForm q.ending
  form = (accepted_form t plan a).ending

  abbrev chain : Chain v q 0 (served_in h) n
  chain = whole v q h k

  all_taken : foldl (taken_into q.ending) [] (lists_in (served_in h)) ≡ kept_after t q n
  all_taken = chain_taken v q form 0 n (served_in h) chain

  top_taken : (j : ℕ) (vs keys : List ℕ) → q.ending ≡ top j vs keys → merged_all (top j vs keys) (lists_in (served_in h)) ≡ kept_after t q n
  top_taken j vs keys e = sym (ap (λ d. foldl (taken_into d) [] (lists_in (served_in h))) e) ∙ all_taken

  group_taken : (vs : List ℕ) (m : ℕ) → q.ending ≡ group vs m → merged_all (group vs m) (lists_in (served_in h)) ≡ kept_after t q n
  group_taken vs m e = sym (ap (λ d. foldl (taken_into d) [] (lists_in (served_in h))) e) ∙ all_taken

  registers_taken : (u : ℕ) → q.ending ≡ registers u → merged_all (registers u) (lists_in (served_in h)) ≡ kept_after t q n
  registers_taken u e = sym (ap (λ d. foldl (taken_into d) [] (lists_in (served_in h))) e) ∙ all_taken

  some_row_lem : (j : ℕ) (vs keys : List ℕ) → q.ending ≡ top j vs keys → 0 < length vs
  some_row_lem j vs keys e = (subst EndingForm e form).row.least

  -- where no two delivered rows are equal in all keys, no two of the lists' rows are
  lists_apart : (j : ℕ) (vs keys : List ℕ) → q.ending ≡ top j vs keys
      → Apart (row_before vs keys) (map (project vs) (after t q n).delivered) → Apart (row_before vs keys) (rows_in (length vs) (lists_in (served_in h)))
  unfolding after iterate
  lists_apart j vs keys e p =
      subst (λ l. Apart (row_before vs keys) (rows_in (length vs) l))
      (sym (ap (λ d. lists_of d turns) e) ∙ sent_lists v q same 0 n (served_in h) chain)
      (apart_lists j vs keys (some_row_lem j vs keys e) turns
      (subst (λ l. Apart (row_before vs keys) (map (project vs) l)) (sent_rows_lem v q 0 n (served_in h) chain) p))
    where
      turns : List (List ℕ × List Bindings)
      turns = sent_rows v q 0 n (served_in h) chain

      same : (th : List ℕ) (done : Bool) (bs : List Bindings) → list_at q.ending th done bs ≡ gathered q.ending th bs
      same th done bs = subst⁻¹ (λ x. list_at x th done bs ≡ gathered x th bs) e (top_at j vs keys th done bs)

  listed : (j : ℕ) (vs keys : List ℕ) → q.ending ≡ top j vs keys → Apart (row_before vs keys) (rows_in (length vs) (lists_in (served_in h)))
      → (w : Way) → is_merge w ≡ true → EachOnce (lists_in (served_in h)) w → GivesUncut v plan h n w
  listed j vs keys e d w i p b f =
      top_once plan (lists_in (served_in h)) j vs keys e (some_row_lem j vs keys e) d w i p b f ∙ top_taken j vs keys e

  pub late_as_uncut : LateAsUncut v plan h
  late_as_uncut =
      record {
        reached = n;
        placed = chain_placed v q 0 n (served_in h) chain;
        unsent = chain_steps v q n (served_in h) chain;
        groups = λ vs m e w i p b f. group_once plan (lists_in (served_in h)) vs m e w i p b f ∙ group_taken vs m e;
        registers = λ u e w i p b f.
            register_once plan (lists_in (served_in h)) u e (all_there v q u e 0 n (served_in h) chain) w i p b f ∙ registers_taken u e;
        tops = λ j vs keys e d. listed j vs keys e (lists_apart j vs keys e d);
        listed = listed;
        some_turns = λ j vs keys e d x y r o.
            (any_order plan (lists_in (served_in h))).tops j vs keys e x y r
            (apart_merged vs keys (lists_in (served_in h)) (turns_along x) o (lists_apart j vs keys e d));
        grouped = λ j vs keys e w i p b f.
            top_grouped plan (lists_in (served_in h)) j vs keys e (some_row_lem j vs keys e) w i p b f ∙ top_taken j vs keys e;
        finished = λ d.
            let end : EndsAt t q n = record { over = is_none (after t q n).state (sym k.done ∙ d); not_before = k.alive } in
            (end, kept_some t q form n (end_later t q n end));
        refusals = ways_refused plan (ap has_form a.read, (a.variables, (a.years, tt))) (lists_in (served_in h))
            (λ m. all_right v plan a m 0 n (served_in h) chain);
      }

-- For every opening that is served and every list of events, under the premise on thresholds: the served turns' lists may be merged in any
-- order and grouping.
pub late_turns : (v : Survey) (plan state : List ℕ) → Opens v plan state → (es : List Event)
    → Premises v plan (fresh (open_of v plan state)) es
    → LateAsUncut v plan (history v plan (fresh (open_of v plan state)) es)
late_turns v plan state o es p =
    let a = opening_accepts v plan state o in
    late_as_uncut v plan a (history v plan (fresh (open_of v plan state)) es)
    (history_keeps v plan a es (fresh (open_of v plan state)) (fresh_keeps v plan a state o) p)
