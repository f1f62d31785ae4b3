-- A way over lists that test 12 passes is refused by 13 or 14 alone, for best-of lists and registers by 14 alone.
use Prim.Native.Nat.{ℕ}
use native.Mathlib.Omega.{arith}
use mathlib.Core.Path.{◌≡◌, refl, sym, ◌∙◌, ap, subst⁻¹}
use mathlib.Core.Logic.{◌⊎◌, inl, inr}
use mathlib.Core.Bool.{Bool, true, false, ◌&&◌, ◌||◌}
use mathlib.Core.Option.{Option, none, some}
use mathlib.Core.List.{List, [], ◌∷◌, ◌++◌}
use lib.Dec.{leb}
use lib.ListN.{length, take, length-append}
use lib.Seq.{take-append_seam}
use borrow.Author.Tests.{le-leb, ltb-true}
use Rattle.words.specs.declared.Written.{Written}
use Rattle.words.specs.declared.Written.TheVariants.{Words, Refused}
use Rattle.sequences.specs.Sequences.{all}
use Rattle.words.specs.Tests.{AllPass, first_failing}
use Rattle.sequences.proofs.Booleans.{absurd_true, and_left, and_right, and_both}
use Rattle.sequences.proofs.Elements.{all_get_d, all_at_lem}
use Rattle.words.proofs.Testing.{none_some, some_injective, all_passes, fails_first, first_append, or_else}
use Rattle.plans.specs.Endings.{Ending, top, group, registers}
use Rattle.plans.specs.Conditions.{next}
use Rattle.plans.specs.Plans.{plan_of, plan_tests}
use Rattle.plans.proofs.Bounds.{next_some}
use Rattle.lists.specs.Gathering.{is_rows, merged, list_right, kept_right, totals_fit}
use Rattle.lists.proofs.TopLists.{top_none}
use Rattle.lists.proofs.TopValid.{right_gathered, right_merged}
use Rattle.lists.proofs.GroupLists.{gathered_nil}
use Rattle.lists.proofs.GroupValid.{gathered_right, merged_right}
use Rattle.lists.proofs.RegisterLists.{right_kept}
use Rattle.lists.proofs.RegisterMerging.{merge_right}
use Rattle.merges.specs.Merging.{merged_words, merge_of, merge_tests, list_tests}
use Rattle.merges.proofs.Refusals.{merge_refusals}
use Rattle.merge_orders.specs.Ways.{Way, empty, turn, into, input_of, written_in, merged_by, given}
use Rattle.merge_orders.specs.Refused.{WayRefusedBy, among_kept, among_lists, merging, is_empty_way, from_turns, WaysRefused}
use Rattle.merge_orders.proofs.Served.{merged_given}

-- ---- one merge
-- of the last two tests one fails
one_of_two : (d e : Bool) (y : ℕ) → first_failing ((13, d) ∷ (14, e) ∷ []) ≡ some y → ((y ≡ 13) × (d ≡ false)) ⊎ (y ≡ 14)
unfolding first_failing
one_of_two true true y h = absurd (none_some h)
one_of_two true false y h = inr (sym (some_injective h))
one_of_two false e y h = inl (sym (some_injective h), refl)

module _ (plan : List ℕ) (accepted : AllPass (plan_tests plan)) where
  abbrev e : Ending
  e = (plan_of plan).ending

  merge_refused : (kept behind list : List ℕ) (y : ℕ) → (merge_of (input_of plan kept behind list)).answer ≡ Refused y
      → kept_right e kept ≡ true → list_right e list ≡ true → ((y ≡ 13) × (totals_fit e kept list ≡ false)) ⊎ (y ≡ 14)
  unfolding first_failing
  merge_refused kept behind list y r p q =
      let i = input_of plan kept behind list in
      let front = take-append_seam kept behind in
      let twelve : leb (length kept) (length (kept ++ behind)) && (kept_right e (take (length kept) (kept ++ behind)) && list_right e list) ≡ true =
      and_both (leb (length kept) (length (kept ++ behind))) _
      (le-leb (length kept) (length (kept ++ behind)) (omega (arith, length-append kept behind)))
      (and_both (kept_right e (take (length kept) (kept ++ behind))) (list_right e list) (ap (kept_right e) front ∙ p) q) in
      let f : first_failing (list_tests i) ≡ some y =
      ap (λ o. or_else o (first_failing (list_tests i))) (sym (all_passes (plan_tests plan) accepted))
      ∙ sym (first_append (plan_tests plan) (list_tests i)) ∙ fails_first y (merge_tests i) (((merge_refusals i).refused y).0 r) in
      elim (one_of_two (totals_fit e (take (length kept) (kept ++ behind)) list) (leb (length (merged_words i)) (length (kept ++ behind))) y (rw twelve at f)) [
        | inl g ↦ inl (g.0, ap (λ l. totals_fit e l list) (sym front) ∙ g.1)
        | inr g ↦ inr g
      ]

  -- ---- a way gives no list exactly where one of its merges is refused
  module _ (lists : List (List ℕ)) where
    none_given : (w : Way) → given plan lists w ≡ none → (x : ℕ) × WayRefusedBy plan lists x w
    unfolding given
    none_given empty h = absurd (none_some (sym h))
    none_given (turn i) h = absurd (none_some (sym h))
    none_given (into a behind b) h = go (given plan lists a) refl (given plan lists b) refl h (none_given a) (none_given b)
      where
        told : (kept list : List ℕ) → given plan lists a ≡ some kept → given plan lists b ≡ some list
            → (r : Written) → (merge_of (input_of plan kept behind list)).answer ≡ r
            → written_in (merge_of (input_of plan kept behind list)) r ≡ none → (x : ℕ) × WayRefusedBy plan lists x (into a behind b)
        told kept list p q (Words n) r z = absurd (none_some (sym z))
        told kept list p q (Refused x) r z = (x, merging kept list p q r)

        go : (o : Option (List ℕ)) → given plan lists a ≡ o → (u : Option (List ℕ)) → given plan lists b ≡ u
            → next o (λ kept. next u (λ list. merged_by plan kept behind list)) ≡ none
            → (given plan lists a ≡ none → (x : ℕ) × WayRefusedBy plan lists x a)
            → (given plan lists b ≡ none → (x : ℕ) × WayRefusedBy plan lists x b)
            → (x : ℕ) × WayRefusedBy plan lists x (into a behind b)
        go none p u q z f g = let r = f p in (r.0, among_kept r.1)
        go (some kept) p none q z f g = let r = g q in (r.0, among_lists r.1)
        go (some kept) p (some list) q z f g = told kept list p q (merge_of (input_of plan kept behind list)).answer refl z

    gives_none : (w : Way) (x : ℕ) → WayRefusedBy plan lists x w → given plan lists w ≡ none
    unfolding given
    gives_none empty x x3 = elim x3 [ ]
    gives_none (turn _) x x5 = elim x5 [ ]
    gives_none (into a behind b) x (among_kept r) = rw (gives_none a x r)
    gives_none (into a behind b) x (among_lists r) = go (given plan lists a) (gives_none b x r)
      where
        go : (o : Option (List ℕ)) → given plan lists b ≡ none
            → next o (λ kept. next (given plan lists b) (λ list. merged_by plan kept behind list)) ≡ none
        go none h = refl
        go (some kept) h = rw h
    gives_none (into a behind b) x (merging kept list p q r) = rw (p, q, r)

    -- ---- where the two lists of each merge pass test 12, by 13 or 14
    module _ (Over : Way → Type 0) (left : (a b : Way) (behind : List ℕ) → Over (into a behind b) → Over a)
        (right : (a b : Way) (behind : List ℕ) → Over (into a behind b) → Over b)
        (keeps : (a b : Way) (behind x : List ℕ) → Over (into a behind b) → given plan lists a ≡ some x → kept_right e x ≡ true)
        (lends : (a b : Way) (behind x : List ℕ) → Over (into a behind b) → given plan lists b ≡ some x → list_right e x ≡ true) where
      by_two : (w : Way) (x : ℕ) → Over w → WayRefusedBy plan lists x w
          → ((x ≡ 13) × ((kept : List ℕ) × ((list : List ℕ) × (totals_fit e kept list ≡ false)))) ⊎ (x ≡ 14)
      by_two empty x o x4 = elim x4 [ ]
      by_two (turn _) x o x6 = elim x6 [ ]
      by_two (into a behind b) x o (among_kept r) = by_two a x (left a b behind o) r
      by_two (into a behind b) x o (among_lists r) = by_two b x (right a b behind o) r
      by_two (into a behind b) x o (merging kept list p q r) =
          elim (merge_refused kept behind list x r (keeps a b behind kept o p) (lends a b behind list o q)) [
            | inl g ↦ inl (g.0, (kept, (list, g.1)))
            | inr g ↦ inr g
          ]

    -- ---- groups and best-of lists: an empty list passes too, so that each way does
    module _ (none_right : list_right e [] ≡ true) (same : (l : List ℕ) → kept_right e l ≡ list_right e l)
        (stays : (kept list : List ℕ) → list_right e kept ≡ true → list_right e list ≡ true → list_right e (merged e kept list) ≡ true)
        (each : all (list_right e) lists ≡ true) where
      any_right : (w : Way) (a : List ℕ) → given plan lists w ≡ some a → list_right e a ≡ true
      unfolding given
      any_right empty a h = ap (list_right e) (sym (some_injective h)) ∙ none_right
      any_right (turn i) a h = ap (list_right e) (sym (some_injective h)) ∙ all_get_d (list_right e) lists i [] each none_right
      any_right (into a behind b) c h =
          let p = next_some (given plan lists a) _ c h in
          let q = next_some (given plan lists b) _ c p.2 in
          ap (list_right e) (merged_given plan p.0 behind q.0 c q.2)
          ∙ stays p.0 q.0 (any_right a p.0 p.1) (any_right b q.0 q.1)

      any_by_two : (w : Way) (x : ℕ) → WayRefusedBy plan lists x w
          → ((x ≡ 13) × ((kept : List ℕ) × ((list : List ℕ) × (totals_fit e kept list ≡ false)))) ⊎ (x ≡ 14)
      any_by_two w x r =
          by_two (λ w. Unit {0}) (λ a b behind o. tt) (λ a b behind o. tt) (λ a b behind x o h. same x ∙ any_right a x h)
          (λ a b behind x o h. any_right b x h) w x tt r

    -- ---- registers: a way over turns' lists, since an empty list passes as the kept one alone
    module _ (v : ℕ) (ending : e ≡ registers v) (each : all (list_right e) lists ≡ true) where
      -- what is kept is empty, or passes as a turn's list does
      may_keep : (l : List ℕ) → list_right e l ≡ true → kept_right e l ≡ true
      unfolding list_right
      may_keep l h = ap (λ d. kept_right d l) ending ∙ right_kept l (sym (ap (λ d. list_right d l) ending) ∙ h)

      kept_of_lem : (a : Way) (x : List ℕ) → is_empty_way a || from_turns lists a ≡ true → given plan lists a ≡ some x
          → (from_turns lists a ≡ true → list_right e x ≡ true) → kept_right e x ≡ true
      unfolding given
      kept_of_lem empty x o h right = ap (kept_right e) (sym (some_injective h)) ∙ ap (λ d. kept_right d []) ending
      kept_of_lem (turn i) x o h right = may_keep x (right o)
      kept_of_lem (into a behind b) x o h right = may_keep x (right o)

      of_right : (w : Way) (a : List ℕ) → from_turns lists w ≡ true → given plan lists w ≡ some a → list_right e a ≡ true
      unfolding given from_turns
      of_right empty a o h = absurd_true refl (sym o)
      of_right (turn i) a o h =
          ap (list_right e) (sym (some_injective h)) ∙ all_at_lem (list_right e) lists i [] each (ltb-true i (length lists) o)
      of_right (into a behind b) c o h =
          let p = next_some (given plan lists a) _ c h in
          let q = next_some (given plan lists b) _ c p.2 in
          let k = kept_of_lem a p.0 (and_left (is_empty_way a || from_turns lists a) (from_turns lists b) o) p.1 (λ u. of_right a p.0 u p.1) in
          let l = of_right b q.0 (and_right (is_empty_way a || from_turns lists a) (from_turns lists b) o) q.1 in
          ap (list_right e) (merged_given plan p.0 behind q.0 c q.2)
          ∙ subst⁻¹ (λ d. list_right d (merged d p.0 q.0) ≡ true) ending
          (merge_right v p.0 q.0 (sym (ap (λ d. kept_right d p.0) ending) ∙ k) (sym (ap (λ d. list_right d q.0) ending) ∙ l))

      -- an empty way, or one over turns' lists
      abbrev Over : Way → Type 0
      Over w = is_empty_way w || from_turns lists w ≡ true

      over : (w : Way) → from_turns lists w ≡ true → Over w
      unfolding from_turns
      over empty o = refl
      over (turn i) o = o
      over (into a behind b) o = o

      registers_by_two : (w : Way) (x : ℕ) → from_turns lists w ≡ true → WayRefusedBy plan lists x w
          → ((x ≡ 13) × ((kept : List ℕ) × ((list : List ℕ) × (totals_fit e kept list ≡ false)))) ⊎ (x ≡ 14)
      unfolding from_turns
      registers_by_two w x o r =
          by_two Over (λ a b behind o. and_left (is_empty_way a || from_turns lists a) (from_turns lists b) o)
          (λ a b behind o. over b (and_right (is_empty_way a || from_turns lists a) (from_turns lists b) o))
          (λ a b behind x o h. kept_of_lem a x (and_left (is_empty_way a || from_turns lists a) (from_turns lists b) o) h (λ u. of_right a x u h))
          (λ a b behind x o h. of_right b x (and_right (is_empty_way a || from_turns lists a) (from_turns lists b) o) h) w x (over w o) r

-- ---- by ending
-- an empty list of groups or of best rows is as the list of no rows
no_records : (vs : List ℕ) (m : ℕ) → list_right (group vs m) [] ≡ true
no_records vs m = ap (list_right (group vs m)) (sym (gathered_nil vs m [])) ∙ gathered_right vs m [] [] tt

no_rows_fact : (k : ℕ) (vs keys : List ℕ) → list_right (top k vs keys) [] ≡ true
no_rows_fact k vs keys = ap (list_right (top k vs keys)) (sym (top_none k vs keys [])) ∙ right_gathered k vs keys [] [] tt

module _ (plan : List ℕ) (accepted : AllPass (plan_tests plan)) (lists : List (List ℕ)) where
  abbrev By : ℕ → Type 0
  By x = ((x ≡ 13) × ((kept : List ℕ) × ((list : List ℕ) × (totals_fit (plan_of plan).ending kept list ≡ false)))) ⊎ (x ≡ 14)

  -- where the totals always fit, by 14
  by_last_lem : (x : ℕ) → ((kept list : List ℕ) → totals_fit (plan_of plan).ending kept list ≡ true) → By x → x ≡ 14
  by_last_lem x f (inl g) = absurd_true (f g.1.0 g.1.1.0) g.1.1.1
  by_last_lem x f (inr g) = g

  first_two : (x : ℕ) → By x → (x ≡ 13) ⊎ (x ≡ 14)
  first_two x (inl g) = inl g.0
  first_two x (inr g) = inr g

  -- merging keeps lists right
  abbrev Stays : Ending → Type 0
  Stays d = (kept list : List ℕ) → list_right d kept ≡ true → list_right d list ≡ true → list_right d (merged d kept list) ≡ true

  -- an ending whose kept lists are tested as turns' lists are
  any_way : (d : Ending) → (plan_of plan).ending ≡ d → all (list_right (plan_of plan).ending) lists ≡ true → list_right d [] ≡ true
      → ((l : List ℕ) → kept_right d l ≡ list_right d l) → Stays d → (w : Way) (x : ℕ) → WayRefusedBy plan lists x w → By x
  any_way d ending each empties same stays =
      any_by_two plan accepted lists (ap (λ c. list_right c []) ending ∙ empties)
      (subst⁻¹ (λ c. (l : List ℕ) → kept_right c l ≡ list_right c l) ending same)
      (subst⁻¹ Stays ending stays) each

  -- where each of the lists passes test 12
  pub ways_refused : ((is_rows (plan_of plan).ending ≡ false) → all (list_right (plan_of plan).ending) lists ≡ true) → WaysRefused plan lists
  unfolding totals_fit
  ways_refused each =
      record {
        refused = λ w. (none_given plan accepted lists w, λ r. gives_none plan accepted lists w r.0 r.1);
        groups = λ vs m ending w x r.
            first_two x
            (any_way (group vs m) ending (each (ap is_rows ending)) (no_records vs m) (λ l. refl) (merged_right vs m) w x r);
        tops = λ k vs keys ending w x r.
            by_last_lem x (subst⁻¹ (λ d. (kept list : List ℕ) → totals_fit d kept list ≡ true) ending (λ kept list. refl))
            (any_way (top k vs keys) ending (each (ap is_rows ending)) (no_rows_fact k vs keys) (λ l. refl) (right_merged k vs keys) w x r);
        registers = λ v ending w o x r.
            by_last_lem x (subst⁻¹ (λ d. (kept list : List ℕ) → totals_fit d kept list ≡ true) ending (λ kept list. refl))
            (registers_by_two plan accepted lists v ending (each (ap is_rows ending)) w x o r);
      }
