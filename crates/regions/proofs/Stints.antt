-- Lists of some turns of any runs, one taken behind the other: they make the list of all their rows, closed where one of them was.
use Prim.Native.Nat.{ℕ}
use mathlib.Core.Path.{◌≡◌, refl, sym, ◌∙◌, ap, ap₂, subst}
use mathlib.Core.Bool.{Bool, true, false, ◌||◌}
use mathlib.Core.List.{List, [], ◌∷◌, ◌++◌, map, map-append, flatten, foldl, append_assoc, append-nil}
use Rattle.words.specs.Bindings.{Bindings}
use Rattle.plans.specs.Endings.{Ending, rows, top, group, registers}
use Rattle.plans.proofs.Bounds.{EndingForm}
use Rattle.lists.specs.Gathering.{gathered, taken_into}
use Rattle.lists.specs.Closing.{list_at}
use Rattle.lists.specs.Thresholds.{Sent}
use Rattle.lists.proofs.TopLists.{Fine}
use Rattle.lists.proofs.FullLists.{lists_of, delivered_by, sent_fine}
use Rattle.lists.proofs.Gatherings.{some_width}
use Rattle.lists.proofs.OneRow.{none_taken}
use Rattle.lists.proofs.Closing.{top_at}
use Rattle.regions.proofs.ClosedLists.{both_add}

-- the threshold that a turn was sent, whether it ended its run, and the run's rows that it came by
pub record Stint : Type 0 where
  pub sent : List ℕ
  pub ended : Bool
  pub came : List Bindings

abbrev pub stint_list : Ending → Stint → List ℕ
stint_list e s = list_at e s.sent s.ended s.came

abbrev pub stint_lists : Ending → List Stint → List (List ℕ)
stint_lists e ss = map (stint_list e) ss

unfoldable pub all_came : List Stint → List Bindings
all_came [] = []
all_came (s ∷ ss) = s.came ++ all_came ss

unfoldable pub some_ended : List Stint → Bool
some_ended [] = false
some_ended (s ∷ ss) = s.ended || some_ended ss

-- each was sent a threshold of a full list out of the lists before, and out of others
abbrev pub AllSent : Ending → List (List ℕ) → List Stint → Type 0
AllSent e before [] = Unit {0}
AllSent e before (s ∷ ss) = Sent e before s.sent × AllSent e (before ++ (stint_list e s ∷ [])) ss

pub came_append : (ss us : List Stint) → all_came (ss ++ us) ≡ all_came ss ++ all_came us
unfolding all_came
came_append [] us = refl
came_append (s ∷ ss) us = ap (λ l. s.came ++ l) (came_append ss us) ∙ sym (append_assoc s.came (all_came ss) (all_came us))

or_assoc : (a b c : Bool) → (a || b) || c ≡ a || (b || c)
or_assoc true b c = refl
or_assoc false b c = refl

or_none : (a : Bool) → a || false ≡ a
or_none true = refl
or_none false = refl

pub ended_append : (ss us : List Stint) → some_ended (ss ++ us) ≡ some_ended ss || some_ended us
unfolding some_ended
ended_append [] us = refl
ended_append (s ∷ ss) us = ap (λ b. s.ended || b) (ended_append ss us) ∙ sym (or_assoc s.ended (some_ended ss) (some_ended us))

-- ---- thresholds
abbrev pairs : List Stint → List (List ℕ × List Bindings)
pairs ss = map (λ (s : Stint). (s.sent, s.came)) ss

came_by : (ss : List Stint) → delivered_by (pairs ss) ≡ all_came ss
unfolding flatten all_came
came_by [] = refl
came_by (s ∷ ss) = ap (λ l. s.came ++ l) (came_by ss)

module _ (e : Ending) (form : EndingForm e) where
  top_lists : ((th : List ℕ) (d : Bool) (bs : List Bindings) → list_at e th d bs ≡ gathered e th bs)
      → (ss : List Stint) → stint_lists e ss ≡ lists_of e (pairs ss)
  top_lists same [] = refl
  top_lists same (s ∷ ss) = ap₂ ◌∷◌ (same s.sent s.ended s.came) (top_lists same ss)

-- a threshold out of the lists of some turns leaves out none of the best of their rows
pub sent_leaves : (e : Ending) → EndingForm e → (ss : List Stint) (th : List ℕ) → Sent e (stint_lists e ss) th → Fine e (all_came ss) th
sent_leaves (rows vs) form ss th s = tt
sent_leaves (group vs m) form ss th s = tt
sent_leaves (registers v) form ss th s = tt
sent_leaves (top k vs keys) form ss th s =
    subst (λ bs. Fine (top k vs keys) bs th) (came_by ss)
    (sent_fine (top k vs keys) (some_width (top k vs keys) form) (pairs ss) th
    (subst (λ ls. Sent (top k vs keys) ls th) (top_lists (top k vs keys) form (top_at k vs keys) ss) s))

module _ (e : Ending) (form : EndingForm e) where
  lists_append : (ss us : List Stint) → stint_lists e ss ++ stint_lists e us ≡ stint_lists e (ss ++ us)
  lists_append ss us = sym (map-append (stint_list e) ss us)

  behind : (ss us : List Stint) → AllSent e (stint_lists e ss) us
      → foldl (taken_into e) (list_at e [] (some_ended ss) (all_came ss)) (stint_lists e us) ≡ list_at e [] (some_ended (ss ++ us)) (all_came (ss ++ us))
  unfolding all_came some_ended
  behind ss [] a = ap (λ l. list_at e [] (some_ended l) (all_came l)) (sym (append-nil ss))
  behind ss (u ∷ us) a =
      ap (λ l. foldl (taken_into e) l (stint_lists e us))
      (both_add e form u.sent (some_ended ss) u.ended (all_came ss) u.came (sent_leaves e form ss u.sent a.0)
      ∙ ap₂ (list_at e [])
      (ap (λ b. some_ended ss || b) (sym (or_none u.ended)) ∙ sym (ended_append ss (u ∷ [])))
      (ap (λ l. all_came ss ++ l) (sym (append-nil u.came)) ∙ sym (came_append ss (u ∷ []))))
      ∙ behind (ss ++ (u ∷ [])) us (subst (λ l. AllSent e l us) (lists_append ss (u ∷ [])) a.1)
      ∙ ap (λ l. list_at e [] (some_ended l) (all_came l)) (append_assoc ss (u ∷ []) us)

  -- in sequence, from an empty list: that of one turn at least
  pub taken_in_order : (s : Stint) (ss : List Stint) → AllSent e [] (s ∷ ss)
      → foldl (taken_into e) [] (stint_lists e (s ∷ ss)) ≡ list_at e [] (some_ended (s ∷ ss)) (all_came (s ∷ ss))
  unfolding all_came some_ended
  taken_in_order s ss a =
      ap (λ l. foldl (taken_into e) l (stint_lists e ss)) (none_taken e (stint_list e s)) ∙ behind [] (s ∷ ss) a
