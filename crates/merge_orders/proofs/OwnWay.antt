-- The merges of a history are a way of merging, whatever the turns, merges and joins, refused ones included.
use Prim.Native.Nat.{ℕ, suc, ◌<◌, ◌≤◌}
use native.Mathlib.Omega.{arith}
use mathlib.Core.Path.{◌≡◌, refl, sym, ◌∙◌, ap, ap₂, subst}
use mathlib.Core.Option.{Option, some}
use mathlib.Core.List.{List, [], ◌∷◌, ◌++◌, map, map-append}
use lib.ListN.{length, get_or, length-map, length-append, get_or-append}
use lib.Seq.{get_or-append_seam}
use borrow.Author.Tests.{ltb-true}
use Rattle.words.specs.declared.Written.{Written}
use Rattle.words.specs.declared.Written.TheVariants.{Words, Refused}
use Rattle.sequences.specs.Sequences.{numbers}
use Rattle.sequences.proofs.Each.{Each}
use Rattle.sequences.proofs.EachMore.{each_weaken, each_left, each_right}
use Rattle.sequences.proofs.Numbers.{numbers_none, numbers_next, numbers_below}
use Rattle.plans.specs.Conditions.{next}
use Rattle.plans.specs.Endings.{Ending, rows, top, group, registers}
use Rattle.plans.specs.Plans.{plan_of}
use Rattle.merges.specs.Merging.{merge_of}
use Rattle.turns.specs.Surveys.{Survey}
use Rattle.turns.specs.declared.TurnEnding.{TurnEnding}
use Rattle.turns.specs.declared.TurnEnding.TheVariants as ending
use Rattle.calls.specs.Words.{WordsResult}
use Rattle.turns.specs.Turns.{turn_of}
use Rattle.cuts.specs.Histories.{Event, turns, merges, joins, ServedTurn, Phone, served_in, turn_input_of, served_of, after_served, after_turn}
use Rattle.cuts.specs.Histories.{merge_input_of, after_merge, after_merging, after_join, after_joining, happens, history, fresh}
use Rattle.cuts.specs.Premises.{lists_in}
use Rattle.cuts.specs.Uncut.{MergesLists}
use Rattle.cuts.proofs.Keeping.{served_more, same_served}
use Rattle.merge_orders.specs.Ways.{Way, empty, turn, into, turns_along, written_in, merged_by, given}
use Rattle.merge_orders.specs.OwnWay.{OwnWay}

-- ---- lists behind those that a way merges change nothing
given_more : (plan : List ℕ) (lists more : List (List ℕ)) (w : Way) → Each (λ i. i < length lists) (turns_along w)
    → given plan (lists ++ more) w ≡ given plan lists w
unfolding given turns_along
given_more plan lists more empty h = refl
given_more plan lists more (turn i) h = ap some (get_or-append lists more [] i h.0)
given_more plan lists more (into a behind b) h =
    ap₂ (λ (x : Option (List ℕ)) (y : Option (List ℕ)). next x (λ kept. next y (λ list. merged_by plan kept behind list)))
    (given_more plan lists more a (each_left (λ i. i < length lists) (turns_along a) (turns_along b) h))
    (given_more plan lists more b (each_right (λ i. i < length lists) (turns_along a) (turns_along b) h))

-- ---- the phone's numbers of turns
below : (h : Phone) (w : Way) → turns_along w ≡ numbers (length h.taken) → Each (λ i. i < length (lists_in (served_in h))) (turns_along w)
below h w e =
    let m = length-map (served_in h) (λ (x : ServedTurn). x.list) in
    let l : length h.taken ≤ length (lists_in (served_in h)) = omega (arith, m, length-append h.taken h.waiting) in
    subst (Each (λ i. i < length (lists_in (served_in h)))) (sym e)
    (each_weaken (λ i. ltb-true i (length (lists_in (served_in h)))) (numbers (length h.taken))
    (numbers_below (length h.taken) (length (lists_in (served_in h))) l))

lists_more : (h : Phone) (x : ServedTurn) → lists_in (served_in (after_served h x)) ≡ lists_in (served_in h) ++ (x.list ∷ [])
lists_more h x = ap lists_in (served_more h x) ∙ map-append (λ (y : ServedTurn). y.list) (served_in h) (x ∷ [])

module _ (v : Survey) (plan : List ℕ) (merging : MergesLists (plan_of plan).ending) where
  -- ---- one event
  serving : (h : Phone) (x : ServedTurn) → OwnWay plan h → OwnWay plan (after_served h x)
  serving h x o =
      record {
        way = o.way;
        turns = o.turns;
        gives =
            ap (λ l. given plan l o.way) (lists_more h x)
            ∙ given_more plan (lists_in (served_in h)) (x.list ∷ []) o.way (below h o.way o.turns)
            ∙ o.gives;
      }

  turning : (h : Phone) (x : ServedTurn) (e : TurnEnding) → OwnWay plan h → OwnWay plan (after_turn h x e)
  turning h x ending.Done o = serving h x o
  turning h x ending.Spent o = serving h x o
  turning h x ending.Full o = serving h x o
  turning h x (ending.Refused y) o = o

  -- the earliest list stands behind those that are taken
  next_list : (h : Phone) (x : ServedTurn) (rest : List ServedTurn) → h.waiting ≡ x ∷ rest
      → get_or (lists_in (served_in h)) (length h.taken) [] ≡ x.list
  next_list h x rest waits =
      let f : ServedTurn → List ℕ = λ y. y.list in
      ap (λ l. get_or (map f (h.taken ++ l)) (length h.taken) []) waits
      ∙ ap (λ l. get_or l (length h.taken) []) (map-append f h.taken (x ∷ rest))
      ∙ ap (λ n. get_or (map f h.taken ++ (x.list ∷ map f rest)) n []) (sym (length-map h.taken f))
      ∙ get_or-append_seam (map f h.taken) x.list (map f rest) []

  merging_one : (h : Phone) (behind : List ℕ) (x : ServedTurn) (rest : List ServedTurn) → h.waiting ≡ x ∷ rest → OwnWay plan h
      → (w : Written) → (merge_of (merge_input_of plan h behind x)).answer ≡ w
      → OwnWay plan (after_merge h x rest (merge_of (merge_input_of plan h behind x)) w)
  unfolding given turns_along
  merging_one h behind x rest waits o (Refused y) e = o
  merging_one h behind x rest waits o (Words n) e =
      record {
        way = into o.way behind (turn (length h.taken));
        turns =
            ap (λ l. l ++ (length h.taken ∷ [])) o.turns ∙ numbers_next (length h.taken)
            ∙ ap numbers (let m : suc (length h.taken) ≡ length (h.taken ++ (x ∷ [])) = omega (arith, length-append h.taken (x ∷ [])) in m);
        gives =
            ap (λ l. given plan (lists_in l) (into o.way behind (turn (length h.taken)))) (same_served h x rest waits h.kept)
            ∙ ap (λ g. next g (λ kept. merged_by plan kept behind (get_or (lists_in (served_in h)) (length h.taken) []))) o.gives
            ∙ ap (merged_by plan h.kept behind) (next_list h x rest waits)
            ∙ ap (λ w. written_in (merge_of (merge_input_of plan h behind x)) w) e;
      }

  merging_all : (h : Phone) (behind : List ℕ) (xs : List ServedTurn) → h.waiting ≡ xs → OwnWay plan h → OwnWay plan (after_merging plan h behind xs)
  merging_all h behind [] waits o = o
  merging_all h behind (x ∷ rest) waits o = merging_one h behind x rest waits o (merge_of (merge_input_of plan h behind x)).answer refl

  -- no list is joined
  not_joined_lem : (e : Ending) → MergesLists e → (h : Phone) (x : ServedTurn) (rest : List ServedTurn) → after_join e h x rest ≡ h
  not_joined_lem (rows vs) m h x rest = absurd m
  not_joined_lem (top k vs keys) m h x rest = refl
  not_joined_lem (group vs m) n h x rest = refl
  not_joined_lem (registers u) m h x rest = refl

  joining : (h : Phone) (xs : List ServedTurn) → OwnWay plan h → OwnWay plan (after_joining plan h xs)
  joining h [] o = o
  joining h (x ∷ rest) o = subst (OwnWay plan) (sym (not_joined_lem (plan_of plan).ending merging h x rest)) o

  happening : (h : Phone) (e : Event) → OwnWay plan h → OwnWay plan (happens v plan h e)
  unfolding happens
  happening h (turns behind quantum threshold output) o =
      turning h (served_of quantum threshold (turn_of (turn_input_of v plan h behind quantum threshold output)))
      (turn_of (turn_input_of v plan h behind quantum threshold output)).answer.ending o
  happening h (merges behind) o = merging_all h behind h.waiting refl o
  happening h joins o = joining h h.waiting o

  -- ---- a list of them
  own_from : (h : Phone) (es : List Event) → OwnWay plan h → OwnWay plan (history v plan h es)
  unfolding history
  own_from h [] o = o
  own_from h (e ∷ es) o = own_from (happens v plan h e) es (happening h e o)

  -- from a fresh opening, with no premise
  pub own_way : (o : WordsResult) (es : List Event) → OwnWay plan (history v plan (fresh o) es)
  unfolding given turns_along
  own_way o es = own_from (fresh o) es (record { way = empty; turns = numbers_none; gives = refl })
