-- Fairness with progress: in a queue that calls over one survey made of an empty one a serve for the front is not refused, so that the turns before
-- an owner's can be had, and then its own.
use Prim.Native.Nat.{ℕ, zero, suc, ◌+◌, ◌-◌, ◌≤◌}
use native.Mathlib.Nat.{le_of_eq}
use native.Mathlib.Omega.{arith}
use mathlib.Core.Path.{◌≡◌, refl, sym, ◌∙◌, ap, subst}
use mathlib.Core.Bool.{true, ◌&&◌}
use mathlib.Core.Option.{some}
use mathlib.Core.List.{List, [], ◌∷◌, ◌++◌}
use lib.Dec.{leb}
use lib.ListN.{length, length-append, length-replicate}
use borrow.Author.Tests.{le-leb}
use Rattle.sequences.specs.Sequences.{all}
use Rattle.words.specs.Tests.{AllPass}
use Rattle.calls.specs.Calls.{NotRefused}
use Rattle.sequences.proofs.Booleans.{and_both}
use Rattle.words.proofs.Testing.{none_some}
use Rattle.plans.specs.Plans.{plan_of}
use Rattle.lists.specs.Gathering.{least_output}
use Rattle.turns.specs.Surveys.{Survey}
use Rattle.turns.specs.declared.TurnEnding.{TurnEnding}
use Rattle.turns.specs.declared.TurnEnding.TheVariants as ending
use Rattle.turns.specs.Turns.{most_steps}
use Rattle.queues.specs.declared.Entry.{Entry}
use Rattle.queues.specs.Lists.{most_entries, LentLists, entry_plan, line_of, has_steps, has_none, entries_right, space_right, Queue}
use Rattle.queues.specs.Serving.{Serving, ServeResult, front_tests, queue_tests, serve_schema, serve_of}
use Rattle.queues.specs.Calls.{serve, MadeCall, lent_to, turns, took_turn, deed_of, after_call, after_calls, deeds, turns_of, turns_in, place_in_line}
use Rattle.queues.proofs.Moving.{line_lent, aside_lent}
use Rattle.queues.proofs.Refusals.{serve_refusals}
use Rattle.queues.proofs.Fairness.{fair}
use Rattle.queue_cuts.specs.InTurn.{ReachedQueue, EachRight, QueueRight, ForFront, least_for_front, least_serve, least_call, least_calls, ServedInTurn}
use Rattle.queue_cuts.proofs.RightEntries.{both_passed, right_passes}
use Rattle.queue_cuts.proofs.RightQueues.{call_right, calls_right, reached_right}

module _ (v : Survey) where
  -- ---- a serve for the front passes every test
  module _ (q : Queue) (h : QueueRight v q) (m : MadeCall) (s : Serving) (f : ForFront q m s) where
    abbrev l : LentLists
    l = lent_to q m

    abbrev r : ServeResult
    r = serve_of v l s

    front_is : line_of l ≡ f.front ∷ f.behind
    front_is = line_lent q m ∙ f.stands

    entries : entries_right l ≡ true
    entries = rw (line_lent q m, aside_lent q m)
        (and_both _ (all has_steps q.line && all has_none q.aside) h.once (and_both (all has_steps q.line) _ h.steps h.no_steps))

    space : space_right 0 l ≡ true
    space =
        and_both (leb most_entries (length l.line)) _ (le-leb most_entries (length l.line) f.line_room)
        (and_both (leb most_entries (length l.aside)) _ (le-leb most_entries (length l.aside) f.aside_room)
        (le-leb (length q.line + length q.aside + 0) most_entries (let k = h.few in omega (arith, k))))

    lists_pass : AllPass (queue_tests l)
    lists_pass = (entries, (space, (rw front_is refl, tt)))

    pub right_served : NotRefused (serve_schema v l) s
    right_served =
        (serve_refusals v l s).served.1
        (subst (λ (es : List Entry). AllPass (front_tests v s es ++ queue_tests l)) (sym front_is)
        (both_passed (front_tests v s (f.front ∷ f.behind)) (queue_tests l)
        (right_passes v s f.front (subst (EachRight v) f.stands h.line).0 f.limits f.unsent) lists_pass))

    -- so it is a turn of whoever it answers
    deed_is : deed_of v l (serve s) ≡ turns r.answer.owner r.answer.turned.ending r.answer.turned.steps r.answer.left
    deed_is = by_ending_lem r.answer.turned.ending right_served
      where
        by_ending_lem : (x : TurnEnding) → ((y : ℕ) → ¬ (x ≡ ending.Refused y))
            → took_turn r x ≡ turns r.answer.owner x r.answer.turned.steps r.answer.left
        by_ending_lem ending.Done k = refl
        by_ending_lem ending.Spent k = refl
        by_ending_lem ending.Full k = refl
        by_ending_lem (ending.Refused y) k = absurd (k y refl)

  -- ---- a queue that was reached
  pub front_served_lem : (q : Queue) → ReachedQueue v q → (m : MadeCall) (s : Serving) → ForFront q m s → NotRefused (serve_schema v (lent_to q m)) s
  front_served_lem q r m s f = right_served q (reached_right v q r) m s f

  -- ---- the least serves, one after the other
  module _ (quantum : ℕ) (some_steps : 1 ≤ quantum) (few-steps : quantum ≤ most_steps) (behind : List Entry) (room : 32 ≤ length behind) where
    -- where somebody is in the line, there is one for the front
    least_for : (owner p : ℕ) (q : Queue) → place_in_line owner q.line ≡ some p → ForFront q (least_call quantum behind q) (least_serve quantum q)
    unfolding place_in_line
    least_for owner p q at = by_line q.line refl at
      where
        roomy : (es : List Entry) → 32 ≤ length (es ++ behind)
        roomy es = let k = length-append es behind in omega (arith, k, room)

        enough : (e : Entry) (es : List Entry) → q.line ≡ e ∷ es → least_output (plan_of (entry_plan e)).ending ≤ length (least_serve quantum q).output
        enough e es is =
            let k : length (least_serve quantum q).output ≡ least_for_front (e ∷ es) = length-replicate _ _ ∙ ap least_for_front is in
            le_of_eq (sym k)

        by_line : (es : List Entry) → q.line ≡ es → place_in_line owner es ≡ some p → ForFront q (least_call quantum behind q) (least_serve quantum q)
        by_line [] is k = absurd (none_some k)
        by_line (e ∷ es) is k =
            record {
              front = e;
              behind = es;
              stands = is;
              limits = record { output = enough e es is; least = some_steps; most = few-steps };
              unsent = refl;
              line_room = roomy q.line;
              aside_room = roomy q.aside;
            }

    -- `n` of them are `n` turns
    row_turns : (n owner p : ℕ) (q : Queue) → QueueRight v q → place_in_line owner q.line ≡ some p → n ≤ p
        → turns_in (deeds v q (least_calls v quantum behind n q)) ≡ n
    unfolding after_calls deeds turns_in least_calls
    row_turns zero owner p q h at few = refl
    row_turns (suc n) owner p q h at few =
        let m = least_call quantum behind q in
        let one : turns_of (deed_of v (lent_to q m) m.call) ≡ 1 = ap turns_of (deed_is q h m (least_serve quantum q) (least_for owner p q at)) in
        let nearer = (fair v q owner p at).moves_up (m ∷ []) (omega (arith, one, few))
        ∙ ap (λ (k : ℕ). some k) (let e : p - (turns_of (deed_of v (lent_to q m) m.call) + 0) ≡ p - 1 = omega (arith, one) in e) in
        let rest = row_turns n owner (p - 1) (after_call v q (lent_to q m) m.call) (call_right v q m m.call h) nearer (omega (arith, few)) in
        omega (arith, one, rest)

  -- ---- an owner in the line
  pub right_in_turn : (q : Queue) → QueueRight v q → (owner p : ℕ) → place_in_line owner q.line ≡ some p → ServedInTurn v q owner p
  right_in_turn q h owner p at =
      record {
        had = λ ms m s f. right_served (after_calls v q ms) (calls_right v ms q h) m s f;
        its = λ ms k m s f.
            let d = deed_is (after_calls v q ms) (calls_right v ms q h) m s f in
            let m' : MadeCall = record { call = serve s; behind_line = m.behind_line; behind_aside = m.behind_aside } in
            (fair v q owner p at).next_is_its ms k m' _ _ _ _ d;
        in_a_row = λ quantum least most behind room.
            let ms = least_calls v quantum behind p q in
            let so = row_turns quantum least most behind room p owner p q h at (omega arith) in
            let front = (fair v q owner p at).moves_up ms (omega (arith, so)) in
            (so, least_for quantum least most behind room owner (p - turns_in (deeds v q ms)) (after_calls v q ms) front);
      }

  pub served_in_turn : (q : Queue) → ReachedQueue v q → (owner p : ℕ) → place_in_line owner q.line ≡ some p → ServedInTurn v q owner p
  served_in_turn q r owner p at = right_in_turn q (reached_right v q r) owner p at
