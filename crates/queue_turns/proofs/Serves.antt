-- Serving by places: the number that refuses it, and where the front entry goes after its turn.
use Prim.Native.Nat.{ℕ, zero, suc, ◌-◌, ◌<◌, ◌≤◌, min}
use native.Mathlib.Nat.{le_trans, le-min, min-le_left, min-le_right}
use native.Mathlib.Omega.{arith}
use mathlib.Core.Path.{◌≡◌, refl, sym, ◌∙◌, ap, subst}
use mathlib.Core.Bool.{Bool, true, false, cond, ◌&&◌, not}
use mathlib.Core.Option.{Option, none, some}
use mathlib.Core.List.{List, [], ◌∷◌, ◌++◌}
use lib.Dec.{leb, eqb}
use lib.ListN.{length, take, drop, get_or}
use borrow.Author.Tests.{le-leb, leb-true, eqb-true, eqb-false}
use Rattle.sequences.specs.Sequences.{all, distinct}
use Rattle.words.specs.Tests.{Test, first_failing, number_of, AllPass}
use Rattle.calls.specs.Calls.{result_by_number, result_of_call}
use Rattle.sequences.proofs.Booleans.{absurd_true, and_left, and_right, and_both}
use Rattle.sequences.proofs.Elements.{all_head}
use Rattle.words.proofs.Testing.{or_else, first_append, passes_all, test_passed, first_fails}
use Rattle.words.proofs.Numbering.{is_numbered, none_fails, one_fails, both_pass}
use Rattle.turns.specs.Surveys.{Survey}
use Rattle.turns.specs.Turns.{TurnInput, turn_tests, turn_of, most_steps}
use Rattle.turns.proofs.Refusals.{turn_refusals, turn_unchanged}
use Rattle.queues.specs.declared.Entry.{Entry}
use Rattle.queues.specs.Lists.{LentLists, lent_as, line_of, aside_of, owners, has_steps, has_none, entries_right}
use Rattle.queues.specs.Serving.{Serving, ServeResult, entry_turn, quantum_tests, front_tests, is_empty, queue_tests_by, queue_tests, serve_tests}
use Rattle.queues.specs.Serving.{entry_after, turned_to, front_served, serve_schema, serve_of}
use Rattle.queue_entries.specs.declared.Seen.{Seen}
use Rattle.queue_entries.specs.Entries.{nobody}
use Rattle.queue_entries.specs.Seeing.{SeenOf}
use Rattle.queue_changes.specs.Changes.{room_by, first_number}
use Rattle.queue_changes.proofs.Following.{numbers_follow}
use Rattle.queue_changes.proofs.Seeing.{seen_entries, seen_room, Roomy, roomy}
use Rattle.queue_outcomes.specs.declared.Ended.{Ended}
use Rattle.queue_outcomes.specs.Services.{EndedBy, serving_refused, turn_outcome_by, front_by, DecidesServing}
use Rattle.queue_turns.proofs.Outcomes.{goes_so}

-- ---- the front entry
front_none : (n : ℕ) (es : List Entry) → min n (length es) ≡ 0 → take n es ≡ []
front_none zero es h = refl
front_none (suc n) [] h = refl
front_none (suc n) (e ∷ es) h =
    let z : 1 ≤ min (suc n) (length (e ∷ es)) = le-min (let a : 1 ≤ suc n = omega arith in a) (let b : 1 ≤ length (e ∷ es) = omega arith in b) in
    absurd (omega arith)

front_is : (n : ℕ) (es : List Entry) → (min n (length es) ≡ 0 → ⊥) → take n es ≡ get_or es 0 nobody ∷ take (n - 1) (drop 1 es)
front_is zero es h = let z = min-le_left 0 (length es) in absurd (h (omega arith))
front_is (suc n) [] h = let z = min-le_right (suc n) (length {A = Entry} []) in absurd (h (omega arith))
front_is (suc n) (e ∷ es) h = ap (λ (k : ℕ). e ∷ take k es) (let z : n ≡ suc n - 1 = omega arith in z)

-- ---- numbers
module _ (v : Survey) (s : Serving) (n : ℕ) (e : Entry) (entries room : Bool) where
  abbrev late : List Test
  late = queue_tests_by entries room (not (eqb n 0))

  numbered_front : all is_numbered (front_by v s n e) ≡ true
  unfolding all
  numbered_front = by_test (eqb n 0)
    where
      by_test : (b : Bool) → all is_numbered (cond b (front_tests v s []) (front_tests v s (e ∷ []))) ≡ true
      by_test true = refl
      by_test false = refl

  numbered : all is_numbered (front_by v s n e ++ late) ≡ true
  unfolding all
  numbered = by_test (eqb n 0)
    where
      by_test : (b : Bool) → all is_numbered (cond b (front_tests v s []) (front_tests v s (e ∷ [])) ++ queue_tests_by entries room (not b)) ≡ true
      by_test true = refl
      by_test false = refl

  -- the number that the code puts together
  pub serve_number : (r k : ℕ) → k ≡ number_of (first_failing late) → r ≡ first_number (number_of (first_failing (front_by v s n e))) k
      → r ≡ number_of (first_failing (front_by v s n e ++ late))
  serve_number r k f h =
      h ∙ ap (first_number (number_of (first_failing (front_by v s n e)))) f ∙ numbers_follow (front_by v s n e) late numbered_front

  -- the front's tests have the quantum's among them
  quantum_passed : AllPass (front_by v s n e) → leb 1 s.quantum && leb s.quantum most_steps ≡ true
  quantum_passed = by_test (eqb n 0)
    where
      by_test : (b : Bool) → AllPass (cond b (front_tests v s []) (front_tests v s (e ∷ []))) → leb 1 s.quantum && leb s.quantum most_steps ≡ true
      by_test true p = test_passed 8 (front_tests v s []) p
      by_test false p = test_passed 8 (front_tests v s (e ∷ [])) p

  -- where the tests of both lists or of the quantum fail, the number is not 0
  pub not_served : (r k q : ℕ) → r ≡ number_of (first_failing (front_by v s n e ++ late)) → k ≡ number_of (first_failing late)
      → q ≡ number_of (first_failing (quantum_tests s.quantum)) → (first_number k q ≡ 0 → ⊥) → r ≡ 0 → ⊥
  unfolding first_failing
  not_served r k q is f g h z =
      let both = both_pass (front_by v s n e) late (none_fails (front_by v s n e ++ late) numbered (sym is ∙ z)) in
      let asked = quantum_passed (passes_all (front_by v s n e) both.0) in
      let k-none : k ≡ 0 = f ∙ ap number_of both.1 in
      let q-none : q ≡ 0 = g ∙ ap (λ (b : Bool). number_of (cond b none (some 8))) asked in
      h (λ i. first_number (k-none i) (q-none i))

-- both numbers are 0
pub record MayTurn (entries room : Bool) (n quantum : ℕ) : Type 0 where
  pub entries_right_fact : entries ≡ true
  pub room_right_fact : room ≡ true
  pub some_wait : n ≡ 0 → ⊥
  pub quantum_right_fact : leb 1 quantum && leb quantum most_steps ≡ true

pub both_zero : (a b : ℕ) → first_number a b ≡ 0 → (a ≡ 0) × (b ≡ 0)
both_zero a b = by_test (eqb a 0) refl
  where
    by_test : (c : Bool) → eqb a 0 ≡ c → cond c b a ≡ 0 → (a ≡ 0) × (b ≡ 0)
    by_test true e h = (eqb-true a 0 e, h)
    by_test false e h = absurd (eqb-false a 0 e h)

pub passed : (entries room : Bool) (n quantum k q : ℕ) → k ≡ number_of (first_failing (queue_tests_by entries room (not (eqb n 0))))
    → q ≡ number_of (first_failing (quantum_tests quantum)) → first_number k q ≡ 0 → MayTurn entries room n quantum
unfolding first_failing
passed entries room n quantum k q f g h =
    by_tests entries room (eqb n 0) (leb 1 quantum && leb quantum most_steps) refl refl refl refl
    (sym f ∙ (both_zero k q h).0) (sym g ∙ (both_zero k q h).1)
  where
    by_tests : (a b c d : Bool) → entries ≡ a → room ≡ b → eqb n 0 ≡ c → leb 1 quantum && leb quantum most_steps ≡ d
        → number_of (first_failing (queue_tests_by a b (not c))) ≡ 0 → number_of (cond d none (some 8)) ≡ 0 → MayTurn entries room n quantum
    by_tests true true false true x y z w u v =
        record { entries_right_fact = x; room_right_fact = y; some_wait = eqb-false n 0 z; quantum_right_fact = w }
    by_tests true true false false x y z w u v = absurd (omega arith)
    by_tests true true true d x y z w u v = absurd (omega arith)
    by_tests true false c d x y z w u v = absurd (omega arith)
    by_tests false b c d x y z w u v = absurd (omega arith)

-- ---- a call
module _ (v : Survey) (s : Serving) (line : List Entry) (given : ℕ) (aside : List Entry) (kept : ℕ) (seen : Seen)
    (is : SeenOf (lent_as line given aside kept) 0 seen) (e : Entry) (its : e ≡ get_or line 0 nobody) where
  abbrev l : LentLists
  l = lent_as line given aside kept

  abbrev n : ℕ
  n = seen.waiting

  abbrev entries : Bool
  entries = seen.lined && seen.rested

  abbrev room : Bool
  room = room_by seen.room seen.spare given kept 0

  abbrev es : List Entry
  es = take (given - 1) (drop 1 line)

  line_none : n ≡ 0 → line_of l ≡ []
  line_none h = front_none given line (sym is.waiting ∙ h)

  line_front : (n ≡ 0 → ⊥) → line_of l ≡ e ∷ es
  line_front h = front_is given line (λ z. h (is.waiting ∙ z)) ∙ ap (λ (x : Entry). x ∷ es) (sym its)

  same_front : front_by v s n e ≡ front_tests v s (line_of l)
  same_front = by_test (eqb n 0) refl
    where
      by_test : (b : Bool) → eqb n 0 ≡ b → cond b (front_tests v s []) (front_tests v s (e ∷ [])) ≡ front_tests v s (line_of l)
      by_test true h = ap (λ (xs : List Entry). front_tests v s xs) (sym (line_none (eqb-true n 0 h)))
      by_test false h = ap (λ (xs : List Entry). front_tests v s xs) (sym (line_front (eqb-false n 0 h)))

  same_end : not (eqb n 0) ≡ not (is_empty (line_of l))
  same_end = by_test (eqb n 0) refl
    where
      by_test : (b : Bool) → eqb n 0 ≡ b → not b ≡ not (is_empty (line_of l))
      by_test true h = ap (λ (xs : List Entry). not (is_empty xs)) (sym (line_none (eqb-true n 0 h)))
      by_test false h = ap (λ (xs : List Entry). not (is_empty xs)) (sym (line_front (eqb-false n 0 h)))

  same_late : queue_tests_by entries room (not (eqb n 0)) ≡ queue_tests l
  same_late = λ i. queue_tests_by (seen_entries line given aside kept 0 seen is i) (seen_room line given aside kept 0 seen is 0 i) (same_end i)

  pub serve_refuses : (r : ℕ) → r ≡ number_of (first_failing (front_by v s n e ++ queue_tests_by entries room (not (eqb n 0)))) → (r ≡ 0 → ⊥)
      → DecidesServing l (serving_refused r) s.output (serve_of v l s)
  unfolding result_of_call
  serve_refuses r f h =
      record {
        line = ((λ z. absurd (omega arith)), (λ z. absurd_true z refl));
        aside = ((λ z. absurd (omega arith)), (λ z. absurd_true z refl));
        result = sym (ap (result_by_number (serve_schema v l) s) (sym same_tests ∙ one_fails _ r f h));
      }
    where
      same_tests : first_failing (front_by v s n e ++ queue_tests_by entries room (not (eqb n 0))) ≡ first_failing (serve_tests v l s)
      same_tests = λ i. first_failing (same_front i ++ same_late i)

  -- all tests of both lists pass, and that of the quantum
  module _ (p : MayTurn entries room n s.quantum) where
    abbrev k : ℕ
    k = min s.quantum e.allowance

    abbrev i' : TurnInput
    i' = entry_turn v s e k

    line_is : line_of l ≡ e ∷ es
    line_is = line_front p.some_wait

    entries_so : entries_right l ≡ true
    entries_so = sym (seen_entries line given aside kept 0 seen is) ∙ p.entries_right_fact

    some_left : 1 ≤ e.allowance
    some_left =
        let right = and_right (distinct (owners l)) _ entries_so in
        leb-true 1 e.allowance (all_head has_steps e es (rw line_is at (and_left (all has_steps (line_of l)) (all has_none (aside_of l)) right)))

    lists_pass : first_failing (queue_tests l) ≡ none
    unfolding first_failing
    lists_pass =
        sym (ap first_failing same_late)
        ∙ (λ i. first_failing (queue_tests_by (p.entries_right_fact i) (p.room_right_fact i) (not (empty i))))
      where
        empty : eqb n 0 ≡ false
        empty = by_test (eqb n 0) refl
          where
            by_test : (b : Bool) → eqb n 0 ≡ b → b ≡ false
            by_test true h = absurd (p.some_wait (eqb-true n 0 h))
            by_test false h = refl

    within : leb 1 k && leb k most_steps ≡ true
    within =
        let a = leb-true 1 s.quantum (and_left (leb 1 s.quantum) (leb s.quantum most_steps) p.quantum_right_fact) in
        let b = leb-true s.quantum most_steps (and_right (leb 1 s.quantum) (leb s.quantum most_steps) p.quantum_right_fact) in
        and_both (leb 1 k) (leb k most_steps) (le-leb 1 k (le-min a some_left)) (le-leb k most_steps (le_trans (min-le_left s.quantum e.allowance) b))

    -- with the lesser quantum a turn fails at the same test
    same_at_least : first_failing (turn_tests (entry_turn v s e s.quantum)) ≡ first_failing (turn_tests i')
    same_at_least = rw (p.quantum_right_fact, within) refl

    or_none : (o : Option ℕ) → or_else o none ≡ o
    or_none none = refl
    or_none (some x) = refl

    tests_are : first_failing (serve_tests v l s) ≡ first_failing (turn_tests i')
    tests_are =
        ap (λ (xs : List Entry). first_failing (front_tests v s xs ++ queue_tests l)) line_is
        ∙ first_append (turn_tests (entry_turn v s e s.quantum)) (queue_tests l)
        ∙ ap (or_else (first_failing (turn_tests (entry_turn v s e s.quantum)))) lists_pass
        ∙ or_none (first_failing (turn_tests (entry_turn v s e s.quantum)))
        ∙ same_at_least

    serve_is : serve_of v l s ≡ turned_to l s e es (turn_of i') (turn_of i').answer.ending
    unfolding result_of_call
    serve_is = ap (result_by_number (serve_schema v l) s) tests_are ∙ by_tests (first_failing (turn_tests i')) refl
      where
        by_tests : (o : Option ℕ) → first_failing (turn_tests i') ≡ o
            → result_by_number (serve_schema v l) s o ≡ turned_to l s e es (turn_of i') (turn_of i').answer.ending
        by_tests (some x) h = sym (ap (turned_to l s e es (turn_of i')) (((turn_refusals i').refused x).1 (first_fails x (turn_tests i') h)))
        by_tests none h = ap (front_served v l s) line_is

    -- the room that there is
    roomy_so : Roomy seen.room seen.spare given kept 0
    roomy_so = roomy seen.room seen.spare given kept 0 p.room_right_fact

    some_given : 0 < given
    some_given =
        let a : n ≡ min given (length line) = is.waiting in
        let b = min-le_left given (length line) in
        by_count given (let z : n ≤ given = omega arith in z)
      where
        by_count : (m : ℕ) → n ≤ m → 0 < m
        by_count zero h = absurd (p.some_wait (omega arith))
        by_count (suc m) h = omega arith

    -- the entry after its turn, and what the turn answered
    abbrev ended : Ended
    ended = record { turned = (turn_of i').answer; entry = entry_after e (turn_of i') }

    ended_is : (x : Ended) (written : List ℕ) → EndedBy (turn_of i') e x written → x ≡ ended
    ended_is x written g = λ i. record { turned = g.turned i; entry = g.entry i }

    pub serve_accepts : (x : Ended) (written : List ℕ) (steps : ℕ) → steps ≡ k → EndedBy (turn_of (entry_turn v s e steps)) e x written
        → DecidesServing l (turn_outcome_by x.turned.ending x given kept) written (serve_of v l s)
    serve_accepts x written steps f h =
        let g = subst (λ (m : ℕ). EndedBy (turn_of (entry_turn v s e m)) e x written) f h in
        let a : seen.room ≡ length line = is.room in
        let b : seen.spare ≡ length aside = is.spare in
        let c = roomy_so.line in let d = roomy_so.aside in let q = roomy_so.entries in let w = some_given in
        let goes = goes_so s line given aside kept e (turn_of i') some_given (let z : given ≤ length line = omega arith in z)
        (let z : kept < length aside = omega arith in z) (turn_of i').answer.ending (λ y z. (turn_unchanged i' y z).1) in
        subst (λ (y : ServeResult). DecidesServing l (turn_outcome_by x.turned.ending x given kept) written y) (sym serve_is)
        (subst (λ (y : Ended). DecidesServing l (turn_outcome_by y.turned.ending y given kept) written
        (turned_to l s e es (turn_of i') (turn_of i').answer.ending))
        (sym (ended_is x written g))
        (subst (λ (o : List ℕ). DecidesServing l (turn_outcome_by ended.turned.ending ended given kept) o
        (turned_to l s e es (turn_of i') (turn_of i').answer.ending))
        (sym g.output) goes))
