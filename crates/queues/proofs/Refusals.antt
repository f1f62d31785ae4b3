-- Joining, topping up and serving are right calls: so demand 1 holds of each, for every input.
use Prim.Native.Nat.{ℕ, ◌-◌, ◌≤◌, min}
use native.Mathlib.Nat.{le_trans, le-min, min-le_left}
use native.Mathlib.Omega.{arith}
use mathlib.Core.Path.{◌≡◌, refl, sym, ◌∙◌}
use mathlib.Core.Bool.{Bool, true, false, cond, ◌&&◌}
use mathlib.Core.List.{List, [], ◌∷◌, ◌++◌, map}
use lib.Dec.{leb, eqb}
use borrow.Author.Tests.{le-leb, leb-true}
use Rattle.sequences.specs.Sequences.{all, distinct}
use Rattle.words.specs.Tests.{Test, AllPass}
use Rattle.sequences.proofs.Booleans.{absurd_true, and_left, and_right, and_both}
use Rattle.sequences.proofs.Elements.{all_head}
use Rattle.words.proofs.Testing.{fails_first, front_passes, rest_passes, test_passed}
use Rattle.calls.specs.Calls.{RightCall, CallRefusals}
use Rattle.calls.proofs.Refusals.{by_number_lem, call_refusals}
use Rattle.turns.specs.Surveys.{Survey}
use Rattle.turns.specs.declared.TurnEnding.{TurnEnding}
use Rattle.turns.specs.declared.TurnEnding.TheVariants as ending
use Rattle.turns.specs.Turns.{most_steps, refusal_of, turn_tests}
use Rattle.turns.specs.Refusals.{Served}
use Rattle.turns.proofs.Refusals.{turn_refusals}
use Rattle.queues.specs.declared.Entry.{Entry}
use Rattle.queues.specs.declared.Queued.TheVariants.{Refused}
use Rattle.queues.specs.Lists.{LentLists, line_of, aside_of, Queue, has_steps, has_none, owners}
use Rattle.queues.specs.Changing.{changes_lists}
use Rattle.queues.specs.Joining.{Joining, new_entry, admitted, join_tests, join_schema, join_queue_of}
use Rattle.queues.specs.ToppingUp.{top_up_tests, topped_up, top_up_schema, top_up_of}
use Rattle.queues.specs.Serving.{Serving, ServeResult, entry_turn, front_tests, queue_tests, serve_tests, turned_to, entry_after, front_turn, front_served}
use Rattle.queues.specs.Serving.{serve_numbers, serve_schema, serve_of, service_with, requeued, service_values}

-- ---- joining and topping up
changing_right : {I : Type 0} (l : LentLists) (tests : I → List Test) (numbers : List ℕ) (after : I → Queue)
    → ((i : I) → map (λ (x : Test). x.0) (tests i) ≡ numbers) → RightCall (changes_lists l tests numbers after)
changing_right l tests numbers after order =
    record {
      order = order;
      refused = λ x. refl;
      told = λ x. refl;
      empty = λ x. refl;
      serving = λ i h x e. let z : ◌≡◌ {A = ℕ} 0 1 = cc in omega arith;
      zero = λ i h. refl;
      counting = λ i h. refl;
    }

module _ (v : Survey) (l : LentLists) (j : Joining) where
  pub join_refusals : CallRefusals (join_schema v l) j
  join_refusals = call_refusals (join_schema v l) (changing_right l (join_tests v l) _ (λ i. admitted l (new_entry i)) (λ i. refl)) j

  -- a refusal leaves both lists that were lent
  pub join_unchanged : (x : ℕ) → (join_queue_of v l j).answer ≡ Refused x → (join_queue_of v l j).buffers ≡ record { line = l.line; aside = l.aside }
  join_unchanged x e = (join_refusals.unchanged x e).buffers

module _ (l : LentLists) (owner amount : ℕ) where
  pub top_up_refusals : CallRefusals (top_up_schema l) (owner, amount)
  top_up_refusals =
      call_refusals (top_up_schema l) (changing_right l (λ i. top_up_tests l i.0 i.1) _ (λ i. topped_up l i.0 i.1) (λ i. refl)) (owner, amount)

  pub top_up_unchanged : (x : ℕ) → (top_up_of l owner amount).answer ≡ Refused x
      → (top_up_of l owner amount).buffers ≡ record { line = l.line; aside = l.aside }
  top_up_unchanged x e = (top_up_refusals.unchanged x e).buffers

-- ---- serving
module _ (v : Survey) (l : LentLists) (s : Serving) where
  -- the front entry passes with the steps left what it passes with the call's quantum
  front_serves : (e : Entry) → 1 ≤ e.allowance → AllPass (turn_tests (entry_turn v s e s.quantum))
      → Served (entry_turn v s e (min s.quantum e.allowance))
  front_serves e some_left passed =
      (turn_refusals (entry_turn v s e n)).served.1 (rw within (rw asked at passed))
    where
      n : ℕ
      n = min s.quantum e.allowance

      asked : leb 1 s.quantum && leb s.quantum most_steps ≡ true
      asked = test_passed 8 (turn_tests (entry_turn v s e s.quantum)) passed

      within : leb 1 n && leb n most_steps ≡ true
      within =
          let a = leb-true 1 s.quantum (and_left (leb 1 s.quantum) (leb s.quantum most_steps) asked) in
          let b = leb-true s.quantum most_steps (and_right (leb 1 s.quantum) (leb s.quantum most_steps) asked) in
          and_both (leb 1 n) (leb n most_steps) (le-leb 1 n (le-min a some_left)) (le-leb n most_steps (le_trans (min-le_left s.quantum e.allowance) b))

  -- a service's ending is that of its turn
  either_ends : (b : Bool) (y z : ServeResult) (x : TurnEnding) → y.answer.turned.ending ≡ x → z.answer.turned.ending ≡ x
      → (cond b y z).answer.turned.ending ≡ x
  either_ends true y z x e f = e
  either_ends false y z x e f = f

  back_ends : (e : Entry) (es : List Entry) → (requeued l e es (front_turn v s e)).answer.turned.ending ≡ (front_turn v s e).answer.ending
  back_ends e es =
      let r = front_turn v s e in
      either_ends (eqb (e.allowance - r.answer.steps) 0) (service_with l e r es (aside_of l ++ (entry_after e r ∷ [])))
      (service_with l e r (es ++ (entry_after e r ∷ [])) (aside_of l)) r.answer.ending refl refl

  ends_so : (e : Entry) (es : List Entry) → Served (entry_turn v s e (min s.quantum e.allowance))
      → (x : ℕ) → ¬ ((front_served v l s (e ∷ es)).answer.turned.ending ≡ ending.Refused x)
  ends_so e es h x = by_ending_lem (front_turn v s e).answer.ending refl
    where
      by_ending_lem : (y : TurnEnding) → (front_turn v s e).answer.ending ≡ y
          → ¬ ((turned_to l s e es (front_turn v s e) y).answer.turned.ending ≡ ending.Refused x)
      by_ending_lem ending.Done is f = h x f
      by_ending_lem ending.Spent is f = h x (sym (back_ends e es) ∙ f)
      by_ending_lem ending.Full is f = h x (sym (back_ends e es) ∙ f)
      by_ending_lem (ending.Refused z) is f = h z is

  -- where every test passes there is a front entry, and its turn is served
  served_so : AllPass (serve_tests v l s) → (x : ℕ) → ¬ ((front_served v l s (line_of l)).answer.turned.ending ≡ ending.Refused x)
  served_so passed = by_line (line_of l) refl passed
    where
      by_line : (es : List Entry) → line_of l ≡ es → AllPass (front_tests v s es ++ queue_tests l)
          → (x : ℕ) → ¬ ((front_served v l s es).answer.turned.ending ≡ ending.Refused x)
      by_line [] is p = λ x f. absurd_true (test_passed 19 (queue_tests l) (rest_passes (front_tests v s []) (queue_tests l) p)) (rw is refl)
      by_line (e ∷ es) is p =
          let own = front_passes (front_tests v s (e ∷ es)) (queue_tests l) p in
          let lists = rest_passes (front_tests v s (e ∷ es)) (queue_tests l) p in
          let right = and_right (distinct (owners l)) _ (test_passed 17 (queue_tests l) lists) in
          let steps = and_left (all has_steps (line_of l)) (all has_none (aside_of l)) right in
          ends_so e es (front_serves e (leb-true 1 e.allowance (all_head has_steps e es (rw is at steps))) own)

  -- the tests of a front entry, or of an empty line
  numbers_by : (es : List Entry) → map (λ (x : Test). x.0) (front_tests v s es ++ queue_tests l) ≡ serve_numbers es
  numbers_by [] = refl
  numbers_by (e ∷ es) = refl

  no_number : (y : TurnEnding) → ((x : ℕ) → ¬ (y ≡ ending.Refused x)) → refusal_of y ≡ 0
  no_number ending.Done h = refl
  no_number ending.Spent h = refl
  no_number ending.Full h = refl
  no_number (ending.Refused x) h = absurd (h x refl)

serving_right : (v : Survey) (l : LentLists) → RightCall (serve_schema v l)
serving_right v l =
    record {
      order = λ s. numbers_by v l s (line_of l);
      refused = λ x. refl;
      told = λ x. refl;
      empty = λ x. refl;
      serving = served_so v l;
      zero = λ s h. no_number v l s _ (served_so v l s h);
      counting = λ s h. refl;
    }

module _ (v : Survey) (l : LentLists) (s : Serving) where
  pub serve_refusals : CallRefusals (serve_schema v l) s
  serve_refusals = call_refusals (serve_schema v l) (serving_right v l) s

  -- a refusal answers its number and zeros, and leaves both lists and the output that were lent
  pub serve_unchanged : (x : ℕ) → (serve_of v l s).answer.turned.ending ≡ ending.Refused x
      → serve_of v l s ≡ record {
        answer = record { turned = record { steps = 0; ending = ending.Refused x; saved = 0; listed = 0 }; owner = 0; left = 0; waiting = 0; resting = 0 };
        buffers = record { line = l.line; aside = l.aside; output = s.output };
      }
  serve_unchanged x e =
      by_number_lem (serve_schema v l) (serving_right v l) s x (fails_first x (serve_tests v l s) ((serve_refusals.refused x).0 e))

-- the values of an answer are its own numbers, each under its own name
pub service_values_lem : (e : TurnEnding)
    → service_values (record { turned = record { steps = 1; ending = e; saved = 2; listed = 3 }; owner = 4; left = 5; waiting = 6; resting = 7 })
    ≡ record { steps = 1; saved = 2; listed = 3; owner = 4; left = 5; waiting = 6; resting = 7 }
service_values_lem e = refl
