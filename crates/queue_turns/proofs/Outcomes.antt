-- Where the front entry goes after its turn, by places and by the definition.
use Prim.Native.Nat.{ℕ, ◌+◌, ◌-◌, ◌<◌, ◌≤◌}
use native.Mathlib.Omega.{arith}
use mathlib.Core.Path.{◌≡◌, refl, sym, ◌∙◌, ap}
use mathlib.Core.Bool.{Bool, true, false, cond}
use mathlib.Core.List.{List, [], ◌∷◌, ◌++◌}
use lib.Dec.{eqb}
use lib.ListN.{length, take, drop, length-append, length-drop}
use lib.Seq.{length-take-le}
use Rattle.sequences.proofs.Booleans.{absurd_true}
use Rattle.turns.specs.declared.TurnEnding.{TurnEnding}
use Rattle.turns.specs.declared.TurnEnding.TheVariants as ending
use Rattle.turns.specs.Turns.{TurnResult}
use Rattle.queues.specs.declared.Entry.{Entry}
use Rattle.queues.specs.Lists.{LentLists, lent_as, aside_of, entries_over}
use Rattle.queues.specs.Serving.{Serving, ServeResult, entry_after, service_with, refused_answer, turned_to}
use Rattle.queue_entries.proofs.Placing.{settled_added, settled_gone, settled_back, stays}
use Rattle.queue_changes.specs.Changes.{unchanged, appended, removed, rotated, changed}
use Rattle.queue_outcomes.specs.declared.Ended.{Ended}
use Rattle.queue_outcomes.specs.declared.ServeChanges.{ServeChanges}
use Rattle.queue_outcomes.specs.Services.{answered_by, dequeued_by, turn_outcome_by, DecidesServing}

module _ (s : Serving) (line : List Entry) (given : ℕ) (aside : List Entry) (kept : ℕ) (e : Entry) (r : TurnResult) (some_wait : 0 < given)
    (line_long : given ≤ length line) (aside_long : kept < length aside) where
  abbrev l : LentLists
  l = lent_as line given aside kept

  abbrev es : List Entry
  es = take (given - 1) (drop 1 line)

  abbrev e' : Entry
  e' = entry_after e r

  abbrev x : Ended
  x = record { turned = r.answer; entry = e' }

  -- ---- how many there are
  one_less : given - 1 ≡ length es
  one_less =
      sym (length-take-le (given - 1) (drop 1 line)
      (let z : given - 1 ≤ length (drop 1 line) = rw (length-drop 1 line) (omega (arith, line_long)) in z))

  as_many : given ≡ length (es ++ (e' ∷ []))
  as_many =
      sym (length-append es (e' ∷ []) ∙ ap (λ (n : ℕ). n + 1) (sym one_less) ∙ (let z : given - 1 + 1 ≡ given = omega (arith, some_wait) in z))

  all_rest : kept ≤ length aside
  all_rest = omega (arith, aside_long)

  resting : kept ≡ length (aside_of l)
  resting = sym (length-take-le kept aside all_rest)

  one_more_fact : kept + 1 ≡ length (aside_of l ++ (e' ∷ []))
  one_more_fact = sym (length-append (aside_of l) (e' ∷ []) ∙ ap (λ (n : ℕ). n + 1) (sym resting))

  -- ---- the lists
  gone : changed line (removed 0 given) e' ≡ entries_over es line
  gone =
      settled_gone line e' 0 given some_wait line_long
      ∙ ap (λ (n : ℕ). entries_over (take n (drop 1 line)) line) (let z : given - 1 - 0 ≡ given - 1 = omega arith in z)

  back : changed line (rotated given) e' ≡ entries_over (es ++ (e' ∷ [])) line
  back =
      settled_back line e' 0 given some_wait line_long
      ∙ ap (λ (n : ℕ). entries_over (take n (drop 1 line) ++ (e' ∷ [])) line) (let z : given - 1 - 0 ≡ given - 1 = omega arith in z)

  -- a service with `n` and `m` entries in the lists, and these buffers
  abbrev service : ℕ → ℕ → List Entry → List Entry → ServeResult
  service n m line aside =
      record {
        answer = record { turned = r.answer; owner = e.owner; left = e.allowance - r.answer.steps; waiting = n; resting = m };
        buffers = record { line = line; aside = aside; output = r.buffers.output };
      }

  leaves : DecidesServing l (dequeued_by x given kept) r.buffers.output (service_with l e r es (aside_of l))
  leaves =
      record {
        line = ((λ z. omega (arith, line_long)), (λ z. absurd_true z refl));
        aside = ((λ z. absurd (omega arith)), (λ z. absurd_true z refl));
        result = λ i. service (one_less i) (resting i) (gone i) (sym (stays aside kept all_rest) i);
      }

  goes_back : (b : Bool)
      → DecidesServing l
      (cond {A = ServeChanges} b
      (record { answer = answered_by x (given - 1) (kept + 1); line = removed 0 given; aside = appended kept; entry = e' })
      (record { answer = answered_by x given kept; line = rotated given; aside = unchanged; entry = e' }))
      r.buffers.output
      (cond b (service_with l e r es (aside_of l ++ (e' ∷ []))) (service_with l e r (es ++ (e' ∷ [])) (aside_of l)))
  goes_back true =
      record {
        line = ((λ z. omega (arith, line_long)), (λ z. absurd_true z refl));
        aside = ((λ z. absurd (omega arith)), (λ z. aside_long));
        result = λ i. service (one_less i) (one_more_fact i) (gone i) (settled_added aside e' kept aside_long i);
      }
  goes_back false =
      record {
        line = ((λ z. omega (arith, line_long)), (λ z. omega (arith, line_long, some_wait)));
        aside = ((λ z. absurd (omega arith)), (λ z. absurd_true z refl));
        result = λ i. service (as_many i) (resting i) (back i) (sym (stays aside kept all_rest) i);
      }

  -- by the ending; a refused turn wrote nothing
  pub goes_so : (y : TurnEnding) → ((z : ℕ) → y ≡ ending.Refused z → r.buffers.output ≡ s.output)
      → DecidesServing l (turn_outcome_by y x given kept) r.buffers.output (turned_to l s e es r y)
  goes_so ending.Done h = leaves
  goes_so ending.Spent h = goes_back (eqb (e.allowance - r.answer.steps) 0)
  goes_so ending.Full h = goes_back (eqb (e.allowance - r.answer.steps) 0)
  goes_so (ending.Refused z) h =
      record {
        line = ((λ z. absurd (omega arith)), (λ z. absurd_true z refl));
        aside = ((λ z. absurd (omega arith)), (λ z. absurd_true z refl));
        result = λ i. record { answer = refused_answer z; buffers = record { line = line; aside = aside; output = h z refl i } };
      }
