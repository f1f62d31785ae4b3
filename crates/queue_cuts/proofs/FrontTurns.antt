-- A turn of the front entry, and which entries are an owner's after it.
use Prim.Native.Nat.{ℕ, zero, suc, ◌-◌}
use native.Mathlib.Omega.{arith}
use mathlib.Core.Path.{◌≡◌, refl, sym, ◌∙◌, ap, subst}
use mathlib.Core.Bool.{Bool, true, false, cond}
use mathlib.Core.Option.{Option, none, some}
use mathlib.Core.List.{List, [], ◌∷◌, ◌++◌}
use lib.ListN.{take}
use lib.Dec.{eqb, leb}
use borrow.Author.Tests.{eqb-false, ne_eqb, le-leb}
use Rattle.sequences.specs.Sequences.{member}
use Rattle.words.specs.Tests.{first_failing}
use Rattle.calls.specs.Calls.{result_by_number, result_of_call}
use Rattle.sequences.proofs.Booleans.{or_left, or_right}
use Rattle.turns.specs.Surveys.{Survey}
use Rattle.turns.specs.declared.TurnEnding.{TurnEnding}
use Rattle.turns.specs.declared.TurnEnding.TheVariants as ending
use Rattle.turns.specs.Turns.{TurnResult}
use Rattle.queues.specs.declared.Entry.{Entry}
use Rattle.queues.specs.Lists.{LentLists, line_of, aside_of, owners_in, has_steps, has_none, Queue}
use Rattle.queues.specs.Serving.{Serving, ServeResult, entry_after, front_turn, requeued, turned_to, front_served, serve_schema, serve_of, serve_tests}
use Rattle.queues.specs.Serving.{service_with}
use Rattle.queues.specs.Calls.{serve, MadeCall, lent_to, after_service, after_call}
use Rattle.queries.specs.Stepping.{is_served}
use Rattle.queue_cuts.specs.Owners.{NoneOf}
use Rattle.queues.proofs.Moving.{queue, line_lent, aside_lent, both_taken}

-- ---- entries of others
module _ (owner : ℕ) where
  pub other : (e : Entry) (es : List Entry) → (e.owner ≡ owner → ⊥) → NoneOf owner es → NoneOf owner (e ∷ es)
  unfolding member
  other e es h n = rw (ne_eqb owner e.owner (λ f. h (sym f)), n)

  pub not_first : (e : Entry) (es : List Entry) → NoneOf owner (e ∷ es) → e.owner ≡ owner → ⊥
  unfolding member
  not_first e es n h = eqb-false owner e.owner (or_left (eqb owner e.owner) (member owner (owners_in es)) n) (sym h)

  pub none_behind : (e : Entry) (es : List Entry) → NoneOf owner (e ∷ es) → NoneOf owner es
  unfolding member
  none_behind e es n = or_right (eqb owner e.owner) (member owner (owners_in es)) n

  pub none_both : (xs ys : List Entry) → NoneOf owner xs → NoneOf owner ys → NoneOf owner (xs ++ ys)
  none_both [] ys n k = k
  none_both (x ∷ xs) ys n k = other x (xs ++ ys) (not_first x xs n) (none_both xs ys (none_behind x xs n) k)

  pub none_of_no_one : NoneOf owner []
  unfolding member
  none_of_no_one = refl

  pub none_and_one : (xs : List Entry) (e : Entry) → NoneOf owner xs → (e.owner ≡ owner → ⊥) → NoneOf owner (xs ++ (e ∷ []))
  none_and_one xs e n h = none_both xs (e ∷ []) n (other e [] h none_of_no_one)

  pub has_one : (xs ys : List Entry) (e : Entry) → e.owner ≡ owner → NoneOf owner (xs ++ (e ∷ ys)) → ⊥
  has_one [] ys e h n = not_first e ys n h
  has_one (x ∷ xs) ys e h n = has_one xs ys e h (none_behind x (xs ++ (e ∷ ys)) n)

-- ---- a turn of the front entry
pub record FrontTold (v : Survey) (s : Serving) (e : Entry) (y : ServeResult) : Type 0 where
  pub turned : y.answer.turned ≡ (front_turn v s e).answer
  pub output : y.buffers.output ≡ (front_turn v s e).buffers.output
  pub served : (x : ℕ) → (front_turn v s e).answer.ending ≡ ending.Refused x → ⊥

abbrev pub NotDone : Survey → Serving → Entry → Type 0
NotDone v s e = ¬ ((front_turn v s e).answer.ending ≡ ending.Done)

pub some_left : (n : ℕ) → eqb n 0 ≡ false → leb 1 n ≡ true
some_left zero e = absurd (eqb-false 0 0 e refl)
some_left (suc n) e = le-leb 1 (suc n) (omega arith)

pub data Serviced (v : Survey) (s : Serving) (q : Queue) (y : ServeResult) : Queue → Type 0 where
  not_served : is_served y.answer.turned.ending ≡ false → Serviced v s q y q
  off : (e : Entry) (es : List Entry) → q.line ≡ e ∷ es → FrontTold v s e y → Serviced v s q y (queue es q.aside)
  on : (e : Entry) (es : List Entry) → q.line ≡ e ∷ es → FrontTold v s e y → NotDone v s e → has_steps (entry_after e (front_turn v s e)) ≡ true
      → Serviced v s q y (queue (es ++ (entry_after e (front_turn v s e) ∷ [])) q.aside)
  out : (e : Entry) (es : List Entry) → q.line ≡ e ∷ es → FrontTold v s e y → NotDone v s e → has_none (entry_after e (front_turn v s e)) ≡ true
      → Serviced v s q y (queue es (q.aside ++ (entry_after e (front_turn v s e) ∷ [])))

module _ (v : Survey) (q : Queue) (m : MadeCall) (s : Serving) where
  abbrev held : LentLists
  held = lent_to q m

  module _ (e : Entry) (es : List Entry) (line_is : line_of held ≡ e ∷ es) where
    abbrev r : TurnResult
    r = front_turn v s e

    front : q.line ≡ e ∷ es
    front = sym (line_lent q m) ∙ line_is

    told : (line aside : List Entry) → ((x : ℕ) → r.answer.ending ≡ ending.Refused x → ⊥) → FrontTold v s e (service_with held e r line aside)
    told line aside h = record { turned = refl; output = refl; served = h }

    -- the lists of a turn that was served are those it left
    left : (y : ServeResult) (x : TurnEnding) → ((z : ℕ) → x ≡ ending.Refused z → ⊥)
        → after_service q y x ≡ queue (take y.answer.waiting y.buffers.line) (take y.answer.resting y.buffers.aside)
    left y ending.Done h = refl
    left y ending.Spent h = refl
    left y ending.Full h = refl
    left y (ending.Refused z) h = absurd (h z refl)

    to : (line aside aside' : List Entry) → ((x : ℕ) → r.answer.ending ≡ ending.Refused x → ⊥) → aside ≡ aside'
        → Serviced v s q (service_with held e r line aside) (queue line aside')
        → Serviced v s q (service_with held e r line aside) (after_service q (service_with held e r line aside) r.answer.ending)
    to line aside aside' h f k =
        subst (λ (x : Queue). Serviced v s q (service_with held e r line aside) x)
        (sym (left (service_with held e r line aside) r.answer.ending h ∙ both_taken held line aside line aside' refl f)) k

    back : ((x : ℕ) → r.answer.ending ≡ ending.Refused x → ⊥) → NotDone v s e
        → Serviced v s q (requeued held e es r) (after_service q (requeued held e es r) (requeued held e es r).answer.turned.ending)
    back h f = by_left (eqb (e.allowance - r.answer.steps) 0) refl
      where
        d : Entry
        d = entry_after e r

        choose : Bool → ServeResult
        choose b = cond b (service_with held e r es (aside_of held ++ (d ∷ []))) (service_with held e r (es ++ (d ∷ [])) (aside_of held))

        by_left : (b : Bool) → eqb (e.allowance - r.answer.steps) 0 ≡ b
            → Serviced v s q (choose b) (after_service q (choose b) (choose b).answer.turned.ending)
        by_left true z =
            to es (aside_of held ++ (d ∷ [])) (q.aside ++ (d ∷ [])) h (ap (λ (ds : List Entry). ds ++ (d ∷ [])) (aside_lent q m))
            (out e es front (told es (aside_of held ++ (d ∷ [])) h) f z)
        by_left false z =
            to (es ++ (d ∷ [])) (aside_of held) q.aside h (aside_lent q m)
            (on e es front (told (es ++ (d ∷ [])) (aside_of held) h) f (some_left (e.allowance - r.answer.steps) z))

    by_ending_lem : (x : TurnEnding) → r.answer.ending ≡ x
        → Serviced v s q (turned_to held s e es r x) (after_service q (turned_to held s e es r x) (turned_to held s e es r x).answer.turned.ending)
    by_ending_lem ending.Done is =
        let h : (x : ℕ) → r.answer.ending ≡ ending.Refused x → ⊥ = λ x f. let z : ◌≡◌ {A = ℕ} 0 1 = cc in omega arith in
        to es (aside_of held) q.aside h (aside_lent q m) (off e es front (told es (aside_of held) h))
    by_ending_lem ending.Spent is = back (λ x f. let z : ◌≡◌ {A = ℕ} 0 1 = cc in omega arith) (λ f. let z : ◌≡◌ {A = ℕ} 0 1 = cc in omega arith)
    by_ending_lem ending.Full is = back (λ x f. let z : ◌≡◌ {A = ℕ} 0 1 = cc in omega arith) (λ f. let z : ◌≡◌ {A = ℕ} 0 1 = cc in omega arith)
    by_ending_lem (ending.Refused x) is = not_served refl

  by_line : (es : List Entry) → line_of held ≡ es
      → Serviced v s q (front_served v held s es) (after_service q (front_served v held s es) (front_served v held s es).answer.turned.ending)
  by_line [] is = not_served refl
  by_line (e ∷ es) is = by_ending_lem e es is (front_turn v s e).answer.ending refl

  pub serves : Serviced v s q (serve_of v held s) (after_call v q held (serve s))
  unfolding result_of_call
  serves = by_tests (first_failing (serve_tests v held s))
    where
      by_tests : (o : Option ℕ) → let y = result_by_number (serve_schema v held) s o in Serviced v s q y (after_service q y y.answer.turned.ending)
      by_tests (some x) = not_served refl
      by_tests none = by_line (line_of held) refl
