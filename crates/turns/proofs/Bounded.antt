-- A bounded run of any machine: where it is on the machine's run after each attempt at a further step; it takes a step where a row alone
-- fits; what has stopped stays so; an attempt adds at most one row.
use Prim.Native.Nat.{ℕ, zero, suc, ◌+◌, ◌-◌, ◌≤◌, ◌<◌}
use native.Mathlib.Omega.{arith}
use native.Mathlib.Decide.{dec_lt}
use mathlib.Core.Path.{◌≡◌, refl, sym, ◌∙◌, ap, subst}
use mathlib.Core.Bool.{Bool, true, false, cond}
use mathlib.Core.Option.{Option, none, some}
use mathlib.Core.List.{List, [], ◌∷◌, ◌++◌}
use lib.ListN.{length, length-append}
use Rattle.sequences.specs.Sequences.{iterate}
use Rattle.sequences.proofs.Booleans.{absurd_true}
use Rattle.words.proofs.Testing.{none_some}
use Rattle.sequences.proofs.Iterating.{iterate_add, iterate_fixed}
use Rattle.steps.specs.Machines.{Step, moves, delivers, ends, Machine, Run, stepped, run_from}
use Rattle.steps.proofs.MachineRuns.{from_next}
use Rattle.turns.specs.declared.TurnEnding.{TurnEnding}
use Rattle.turns.specs.declared.TurnEnding.TheVariants.{Done, Spent, Full, Refused}
use Rattle.turns.specs.Bounded.{Progress, going, stopped, ending_of, steps_of, left_of, rows_of, is_done, is_over, tried, try_step, progress}

module _ {S R : Type 0} (f : Machine S R) (fits : List R → Bool) where
  -- the next step would deliver a row that does not fit with those so far
  pub record Blocked (o : Option S) (bs : List R) : Type 0 where
    pub state : S
    pub row : R
    pub next : S
    pub here : o ≡ some state
    pub would_deliver : f state ≡ delivers row next
    pub unfit : fits (bs ++ (row ∷ [])) ≡ false

  -- after some steps of the run there is a next one, and a row that it delivers fits
  pub record GoesOn (r : Run S R) : Type 0 where
    pub state : S
    pub here : r.state ≡ some state
    pub fitting : (b : R) (u : S) → f state ≡ delivers b u → fits (r.delivered ++ (b ∷ [])) ≡ true

  -- how k attempts have come to this
  abbrev pub How : ℕ → Progress S R → Type 0
  How k (going n s bs) = n ≡ k
  How k (stopped Done n s bs) = (s ≡ none) × (n ≤ k)
  How k (stopped Full n s bs) = (n < k) × Blocked s bs
  How k (stopped Spent n s bs) = ⊥
  How k (stopped (Refused x) n s bs) = ⊥

  pub record AfterAttempts (s : S) (k : ℕ) (p : Progress S R) : Type 0 where
    -- the steps are steps of the run
    pub run : run_from f s (steps_of p) ≡ record { state = left_of p; delivered = rows_of p }
    -- no step was taken where the run was over, or a row did not fit
    pub taken : (m : ℕ) → m < steps_of p → GoesOn (run_from f s m)
    -- the rows fit
    pub fitted : fits [] ≡ true → fits (rows_of p) ≡ true
    pub how : How k p

  -- it is done exactly where no state is left
  pub done_over : (k : ℕ) (p : Progress S R) → How k p → is_done (ending_of p) ≡ is_over (left_of p)
  done_over k (going n u bs) h = refl
  done_over k (stopped Done n o bs) h = sym (ap is_over h.0)
  done_over k (stopped Full n o bs) h = sym (ap is_over h.1.here)
  done_over k (stopped Spent n o bs) h = absurd h
  done_over k (stopped (Refused x) n o bs) h = absurd h

  -- ---- after each attempt
  module _ (s : S) where
    -- all steps up to and with the one after n
    with_last : (n : ℕ) → ((m : ℕ) → m < n → GoesOn (run_from f s m)) → GoesOn (run_from f s n)
        → (m : ℕ) → m < n + 1 → GoesOn (run_from f s m)
    with_last n h g m l =
        elim (dec_lt m n) [
          | yes k ↦ h m k
          | no k ↦ subst (λ j. GoesOn (run_from f s j)) (let p : n ≡ m = omega arith in p) g
        ]

    -- a further attempt
    attempt : (k : ℕ) (p : Progress S R) → AfterAttempts s k p → AfterAttempts s (suc k) (try_step f fits p)
    unfolding try_step
    attempt k (going n u bs) h = go (f u) refl
      where
        goes_on_fact : ((b : R) (v : S) → f u ≡ delivers b v → fits (bs ++ (b ∷ [])) ≡ true) → GoesOn (run_from f s n)
        goes_on_fact g =
            record {
              state = u;
              here = ap (λ (r : Run S R). r.state) h.run;
              fitting = λ b v e. ap (λ (r : Run S R). fits (r.delivered ++ (b ∷ []))) h.run ∙ g b v e;
            }

        deliver : (b : R) (v : S) → f u ≡ delivers b v → (x : Bool) → fits (bs ++ (b ∷ [])) ≡ x
            → AfterAttempts s (suc k) (cond x (going (n + 1) v (bs ++ (b ∷ []))) (stopped Full n (some u) bs))
        deliver b v e true g =
            record {
              run = from_next f s u n bs h.run ∙ ap (stepped bs) e;
              taken = with_last n h.taken
                  (goes_on_fact (λ c w d. ap (λ (x : R). fits (bs ++ (x ∷ []))) (let p : c ≡ b = cc in p) ∙ g));
              fitted = λ z. g;
              how = omega (arith, h.how);
            }
        deliver b v e false g =
            record {
              run = h.run;
              taken = h.taken;
              fitted = h.fitted;
              how = (
                omega (arith, h.how),
                record { state = u; row = b; next = v; here = refl; would_deliver = e; unfit = g },
              );
            }

        go : (x : Step S R) → f u ≡ x → AfterAttempts s (suc k) (tried fits n u bs (f u))
        go (moves v) e =
            rw e
            (record {
              run = from_next f s u n bs h.run ∙ ap (stepped bs) e;
              taken = with_last n h.taken (goes_on_fact (λ b w d. let z : ◌≡◌ {A = ℕ} 0 1 = cc in absurd (omega arith)));
              fitted = h.fitted;
              how = omega (arith, h.how);
            })
        go (delivers b v) e = rw e (deliver b v e (fits (bs ++ (b ∷ []))) refl)
        go ends e =
            rw e
            (record {
              run = from_next f s u n bs h.run ∙ ap (stepped bs) e;
              taken = with_last n h.taken (goes_on_fact (λ b w d. let z : ◌≡◌ {A = ℕ} 0 1 = cc in absurd (omega arith)));
              fitted = h.fitted;
              how = (refl, omega (arith, h.how));
            })
    attempt k (stopped Done n o bs) h =
        record { run = h.run; taken = h.taken; fitted = h.fitted; how = (h.how.0, omega (arith, h.how.1)) }
    attempt k (stopped Full n o bs) h =
        record { run = h.run; taken = h.taken; fitted = h.fitted; how = (omega (arith, h.how.0), h.how.1) }
    attempt k (stopped Spent n o bs) h = absurd h.how
    attempt k (stopped (Refused x) n o bs) h = absurd h.how

    -- `k` attempts from the state `s`
    pub after_attempts : (k : ℕ) → AfterAttempts s k (progress f fits k s)
    unfolding progress iterate
    after_attempts zero = record { run = refl; taken = λ m l. absurd (omega arith); fitted = λ e. e; how = refl }
    after_attempts (suc k) = attempt k (progress f fits k s) (after_attempts k)

    -- where each row alone fits, one attempt or more takes at least one step; and no more steps than attempts
    pub some_steps : ((b : R) → fits (b ∷ []) ≡ true) → (k : ℕ) → 1 ≤ k → (p : Progress S R) → AfterAttempts s k p
        → (1 ≤ steps_of p) × (steps_of p ≤ k)
    unfolding iterate
    some_steps first k l (going n u bs) h = (omega (arith, h.how), omega (arith, h.how))
    some_steps first k l (stopped Done zero o bs) h =
        absurd (none_some (sym h.how.0 ∙ sym (ap (λ (r : Run S R). r.state) h.run)))
    some_steps first k l (stopped Done (suc n) o bs) h = (omega arith, h.how.1)
    some_steps first k l (stopped Full zero o bs) h =
        let b = h.how.1 in
        let e : [] ≡ bs = ap (λ (r : Run S R). r.delivered) h.run in
        absurd_true (first b.row) (ap (λ (rows : List R). fits (rows ++ (b.row ∷ []))) e ∙ b.unfit)
    some_steps first k l (stopped Full (suc n) o bs) h = (omega arith, omega (arith, h.how.0))
    some_steps first k l (stopped Spent n o bs) h = absurd h.how
    some_steps first k l (stopped (Refused x) n o bs) h = absurd h.how

    -- k attempts, and m more
    pub progress_more : (k m : ℕ) → progress f fits (k + m) s ≡ iterate (try_step f fits) m (progress f fits k s)
    unfolding progress
    progress_more k m = iterate_add (try_step f fits) k m (going 0 s [])

    -- one more, where it is under way
    pub progress_going : (k n : ℕ) (u : S) (bs : List R) → progress f fits k s ≡ going n u bs
        → progress f fits (k + 1) s ≡ tried fits n u bs (f u)
    unfolding iterate try_step
    progress_going k n u bs h = progress_more k 1 ∙ ap (try_step f fits) h

    -- what has stopped stays so
    pub stopped_stays : (k m : ℕ) (e : TurnEnding) (n : ℕ) (o : Option S) (bs : List R) → progress f fits k s ≡ stopped e n o bs → k ≤ m
        → progress f fits m s ≡ stopped e n o bs
    unfolding try_step
    stopped_stays k m e n o bs h l =
        let j : m ≡ k + (m - k) = omega arith in
        ap (λ i. progress f fits i s) j
        ∙ progress_more k (m - k)
        ∙ ap (iterate (try_step f fits) (m - k)) h
        ∙ iterate_fixed (try_step f fits) (m - k) (stopped e n o bs) refl

    -- ---- at most a row an attempt
    tried_rows : (k n : ℕ) (u : S) (bs : List R) (x : Step S R) → length bs ≤ k → length (rows_of (tried fits n u bs x)) ≤ suc k
    tried_rows k n u bs (moves v) h = omega arith
    tried_rows k n u bs (delivers b v) h = go (fits (bs ++ (b ∷ [])))
      where
        go : (y : Bool) → length (rows_of (cond y (going (n + 1) v (bs ++ (b ∷ []))) (stopped Full n (some u) bs))) ≤ suc k
        go true = omega (arith, length-append bs (b ∷ []))
        go false = omega arith
    tried_rows k n u bs ends h = omega arith

    next_rows : (k : ℕ) (p : Progress S R) → length (rows_of p) ≤ k → length (rows_of (try_step f fits p)) ≤ suc k
    unfolding try_step
    next_rows k (going n u bs) h = tried_rows k n u bs (f u) h
    next_rows k (stopped e n o bs) h = omega arith

    pub progress_rows : (k : ℕ) → length (rows_of (progress f fits k s)) ≤ k
    unfolding progress iterate
    progress_rows zero = omega arith
    progress_rows (suc k) = next_rows k (progress f fits k s) (progress_rows k)
