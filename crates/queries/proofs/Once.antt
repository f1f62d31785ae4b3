-- The turns of the uncut run are fixed by their quantum and their output: from one place on there is one turn, and the same number of turns from
-- the start ends at one place.
use Prim.Native.Nat.{ℕ, ◌+◌, ◌-◌, ◌≤◌, ◌<◌}
use native.Mathlib.Omega.{arith}
use native.Mathlib.Decide.{dec_lt}
use mathlib.Core.Path.{◌≡◌, refl, sym, ◌∙◌, ap, subst}
use mathlib.Core.Bool.{true, false}
use mathlib.Core.Option.{Option, none, some}
use mathlib.Core.List.{List, []}
use lib.ListN.{length, drop, length-append}
use Rattle.tables.specs.Tables.{Tables}
use Rattle.plans.specs.Plans.{Plan, plan_of}
use Rattle.steps.specs.Steps.{State, Run, after}
use Rattle.steps.proofs.Runs.{done_later}
use Rattle.lists.specs.Closing.{list_at}
use Rattle.turns.specs.declared.TurnEnding.{TurnEnding}
use Rattle.turns.specs.Turns.{is_over}
use Rattle.cuts.specs.Uncut.{EndsAt, run_fits}
use Rattle.cuts.specs.Accepting.{Accepted}
use Rattle.queries.specs.Playing.{list_between, TurnEnds, spent, full, done, Turn, Turns, none_made, one_more_fact}
use Rattle.queries.proofs.Lengths.{rows_later, list_later}

module _ (t : Tables) (plan : List ℕ) (a : Accepted t plan) where
  abbrev q : Plan
  q = plan_of plan

  -- more steps make no shorter list
  between_grows : (from m n : ℕ) → from ≤ m → length (list_between t plan from m) ≤ length (list_between t plan from (m + n))
  between_grows from m n l =
      let first = rows_later t plan a from (m - from) in
      let d : from + (m - from) ≡ m = omega arith in
      let f = ap length first.1 ∙ length-append (after t q from).delivered first.0 in
      list_later t plan a (length (after t q from).delivered) m n (omega (arith, ap (λ j. length (after t q j).delivered) d, f))

  module _ (quantum room : ℕ) where
    -- no turn goes on where the run is over
    past_over : (m from n : ℕ) → (after t q m).state ≡ none → m < n → Turn t plan quantum room from n → ⊥
    past_over m from n e l y = go y.ending y.ends
      where
        stays : (j : ℕ) → m ≤ j → after t q j ≡ after t q m
        stays j g = done_later t q m j g e

        go : (k : TurnEnding) → TurnEnds t plan quantum room from n k → ⊥
        go k (spent g f) = f (ap (λ (r : Run). r.state) (stays n (omega arith)) ∙ e)
        go k (full g f) =
            let j = length (after t q from).delivered in
            let same = stays (n + 1) (omega arith) ∙ sym (stays n (omega arith)) in
            omega (arith, f, y.fits, ap (λ (r : Run). length (list_at q.ending [] (is_over r.state) (drop j r.delivered))) same)
        go k (done g) = g.not_before m l e

    pub not_past : (m from n : ℕ) → EndsAt t q m → m < n → Turn t plan quantum room from n → ⊥
    not_past m from n e l y = past_over m from n e.over l y

    -- so it goes on where a turn begins
    pub turn_going : (from to : ℕ) → Turn t plan quantum room from to → is_over (after t q from).state ≡ false
    turn_going from to y = go (after t q from).state refl
      where
        go : (o : Option State) → (after t q from).state ≡ o → is_over (after t q from).state ≡ false
        go none e = absurd (past_over from from to e y.further y)
        go (some s) e = ap is_over e

    -- and none ends before another from the same place
    not_sooner : (from m n : ℕ) → Turn t plan quantum room from m → Turn t plan quantum room from n → m < n → ⊥
    not_sooner from m n x y l = go x.ending x.ends
      where
        go : (k : TurnEnding) → TurnEnds t plan quantum room from m k → ⊥
        go k (spent e f) = omega (arith, e, y.within)
        go k (full e f) =
            let d : (m + 1) + (n - (m + 1)) ≡ n = omega arith in
            let grows = between_grows from (m + 1) (n - (m + 1)) (omega (arith, x.further)) in
            omega (arith, f, grows, ap (λ j. length (list_between t plan from j)) d, y.fits)
        go k (done e) = not_past m from n e l y

    pub turn_once : (from m n : ℕ) → Turn t plan quantum room from m → Turn t plan quantum room from n → m ≡ n
    turn_once from m n x y =
        elim (dec_lt m n) [
          | yes l ↦ absurd (not_sooner from m n x y l)
          | no f ↦ elim (dec_lt n m) [
            | yes l ↦ absurd (not_sooner from n m y x l)
            | no g ↦ omega arith
          ]
        ]

    pub turns_once : (c d m n : ℕ) → Turns t plan quantum room c m → Turns t plan quantum room d n → c ≡ d → m ≡ n
    turns_once c d m n none_made none_made e = refl
    turns_once c d m n none_made (one_more_fact k from to ts x f) e = absurd (omega arith)
    turns_once c d m n (one_more_fact k from to ts x f) none_made e = absurd (omega arith)
    turns_once c d m n (one_more_fact k from to ts x f) (one_more_fact l from₁ to₁ us y g) e =
        let p : from ≡ from₁ = turns_once k l from from₁ ts us (omega arith) in
        turn_once from₁ to to₁ (subst (λ f. Turn t plan quantum room f to) p x) y

    -- where `c` turns end the run, no more are made
    pub no_further : (c d m n : ℕ) → Turns t plan quantum room c m → EndsAt t q m → Turns t plan quantum room d n → c < d → ⊥
    no_further c d m n ts e none_made l = omega arith
    no_further c d m n ts e (one_more_fact k from to us y g) l =
        elim (dec_lt c k) [
          | yes f ↦ no_further c k m from ts e us f
          | no f ↦ let p : m ≡ from = turns_once c k m from ts us (omega arith) in not_past m from to e (omega (arith, y.further)) y
        ]

    -- a turn that was made, with the turns before it: its totals fit, and it ends no later than the last one
    pub record Made (c n : ℕ) : Type 0 where
      pub from : ℕ
      pub to : ℕ
      pub before : Turns t plan quantum room c from
      pub turn : Turn t plan quantum room from to
      pub fits : run_fits q.ending (after t q to) ≡ true
      pub within : to ≤ n

    -- the turn after the first ones of those that were made
    pub made_after : (c d n : ℕ) → Turns t plan quantum room d n → c < d → Made c n
    made_after c d n none_made l = absurd (omega arith)
    made_after c d n (one_more_fact k from to us y g) l =
        elim (dec_lt c k) [
          | yes f ↦
              let r = made_after c k from us f in
              record { from = r.from; to = r.to; before = r.before; turn = r.turn; fits = r.fits; within = omega (arith, r.within, y.further) }
          | no f ↦
              record {
                from = from;
                to = to;
                before = subst (λ j. Turns t plan quantum room j from) (let e : k ≡ c = omega arith in e) us;
                turn = y;
                fits = g;
                within = omega arith;
              }
        ]
