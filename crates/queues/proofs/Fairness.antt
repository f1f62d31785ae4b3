-- A query in the line is served after no more turns than its place from the front, refused ones not counted, whoever joins.
use Prim.Native.Nat.{ℕ, zero, suc, ◌+◌, ◌-◌, ◌≤◌}
use native.Mathlib.Omega.{arith}
use mathlib.Core.Path.{◌≡◌, refl, sym, ◌∙◌, ap}
use mathlib.Core.Bool.{Bool, true, false, cond}
use mathlib.Core.Option.{Option, none, some}
use mathlib.Core.List.{List, [], ◌∷◌, ◌++◌}
use lib.Dec.{eqb}
use borrow.Author.Tests.{eqb-true}
use Rattle.words.proofs.Testing.{none_some}
use Rattle.turns.specs.Surveys.{Survey}
use Rattle.turns.specs.declared.TurnEnding.{TurnEnding}
use Rattle.queues.specs.declared.Entry.{Entry}
use Rattle.queues.specs.Lists.{Queue}
use Rattle.queues.specs.Calls.{MadeCall, lent_to, Deed, turns, after_call, after_calls, deed_of, deeds, turns_of, turns_in, place_in_line, Fair}
use Rattle.queues.proofs.Moving.{Moves, stays, waits, rests, returns, leaves, goes_on_fact, runs_out, call_moves}

module _ (owner : ℕ) where
  abbrev further : Option ℕ → Option ℕ
  further o = elim o [ none ↦ none | some p ↦ some (p + 1) ]

  back_one : (o : Option ℕ) (p : ℕ) → further o ≡ some p → (p ≡ 0 → ⊥) × (o ≡ some (p - 1))
  back_one none p h = absurd (none_some h)
  back_one (some k) p h = let e : k + 1 ≡ p = cc in ((λ z. omega arith), ap (λ (x : ℕ). some x) (let g : k ≡ p - 1 = omega arith in g))

  place_append : (es xs : List Entry) (p : ℕ) → place_in_line owner es ≡ some p → place_in_line owner (es ++ xs) ≡ some p
  unfolding place_in_line
  place_append [] xs p h = absurd (none_some h)
  place_append (e ∷ es) xs p h = by_owner_lem (λ k g. place_append es xs k g) (eqb e.owner owner) h
    where
      by_owner_lem : ((k : ℕ) → place_in_line owner es ≡ some k → place_in_line owner (es ++ xs) ≡ some k) → (b : Bool)
          → cond b (some 0) (further (place_in_line owner es)) ≡ some p → cond b (some 0) (further (place_in_line owner (es ++ xs))) ≡ some p
      by_owner_lem again true g = g
      by_owner_lem again false g =
          let k = back_one (place_in_line owner es) p g in
          ap further (again (p - 1) k.1) ∙ ap (λ (x : ℕ). some x) (let z = k.0 in positive p z)
        where
          positive : (n : ℕ) → (n ≡ 0 → ⊥) → n - 1 + 1 ≡ n
          positive zero z = absurd (z refl)
          positive (suc n) z = omega arith

  -- the front, or one further on behind it
  place_front : (e : Entry) (es : List Entry) (p : ℕ) → place_in_line owner (e ∷ es) ≡ some p → 1 ≤ p → place_in_line owner es ≡ some (p - 1)
  unfolding place_in_line
  place_front e es p h l = by_owner_lem (eqb e.owner owner) h
    where
      by_owner_lem : (b : Bool) → cond b (some 0) (further (place_in_line owner es)) ≡ some p → place_in_line owner es ≡ some (p - 1)
      by_owner_lem true g = absurd (let z : 0 ≡ p = cc in omega arith)
      by_owner_lem false g = (back_one (place_in_line owner es) p g).1

  at_front : (e : Entry) (es : List Entry) → place_in_line owner (e ∷ es) ≡ some 0 → e.owner ≡ owner
  unfolding place_in_line
  at_front e es h = by_owner_lem (eqb e.owner owner) refl h
    where
      by_owner_lem : (b : Bool) → eqb e.owner owner ≡ b → cond b (some 0) (further (place_in_line owner es)) ≡ some 0 → e.owner ≡ owner
      by_owner_lem true s g = eqb-true e.owner owner s
      by_owner_lem false s g = absurd ((back_one (place_in_line owner es) 0 g).0 refl)

  abbrev as_was : (p : ℕ) {o : Option ℕ} → o ≡ some p → o ≡ some (p - 0)
  as_was p h = h ∙ ap (λ (x : ℕ). some x) (let g : p ≡ p - 0 = omega arith in g)

  -- one call
  one_moves : {q r : Queue} {d : Deed} → Moves q r d → (p : ℕ) → place_in_line owner q.line ≡ some p → turns_of d ≤ p
      → place_in_line owner r.line ≡ some (p - turns_of d)
  one_moves stays p h l = as_was p h
  one_moves {q} (waits e) p h l = as_was p (place_append q.line (e ∷ []) p h)
  one_moves (rests e z) p h l = as_was p h
  one_moves (returns line before behind e n z) p h l = as_was p (place_append line _ p h)
  one_moves (leaves e es aside n k) p h l = place_front e es p h l
  one_moves (goes_on_fact e d es aside x n k not_done same left) p h l = place_append es (d ∷ []) (p - 1) (place_front e es p h l)
  one_moves (runs_out e d es aside x n k not_done same left z) p h l = place_front e es p h l

  -- a turn from place 0 is its own
  one_its : {q r : Queue} {d : Deed} → Moves q r d → place_in_line owner q.line ≡ some 0 → (o : ℕ) (x : TurnEnding) (n left : ℕ)
      → d ≡ turns o x n left → o ≡ owner
  one_its stays h o x n left e = absurd (let z : ◌≡◌ {A = ℕ} 0 1 = cc in omega arith)
  one_its (waits a) h o x n left e = absurd (let z : ◌≡◌ {A = ℕ} 0 1 = cc in omega arith)
  one_its (rests a z) h o x n left e = absurd (let z : ◌≡◌ {A = ℕ} 0 1 = cc in omega arith)
  one_its (returns line before behind a k z) h o x n left e = absurd (let z : ◌≡◌ {A = ℕ} 0 1 = cc in omega arith)
  one_its (leaves a es aside k l) h o x n left e = let z : a.owner ≡ o = cc in sym z ∙ at_front a es h
  one_its (goes_on_fact a d es aside y k l not_done same m) h o x n left e = let z : a.owner ≡ o = cc in sym z ∙ at_front a es h
  one_its (runs_out a d es aside y k l not_done same m w) h o x n left e = let z : a.owner ≡ o = cc in sym z ∙ at_front a es h

  moves_up : (v : Survey) (ms : List MadeCall) (q : Queue) (p : ℕ) → place_in_line owner q.line ≡ some p → turns_in (deeds v q ms) ≤ p
      → place_in_line owner (after_calls v q ms).line ≡ some (p - turns_in (deeds v q ms))
  unfolding after_calls deeds turns_in
  moves_up v [] q p h l = as_was p h
  moves_up v (m ∷ ms) q p h l =
      let q' = after_call v q (lent_to q m) m.call in
      let d = deed_of v (lent_to q m) m.call in
      moves_up v ms q' (p - turns_of d) (one_moves (call_moves v q m m.call) p h (omega arith)) (omega arith)
      ∙ ap (λ (x : ℕ). some x) (let g : p - turns_of d - turns_in (deeds v q' ms) ≡ p - (turns_of d + turns_in (deeds v q' ms)) = omega arith in g)

pub fair : (v : Survey) (q : Queue) (owner p : ℕ) → place_in_line owner q.line ≡ some p → Fair v q owner p
fair v q owner p h =
    record {
      moves_up = λ ms l. moves_up owner v ms q p h l;
      next_is_its = λ ms e m o x n left is.
          one_its owner (call_moves v (after_calls v q ms) m m.call)
          (moves_up owner v ms q p h (omega arith) ∙ ap (λ (x : ℕ). some x) (let g : p - turns_in (deeds v q ms) ≡ 0 = omega arith in g)) o x n left is;
    }
