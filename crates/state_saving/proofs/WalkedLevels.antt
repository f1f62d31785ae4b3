-- Walking a cursor's upper levels from the outermost in, binding on the way: what it finds is test 10 of the upper places,
-- which the definition takes from the innermost out.
use Prim.Native.Nat.{ℕ, zero, suc, ◌+◌, ◌<◌}
use native.Mathlib.Omega.{arith}
use native.Mathlib.Decide.{dec_lt}
use mathlib.Core.Path.{◌≡◌, refl, sym, ◌∙◌, ap}
use mathlib.Core.Bool.{Bool, true, false, ◌&&◌}
use mathlib.Core.List.{List, ◌∷◌}
use lib.Dec.{eqb}
use lib.ListN.{length, set}
use borrow.Author.Tests.{eqb-true, eqb-false}
use Rattle.words.specs.Bindings.{Bindings, nothing_bound}
use Rattle.sequences.proofs.Booleans.{and_left, and_right}
use Rattle.tables.specs.declared.Place.{Place}
use Rattle.tables.specs.Tables.{Section}
use Rattle.tables.specs.Ranges.{range_end, in_range}
use Rattle.steps.specs.Levels.{level_prefix, passes, bind_place, bindings, under}
use Rattle.steps.specs.Positions.{upper_right, state_right}
use Rattle.step_levels.specs.Showing.{shown_at, bound_after}
use Rattle.step_cursors.specs.declared.Cursor.{Cursor}
use Rattle.step_cursors.specs.Carried.{place_at}
use Rattle.step_cursors.specs.Held.{upper_of, position_of, EndsAbove}
use Rattle.step_cursors.proofs.Cursors.{upper_length, upper_next, place_set, place_other}
use Rattle.state_saving.specs.Loading.{up_to_end}

module _ (t : Section) (terms : List ℕ) where
  upper_right_next : (place : ℕ) (upper : List ℕ) → upper_right t terms (place ∷ upper)
      ≡ (upper_right t terms upper && (in_range t.tables (under t terms upper) place && passes t terms (length upper) place (bindings t terms upper)))
  unfolding upper_right
  upper_right_next place upper = refl

  bindings_next : (place : ℕ) (upper : List ℕ)
      → bindings t terms (place ∷ upper) ≡ bind_place t terms (length upper) place (bindings t terms upper)
  unfolding bindings
  bindings_next place upper = refl

  bound_passes : (level place : ℕ) (b : Bindings) → in_range t.tables (level_prefix t.year terms level b) place && passes t terms level place b ≡ true
      → bound_after t terms level place b ≡ bind_place t terms level place b
  unfolding bound_after shown_at
  bound_passes level place b h =
      let within = in_range t.tables (level_prefix t.year terms level b) place in rw (and_left within _ h, and_right within _ h)

  module _ (places : List Place) where
    -- the levels above one are right, and the values that they bind are in the array
    pub record Walked (level : ℕ) (b : Bindings) : Type 0 where
      pub right : upper_right t terms (upper_of places level) ≡ true
      pub bound : b ≡ bindings t terms (upper_of places level)

    pub walked_none : Walked 0 nothing_bound
    unfolding upper_of upper_right bindings
    walked_none = record { right = refl; bound = refl }

    fails_next : (n : ℕ) → upper_right t terms (upper_of places n) ≡ false → upper_right t terms (upper_of places (suc n)) ≡ false
    unfolding upper_of upper_right
    fails_next n h = rw h

    -- the test of one level, with the values that the array holds
    abbrev pub level_right : ℕ → Bindings → Bool
    level_right level b = in_range t.tables (level_prefix t.year terms level b) (place_at places level) && passes t terms level (place_at places level) b

    module _ (level : ℕ) (b : Bindings) (w : Walked level b) where
      right_level : upper_right t terms (upper_of places (level + 1)) ≡ level_right level b
      right_level =
          ap (upper_right t terms) (upper_next places level)
          ∙ upper_right_next (place_at places level) (upper_of places level)
          ∙ rw (w.right, upper_length places level, w.bound)

      -- a level that passes: the array then holds what its row binds too
      pub walked_next : level_right level b ≡ true → Walked (level + 1) (bound_after t terms level (place_at places level) b)
      walked_next h =
          record {
            right = right_level ∙ h;
            bound =
                bound_passes level (place_at places level) b h
                ∙ sym (ap (bindings t terms) (upper_next places level) ∙ bindings_next (place_at places level) (upper_of places level)
                ∙ rw (upper_length places level, w.bound));
          }

      -- what the level selects, with the values that the array holds
      pub walked_prefix : level_prefix t.year terms level b ≡ under t terms (upper_of places level)
      walked_prefix = rw (upper_length places level, w.bound)

      -- its end, set beside those of the levels above it
      pub ends_next : (ends : List Place) (e : Place) → level < length ends → e.0 ≡ range_end t.tables (level_prefix t.year terms level b)
          → EndsAbove t terms places ends level → EndsAbove t terms places (set ends level e) (level + 1)
      ends_next ends e room found k l h = go (eqb l level) refl
        where
          go : (here : Bool) → eqb l level ≡ here → place_at (set ends level e) l ≡ range_end t.tables (under t terms (upper_of places l))
          go true q = rw (eqb-true l level q) (place_set ends level e room ∙ found ∙ ap (range_end t.tables) walked_prefix)
          go false q =
              let n = eqb-false l level q in
              let g : l < level = omega arith in
              place_other ends level e l g ∙ k l g

      -- a level that fails: the places of any level below it fail
      pub walked_fails : level_right level b ≡ false → (n : ℕ) → level < n → upper_right t terms (upper_of places n) ≡ false
      walked_fails h zero l = absurd (omega arith)
      walked_fails h (suc n) l =
          elim (dec_lt level n) [
            | yes k ↦ fails_next n (walked_fails h n k)
            | no k ↦
                ap (λ m. upper_right t terms (upper_of places m)) (let e : suc n ≡ level + 1 = omega arith in e)
                ∙ (right_level ∙ h)
          ]

  -- the last place, tested below right levels
  module _ (c : Cursor) where
    pub upper_fails : upper_right t terms (upper_of c.upper c.level) ≡ false → state_right t terms (position_of c) ≡ false
    unfolding state_right
    upper_fails h = rw h

    pub upper_passes : (b : Bindings) → Walked c.upper c.level b
        → state_right t terms (position_of c) ≡ up_to_end t.tables (level_prefix t.year terms c.level b) c.place.0
    unfolding state_right
    upper_passes b w = rw (w.right, upper_length c.upper c.level, w.bound)
