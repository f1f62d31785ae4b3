-- A cursor read from a state's words, and its last place tested: laws that the code's loading goes by.
use Prim.Native.Nat.{ℕ, ◌+◌, ◌-◌, ◌≤◌, ◌<◌}
use native.Mathlib.Omega.{arith}
use native.Mathlib.Numerals.{add-one}
use mathlib.Core.Path.{◌≡◌, refl, sym, ◌∙◌, ap, ap₂}
use mathlib.Core.Bool.{false}
use mathlib.Core.List.{List, ◌∷◌}
use lib.Dec.{leb}
use lib.ListN.{length, get_or, set}
use borrow.Author.Tests.{le-leb, lt-leb}
use Rattle.words.specs.Words.{low, depth_of, branch_of}
use Rattle.tables.specs.declared.Place.{Place}
use Rattle.tables.specs.declared.Prefix.{Prefix}
use Rattle.tables.specs.Tables.{Tables}
use Rattle.tables.specs.Ranges.{range_start, range_end}
use Rattle.steps.specs.Saved.{upper_in, position_in}
use Rattle.step_cursors.specs.declared.Cursor.{Cursor}
use Rattle.step_cursors.specs.Held.{upper_of, position_of}
use Rattle.step_cursors.proofs.Cursors.{upper_next, place_set, upper_set}
use Rattle.state_saving.specs.Loading.{up_to_end}

-- ---- places read from words
module _ (ws : List ℕ) where
  upper_in_next : (level : ℕ) → upper_in ws (level + 1) ≡ low (get_or ws (level + 1) 0) ∷ upper_in ws level
  unfolding upper_in
  upper_in_next level = ap (upper_in ws) (add-one level)

  pub places_none : (places : List Place) → upper_of places 0 ≡ upper_in ws 0
  unfolding upper_of upper_in
  places_none places = refl

  pub places_next : (places : List Place) (level : ℕ) (p : Place) → level < length places → p.0 ≡ low (get_or ws (level + 1) 0)
      → upper_of places level ≡ upper_in ws level → upper_of (set places level p) (level + 1) ≡ upper_in ws (level + 1)
  places_next places level p h w e =
      upper_next (set places level p) level
      ∙ ap₂ ◌∷◌ (place_set places level p h ∙ w) (upper_set places level p level (omega arith) ∙ e)
      ∙ sym (upper_in_next level)

  -- the cursor whose places are those of the words
  pub cursor_state : (c : Cursor) → c.branch ≡ branch_of (get_or ws 0 0) → c.level + 1 ≡ depth_of (get_or ws 0 0)
      → upper_of c.upper c.level ≡ upper_in ws c.level → c.place.0 ≡ low (get_or ws (c.level + 1) 0) → position_of c ≡ position_in ws
  unfolding position_in
  cursor_state c b d u p =
      let above : c.level ≡ depth_of (get_or ws 0 0) - 1 = omega arith in
      λ i. record { branch = b i; upper = (u ∙ ap (upper_in ws) above) i; place = (p ∙ ap (λ n. low (get_or ws n 0)) d) i }

-- ---- from a range's first place up to and including its end
module _ (t : Tables) (x : Prefix) (place : ℕ) where
  pub before_start : place < range_start t x → up_to_end t x place ≡ false
  before_start h = rw (lt-leb (range_start t x) place h)

  -- from the first place on, the end decides
  pub from_start : range_start t x ≤ place → (end : ℕ) → end ≡ range_end t x → leb place end ≡ up_to_end t x place
  from_start h end e = rw (le-leb (range_start t x) place h, e)
