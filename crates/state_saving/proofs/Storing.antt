-- The words of a cursor's state, written one after the other, the outermost place first; what a run holds can be saved.
use Prim.Native.Nat.{ℕ, zero, suc, ◌+◌, ◌-◌, ◌≤◌, ◌<◌}
use native.Mathlib.Omega.{arith}
use native.Mathlib.Numerals.{add-one}
use mathlib.Core.Path.{◌≡◌, refl, sym, ◌∙◌, ap, ap₂}
use mathlib.Core.Bool.{Bool, true, false}
use mathlib.Core.List.{List, [], ◌∷◌, ◌++◌, append-nil}
use lib.Dec.{eqb}
use lib.ListN.{length, get_or, set, take, length-append, drop_of_length-le}
use lib.Seq.{drop-cons, drop-set-lt, get_or-set_same, take_all}
use borrow.Rule.Slice.PartMut.{mid_of, put_mid}
use borrow.Author.Tests.{ltb-true, eqb-true, eqb-false}
use Rattle.words.specs.Words.{low_numbers, position_word, place_word}
use Rattle.words.specs.Bindings.{Bindings}
use Rattle.sequences.specs.Sequences.{all, over}
use Rattle.sequences.proofs.Buffers.{over_next}
use Rattle.sequences.proofs.Elements.{all_head, all_tail}
use Rattle.tables.specs.declared.Place.{Place}
use Rattle.tables.specs.Tables.{Tables, section}
use Rattle.tables.specs.Right.{Right}
use Rattle.plans.specs.Plans.{read_plan, plan_of}
use Rattle.plans.proofs.Bounds.{was_read}
use Rattle.steps.specs.Saved.{upper_words, position_words}
use Rattle.steps.proofs.YearsRead.{names_low, read_low}
use Rattle.steps.proofs.SavedWords.{fits_low, upper_length}
use Rattle.steps.proofs.AcceptedStates.{right_fits}
use Rattle.step_cursors.specs.declared.Cursor.{Cursor}
use Rattle.step_cursors.specs.Carried.{year_of, place_at}
use Rattle.step_cursors.specs.Held.{upper_of, position_of, Held}
use Rattle.step_cursors.proofs.Cursors.{upper_length as places_length, form_of, level_few}
use Rattle.step_cursors.proofs.OverYears.{held_state}
use Rattle.state_saving.specs.Loading.{Storable}

-- the first word, and the places of the levels above one
abbrev pub words_above : ℕ → List Place → ℕ → List ℕ
words_above w places level = w ∷ upper_words (upper_of places level)

above_length : (w : ℕ) (places : List Place) (level : ℕ) → length (words_above w places level) ≡ level + 1
above_length w places level = let e = upper_length (upper_of places level) in let f = places_length places level in omega arith

-- the place of one level more
above_next : (w : ℕ) (places : List Place) (level : ℕ)
    → words_above w places (level + 1) ≡ words_above w places level ++ (place_word (place_at places level) ∷ [])
unfolding upper_of upper_words
above_next w places level = rw add-one

-- before the first place is written, only the first word stands
pub above_none : (places : List Place) (buffer : List ℕ) → 0 < length buffer
    → buffer ≡ over (words_above (get_or buffer 0 0) places 0) buffer
unfolding upper_of upper_words
above_none places buffer h = drop-cons buffer 0 0 h

pub above_write : (w : ℕ) (places : List Place) (level : ℕ) (state buffer : List ℕ) → level + 1 < length buffer
    → state ≡ over (words_above w places level) buffer
    → set state (level + 1) (place_word (place_at places level)) ≡ over (words_above w places (level + 1)) buffer
above_write w places level state buffer h e =
    let ws = words_above w places level in
    let a = place_word (place_at places level) in
    let n = above_length w places level in
    ap (λ (s : List ℕ). set s (level + 1) a) e
    ∙ ap (λ k. set (over ws buffer) k a) (sym n)
    ∙ over_next ws buffer a (omega arith)
    ∙ ap (λ (vs : List ℕ). over vs buffer) (sym (above_next w places level))

-- the upper places are written: with the last they are the words of its position
module _ (c : Cursor) (w : ℕ) (position : w ≡ position_word c.branch (c.level + 1)) where
  abbrev last : ℕ
  last = place_word c.place.0

  above_all : words_above w c.upper c.level ++ (last ∷ []) ≡ position_words (position_of c)
  unfolding position_words
  above_all = rw (position, places_length c.upper c.level, add-one)

  pub saved : (level : ℕ) (state buffer : List ℕ) → c.level + 1 < length buffer → level ≡ c.level
      → state ≡ over (words_above (get_or (set buffer 0 w) 0 0) c.upper level) (set buffer 0 w)
      → (c.level + 2 ≡ length (position_words (position_of c))) × (set state (c.level + 1) last ≡ over (position_words (position_of c)) buffer)
  saved level state buffer h l e =
      let ws = words_above w c.upper c.level in
      let n = above_length w c.upper c.level in
      let s : state ≡ over ws buffer =
      e
      ∙ ap₂ (λ v k. over (words_above v c.upper k) (set buffer 0 w)) (get_or-set_same buffer 0 w 0 (omega arith)) l
      ∙ ap (λ (ds : List ℕ). ws ++ ds) (drop-set-lt (length ws) buffer 0 w (omega arith)) in (
        omega (arith, length-append ws (last ∷ []), ap length above_all),
        ap (λ (x : List ℕ). set x (c.level + 1) last) s
            ∙ ap (λ k. set (over ws buffer) k last) (sym n)
            ∙ over_next ws buffer last (omega arith)
            ∙ ap (λ (vs : List ℕ). over vs buffer) above_all,
      )

-- the survey's word and the year's are written before them
both_of : (w y x z : ℕ) (ws behind buffer : List ℕ) (k : ℕ) → length buffer ≤ k → behind ≡ over ws (take k buffer)
    → set (set (put_mid 2 k (x ∷ z ∷ buffer) behind) 0 w) 1 y ≡ over (w ∷ y ∷ ws) (x ∷ z ∷ buffer)
both_of w y x z ws behind buffer k h e =
    ap (λ (l : List ℕ). w ∷ y ∷ l)
    (ap (λ (l : List ℕ). behind ++ l) (drop_of_length-le buffer {i = k} h) ∙ append-nil behind ∙ e ∙ ap (over ws) (take_all k buffer h))

pub both_first : (w y : ℕ) (ws behind buffer : List ℕ) → 1 < length buffer → behind ≡ over ws (mid_of 2 (length buffer - 2) buffer)
    → set (set (put_mid 2 (length buffer - 2) buffer behind) 0 w) 1 y ≡ over (w ∷ y ∷ ws) buffer
both_first w y ws behind [] h e = absurd (omega arith)
both_first w y ws behind (x ∷ []) h e = absurd (omega arith)
both_first w y ws behind (x ∷ z ∷ buffer) h e = both_of w y x z ws behind buffer (length (x ∷ z ∷ buffer) - 2) (omega arith) e

-- ---- what a run holds can be saved
places_fit : (ps : List Place) (level : ℕ) → all fits_low (upper_of ps level) ≡ true → (i : ℕ) → i < level → place_at ps i < low_numbers
unfolding upper_of
places_fit ps zero e i h = absurd (omega arith)
places_fit ps (suc level) e i h =
    go (eqb i level) refl (places_fit ps level (all_tail fits_low (place_at ps level) (upper_of ps level) e) i)
  where
    go : (b : Bool) → eqb i level ≡ b → (i < level → place_at ps i < low_numbers) → place_at ps i < low_numbers
    go true q above = rw (eqb-true i level q) (ltb-true (place_at ps level) low_numbers (all_head fits_low _ _ e))
    go false q above = let n = eqb-false i level q in above (omega arith)

pub held_storable : (t : Tables) (ws : List ℕ) (c : Cursor) (b : Bindings) → Right t → Held t ws c b → Storable c
held_storable t ws c b w k =
    let h = k.position.planned in
    let form = form_of ws h in
    let r = held_state t ws c b k in
    let f = right_fits (section t (year_of c)) (plan_of ws) w.sized.few form (position_of c) r.position in
    record {
      year = read_low t w (plan_of ws).years (names_low ws (plan_of ws) (was_read (read_plan ws) h)) (year_of c) k.read;
      branch = omega (arith, k.position.branch, form.most);
      level = level_few ws h c.branch c.level k.position.branch k.position.level;
      place = f.place;
      upper = λ i h. places_fit c.upper c.level f.upper i h;
    }
