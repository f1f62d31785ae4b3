-- The row of some variables, word by word, and the list with a row behind it.
use Prim.Native.Nat.{ℕ, ◌+◌, ◌-◌, ◌≤◌, ◌<◌}
use native.Mathlib.Omega.{arith}
use native.Mathlib.Nat.{zero-add}
use mathlib.Core.Path.{◌≡◌, refl, sym, ◌∙◌, ap, ap₂}
use mathlib.Core.List.{List, [], ◌++◌}
use lib.ListN.{length, get_or, take, length-append, length-map, get_or-map}
use lib.Seq.{take-length, length-take-le, paste}
use borrow.Author.Tests.{le-leb, lt-leb}
use Rattle.words.specs.Bindings.{Bindings, value_of}
use Rattle.sequences.specs.Sequences.{over}
use Rattle.words.proofs.Bound.{any_default}
use Rattle.plans.specs.Endings.{rows}
use Rattle.std.specs.Prelude.{Some, None}
use Rattle.lists.specs.Rows.{project}
use Rattle.lists.specs.Delivering.{with_row}
use Rattle.lists.specs.Putting.{put_as, put_over}

pub length_project : (vs : List ℕ) (b : Bindings) → length (project vs b) ≡ length vs
length_project vs b = length-map vs (value_of b)

-- the word of a row with a number is the value of the variable with it
pub word_at_lem : (vs : List ℕ) (b : Bindings) (i : ℕ) → i < length vs → value_of b (get_or vs i 0) ≡ get_or (project vs b) i 0
word_at_lem vs b i h =
    let n = length_project vs b in
    sym (get_or-map (value_of b) vs i 0) ∙ any_default (project vs b) i (value_of b 0) 0 (omega arith)

-- a row written in front
pub row_over : (vs : List ℕ) (b : Bindings) (buf after : List ℕ) → after ≡ paste buf 0 (project vs b) (length vs)
    → after ≡ over (project vs b) buf
row_over vs b buf after e = e ∙ rw (← (length_project vs b), take-length, zero-add)

-- ---- a list with a row behind it
module _ (vs : List ℕ) (b : Bindings) (out : List ℕ) (used : ℕ) (h : used ≤ length out) where
  abbrev with_it : List ℕ
  with_it = with_row (rows vs) [] (take used out) b

  with_it_lem : with_it ≡ take used out ++ project vs b
  unfolding with_row
  with_it_lem = refl

  pub length_with_it : length with_it ≡ used + length vs
  length_with_it =
      ap length with_it_lem
      ∙ length-append (take used out) (project vs b)
      ∙ ap₂ ◌+◌ (length-take-le used out h) (length_project vs b)

  pub no_room : length out - used < length vs → (None ≡ put_as with_it out) × (out ≡ put_over with_it out)
  no_room l =
      let n = length_with_it in
      let t = lt-leb (length with_it) (length out) (omega arith) in
      (rw t, rw t)

  pub room : length vs ≤ length out - used → (after : List ℕ) → after ≡ paste out used (project vs b) (length vs)
      → (Some (used + length vs) ≡ put_as with_it out) × (after ≡ put_over with_it out)
  room l after e =
      let n = length_with_it in
      let t = le-leb (length with_it) (length out) (omega arith) in
      (rw (t, n), e ∙ rw (t, n, with_it_lem, ← (length_project vs b), take-length))
