-- Marks put behind each other, each over the next word of a buffer, where a hidden one does not count.
use Prim.Native.Nat.{ℕ, ◌+◌, ◌≤◌, ◌<◌}
use native.Mathlib.Omega.{arith}
use native.Mathlib.Numerals.{add-one}
use mathlib.Core.Path.{◌≡◌, refl, sym, ◌∙◌, ap}
use mathlib.Core.Bool.{Bool, true, false, cond}
use mathlib.Core.List.{List, [], ◌∷◌, ◌++◌, append-nil}
use lib.ListN.{length, get_or, take, drop, set, length-append, take-append-drop}
use lib.Seq.{take-suc, take-suc-set, take-set-le, take_all}
use Rattle.sequences.proofs.Booleans.{Decided, yes, no, decided}
use Rattle.sequences.proofs.Orders.{Three, less, same, more, three}
use Rattle.upload_writes.specs.Writing.{written_for}
use Rattle.upload_writes.proofs.Written.{written_append, written_yes, written_no}
use Rattle.view_calls.specs.Writing.{shown_by, shown_numbers}

-- what is nothing has no words
empty : (xs : List ℕ) → length xs ≡ 0 → xs ≡ []
empty [] h = refl
empty (x ∷ xs) h = absurd (omega arith)

-- a part that takes as many words as the whole takes the same
pub part_all : (f : ℕ → Bool) (g : ℕ → List ℕ) (p : ℕ) (xs : List ℕ) → length (written_for f g (take p xs)) ≡ length (written_for f g xs)
    → written_for f g (take p xs) ≡ written_for f g xs
part_all f g p xs e =
    let w = sym (written_append f g (take p xs) (drop p xs)) ∙ ap (written_for f g) (take-append-drop p xs) in
    let n = length-append (written_for f g (take p xs)) (written_for f g (drop p xs)) in
    let z = empty (written_for f g (drop p xs)) (omega (arith, n, ap length w, e)) in
    sym (append-nil (written_for f g (take p xs))) ∙ ap (λ l. written_for f g (take p xs) ++ l) (sym z) ∙ w

module _ (marks list : List ℕ) (place : ℕ) (h : place < length list) where
  abbrev row : ℕ
  row = get_or list place 0

  abbrev mark : ℕ
  mark = get_or marks (get_or list place 0) 0

  abbrev single : ℕ → List ℕ
  single n = get_or marks n 0 ∷ []

  next_place_lem : take (place + 1) list ≡ take place list ++ (row ∷ [])
  next_place_lem = rw (add-one place) (take-suc list place 0 h)

  next_yes : shown_by marks row ≡ true → shown_numbers marks (take (place + 1) list) ≡ shown_numbers marks (take place list) ++ (mark ∷ [])
  next_yes e = ap (shown_numbers marks) next_place_lem ∙ written_yes (shown_by marks) single (take place list) row e

  next_no : shown_by marks row ≡ false → shown_numbers marks (take (place + 1) list) ≡ shown_numbers marks (take place list)
  next_no e = ap (shown_numbers marks) next_place_lem ∙ written_no (shown_by marks) single (take place list) row e

  -- how many are written, and which
  pub used_next : (used : ℕ) → used ≡ length (shown_numbers marks (take place list))
      → cond (shown_by marks (get_or list place 0)) (used + 1) used ≡ length (shown_numbers marks (take (place + 1) list))
  used_next used e = go (decided (shown_by marks row))
    where
      go : Decided (shown_by marks row) → cond (shown_by marks row) (used + 1) used ≡ length (shown_numbers marks (take (place + 1) list))
      go (yes p) = rw p (omega (arith, e, ap length (next_yes p), length-append (shown_numbers marks (take place list)) (mark ∷ [])))
      go (no p) = rw p (e ∙ sym (ap length (next_no p)))

  pub front_next : (view : List ℕ) (used : ℕ) → used < length view → take used view ≡ shown_numbers marks (take place list)
      → take (cond (shown_by marks (get_or list place 0)) (used + 1) used) (set view used (get_or marks (get_or list place 0) 0))
      ≡ shown_numbers marks (take (place + 1) list)
  front_next view used k e = go (decided (shown_by marks row))
    where
      go : Decided (shown_by marks row)
          → take (cond (shown_by marks row) (used + 1) used) (set view used mark) ≡ shown_numbers marks (take (place + 1) list)
      go (yes p) =
          rw (p, add-one used) (take-suc-set view used mark k ∙ ap (λ l. l ++ (mark ∷ [])) e ∙ sym (next_yes p))
      go (no p) = rw p (take-set-le used view used mark (omega arith) ∙ e ∙ sym (next_no p))

-- there is a place left where some are not written
pub place_left : (marks list : List ℕ) (place : ℕ) → length (shown_numbers marks (take place list)) < length (shown_numbers marks list)
    → place < length list
place_left marks list place h = go (three place (length list))
  where
    whole : length list ≤ place → ⊥
    whole k = let e = ap (λ l. length (shown_numbers marks l)) (take_all place list k) in omega arith

    go : Three place (length list) → place < length list
    go (less k) = k
    go (same k) = absurd (whole (omega arith))
    go (more k) = absurd (whole (omega arith))
