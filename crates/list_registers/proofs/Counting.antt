-- Registers with a row's value have room where 16 words have.
use Prim.Native.Nat.{ℕ, ◌≤◌}
use native.Mathlib.Omega.{arith}
use mathlib.Core.Path.{◌≡◌, sym, ◌∙◌}
use mathlib.Core.Bool.{Bool, true, false, cond}
use mathlib.Core.List.{List, [], ◌∷◌}
use lib.ListN.{length, take}
use lib.Seq.{length-take-le}
use borrow.Author.Tests.{le-leb}
use Rattle.words.specs.Bindings.{Bindings, value_of}
use Rattle.sequences.specs.Sequences.{over}
use Rattle.plans.specs.Endings.{registers}
use Rattle.registers.specs.Registers.{register_count, registers_of, greater_of}
use Rattle.registers.proofs.Bounds.{registers_length, greater_length}
use Rattle.std.specs.Prelude.{Some}
use Rattle.lists.specs.Rows.{has_value}
use Rattle.lists.specs.Delivering.{with_value, with_row}
use Rattle.lists.specs.Putting.{Taken}

with_length : (ws : List ℕ) (x : ℕ) → length ws ≡ register_count → length (with_value ws x) ≡ register_count
with_length ws x h = go (has_value x)
  where
    go : (b : Bool) → length (cond b (greater_of ws (registers_of (x ∷ []))) ws) ≡ register_count
    go true = greater_length ws (registers_of (x ∷ [])) (h ∙ sym (registers_length (x ∷ []))) ∙ h
    go false = h

pub counted_taken : (v : ℕ) (b : Bindings) (out after : List ℕ) (used : ℕ) → used ≡ register_count → register_count ≤ length out
    → after ≡ over (with_value (take register_count out) (value_of b v)) out → Taken (with_row (registers v) [] (take used out) b) out after (Some used)
unfolding with_row
counted_taken v b out after used e h a =
    let ws = with_value (take register_count out) (value_of b v) in
    let n : length ws ≡ register_count = with_length (take register_count out) (value_of b v) (length-take-le register_count out h) in
    let fits = le-leb (length ws) (length out) (omega arith) in
    rw e (rw (fits, n), rw fits a)
