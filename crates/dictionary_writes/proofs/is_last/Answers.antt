-- `is_last` meets its contract.
use Prim.Native.Nat.{ℕ, ◌+◌, ◌<◌}
use native.Mathlib.Omega.{arith}
use mathlib.Core.Path.{◌≡◌, ap₂, ◌∙◌}
use mathlib.Core.Bool.{true}
use mathlib.Core.List.{List}
use lib.ListN.{length, get_or}
use borrow.Author.Tests.{eq-eqb, ne_eqb, ltb-true}
use Rattle.sequences.specs.Sequences.{all}
use Rattle.sequences.proofs.Elements.{all_at_lem}
use Rattle.dictionaries.specs.Dictionaries.{has_string, place_before}
use Rattle.dictionary_writes.proofs.is_last.Goals as goal

-- an entry of the list is a place
entry : (ends places : List ℕ) → all (has_string ends) places ≡ true → (k n : ℕ) → k < length places → n ≡ get_or places k 0 → n < length ends
entry ends places h k n l e = let z = ltb-true (get_or places k 0) (length ends) (all_at_lem (has_string ends) places k 0 h l) in omega arith

pub returns-then-k-places : goal.returns-then-k-places
returns-then-k-places c = let a = c.args in rw (eq-eqb (a.k + 1) (length a.places.now) c.if-k-places.true)

pub is_before-requires : goal.is_before-requires
is_before-requires c = let n = c.if-k-places.false in record {
  ends_value = c.requires.ends_value;
  a_in_bounds = (
    entry c.args.ends.now c.args.places.now c.requires.places_value c.args.k _ c.requires.k_in_bounds c.wide.ensures,
    entry c.args.ends.now c.args.places.now c.requires.places_value (c.args.k + 1) _ (omega (arith, c.requires.k_in_bounds)) c.wide-else-k-places.ensures,
  );
}

pub returns-else-k-places : goal.returns-else-k-places
returns-else-k-places c =
    let a = c.args in
    rw (ne_eqb (a.k + 1) (length a.places.now) c.if-k-places.false)
    (c.is_before.ensures ∙ ap₂ (place_before a.bytes.now a.ends.now) c.wide.ensures c.wide-else-k-places.ensures)
