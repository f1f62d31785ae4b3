-- `write_strings` meets its contract. The invariant: what is written and the strings still to come, each once, make the whole; and the places passed have
-- their numbers.
use Prim.Native.Nat.{ℕ, ◌+◌, ◌≤◌, ◌<◌}
use native.Mathlib.Omega.{arith}
use mathlib.Core.Path.{◌≡◌, sym, ap, subst, subst⁻¹, ◌∙◌}
use mathlib.Core.Bool.{Bool, true, false, ◌||◌}
use mathlib.Core.List.{List, [], ◌∷◌, flatten}
use lib.Dec.{eqb}
use lib.ListN.{length, get_or, set, drop, length-map}
use borrow.Author.Tests.{ltb-true}
use Rattle.sequences.specs.Sequences.{all, over}
use Rattle.sequences.proofs.Elements.{all_at_lem}
use Rattle.dictionaries.specs.Strings.{string_before}
use Rattle.dictionaries.specs.Dictionaries.{strings_of, has_string, place_before}
use Rattle.dictionary_numberings.specs.Numbering.{ends_after}
use Rattle.dictionary_numberings.specs.Sorted.{last_of_each, sorted_places}
use Rattle.dictionary_numberings.proofs.Cutting.{ends_below}
use Rattle.dictionary_numberings.proofs.Places.{sorted_strings_lem, places_within}
use Rattle.dictionary_writes.proofs.Numbers.{numbers_kept, numbers_left_lem, numbers_end}
use Rattle.dictionary_writes.proofs.Writing.{one_taken, one_left, none_left, last_told, string_at, sorted_strings, once_bytes, once_strings}
use Rattle.dictionary_writes.proofs.Writing.{StringsWritten, string_ends, string_fits, end_fits}
use Rattle.dictionary_writes.proofs.Writing.{written_step, count_most, filled_end, bytes_end, ends_end, count_end}
use Rattle.dictionary_writes.proofs.write_strings.Goals as goal
use Rattle.dictionary_writes.proofs.write_strings.Goals.{After-string-s}

-- ---- entry `k` of the sorted places, in a turn of the loop
module _ (bytes ends places : List ℕ) (k : ℕ) (sorted : places ≡ sorted_places bytes ends) (h : k < length places) where
  listed : k < length (sorted_places bytes ends)
  listed = omega (arith, ap length sorted)

  placed : (n : ℕ) → n ≡ get_or places k 0 → n ≡ get_or (sorted_places bytes ends) k 0
  placed n e = e ∙ ap (λ ps. get_or ps k 0) sorted

  within : (n : ℕ) → n ≡ get_or places k 0 → n < length ends
  within n e =
      let p = get_or (sorted_places bytes ends) k 0 in
      omega (arith, placed n e, ltb-true p (length ends) (all_at_lem (has_string ends) (sorted_places bytes ends) k 0 (places_within bytes ends) listed))

  long : k < length (sorted_strings bytes ends)
  long = omega (arith, listed, length-map (sorted_places bytes ends) (λ p. get_or (strings_of bytes ends) p []))

  -- by whether the string is the last of its kind
  module _ (last : Bool) (e : last ≡ eqb (k + 1) (length places) || place_before bytes ends (get_or places k 0) (get_or places (k + 1) 0)) where
    told : eqb (k + 1) (length (sorted_strings bytes ends))
        || string_before (get_or (sorted_strings bytes ends) k []) (get_or (sorted_strings bytes ends) (k + 1) []) ≡ last
    told =
        last_told bytes ends (sorted_places bytes ends) k listed
        ∙ sym (e ∙ ap (λ ps. eqb (k + 1) (length ps) || place_before bytes ends (get_or ps k 0) (get_or ps (k + 1) 0)) sorted)

    taken : last ≡ true
        → last_of_each (drop k (sorted_strings bytes ends)) ≡ get_or (sorted_strings bytes ends) k [] ∷ last_of_each (drop (k + 1) (sorted_strings bytes ends))
    taken t = one_taken (sorted_strings bytes ends) k long (told ∙ t)

    left : last ≡ false → last_of_each (drop k (sorted_strings bytes ends)) ≡ last_of_each (drop (k + 1) (sorted_strings bytes ends))
    left t = one_left (sorted_strings bytes ends) k long (told ∙ t)

-- ---- with the string
module _ (z : After-string-s) where
  abbrev whole : List (List ℕ)
  whole = last_of_each (sorted_strings z.args.bytes.now z.args.ends.now)

  abbrev rest : List (List ℕ)
  rest = last_of_each (drop (z.loop-k.k + 1) (sorted_strings z.args.bytes.now z.args.ends.now))

  taken_here : last_of_each (drop z.loop-k.k (sorted_strings z.args.bytes.now z.args.ends.now))
      ≡ get_or (sorted_strings z.args.bytes.now z.args.ends.now) z.loop-k.k [] ∷ rest
  taken_here =
      taken z.args.bytes.now z.args.ends.now z.args.places.now z.loop-k.k z.requires.places_value z.loop-k-test.true z.is_last.result z.is_last.ensures
      z.if-not-is_last.false

  -- it is the next to be written
  waits : StringsWritten whole (z.string-s.result.now ∷ rest) z.args.out.now z.loop-k.out z.args.cuts.now z.loop-k.cuts z.loop-k.filled z.loop-k.count
  waits =
      let bs = z.args.bytes.now in
      let es = z.args.ends.now in
      let ps = z.args.places.now in
      let k = z.loop-k.k in
      let sorted = z.requires.places_value in
      let h = z.loop-k-test.true in
      let is = z.string-s.ensures
      ∙ (ap (λ p. get_or (strings_of bs es) p []) (placed bs es ps k sorted h z.wide-place.result z.wide-place.ensures)
      ∙ sym (string_at bs es (sorted_places bs es) k (listed bs es ps k sorted h))) in
      subst (λ r. StringsWritten whole r z.args.out.now z.loop-k.out z.args.cuts.now z.loop-k.cuts z.loop-k.filled z.loop-k.count)
      (taken_here ∙ ap (λ x. x ∷ rest) (sym is))
      z.loop-k.invariant.0

  -- there is room for all of them
  bytes_room : length (flatten whole) ≤ length z.args.out.now
  bytes_room = omega (arith, once_bytes z.args.bytes.now z.args.ends.now z.requires.ends_value, z.requires.bytes_in_bounds.0)

  ends_room : length whole ≤ length z.args.cuts.now
  ends_room = omega (arith, once_strings z.args.bytes.now z.args.ends.now z.requires.ends_value, z.requires.bytes_in_bounds.1)

  fits : z.loop-k.filled + length z.string-s.result.now ≤ length z.loop-k.out
  fits = string_fits whole rest _ _ _ _ z.loop-k.filled z.loop-k.count z.string-s.result.now waits bytes_room ends_room

  -- its end is below 2^32, as the end of all bytes is
  small : ((i : ℕ) → get_or z.args.ends.now i 0 < 4294967296) → z.loop-k.filled + length z.string-s.result.now < 4294967296
  small known =
      let e = string_ends whole rest _ _ _ _ z.loop-k.filled z.loop-k.count z.string-s.result.now waits bytes_room ends_room in
      let b = ends_below 4294967296 (length z.args.bytes.now) 0 z.args.ends.now z.requires.ends_value (omega arith) (λ i. omega (arith, known i)) in
      omega (arith, e, b, once_bytes z.args.bytes.now z.args.ends.now z.requires.ends_value)

  free : z.loop-k.count < length z.loop-k.cuts
  free = end_fits whole rest _ _ _ _ z.loop-k.filled z.loop-k.count z.string-s.result.now waits bytes_room ends_room

pub overflow_cast-numbers : goal.overflow_cast-numbers
overflow_cast-numbers c =
    let n = count_most (last_of_each (sorted_strings c.args.bytes.now c.args.ends.now)) _ _ _ _ _ c.loop-k.filled c.loop-k.count c.loop-k.invariant.0 in
    omega (arith, n, once_strings c.args.bytes.now c.args.ends.now c.requires.ends_value, c.requires.ends_len_bound.0)

pub bounds-numbers-place : goal.bounds-numbers-place
bounds-numbers-place c =
    let w = within c.args.bytes.now c.args.ends.now c.args.places.now c.loop-k.k c.requires.places_value c.loop-k-test.true c.wide-place.result
    c.wide-place.ensures in
    omega (arith, w, c.loop-k.invariant.1.long, c.requires.ends_len_bound.1)

pub is_last-requires-clause-places_value : goal.is_last-requires-clause-places_value
is_last-requires-clause-places_value c =
    subst⁻¹ (λ ps. all (has_string c.args.ends.now) ps ≡ true) c.requires.places_value (places_within c.args.bytes.now c.args.ends.now)

pub string-s-requires-clause-n_in_bounds : goal.string-s-requires-clause-n_in_bounds
string-s-requires-clause-n_in_bounds c =
    within c.args.bytes.now c.args.ends.now c.args.places.now c.loop-k.k c.requires.places_value c.loop-k-test.true c.wide-place.result c.wide-place.ensures

pub copy_in-requires : goal.copy_in-requires
copy_in-requires c = omega (arith, fits (goal.at.copy_in-requires c).After-string-s)

pub overflow_add-filled : goal.overflow_add-filled
overflow_add-filled c = omega (arith, small (goal.at.overflow_add-filled c).After-string-s (λ i. omega (arith, c.type_inv.ends i)))

pub overflow_cast-cuts : goal.overflow_cast-cuts
overflow_cast-cuts c = omega (arith, small (goal.at.overflow_cast-cuts c).After-string-s (λ i. omega (arith, c.type_inv.ends i)))

pub bounds-cuts-count : goal.bounds-cuts-count
bounds-cuts-count c = free (goal.at.bounds-cuts-count c).After-string-s

pub loop-k-preserved : goal.loop-k-preserved
loop-k-preserved c =
    let z = (goal.at.loop-k-preserved c).After-string-s in
    let a = c.args in
    let l = c.loop-k in
    let s = c.string-s.result.now in
    let w = within a.bytes.now a.ends.now a.places.now l.k c.requires.places_value c.loop-k-test.true c.wide-place.result c.wide-place.ensures in (
      subst⁻¹
          (λ o. StringsWritten (whole z) (rest z) a.out.now o a.cuts.now (set l.cuts l.count (l.filled + length s)) (l.filled + length s) (l.count + 1))
          c.copy_in.ensures
          (written_step (whole z) (rest z) a.out.now l.out a.cuts.now l.cuts l.filled l.count s (waits z) (bytes_room z) (ends_room z)),
      numbers_kept a.bytes.now a.ends.now a.numbers.now l.numbers l.count l.k c.wide-place.result l.invariant.1
          (listed a.bytes.now a.ends.now a.places.now l.k c.requires.places_value c.loop-k-test.true)
          (placed a.bytes.now a.ends.now a.places.now l.k c.requires.places_value c.loop-k-test.true c.wide-place.result c.wide-place.ensures)
          (omega (arith, w, l.invariant.1.long, c.requires.ends_len_bound.1)) _ (taken_here z),
    )

pub loop-k-preserved-then-not-is_last : goal.loop-k-preserved-then-not-is_last
loop-k-preserved-then-not-is_last c =
    let a = c.args in
    let l = c.loop-k in
    let sorted = c.requires.places_value in
    let h = c.loop-k-test.true in
    let w = within a.bytes.now a.ends.now a.places.now l.k sorted h c.wide-place.result c.wide-place.ensures in
    let e = left a.bytes.now a.ends.now a.places.now l.k sorted h c.is_last.result c.is_last.ensures c.if-not-is_last.true in (
      subst (λ r. StringsWritten (last_of_each (sorted_strings a.bytes.now a.ends.now)) r a.out.now l.out a.cuts.now l.cuts l.filled l.count) e l.invariant.0,
      numbers_left_lem a.bytes.now a.ends.now a.numbers.now l.numbers l.count l.k c.wide-place.result l.invariant.1
          (listed a.bytes.now a.ends.now a.places.now l.k sorted h)
          (placed a.bytes.now a.ends.now a.places.now l.k sorted h c.wide-place.result c.wide-place.ensures)
          (omega (arith, w, l.invariant.1.long, c.requires.ends_len_bound.1)) e,
    )

pub returns : goal.returns
returns c =
    let bs = c.args.bytes.now in
    let es = c.args.ends.now in
    let o = c.args.out.now in
    let e = c.args.cuts.now in
    let l = c.loop-k in
    let every = last_of_each (sorted_strings bs es) in
    let m = length-map (sorted_places bs es) (λ p. get_or (strings_of bs es) p []) in
    let n = ap length c.requires.places_value in
    let v = subst (λ r. StringsWritten every r o l.out e l.cuts l.filled l.count) (none_left (sorted_strings bs es) l.k (omega arith)) l.invariant.0 in
    let once = sorted_strings_lem bs es in
    record {
      bytes_value = (
        filled_end every o l.out e l.cuts l.filled l.count v ∙ ap (λ ss. length (flatten ss)) once,
        count_end every o l.out e l.cuts l.filled l.count v ∙ ap length once,
      );
      bytes = bytes_end every o l.out e l.cuts l.filled l.count v ∙ ap (λ ss. over (flatten ss) o) once;
      ends = ends_end every o l.out e l.cuts l.filled l.count v ∙ ap (λ ss. over (ends_after 0 ss) e) once;
      numbers = numbers_end bs es c.args.numbers.now l.numbers l.count l.k l.invariant.1 (omega arith) c.requires.ends_len_bound.1;
    }
