-- `number` meets its contract.
use mathlib.Core.Path.{◌≡◌, sym, ◌∙◌}
use mathlib.Core.Bool.{true}
use lib.ListN.{length}
use lib.Seq.{length-take-le}
use borrow.Author.Tests.{not-true, not-false}
use Rattle.calls.proofs.Refusals.{call_told}
use Rattle.dictionary_numberings.specs.NumberCall.{number_buffers, NumberInput, number_input, given_right, number_room, number_call}
use Rattle.dictionary_numberings.proofs.NumberCall.{number_is_right, given_cut}
use Rattle.dictionary_numbers.proofs.Outcome.{room_is, NumberFits, room_fits, few, wrong_strings, no_room, served}
use Rattle.dictionary_numbers.proofs.number.Goals as goal
use Rattle.dictionary_numbers.proofs.number.Goals.{Else-not-given_right, Else-not-has_room, Start}

abbrev lent : Start → NumberInput
lent s = let a = s.args in
    number_input a.kind a.bytes.now a.ends.now (number_buffers a.out.now a.cuts.now a.numbers.now a.places.now)

-- ---- past test 26
abbrev Given : Type 0
Given = Else-not-given_right

right : (g : Given) → given_right g.args.kind g.args.bytes.now g.args.ends.now ≡ true
right g = sym g.given_right.ensures ∙ not-false _ g.if-not-given_right.false-raw

-- ---- past test 27
abbrev Roomy : Type 0
Roomy = Else-not-has_room

abbrev given : Roomy → NumberInput
given r = (let a = r.args in number_input a.kind a.bytes.now a.ends.now (number_buffers a.out.now a.cuts.now a.numbers.now a.places.now))

has : (r : Roomy) → number_room (length (given r).bytes) (length (given r).ends) (given r).buffers ≡ true
has r = sym (room_is _ _ (given r).buffers) ∙ (sym r.has_room.ensures ∙ not-false _ r.if-not-has_room.false-raw)

fits : (r : Roomy) → NumberFits (length (given r).bytes) (length (given r).ends) (given r).buffers
fits r = room_fits _ _ (given r).buffers (has r)

pub returns-then-not-given_right : goal.returns-then-not-given_right
returns-then-not-given_right c =
    let shown = call_told number_call number_is_right (lent (goal.at.returns-then-not-given_right c).Start)
    (wrong_strings (lent (goal.at.returns-then-not-given_right c).Start) (sym c.given_right.ensures ∙ not-true _ c.if-not-given_right.true-raw)) in
    record { places_after = shown.0; number = shown.1 }

pub returns-then-not-has_room : goal.returns-then-not-has_room
returns-then-not-has_room c = let i = lent (goal.at.returns-then-not-has_room c).Start in
    let shown = call_told number_call number_is_right i
    (no_room i (right (goal.at.returns-then-not-has_room c).Else-not-given_right)
    (sym (room_is _ _ i.buffers) ∙ (sym c.has_room.ensures ∙ not-true _ c.if-not-has_room.true-raw))) in
    record { places_after = shown.0; number = shown.1 }

pub slice_bounds-write_dictionary-end : goal.slice_bounds-write_dictionary-end
slice_bounds-write_dictionary-end c = (fits (goal.at.slice_bounds-write_dictionary-end c).Else-not-has_room).for_numbers

pub slice_bounds-write_dictionary-end-2 : goal.slice_bounds-write_dictionary-end-2
slice_bounds-write_dictionary-end-2 c =
    sym (length-take-le (length (given (goal.at.slice_bounds-write_dictionary-end-2 c).Else-not-has_room).ends)
    (given (goal.at.slice_bounds-write_dictionary-end-2 c).Else-not-has_room).buffers.numbers
    (fits (goal.at.slice_bounds-write_dictionary-end-2 c).Else-not-has_room).for_numbers)

pub slice_bounds-write_dictionary-end-3 : goal.slice_bounds-write_dictionary-end-3
slice_bounds-write_dictionary-end-3 c = (fits (goal.at.slice_bounds-write_dictionary-end-3 c).Else-not-has_room).for_places

pub slice_bounds-write_dictionary-end-4 : goal.slice_bounds-write_dictionary-end-4
slice_bounds-write_dictionary-end-4 c =
    sym (length-take-le (length (given (goal.at.slice_bounds-write_dictionary-end-4 c).Else-not-has_room).ends)
    (given (goal.at.slice_bounds-write_dictionary-end-4 c).Else-not-has_room).buffers.places
    (fits (goal.at.slice_bounds-write_dictionary-end-4 c).Else-not-has_room).for_places)

pub write_dictionary-extent-requires : goal.write_dictionary-extent-requires
write_dictionary-extent-requires c = let i = given (goal.at.write_dictionary-extent-requires c).Else-not-has_room in
    let g = right (goal.at.write_dictionary-extent-requires c).Else-not-given_right in record {
      ends_value = given_cut i g;
      ends_len_bound = (
        few i g,
        (fits (goal.at.write_dictionary-extent-requires c).Else-not-has_room).for_bytes,
        (fits (goal.at.write_dictionary-extent-requires c).Else-not-has_room).for_ends,
      );
      numbers_len = (
        length-take-le (length i.ends) i.buffers.numbers (fits (goal.at.write_dictionary-extent-requires c).Else-not-has_room).for_numbers,
        length-take-le (length i.ends) i.buffers.places (fits (goal.at.write_dictionary-extent-requires c).Else-not-has_room).for_places,
      );
    }

pub returns : goal.returns
returns c = let i = given (goal.at.returns c).Else-not-has_room in
    let e = c.write_dictionary-extent.ensures in
    let shown = call_told number_call number_is_right i
    (served i (right (goal.at.returns c).Else-not-given_right)
    (has (goal.at.returns c).Else-not-has_room) _ _ _ _ _ _ e.bytes_value.0 e.bytes_value.1 e.bytes e.ends e.numbers e.places) in
    record { places_after = shown.0; number = shown.1 }
