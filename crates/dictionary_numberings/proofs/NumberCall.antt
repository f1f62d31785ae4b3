-- Numbering is a right call: so demand 1 holds of it, for every input. Where it is served, the dictionary that it leaves is right and holds exactly the
-- strings given, each once, and the numbers left are theirs.
use Prim.Native.Nat.{ℕ}
use native.Mathlib.Omega.{arith}
use mathlib.Core.Path.{◌≡◌, refl, sym, ◌∙◌, ap}
use mathlib.Core.Bool.{true}
use mathlib.Core.List.{List}
use lib.ListN.{length, take, length-map}
use Rattle.sequences.specs.Sequences.{over}
use Rattle.sequences.proofs.Booleans.{and_left, and_right}
use Rattle.sequences.proofs.Buffers.{take_over}
use Rattle.calls.specs.Calls.{CallResult, result_of_call, NotRefused, RightCall, CallRefusals}
use Rattle.calls.proofs.Refusals.{call_served, call_so, call_refusals}
use Rattle.dictionaries.specs.Dictionaries.{ends_right, string_rank}
use Rattle.dictionaries.proofs.Searching.{strings_length}
use Rattle.dictionary_numberings.specs.declared.DictionaryWritten.{DictionaryWritten}
use Rattle.dictionary_numberings.specs.declared.DictionaryWritten.TheVariants.{Refused}
use Rattle.dictionary_numberings.specs.Numbering.{strings_once, bytes_once, ends_once, string_numbers, strings_right}
use Rattle.dictionary_numberings.specs.NumberCall.{NumberBuffers, NumberInput, given_strings, given_right, written_sizes, number_call}
use Rattle.dictionary_numberings.specs.NumberCall.{bytes_left, ends_left, numbers_left, NumbersRight}
use Rattle.dictionary_numberings.proofs.Cutting.{ends_length}
use Rattle.dictionary_numberings.proofs.Numbered.{numbered}

pub number_is_right : RightCall number_call
number_is_right =
    record {
      order = λ i. refl;
      refused = λ x. refl;
      told = λ x. refl;
      empty = λ x. refl;
      serving = λ i h x e. let z : ◌≡◌ {A = ℕ} 0 1 = cc in omega arith;
      zero = λ i h. refl;
      counting = λ i h. refl;
    }

pub number_refusals : (i : NumberInput) → CallRefusals number_call i
number_refusals i = call_refusals number_call number_is_right i

-- a refusal leaves the buffers that were lent
pub number_unchanged : (i : NumberInput) (x : ℕ) → (result_of_call number_call i).answer ≡ Refused x → (result_of_call number_call i).buffers ≡ i.buffers
number_unchanged i x e = ((number_refusals i).unchanged x e).buffers

-- what test 26 says of the strings
module _ (i : NumberInput) where
  pub given_cut : given_right i.kind i.bytes i.ends ≡ true → ends_right (length i.bytes) 0 i.ends ≡ true
  unfolding given_right
  given_cut e = and_left (ends_right (length i.bytes) 0 i.ends) _ e

  pub given_strings_lem : given_right i.kind i.bytes i.ends ≡ true → strings_right i.kind (given_strings i) ≡ true
  unfolding given_right
  given_strings_lem e = and_right (ends_right (length i.bytes) 0 i.ends) _ e

-- ---- what is read back from the buffers of a served call
abbrev Result : Type 0
Result = CallResult DictionaryWritten NumberBuffers

module _ (i : NumberInput) (h : NotRefused number_call i) where
  abbrev ss : List (List ℕ)
  ss = given_strings i

  pub bytes_left_lem : bytes_left i ≡ bytes_once ss
  bytes_left_lem =
      ap (λ (o : Result). take (written_sizes o.answer).bytes o.buffers.bytes) (call_so number_call number_is_right i h)
      ∙ take_over (bytes_once ss) i.buffers.bytes

  pub ends_left_lem : ends_left i ≡ ends_once ss
  ends_left_lem =
      ap (λ (o : Result). take (written_sizes o.answer).strings o.buffers.ends) (call_so number_call number_is_right i h)
      ∙ (ap (λ n. take n (over (ends_once ss) i.buffers.ends)) (sym (ends_length 0 (strings_once ss))) ∙ take_over (ends_once ss) i.buffers.ends)

  pub numbers_left_lem : numbers_left i ≡ string_numbers ss
  numbers_left_lem =
      let n = length-map ss (string_rank (strings_once ss)) ∙ strings_length i.bytes 0 i.ends in
      ap (λ (o : Result). take (length i.ends) o.buffers.numbers) (call_so number_call number_is_right i h)
      ∙ (ap (λ m. take m (over (string_numbers ss) i.buffers.numbers)) (sym n) ∙ take_over (string_numbers ss) i.buffers.numbers)

  pub numbers_right : NumbersRight i
  numbers_right =
      rw (bytes_left_lem, ends_left_lem, numbers_left_lem)
      (numbered i.kind ss (given_strings_lem i ((call_served number_call number_is_right i).0 h).0))
