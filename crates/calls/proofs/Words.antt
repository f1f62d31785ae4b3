-- A call that writes words is right: a refused one leaves the buffer that was lent, and a served one writes them over its first words.
use Prim.Native.Nat.{ℕ, ◌≤◌}
use native.Mathlib.Omega.{arith}
use mathlib.Core.Path.{◌≡◌, refl, subst⁻¹}
use mathlib.Core.List.{List, map}
use lib.ListN.{length}
use Rattle.sequences.proofs.Buffers.{overwritten}
use Rattle.words.specs.Tests.{Test}
use Rattle.words.specs.declared.Written.TheVariants.{Refused}
use Rattle.calls.specs.Calls.{RightCall, result_of_call}
use Rattle.calls.specs.Words.{WordsResult, written_over, writes_words, WordsOver}
use Rattle.calls.proofs.Refusals.{call_refusals}

pub words_right : {I : Type 0} (tests : I → List Test) (numbers : List ℕ) (lent words : I → List ℕ)
    → ((i : I) → map (λ (x : Test). x.0) (tests i) ≡ numbers) → RightCall (writes_words tests numbers lent words)
words_right tests numbers lent words order =
    record {
      order = order;
      refused = λ x. refl;
      told = λ x. refl;
      empty = λ x. refl;
      serving = λ i h x e. let z : ◌≡◌ {A = ℕ} 0 1 = cc in omega arith;
      zero = λ i h. refl;
      counting = λ i h. refl;
    }

-- what a refused call leaves: the buffer that was lent
pub words_unchanged : {I : Type 0} (tests : I → List Test) (numbers : List ℕ) (lent words : I → List ℕ)
    → ((i : I) → map (λ (x : Test). x.0) (tests i) ≡ numbers) → (i : I) (x : ℕ)
    → (result_of_call (writes_words tests numbers lent words) i).answer ≡ Refused x
    → (result_of_call (writes_words tests numbers lent words) i).buffers ≡ lent i
words_unchanged tests numbers lent words order i x e =
    ((call_refusals (writes_words tests numbers lent words) (words_right tests numbers lent words order) i).unchanged x e).buffers

-- what a served call leaves, where its tests have seen to the room
pub words_over : (ws before : List ℕ) (r : WordsResult) → r ≡ written_over ws before → length ws ≤ length before → WordsOver ws before r
words_over ws before r e room = subst⁻¹ (WordsOver ws before) e (record { buffer = overwritten ws before; room = room })
