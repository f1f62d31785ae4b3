-- Writing a list over the first words of a buffer, and taking up a delivered row: what is answered and what the buffer holds, by
-- the list with the row. Assumes nothing: these are definitions.
use Rattle.std.specs.Prelude.{ℕ, ◌≡◌, cond, Option, Some, None, List, length, leb}
use Rattle.sequences.specs.Sequences.{over}

-- the words of the list, or that the output has no room for them
abbrev pub put_as : List ℕ → List ℕ → Option ℕ
put_as list out = cond (leb (length list) (length out)) (Some (length list)) None

-- the list over the first words of the output; without room it is as it was
abbrev pub put_over : List ℕ → List ℕ → List ℕ
put_over list out = cond (leb (length list) (length out)) (over list out) out

-- both, of an output before and after
abbrev pub Taken : List ℕ → List ℕ → List ℕ → Option ℕ → Type 0
Taken list before after answer = (answer ≡ put_as list before) × (after ≡ put_over list before)

-- a list that has room anyway: its words are counted, and it stands over the first words of the buffer
abbrev pub Listed : List ℕ → List ℕ → List ℕ → ℕ → Type 0
Listed list before after count = (count ≡ length list) × (after ≡ over list before)
