-- What a call leaves in a buffer that it writes to. Assumes nothing: these are definitions.
use Rattle.std.specs.Prelude.{ℕ, ◌≡◌, List, length, take, drop}
use Rattle.sequences.specs.Sequences.{over}

-- some words stand over the first ones of a buffer, they are counted, and the words past them are untouched
pub record Overwritten (ws before after : List ℕ) (count : ℕ) : Type 0 where
  pub counted : count ≡ length ws
  pub front : take count after ≡ ws
  pub rest : drop count after ≡ drop count before
  pub whole : after ≡ over ws before
