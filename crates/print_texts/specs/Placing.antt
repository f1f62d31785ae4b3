-- A text put over a line that is lent, from a place on. Assumes nothing: these are definitions.
use Rattle.std.specs.Prelude.{ℕ, ◌+◌, ◌≡◌, List, ◌++◌, length, take, drop}
use Rattle.print_texts.specs.Texts.{Text}

-- `line` with `text` over its bytes from `at` on
abbrev pub placed : Text → ℕ → List ℕ → List ℕ
placed text at line = take at line ++ text ++ drop (at + length text) line

-- of a line before and after: `text` stands there from `at` on, and the place answered, `end`, is the one after it
abbrev pub PlacedText : Text → ℕ → List ℕ → List ℕ → ℕ → Type 0
PlacedText text at before after end = (end ≡ at + length text) × (after ≡ placed text at before)
