-- The numbers and values of the rules (docs/RULES.md, 10) in an answer of words, or of a refusal. Assumes nothing: these are definitions.
use Rattle.std.specs.Prelude.{ℕ}
use Rattle.words.specs.declared.Written.{Written}
use Rattle.words.specs.declared.Written.TheVariants.{Words, Refused}

-- the number of the test that refused a call, 0 where it was served
abbrev pub refusal_in : Written → ℕ
refusal_in (Words n) = 0
refusal_in (Refused x) = x

-- the words written: none by a refused call
abbrev pub words_in : Written → ℕ
words_in (Words n) = n
words_in (Refused x) = 0
