use mathlib.Core.Path.{refl}
use native.Mathlib.Omega.{arith}
use Rattle.syntax_cells.specs.TableWords.{grammar_words}
use Rattle.syntax_parses.proofs.parse_tokens.Goals as goal

pub parse-requires : goal.parse-requires
unfolding grammar_words
parse-requires c = (omega arith, omega arith, refl)
