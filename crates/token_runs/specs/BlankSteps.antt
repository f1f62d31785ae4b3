-- Blanks and comments character by character. Assumes nothing: these are definitions.
use Rattle.std.specs.Prelude.{ℕ, Bool, true, false, cond, not, Option, Some, None, eqb}
use Rattle.characters.specs.Sequences.{no_point}
use Rattle.tokens.specs.Classes.{is_blank, is_line_end}

-- in a comment or not: whether a comment goes on behind the character, which is of them
abbrev pub blank_step : Bool → ℕ → Option Bool
blank_step true c = cond (eqb c no_point) None (Some (not (is_line_end c)))
blank_step false c = cond (eqb c 0x23) (Some true) (cond (is_blank c) (Some false) None)
