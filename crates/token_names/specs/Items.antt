-- The items of names with dots. Assumes nothing: these are definitions.
use Rattle.std.specs.Prelude.{ℕ, Bool, true, false, cond, ◌&&◌, List, Option, Some, None, eqb}
use Rattle.tokens.specs.Runs.{name_item, local_item}

-- of a local name, or of a prefix and of a blank node's label
abbrev pub item_of : Bool → ℕ → List ℕ → ℕ
item_of true c cs = local_item c cs
item_of false c cs = name_item c cs

-- [170] by what the characters are: %, two hexadecimal digits behind it; a backslash, an escape behind it
abbrev pub plx_by : Bool → Bool → Bool → Bool → Bool → ℕ
plx_by percent next second back escape = cond (percent && (next && second)) 3 (cond (back && escape) 2 0)

-- a number of characters, where there are some
abbrev pub counted : ℕ → Option ℕ
counted n = cond (eqb n 0) None (Some n)
