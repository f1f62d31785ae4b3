-- Where terms stood before numbers had a sign, when a number counted for its 30 bits; and which terms there were. Assumes nothing: these are
-- definitions.
use Rattle.std.specs.Prelude.{ℕ, ◌+◌, ◌*◌, ◌<◌, ◌≡◌, cond}
use Rattle.words.specs.Words.{number_kind, half_values, term_values, term_kind, term_value, is_variable}

-- the place of a term among those of its kind, and in the order of keys
abbrev pub former_rank : ℕ → ℕ
former_rank w = term_value w

abbrev pub former_key_rank : ℕ → ℕ
former_key_rank w = cond (is_variable w) 0 (1 + term_kind w * term_values + former_rank w)

-- no number stored or written was 2^29 or more
abbrev pub Former : ℕ → Type 0
Former w = term_kind w ≡ number_kind → term_value w < half_values
