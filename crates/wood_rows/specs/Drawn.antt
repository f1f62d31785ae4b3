-- The words of a stem's rows, where its two draws have moved x to these. Assumes nothing: this is a definition.
use Rattle.std.specs.Prelude.{ℕ, ◌+◌, ◌/◌, ◌%◌, List, [], ◌∷◌}
use Rattle.words.specs.Words.{name, number}
use Rattle.woods.specs.Woods.{stem_name, in_stand, has_diameter}

abbrev pub stem_words : ℕ → ℕ → ℕ → ℕ → List ℕ
stem_words year j first second =
    number year ∷ stem_name j ∷ in_stand ∷ name (100 + first / 65536 % 20)
    ∷ number year ∷ stem_name j ∷ has_diameter ∷ number (20 + second / 65536 % 600) ∷ []
