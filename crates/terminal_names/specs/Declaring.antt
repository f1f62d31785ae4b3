-- Declarations as the code reads them: nine words each, the first so many of a text. Assumes nothing: these are definitions.
use Rattle.std.specs.Prelude.{ℕ, zero, suc, List, [], ◌∷◌, Option, Some, None, get_or, take, drop}
use Rattle.terminals.specs.Names.{within, name_prefix, Declaration, Declared, nothing, iri}

-- the characters of the token whose words stand first
abbrev pub letters_of : List ℕ → List ℕ → List ℕ
letters_of points ws = take (get_or ws 2 0) (drop (get_or ws 1 0) points)

-- what the IRI stands for whose words stand at a place, if there is one
abbrev pub declared_at : List ℕ → List ℕ → Option ℕ → Declared
declared_at points ws None = nothing
declared_at points ws (Some at) = iri (within (letters_of points (drop at ws)))

unfoldable pub declared_first : List ℕ → ℕ → List ℕ → List Declaration
declared_first points zero ws = []
declared_first points (suc n) ws =
    record { prefix = name_prefix (letters_of points (drop 3 ws)); stands = iri (within (letters_of points (drop 6 ws))) }
    ∷ declared_first points n (drop 9 ws)
