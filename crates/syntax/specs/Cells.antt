-- What a symbol of the grammar does at a token. Assumes nothing: these are definitions.
use Rattle.std.specs.Prelude.{ℕ, Bool, true, false, cond, List, [], ◌∷◌, eqb}
use Rattle.tokens.specs.Classes.{is_one_of}
use Rattle.syntax.specs.Kinds.{unread_token, bad_token, wrong_token, select_word, from_word, graph_word}

-- it refuses it by a fault, or passes and leaves it to the next symbol, or takes it, perhaps writes it down, and leaves other symbols in its place
pub data Cell : Type 0 where
  refuse : ℕ → Cell
  pass : Cell
  shift : Bool → List ℕ → Cell

abbrev pub write_and : List ℕ → Cell
write_and p = shift true p

abbrev pub drop_and : List ℕ → Cell
drop_and p = shift false p

-- at any of some kinds of tokens
pub data Choice : Type 0 where
  at : List ℕ → Cell → Choice

-- what a symbol does; elsewhere it refuses, or passes
pub data Row : Type 0 where
  refusing : List Choice → Row
  passing : List Choice → Row

-- the fault of a token out of place: SPARQL that is not read there, no token, a token that does not end, or another one is expected
abbrev pub misplaced : ℕ → ℕ
misplaced k =
    cond (is_one_of (unread_token ∷ select_word ∷ from_word ∷ graph_word ∷ []) k) 5 (cond (eqb k bad_token) 1 (cond (eqb k wrong_token) 2 3))

abbrev pub cell_in : List Choice → ℕ → Cell → Cell
cell_in [] k c = c
cell_in (at ks c ∷ cs) k d = elim (is_one_of ks k) [ true ↦ c | false ↦ cell_in cs k d ]

abbrev pub row_cell : Row → ℕ → Cell
row_cell (refusing cs) k = cell_in cs k (refuse (misplaced k))
row_cell (passing cs) k = cell_in cs k pass
