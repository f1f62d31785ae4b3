-- The machine that reads by the grammar: each token in turn goes to the symbols that wait for it. Assumes nothing: these are definitions.
use Rattle.std.specs.Prelude.{ℕ, ◌%◌, Bool, true, false, List, [], ◌∷◌, ◌++◌, ltb}
use Rattle.syntax.specs.Cells.{Cell, refuse, pass, shift}
use Rattle.syntax.specs.Grammar.{cell_of}

-- after a token: the symbols that wait and the words that are written; or a fault
pub data AfterToken : Type 0 where
  on : List ℕ → List ℕ → AfterToken
  off : ℕ → AfterToken

-- with the word of a token that is written down
abbrev pub written_if : Bool → ℕ → List ℕ → List ℕ
written_if true t out = out ++ (t ∷ [])
written_if false t out = out

-- what a symbol does with a token, by its cell; what the symbols behind it do is handed over
abbrev pub by_cell : Cell → (List ℕ → AfterToken) → ℕ → List ℕ → List ℕ → AfterToken
by_cell (refuse n) others t st out = off n
by_cell pass others t st out = others out
by_cell (shift b p) others t st out = on (p ++ st) (written_if b t out)

-- a symbol from 64 on is a node and is written as it is
abbrev pub at_symbol : Bool → (List ℕ → AfterToken) → ℕ → ℕ → ℕ → List ℕ → List ℕ → AfterToken
at_symbol false others k t s st out = others (out ++ (s ∷ []))
at_symbol true others k t s st out = by_cell (cell_of s k) others t st out

-- a token of a kind, the symbols that wait, and what is written
unfoldable pub fed_to : ℕ → ℕ → List ℕ → List ℕ → AfterToken
fed_to k t [] out = off 3
fed_to k t (s ∷ st) out = at_symbol (ltb s 64) (fed_to k t st) k t s st out

-- what is read: the words, or a fault and the token where it is seen
pub data Parsed : Type 0 where
  read : List ℕ → Parsed
  fault : ℕ → ℕ → Parsed

-- the kind of a token, whose place among the tokens stands above it
abbrev pub word_kind : ℕ → ℕ
word_kind t = t % 128

abbrev pub by_after : AfterToken → (List ℕ → List ℕ → Parsed) → ℕ → Parsed
by_after (on st out) others t = others st out
by_after (off n) others t = fault n t

-- the last token is the text's end; a list without it is not read
unfoldable pub parsed : List ℕ → List ℕ → List ℕ → Parsed
parsed [] [] out = read out
parsed [] (s ∷ st) out = fault 3 0
parsed (t ∷ ts) st out = by_after (fed_to (word_kind t) t st out) (parsed ts) t
