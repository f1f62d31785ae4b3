-- A token and the first symbol that waits for it, whatever stands behind.
use Prim.Native.Nat.{ℕ}
use mathlib.Core.Path.{◌≡◌, refl, sym, ap, subst}
use mathlib.Core.Bool.{Bool, true, false, ◌||◌}
use mathlib.Core.List.{List, [], ◌∷◌, ◌++◌, append_assoc}
use lib.Dec.{T, eqb, ltb}
use borrow.Author.Tests.{eqb-true}
use Rattle.tokens.specs.Classes.{is_one_of}
use Rattle.syntax.specs.Kinds.{typed_operands, typing_token, name_token, typing_symbol, datatype_symbol}
use Rattle.syntax.specs.Cells.{Cell, pass, shift}
use Rattle.syntax.specs.Grammar.{cell_of}
use Rattle.syntax.specs.Machine.{fed_to, parsed, word_kind, written_if}
use Rattle.syntax.specs.Trees.{Leaf}
use Rattle.syntax.specs.Shown.{type_shown, leaf_shown}

-- ---- what holds at each of some kinds
abbrev pub AtKinds : (ℕ → Type 0) → List ℕ → Type 0
AtKinds P [] = Unit {0}
AtKinds P (k ∷ ks) = P k × AtKinds P ks

pub at_kinds : (P : ℕ → Type 0) (ks : List ℕ) → AtKinds P ks → (k : ℕ) → T (is_one_of ks k) → P k
at_kinds P [] h k t = absurd t
at_kinds P (a ∷ ks) h k t = go (eqb k a) refl (at_kinds P ks h.1 k) t
  where
    go : (b : Bool) → eqb k a ≡ b → (T (is_one_of ks k) → P k) → T (b || is_one_of ks k) → P k
    go true e f u = subst P (sym (eqb-true k a e)) h.0
    go false e f u = f u

-- ---- a token
module _ (t : ℕ) (xs : List ℕ) (s : ℕ) (st out : List ℕ) where
  pub node_written : ltb s 64 ≡ false → parsed (t ∷ xs) (s ∷ st) out ≡ parsed (t ∷ xs) st (out ++ (s ∷ []))
  unfolding parsed fed_to
  node_written h = rw h

  module _ (h : ltb s 64 ≡ true) where
    pub token_passes : cell_of s (word_kind t) ≡ pass → parsed (t ∷ xs) (s ∷ st) out ≡ parsed (t ∷ xs) st out
    unfolding parsed fed_to
    token_passes e = rw (h, e)

    pub token_taken : (b : Bool) (p : List ℕ) → cell_of s (word_kind t) ≡ shift b p → parsed (t ∷ xs) (s ∷ st) out
        ≡ parsed xs (p ++ st) (written_if b t out)
    unfolding parsed fed_to
    token_taken b p e = rw (h, e)

-- a node is written at the next token, wherever that is from
pub node_before : (s : ℕ) (zs : List ℕ) (t : ℕ) (xs st out : List ℕ) → ltb s 64 ≡ false
    → parsed (zs ++ (t ∷ xs)) (s ∷ st) out ≡ parsed (zs ++ (t ∷ xs)) st (out ++ (s ∷ []))
node_before s [] t xs st out h = node_written t xs s st out h
node_before s (z ∷ zs) t xs st out h = node_written z (zs ++ (t ∷ xs)) s st out h

-- tokens at which a node is written
abbrev pub NextReady : List ℕ → Type 0
NextReady ys = (n : ℕ) (st out : List ℕ) → ltb n 64 ≡ false → parsed ys (n ∷ st) out ≡ parsed ys st (out ++ (n ∷ []))

pub ready_cons : (t : ℕ) (xs : List ℕ) → NextReady (t ∷ xs)
ready_cons t xs n st out h = node_written t xs n st out h

pub ready_after : (l ys : List ℕ) → NextReady ys → NextReady (l ++ ys)
ready_after [] ys r = r
ready_after (x ∷ l) ys r = ready_cons x (l ++ ys)

-- a leaf of some kinds, which a symbol takes and writes at each
module _ (s : ℕ) (h : ltb s 64 ≡ true) (q : List ℕ) where
  pub leaf_taken : (ks : List ℕ) → AtKinds (λ k. cell_of s k ≡ shift true q) ks → (a : Leaf ks) (xs st out : List ℕ)
      → parsed (a.token ∷ xs) (s ∷ st) out ≡ parsed xs (q ++ st) (out ++ (a.token ∷ []))
  leaf_taken ks c a xs st out =
      token_taken a.token xs s st out h true q (at_kinds (λ k. cell_of s k ≡ shift true q) ks c (word_kind a.token) a.fits)

  -- with its datatype, if it has one
  abbrev pub typed_cell : Bool → Cell
  typed_cell true = shift true (typing_symbol ∷ datatype_symbol ∷ q)
  typed_cell false = shift true q

  pub operand_taken : (ks : List ℕ) → AtKinds (λ k. cell_of s k ≡ typed_cell (is_one_of typed_operands k)) ks → (a : Leaf ks) (xs st out : List ℕ)
      → parsed (leaf_shown a.token ++ xs) (s ∷ st) out ≡ parsed xs (q ++ st) (out ++ (a.token ∷ []))
  unfolding parsed fed_to cell_of
  operand_taken ks c a xs st out =
      go (is_one_of typed_operands (word_kind a.token))
      (at_kinds (λ k. cell_of s k ≡ typed_cell (is_one_of typed_operands k)) ks c (word_kind a.token) a.fits)
    where
      go : (b : Bool) → cell_of s (word_kind a.token) ≡ typed_cell b
          → parsed ((a.token ∷ type_shown b) ++ xs) (s ∷ st) out ≡ parsed xs (q ++ st) (out ++ (a.token ∷ []))
      go true e = token_taken a.token (typing_token ∷ name_token ∷ xs) s st out h true (typing_symbol ∷ datatype_symbol ∷ q) e
      go false e = token_taken a.token xs s st out h true q e

-- the tokens that follow come after those of the last part
pub behind : (xs ys zs st out : List ℕ) → parsed ((xs ++ ys) ++ zs) st out ≡ parsed (xs ++ (ys ++ zs)) st out
behind xs ys zs st out = ap (λ l. parsed l st out) (append_assoc xs ys zs)

-- a word more, before others
pub one_more_fact : (out : List ℕ) (x : ℕ) (l : List ℕ) → (out ++ (x ∷ [])) ++ l ≡ out ++ (x ∷ l)
one_more_fact out x l = append_assoc out (x ∷ []) l
