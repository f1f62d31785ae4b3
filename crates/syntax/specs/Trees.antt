-- Syntax trees of a query. Numbers in brackets are SPARQL 1.1's productions (19.8). Assumes nothing: these are definitions.
use Rattle.std.specs.Prelude.{ℕ, List, [], ◌∷◌, T}
use Rattle.std.proofs.Math.Option.{Option}
use Rattle.tokens.specs.Classes.{is_one_of}
use Rattle.syntax.specs.Kinds.{operands, objects, verbs, variable_kinds, comparison_signs, measures, countables, directions}
use Rattle.syntax.specs.Kinds.{filter_word, unbrace_sign, count_word, opens_sign, star_sign, year_token, count_token, distinct_word, grouping_word}
use Rattle.syntax.specs.Machine.{word_kind}

-- a token of one of some kinds: its kind, and 128 times its place among the tokens
pub record Leaf (kinds : List ℕ) : Type 0 where
  pub token : ℕ
  pub fits : T (is_one_of kinds (word_kind token))

-- [111-119] a condition; x NOT IN (..) is the negation of x IN (..)
pub data Constraint : Type 0 where
  compared : Leaf operands → Leaf comparison_signs → Leaf operands → Constraint
  among : Leaf operands → List (Leaf operands) → Constraint
  negated : Constraint → Constraint
  both : Constraint → Constraint → Constraint
  either : Constraint → Constraint → Constraint

-- [53-55,67,68] a group, one part after the other; a part in braces is one group or more, each with the brace that closes it.
-- Of ';' and ',' nothing is left: each triple has its subject and its verb (4.2.1, 4.2.2)
mutual
  pub data GroupPattern : Type 0 where
    empty : GroupPattern
    with_triple : GroupPattern → Leaf objects → Leaf verbs → Leaf objects → GroupPattern
    with_filter : GroupPattern → Leaf (filter_word ∷ []) → Constraint → GroupPattern
    with_union : GroupPattern → GroupOrUnion → GroupPattern

  pub data GroupOrUnion : Type 0 where
    alone : GroupPattern → Leaf (unbrace_sign ∷ []) → GroupOrUnion
    united : GroupOrUnion → GroupPattern → Leaf (unbrace_sign ∷ []) → GroupOrUnion

-- [127] COUNT of a variable or of *, COUNT(DISTINCT ?x), and the other functions
pub data Aggregate : Type 0 where
  counted : Leaf (count_word ∷ []) → Leaf countables → Aggregate
  counted_distinct : Leaf (count_word ∷ []) → Leaf variable_kinds → Aggregate
  measured : Leaf measures → Leaf variable_kinds → Aggregate

-- [9] a column: a variable; or a bracket, an aggregate and the name behind AS
pub data Column : Type 0 where
  plain : Leaf variable_kinds → Column
  aggregated : Leaf (opens_sign ∷ []) → Aggregate → Leaf variable_kinds → Column

pub data Columns : Type 0 where
  everything : Leaf (star_sign ∷ []) → Columns
  listed : Column → List Column → Columns

-- [13-15,58] whose graphs: the latest year's, one year's, or each year's in turn
pub data Source : Type 0 where
  latest : Source
  of_year : Leaf (year_token ∷ []) → Source
  every_year : Leaf variable_kinds → Source

-- [19] the word GROUP, and the variables behind it
pub data Grouping : Type 0 where
  ungrouped : Grouping
  grouped : Leaf (grouping_word ∷ []) → Leaf variable_kinds → List (Leaf variable_kinds) → Grouping

-- [24] ?x, or ASC or DESC of it
pub data SortKey : Type 0 where
  plain_key : Leaf variable_kinds → SortKey
  directed : Leaf directions → Leaf variable_kinds → SortKey

pub record Query : Type 0 where
  pub distinct : Option (Leaf (distinct_word ∷ []))
  pub columns : Columns
  pub source : Source
  pub pattern : GroupPattern
  pub closing : Leaf (unbrace_sign ∷ [])
  pub grouping : Grouping
  pub sort_keys : List SortKey
  pub limit : Option (Leaf (count_token ∷ []))
  pub offset : Option (Leaf (count_token ∷ []))
