-- What each ending made of delivered rows before numbers had a sign: best-of lists and group records in the former order of keys, sums of whole numbers
-- from 0 on. Assumes nothing: these are definitions.
use Rattle.std.specs.Prelude.{ℕ, ◌+◌, Bool, true, cond, ◌&&◌, eqb, ltb, leb}
use mathlib.Core.List.{List, [], ◌∷◌, ◌++◌, map, flatten}
use Rattle.words.specs.Words.{term_value, is_number, unbound}
use Rattle.words.specs.Former.{former_rank}
use Rattle.words.specs.Bindings.{Bindings, value_of}
use Rattle.sequences.specs.Sequences.{all}
use Rattle.sequences.specs.Sorting.{best_by}
use Rattle.plans.specs.Endings.{Ending, rows, top, group, registers}
use Rattle.registers.specs.Registers.{registers_of}
use Rattle.lists.specs.Rows.{project, bound_values}
use Rattle.lists.specs.Sums.{long_values, half_longs}
use Rattle.lists.specs.Groups.{add_all_by, two_words}
use Rattle.lists.specs.Former.{former_row_before, former_keys_before}

-- ---- groups
pub record FormerGroup : Type 0 where
  pub keys : List ℕ
  pub rows : ℕ
  pub numbers : ℕ
  pub sum : ℕ
  pub least : ℕ
  pub greatest : ℕ

-- the record of one row, with its keys and its measured value
abbrev pub former_of_value : List ℕ → ℕ → FormerGroup
former_of_value keys x =
    record {
      keys = keys;
      rows = 1;
      numbers = cond (is_number x) 1 0;
      sum = cond (is_number x) (term_value x) 0;
      least = cond (is_number x) x unbound;
      greatest = cond (is_number x) x unbound;
    }

-- the lesser and the greater of two numbers, each of which may be unbound
abbrev pub former_lesser : ℕ → ℕ → ℕ
former_lesser a b = cond (eqb a unbound) b (cond (eqb b unbound) a (cond (leb (former_rank a) (former_rank b)) a b))

abbrev pub former_greater : ℕ → ℕ → ℕ
former_greater a b = cond (eqb a unbound) b (cond (eqb b unbound) a (cond (leb (former_rank a) (former_rank b)) b a))

abbrev pub former_together : FormerGroup → FormerGroup → FormerGroup
former_together g h =
    record {
      keys = g.keys;
      rows = g.rows + h.rows;
      numbers = g.numbers + h.numbers;
      sum = g.sum + h.sum;
      least = former_lesser g.least h.least;
      greatest = former_greater g.greatest h.greatest;
    }

abbrev pub former_groups : List ℕ → ℕ → List Bindings → List FormerGroup
former_groups vs m bs =
    add_all_by (λ g h. former_keys_before g.keys h.keys) former_together [] (map (λ b. former_of_value (project vs b) (value_of b m)) bs)

unfoldable pub former_words : FormerGroup → List ℕ
former_words g =
    g.keys ++ (two_words g.rows ++ (two_words g.numbers ++ (two_words g.sum ++ (g.least ∷ g.greatest ∷ []))))

-- ---- the list of some delivered rows
unfoldable pub former_gathered : Ending → List Bindings → List ℕ
former_gathered (rows vs) bs = flatten (map (project vs) bs)
former_gathered (top k vs keys) bs = flatten (best_by (former_row_before vs keys) k (map (project vs) bs))
former_gathered (group vs m) bs = flatten (map former_words (former_groups vs m bs))
former_gathered (registers v) bs = registers_of (bound_values v bs)

-- no sum passes 2^63 - 1, and no count 2^64 - 1
abbrev pub former_group_fits : FormerGroup → Bool
former_group_fits g = ltb g.rows long_values && (ltb g.numbers long_values && ltb g.sum half_longs)

abbrev pub former_fits : Ending → List Bindings → Bool
former_fits (rows vs) bs = true
former_fits (top k vs keys) bs = true
former_fits (group vs m) bs = all former_group_fits (former_groups vs m bs)
former_fits (registers v) bs = true
