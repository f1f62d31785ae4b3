-- What is known of a query while its words are taken, but for its pattern; and the query that it is in the end. Assumes nothing: these are definitions.
use Rattle.std.proofs.Math.Option.{Option, none, some}
use Rattle.std.specs.Prelude.{List, [], ◌∷◌, ◌++◌}
use Rattle.syntax.specs.Kinds.{variable_kinds, distinct_word, star_sign, grouping_word, count_token, unbrace_sign}
use Rattle.syntax.specs.Trees.{Leaf, GroupPattern, Column, Columns, everything, listed, Source, latest, Grouping, ungrouped, grouped, SortKey, Query}

pub record Outline : Type 0 where
  pub distinct_by : Option (Leaf (distinct_word ∷ []))
  pub star_by : Option (Leaf (star_sign ∷ []))
  pub columns_by : List Column
  pub source_by : Source
  pub group_word_by : Option (Leaf (grouping_word ∷ []))
  pub names_by : List (Leaf variable_kinds)
  pub keys_by : List SortKey
  pub limit_by : Option (Leaf (count_token ∷ []))
  pub offset_by : Option (Leaf (count_token ∷ []))

abbrev pub no_outline : Outline
no_outline =
    record {
      distinct_by = none;
      star_by = none;
      columns_by = [];
      source_by = latest;
      group_word_by = none;
      names_by = [];
      keys_by = [];
      limit_by = none;
      offset_by = none;
    }

abbrev pub with_distinct : Leaf (distinct_word ∷ []) → Outline → Outline
with_distinct a o =
    record {
      distinct_by = some a;
      star_by = o.star_by;
      columns_by = o.columns_by;
      source_by = o.source_by;
      group_word_by = o.group_word_by;
      names_by = o.names_by;
      keys_by = o.keys_by;
      limit_by = o.limit_by;
      offset_by = o.offset_by;
    }

abbrev pub with_star : Leaf (star_sign ∷ []) → Outline → Outline
with_star a o =
    record {
      distinct_by = o.distinct_by;
      star_by = some a;
      columns_by = o.columns_by;
      source_by = o.source_by;
      group_word_by = o.group_word_by;
      names_by = o.names_by;
      keys_by = o.keys_by;
      limit_by = o.limit_by;
      offset_by = o.offset_by;
    }

abbrev pub with_column : Column → Outline → Outline
with_column a o =
    record {
      distinct_by = o.distinct_by;
      star_by = o.star_by;
      columns_by = o.columns_by ++ (a ∷ []);
      source_by = o.source_by;
      group_word_by = o.group_word_by;
      names_by = o.names_by;
      keys_by = o.keys_by;
      limit_by = o.limit_by;
      offset_by = o.offset_by;
    }

abbrev pub with_source : Source → Outline → Outline
with_source a o =
    record {
      distinct_by = o.distinct_by;
      star_by = o.star_by;
      columns_by = o.columns_by;
      source_by = a;
      group_word_by = o.group_word_by;
      names_by = o.names_by;
      keys_by = o.keys_by;
      limit_by = o.limit_by;
      offset_by = o.offset_by;
    }

abbrev pub with_group_word : Leaf (grouping_word ∷ []) → Outline → Outline
with_group_word a o =
    record {
      distinct_by = o.distinct_by;
      star_by = o.star_by;
      columns_by = o.columns_by;
      source_by = o.source_by;
      group_word_by = some a;
      names_by = o.names_by;
      keys_by = o.keys_by;
      limit_by = o.limit_by;
      offset_by = o.offset_by;
    }

abbrev pub with_name : Leaf variable_kinds → Outline → Outline
with_name a o =
    record {
      distinct_by = o.distinct_by;
      star_by = o.star_by;
      columns_by = o.columns_by;
      source_by = o.source_by;
      group_word_by = o.group_word_by;
      names_by = o.names_by ++ (a ∷ []);
      keys_by = o.keys_by;
      limit_by = o.limit_by;
      offset_by = o.offset_by;
    }

abbrev pub with_key : SortKey → Outline → Outline
with_key a o =
    record {
      distinct_by = o.distinct_by;
      star_by = o.star_by;
      columns_by = o.columns_by;
      source_by = o.source_by;
      group_word_by = o.group_word_by;
      names_by = o.names_by;
      keys_by = o.keys_by ++ (a ∷ []);
      limit_by = o.limit_by;
      offset_by = o.offset_by;
    }

abbrev pub with_limit : Leaf (count_token ∷ []) → Outline → Outline
with_limit a o =
    record {
      distinct_by = o.distinct_by;
      star_by = o.star_by;
      columns_by = o.columns_by;
      source_by = o.source_by;
      group_word_by = o.group_word_by;
      names_by = o.names_by;
      keys_by = o.keys_by;
      limit_by = some a;
      offset_by = o.offset_by;
    }

abbrev pub with_offset : Leaf (count_token ∷ []) → Outline → Outline
with_offset a o =
    record {
      distinct_by = o.distinct_by;
      star_by = o.star_by;
      columns_by = o.columns_by;
      source_by = o.source_by;
      group_word_by = o.group_word_by;
      names_by = o.names_by;
      keys_by = o.keys_by;
      limit_by = o.limit_by;
      offset_by = some a;
    }

-- * alone, or at least one column
abbrev pub columns_from : Option (Leaf (star_sign ∷ [])) → List Column → Option Columns
columns_from (some a) [] = some (everything a)
columns_from (some a) (c ∷ l) = none
columns_from none [] = none
columns_from none (c ∷ l) = some (listed c l)

-- the word GROUP with at least one name, or neither
abbrev pub grouping_from : Option (Leaf (grouping_word ∷ [])) → List (Leaf variable_kinds) → Option Grouping
grouping_from none [] = some ungrouped
grouping_from none (v ∷ l) = none
grouping_from (some w) [] = none
grouping_from (some w) (v ∷ l) = some (grouped w v l)

abbrev pub query_by : Outline → GroupPattern → Leaf (unbrace_sign ∷ []) → Option Columns → Option Grouping → Option Query
query_by o g c none y = none
query_by o g c (some x) none = none
query_by o g c (some x) (some y) =
    some (record {
      distinct = o.distinct_by;
      columns = x;
      source = o.source_by;
      pattern = g;
      closing = c;
      grouping = y;
      sort_keys = o.keys_by;
      limit = o.limit_by;
      offset = o.offset_by;
    })

abbrev pub query_with : Outline → GroupPattern → Leaf (unbrace_sign ∷ []) → Option Query
query_with o g c = query_by o g c (columns_from o.star_by o.columns_by) (grouping_from o.group_word_by o.names_by)
