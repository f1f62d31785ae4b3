-- The words of a whole query, and the tokens that it is shown as. Assumes nothing: these are definitions.
use Rattle.std.specs.Prelude.{ℕ, List, [], ◌∷◌, ◌++◌}
use Rattle.std.proofs.Math.Option.{Option, none, some}
use Rattle.syntax.specs.Kinds.{variable_kinds, end_token, select_word, distinct_word, from_word, graph_word, by_word, order_word, limit_word, offset_word}
use Rattle.syntax.specs.Kinds.{as_word, brace_sign, unbrace_sign, opens_sign, closes_sign, column_node, aggregate_node, count_distinct_node, from_node}
use Rattle.syntax.specs.Kinds.{open_node, graph_node, by_node, key_node, key_by_node, limit_node, offset_node}
use Rattle.syntax.specs.Trees.{Leaf, counted, counted_distinct, measured, Column, plain, aggregated, Columns, everything, listed}
use Rattle.syntax.specs.Trees.{Source, latest, of_year, every_year, Grouping, ungrouped, grouped, SortKey, plain_key, directed, Query}
use Rattle.syntax.specs.Shown.{parts_words, parts_shown}

-- a list, one after the other
abbrev pub one_by_one : {A : Type 0} → (A → List ℕ) → List A → List ℕ
one_by_one f [] = []
one_by_one f (a ∷ l) = f a ++ one_by_one f l

abbrev pub if_there : {A : Type 0} → (A → List ℕ) → Option A → List ℕ
if_there f none = []
if_there f (some a) = f a

-- ---- words
abbrev pub column_words : Column → List ℕ
column_words (plain v) = v.token ∷ column_node ∷ []
column_words (aggregated b (counted c a) v) = b.token ∷ c.token ∷ a.token ∷ v.token ∷ aggregate_node ∷ []
column_words (aggregated b (counted_distinct c a) v) = b.token ∷ c.token ∷ a.token ∷ v.token ∷ count_distinct_node ∷ []
column_words (aggregated b (measured c a) v) = b.token ∷ c.token ∷ a.token ∷ v.token ∷ aggregate_node ∷ []

abbrev pub columns_words : Columns → List ℕ
columns_words (everything a) = a.token ∷ column_node ∷ []
columns_words (listed c l) = column_words c ++ one_by_one column_words l

abbrev pub from_year_words : Source → List ℕ
from_year_words (of_year y) = y.token ∷ from_node ∷ []
from_year_words latest = []
from_year_words (every_year v) = []

abbrev pub graph_words : Source → List ℕ
graph_words (every_year v) = v.token ∷ graph_node ∷ []
graph_words latest = []
graph_words (of_year y) = []

abbrev pub group_name_words : Leaf variable_kinds → List ℕ
group_name_words v = v.token ∷ by_node ∷ []

abbrev pub grouping_words : Grouping → List ℕ
grouping_words ungrouped = []
grouping_words (grouped w v l) = w.token ∷ (group_name_words v ++ one_by_one group_name_words l)

abbrev pub key_words : SortKey → List ℕ
key_words (plain_key v) = v.token ∷ key_node ∷ []
key_words (directed d v) = d.token ∷ v.token ∷ key_by_node ∷ []

abbrev pub ending_words : Query → List ℕ
ending_words q =
    grouping_words q.grouping
    ++ (one_by_one key_words q.sort_keys
    ++ (if_there (λ n. n.token ∷ limit_node ∷ []) q.limit ++ if_there (λ n. n.token ∷ offset_node ∷ []) q.offset))

abbrev pub query_words : Query → List ℕ
query_words q =
    if_there (λ d. d.token ∷ []) q.distinct
    ++ (columns_words q.columns
    ++ (from_year_words q.source ++ (open_node ∷ (graph_words q.source ++ (parts_words q.pattern ++ (q.closing.token ∷ ending_words q))))))

-- ---- tokens
abbrev pub column_shown : Column → List ℕ
column_shown (plain v) = v.token ∷ []
column_shown (aggregated b (counted c a) v) =
    b.token ∷ c.token ∷ opens_sign ∷ a.token ∷ closes_sign ∷ as_word ∷ v.token ∷ closes_sign ∷ []
column_shown (aggregated b (counted_distinct c a) v) =
    b.token ∷ c.token ∷ opens_sign ∷ distinct_word ∷ a.token ∷ closes_sign ∷ as_word ∷ v.token ∷ closes_sign ∷ []
column_shown (aggregated b (measured c a) v) =
    b.token ∷ c.token ∷ opens_sign ∷ a.token ∷ closes_sign ∷ as_word ∷ v.token ∷ closes_sign ∷ []

abbrev pub columns_shown : Columns → List ℕ
columns_shown (everything a) = a.token ∷ []
columns_shown (listed c l) = column_shown c ++ one_by_one column_shown l

abbrev pub year_shown : Source → List ℕ
year_shown (of_year y) = from_word ∷ y.token ∷ []
year_shown latest = []
year_shown (every_year v) = []

-- GRAPH's group around the parts of the pattern and the brace that closes them
abbrev pub graph_shown : Source → List ℕ → List ℕ
graph_shown (every_year v) ts = graph_word ∷ v.token ∷ brace_sign ∷ (ts ++ (unbrace_sign ∷ []))
graph_shown latest ts = ts
graph_shown (of_year y) ts = ts

abbrev pub name_shown : Leaf variable_kinds → List ℕ
name_shown v = v.token ∷ []

abbrev pub grouping_shown : Grouping → List ℕ
grouping_shown ungrouped = []
grouping_shown (grouped w v l) = w.token ∷ by_word ∷ v.token ∷ one_by_one name_shown l

abbrev pub key_shown : SortKey → List ℕ
key_shown (plain_key v) = v.token ∷ []
key_shown (directed d v) = d.token ∷ opens_sign ∷ v.token ∷ closes_sign ∷ []

abbrev pub keys_shown : List SortKey → List ℕ
keys_shown [] = []
keys_shown (k ∷ l) = order_word ∷ by_word ∷ (key_shown k ++ one_by_one key_shown l)

abbrev pub ending_shown : Query → List ℕ
ending_shown q =
    grouping_shown q.grouping
    ++ (keys_shown q.sort_keys
    ++ (if_there (λ n. limit_word ∷ n.token ∷ []) q.limit ++ (if_there (λ n. offset_word ∷ n.token ∷ []) q.offset ++ (end_token ∷ []))))

abbrev pub query_shown : Query → List ℕ
query_shown q =
    select_word
    ∷ (if_there (λ d. d.token ∷ []) q.distinct
    ++ (columns_shown q.columns
    ++ (year_shown q.source
    ++ (brace_sign ∷ (graph_shown q.source (parts_shown q.pattern ++ (q.closing.token ∷ [])) ++ ending_shown q)))))
