-- Writing the tables that an adviser may see: the tests in order, the answer, and the buffers at exit. Assumes nothing: these are definitions.
use Rattle.std.specs.Prelude.{ℕ, Bool, ◌&&◌, List, [], ◌∷◌, ◌++◌, eqb, ltb}
use Rattle.words.specs.Words.{term_kind, name_kind}
use Rattle.sequences.specs.Sequences.{all, neighbours}
use Rattle.words.specs.Tests.{Test}
use Rattle.calls.specs.Calls.{CallSchema, result_of_call}
use Rattle.tables.specs.Tables.{Tables, tables_of, table_tests}
use Rattle.table_answers.specs.declared.TablesWritten.{TablesWritten}
use Rattle.table_answers.specs.Writing.{TableBuffers, table_buffers, tables_room, TablesResult, TableWords, writes_tables}
use Rattle.views.specs.Views.{view_of}

-- what a call lends
pub record ViewInput : Type 0 where
  pub tables : Tables
  pub grant : List ℕ
  pub membership : ℕ
  pub buffers : TableBuffers

abbrev pub view_input : List ℕ → List ℕ → List ℕ → List ℕ → ℕ → List ℕ → List ℕ → List ℕ → ViewInput
view_input rows pos osp grant membership view-rows view-pos view-osp =
    record {
      tables = tables_of rows pos osp;
      grant = grant;
      membership = membership;
      buffers = table_buffers view-rows view-pos view-osp;
    }

-- what an adviser sees of the lent tables
abbrev pub view_in : ViewInput → Tables
view_in i = view_of i.tables i.grant i.membership

-- ---- the tests
abbrev pub is_name : ℕ → Bool
is_name w = eqb (term_kind w) name_kind

-- 20: the grant has names alone, strictly ascending
unfoldable pub grant_right : List ℕ → Bool
grant_right grant = all is_name grant && neighbours ltb grant

-- 20, and then 21: each buffer has room for what is written to it
abbrev pub view_own_tests : ViewInput → List Test
view_own_tests i = (20, grant_right i.grant) ∷ (21, tables_room (view_in i) i.buffers) ∷ []

abbrev pub view_tests : ViewInput → List Test
view_tests i = table_tests i.tables ++ view_own_tests i

-- ---- the call
abbrev pub view_schema : CallSchema ViewInput TablesWritten TablesWritten TableBuffers TableWords
view_schema = writes_tables view_tests (1 ∷ 2 ∷ 23 ∷ 3 ∷ 4 ∷ 20 ∷ 21 ∷ []) (λ i. i.buffers) view_in

abbrev pub view_call_of : ViewInput → TablesResult
view_call_of = result_of_call view_schema
