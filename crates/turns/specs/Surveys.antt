-- A survey: tables, and the number that is given beside them. Assumes nothing: these are definitions.
use Rattle.std.specs.Prelude.{ℕ, List}
use Rattle.tables.specs.Tables.{Tables, tables_of}

pub record Survey : Type 0 where
  pub tables : Tables
  pub number : ℕ

-- some tables under a number
abbrev pub under_number : ℕ → Tables → Survey
under_number number t = record { tables = t; number = number }

-- what a call lends: the tables as row words and two lists, and the number
abbrev pub survey_of : List ℕ → List ℕ → List ℕ → ℕ → Survey
survey_of rows pos osp number = under_number number (tables_of rows pos osp)
