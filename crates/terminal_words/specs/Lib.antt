pub mod SpellingTables
