pub mod ColumnLemmas
pub mod ClassLemmas
pub mod RenamingLemmas
