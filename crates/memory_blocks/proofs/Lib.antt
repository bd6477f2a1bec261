pub mod Examples
pub mod KeepingLemmas
pub mod MarkLemmas
pub mod RowLemmas
