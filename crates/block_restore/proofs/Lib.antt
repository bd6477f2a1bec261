pub mod MarkLemmas
pub mod BlockLemmas
