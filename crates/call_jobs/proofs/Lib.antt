pub mod EndLemmas
pub mod EntryLemmas
