pub mod SequenceLemmas
pub mod SameTypeLemmas
pub mod Found
