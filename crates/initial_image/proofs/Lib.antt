pub mod SegmentLemmas
pub mod MisfitLemmas
pub mod MemoryLemmas
pub mod TableLemmas
