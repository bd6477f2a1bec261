pub mod RangeLemmas
pub mod ShareLemmas
pub mod WantLemmas
pub mod LimitLemmas
mod Examples
