pub mod LaneLemmas
pub mod LeftLemmas
pub mod RunLemmas
pub mod WorkedLemmas
