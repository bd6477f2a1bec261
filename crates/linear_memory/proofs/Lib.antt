pub mod WrittenBytes
pub mod AccessibleBytes
pub mod GrownBytes
pub mod MarkedBlocks
