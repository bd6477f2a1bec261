pub mod CellLemmas
pub mod CopiedCells
pub mod MarkedBlocks
pub mod WrittenParts
pub mod WrittenCells
pub mod WrittenBlocks
