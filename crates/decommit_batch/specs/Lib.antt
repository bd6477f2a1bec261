pub mod Counts
pub mod Flush
pub mod HandIn
pub mod Settle
pub mod Sweep
pub mod Swept
pub mod SweptPools
pub mod WorkedSweeps
