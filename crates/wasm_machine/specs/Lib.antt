pub mod Remaining
pub mod TypedConfiguration
pub mod Simulation
pub mod Stretches
pub mod Lent
pub mod Calls
pub mod Room
pub mod Resuming
