pub mod WordBits
pub mod CoreChanges
pub mod SeatChanges
pub mod LawfulSteps
pub mod Holders
pub mod LawfulOpening
pub mod RunLemmas
mod LeastRule
pub mod ChangeLemmas
mod OutFlags
mod LiveSeats
mod Examples
