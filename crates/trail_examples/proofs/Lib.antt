pub mod SlotWords
pub mod HistoryLemmas
mod Histories
pub mod Closings
mod Accounts
pub mod FirstSteps
pub mod Settling
mod Sweeps
pub mod Flushes
mod Gives
pub mod Looks
pub mod LostClaims
pub mod Preferring
pub mod Takes
pub mod Causes
mod RetiredTags
mod Visits
mod Calls
