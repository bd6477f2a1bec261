mod Examples
mod Sorting
mod Preferring
mod Existing
mod Leasts
mod WordRanks
pub mod UnheldLists
