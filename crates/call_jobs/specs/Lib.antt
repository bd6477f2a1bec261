pub mod Entries
pub mod Waits
