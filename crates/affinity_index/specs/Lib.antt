pub mod Orders
pub mod Preference
pub mod Rankings
pub mod Unheld
