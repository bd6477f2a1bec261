pub mod Books
pub mod Collected
pub mod Due
pub mod Entries
pub mod Lines
pub mod Put
