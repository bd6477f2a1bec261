pub mod Images
pub mod Counted
