pub mod Tails
pub mod Powers
