pub mod Tree
pub mod Sequences
pub mod SameTypes
