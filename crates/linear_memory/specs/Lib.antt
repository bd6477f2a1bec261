pub mod Zeroed
pub mod Bytes
pub mod Marks
