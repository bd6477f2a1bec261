pub mod Sections
pub mod Fields
pub mod Ordered
