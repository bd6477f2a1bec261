pub mod Segments
pub mod Image
