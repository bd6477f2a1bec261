pub mod Decoding
pub mod Pairs
pub mod Bodies
pub mod Sections
pub mod Fields
