pub mod Sliced
pub mod Crews
