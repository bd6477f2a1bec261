pub mod Passes
pub mod Made
pub mod Taken
pub mod Crews
