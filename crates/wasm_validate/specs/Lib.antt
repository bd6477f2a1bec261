pub mod ByName
pub mod Checked
pub mod Fault
pub mod Floats
pub mod Locals
