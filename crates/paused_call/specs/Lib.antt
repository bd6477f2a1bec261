pub mod Fuel
pub mod Standing
