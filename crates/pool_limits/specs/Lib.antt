pub mod Ranges
pub mod Shares
pub mod Plans
pub mod Limits
