pub mod Opening
pub mod Retiring
pub mod Shares
pub mod Tenants
pub mod Worlds
