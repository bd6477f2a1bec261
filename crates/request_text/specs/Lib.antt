pub mod Ladder
pub mod Profiles
pub mod Tenants
pub mod Text
pub mod Quiet
pub mod Reading
pub mod Refusal
pub mod Calls
