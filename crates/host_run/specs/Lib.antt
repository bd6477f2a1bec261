pub mod Made
pub mod Owed
pub mod Refusal
pub mod Serving
pub mod Status
pub mod Streams
pub mod Tenants
pub mod Text
